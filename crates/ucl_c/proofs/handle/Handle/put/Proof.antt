-- `put` makes the handle own what the parts owned.
use Rattle.ucl_c.proofs.Common.{◌≡◌, true, List, [], ◌∷◌, refl, sym, ap, proved, full_share, ftrue, flft, named, Val, vunit, fst∗, never, sem, fact, tables, ‵, raw}
use Rattle.ucl_c.proofs.Common.{◌⊛◌, ◌$◌, ◌∵◌, !, qed, done, move, keep, drop, split, join, fsplit, fsplit3, fjoin, fpack, feq_i, rewrite, suffices, frame, group}
use Rattle.ucl_c.proofs.Common.{enter, of_opd, stop, fld, returns, assigns, unit_lit, alloc_all, pass_all, free_all, look_at, get, get_in, through, sets, whole, sub}
use Rattle.ucl_c.proofs.Common.{store_in, yes, shows, cell_at, lone, Valss, Ptr, RawPtr, ptr_val, null_ptr, in_a_block, rawptr_Lawful, MutRef, mut_vals, mut_Tells}
use Rattle.ucl_c.proofs.Common.{plain, nothing, opens, closes, peeks, heard, within, shape, Stays, walk_of, says, stay_ref, stay_dropped, Goes-ref, Goes-dropped}
use Rattle.ucl_c.proofs.Common.{ends_at, ghosts, box_owns, freed, owned_at, is_null, pass_at, RattleType}
use mir.Raw.{raw as bare}
use Rattle.std_heap.specs.contracts.Global as heap
use Rattle.std_heap.proofs.Global.TheLaws as heap_laws
use Rattle.ucl_c.specs.contracts.board_pass.BoardPass as inner
use Rattle.ucl_c.proofs.board_pass.BoardPass.TheLaws as inner_laws
use Rattle.ucl_c.specs.contracts.raw_box.RawBox as parts
use Rattle.ucl_c.proofs.raw_box.RawBox.TheLaws as parts_laws
use Rattle.ucl_c.specs.contracts.handle.Handle as pass
use Rattle.ucl_c.specs.contracts.handle.Handle.put as f
use Rattle.ucl_c.proofs.handle.Handle.put.Statement.{statement}
use Rattle.ucl_c.proofs.handle.Handle.put.Code as code
use Rattle.ucl_c.specs.contracts.handle.Handle.{the_row as R}
use Rattle.ucl_c.proofs.handle.Handle.TheLaws.{lowers}

-- what `put` leaves of its parameters: the handle behind a borrow, and nothing of the parts
abbrev stayed : Stays f.ended.signature.params f.ended.kept
stayed = (stay_ref (0 ∷ []) tt (plain (λ _. R)), (stay_dropped _ yes, tt))

-- the type, for the kit, of a `RawBox<BoardPass>`: a box with a pass, taken apart into its pointer and its allocator
abbrev P : RattleType
P = parts.the_row inner.the_row heap.the_row ghosts

-- the parts of a box with a pass are one value of the machine, which is determined by what they denote
abbrev put_lowers : denote.Struct.OwningLaws.Lowered (parts.the_type inner.the_row heap.the_row ghosts)
put_lowers = parts_laws.lowers inner.the_row heap.the_row ghosts inner_laws.the_row_laws heap_laws.the_row_laws heap_laws.the_told

-- the body of `put` meets its contract, by a walk over its statements
pub put_spec : {M : Type 1} → statement M
put_spec 𝓤 𝓛 𝓜 𝓡 wired =
    let c = f.clauses 𝓛 𝓜.mem 𝓡.returns in let W = walk_of 𝓛 f.ended stayed c in let 𝓣 = tables 𝓤 𝓛.H 𝓜 𝓡 𝓡.env in
    proved 𝓛 f.ended stayed c 𝓜 𝓡 (Goes-ref 𝓛 1 0 tt (plain (λ _. R)), (Goes-dropped 𝓛 1 (plain (λ _. P)) yes (λ κs x w. refl), tt))
    f.Key.name code.function (code.unfolded 𝓤 𝓛.H 𝓜 𝓡 wired)
    (λ κs. (mut_vals, ((λ d. put_lowers.lowered d ∷ []), tt))) (λ κs. (mut_Tells (named 0) κs.0 R, (put_lowers.val_is, tt))) (λ κs qs bounds a _ are.
    let b = a.0.ref_ptr.0 in let o = a.0.ref_ptr.1 in let h = a.0.now in let vs = mut_vals a.0 in let d = a.1.0 in let pv = put_lowers.lowered d in
    let y : W.Ghost = ((κs, qs, bounds, a, (vs, (pv ∷ [], tt))), tt) in
    let good = ((rawptr_Lawful 𝓛).typed d.ptr _ refl).0 in
    qed 𝓛 (((‵ (flft κs.0 qs.0) ⊛ ‵ ftrue) ⊛ ‵ ((MutRef (named 0) κs.0 R).own_val a.0 vs) ⊛ ‵ (P.own_val d (pv ∷ [])) ⊛ ‵ ftrue) ∷ raw (fact 𝓤 (is_null h.at ≡ true)) ∷ []) ∵
    move ! (1 ∷ []) $ heard ! _ (λ empty. split ! $ split ! $ move ! (2 ∷ []) $ split ! $ move ! (1 ∷ []) $ split ! $ keep ! (0 ∷ 2 ∷ 3 ∷ []) $ fsplit ! $ drop ! $
    -- [what the parts owned; self; the token]
    in_a_block ! d.ptr (λ p. box_owns freed inner.the_row p d.value) (fst∗ 𝓤 (never 𝓤) (sem 𝓛 (freed (bare (lone inner.the_row.mir)) null_ptr))) (λ b' o' e.
    rewrite ! 0 (λ (p : Ptr). ‵ (owned_at (λ q. box_owns freed inner.the_row q d.value) p)) (sym e) refl $
    enter ! _ _ _ _ _ $ alloc_all ! (λ l. pass_all ! refl
    ((tt, tt), ((((parts_laws.the_row_laws inner.the_row heap.the_row ghosts inner_laws.the_row_laws heap_laws.the_row_laws).lawful 𝓛).typed d _ are.1.0).0, tt)) $
    sets ! (of_opd ! (get_in ! (fld ! refl (stop !)) (sub ! 0 refl (whole !)))) refl good $
    sets ! (of_opd ! (get ! refl)) refl good $
    move ! (1 ∷ []) $ fsplit3 ! $ move ! (1 ∷ 2 ∷ 4 ∷ []) $ opens ! tt R b o (λ us.
    move ! (1 ∷ []) $ peeks ! R _ (shows 𝓛 R) h us (λ is. fsplit ! $ drop ! $ drop ! $
    let Cell = λ (ws : List Val). ‵ (cell_at full_share R.mir ws b o) in
    rewrite ! 0 Cell (lowers.val_is h us is) refl $
    -- [the cell; the open borrow, in three entries; self's first part; what the parts owned]
    assigns ! (of_opd ! (get ! refl)) (through ! refl (fld ! refl (stop !))) (store_in ! 0 (sub ! 0 refl (whole !)) good) $
    sets ! (of_opd ! (unit_lit !)) refl (tt, tt) $
    let h' = record h { at = d.ptr; value = d.value } in let w' = lowers.lowered h' in
    move ! (5 ∷ []) $ nothing ! $ feq_i ! (List Val) (ptr_val d.ptr ∷ []) (ptr_val d.ptr ∷ []) refl $ fjoin ! $
    feq_i ! (List Val) (w' ∷ []) (w' ∷ []) refl $ fjoin ! $ fpack ! (Valss (RawPtr ∷ [])) (within (shape pass.the_type) (d.ptr, tt) (w' ∷ [])) (ptr_val d.ptr ∷ [], tt) $ fjoin ! $
    move ! (1 ∷ 0 ∷ []) $ closes ! tt R h' (w' ∷ []) b o $
    -- [two parts of self; the token; self's first part]
    returns ! (look_at ! 0 refl) $ free_all ! refl $ move ! (3 ∷ []) $
    suffices ! _ (ends_at 𝓛 f.ended stayed c y vunit tt (h', (tt, tt)) (tt, (tt, tt))) $ says ! (ap (λ (p : Ptr). pass_at p d.value.pass) e, ap is_null e) $
    group ! 3 $ nothing ! $ nothing ! $ join ! $ move ! (1 ∷ 0 ∷ []) $ join ! $ nothing ! $ move ! (2 ∷ 0 ∷ []) $ join ! $ frame ! $ frame ! $
    feq_i ! _ (vunit ∷ []) _ refl $ done !))))))
