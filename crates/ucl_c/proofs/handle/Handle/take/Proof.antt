-- `take` reads the pointer, leaves null there, and makes the parts of what the handle owned.
use Rattle.ucl_c.proofs.Common.{◌≡◌, false, List, [], ◌∷◌, refl, sym, ap, ◌∙◌, lit<, proved, full_share, ftrue, flft, named, Val, vnull, vptr, vstruct, vcons, vnil}
use Rattle.ucl_c.proofs.Common.{fact, tables, ‵, raw, ◌⊛◌, ◌$◌, ◌∵◌, !, qed, done, move, keep, drop, split, join, fsplit, fsplit3, fjoin, fpack, feq_i, rewrite}
use Rattle.ucl_c.proofs.Common.{suffices, frame, group, enter, of_opd, lit, load, stop, fld, returns, assigns, and_then, no_more, alloc_all, pass_all, free_all}
use Rattle.ucl_c.proofs.Common.{look_at, get, through, sets, whole, sub, look_in, store_in, agg, yes, shows, cell_at, Valss, Ptr, RawPtr, block_ptr, null_ptr}
use Rattle.ucl_c.proofs.Common.{MutRef, mut_vals, mut_Tells, plain, nothing, opens, closes, peeks, heard, within, shape, Stays, walk_of, says, stay_ref}
use Rattle.ucl_c.proofs.Common.{stay_dropped, Goes-ref, Goes-dropped, ends_at, ghosts, is_null, pass_at}
use Rattle.std_heap.specs.contracts.Global as heap
use Rattle.std_heap.proofs.Global.TheLaws as heap_laws
use Rattle.ucl_c.proofs.NullOrOwned.{owned_in_block}
use Rattle.ucl_c.specs.contracts.board_pass.BoardPass as inner
use Rattle.ucl_c.specs.contracts.raw_box.RawBox as parts
use Rattle.ucl_c.specs.contracts.handle.Handle as pass
use Rattle.ucl_c.specs.contracts.handle.Handle.take as f
use Rattle.ucl_c.proofs.handle.Handle.take.Statement.{statement}
use Rattle.ucl_c.proofs.handle.Handle.take.Code as code
use Rattle.ucl_c.specs.contracts.handle.Handle.{the_row as R}
use Rattle.ucl_c.proofs.handle.Handle.TheLaws.{lowers}

-- what `take` leaves of its parameters: the handle behind a borrow, and nothing of the allocator
abbrev stayed : Stays f.ended.signature.params f.ended.kept
stayed = (stay_ref (0 ∷ []) tt (plain (λ _. R)), (stay_dropped _ yes, tt))

-- the body of `take` meets its contract, by a walk over its statements
pub take_spec : {M : Type 1} → statement M
take_spec 𝓤 𝓛 𝓜 𝓡 wired =
    let c = f.clauses 𝓛 𝓜.mem 𝓡.returns in let W = walk_of 𝓛 f.ended stayed c in let 𝓣 = tables 𝓤 𝓛.H 𝓜 𝓡 𝓡.env in
    proved 𝓛 f.ended stayed c 𝓜 𝓡 (Goes-ref 𝓛 1 0 tt (plain (λ _. R)), (Goes-dropped 𝓛 1 (plain (λ _. heap.the_row)) yes (λ κs x w. refl), tt))
    f.Key.name code.function (code.unfolded 𝓤 𝓛.H 𝓜 𝓡 wired)
    (λ κs. (mut_vals, ((λ g. heap_laws.lowers.lowered g ∷ []), tt))) (λ κs. (mut_Tells (named 0) κs.0 R, (heap_laws.lowers.val_is, tt))) (λ κs qs bounds a _ are.
    let b = a.0.ref_ptr.0 in let o = a.0.ref_ptr.1 in let h = a.0.now in let vs = mut_vals a.0 in let g = a.1.0 in let gv = heap_laws.lowers.lowered g in
    let y : W.Ghost = ((κs, qs, bounds, a, (vs, (gv ∷ [], tt))), tt) in
    qed 𝓛 (((‵ (flft κs.0 qs.0) ⊛ ‵ ftrue) ⊛ ‵ ((MutRef (named 0) κs.0 R).own_val a.0 vs) ⊛ ‵ (heap.the_row.own_val g (gv ∷ [])) ⊛ ‵ ftrue) ∷ raw (fact 𝓤 (is_null h.at ≡ false)) ∷ []) ∵
    move ! (1 ∷ []) $ heard ! _ (λ there. split ! $ split ! $ move ! (2 ∷ []) $ split ! $ move ! (1 ∷ []) $ split ! $ keep ! (2 ∷ 3 ∷ 0 ∷ []) $
    enter ! _ _ _ _ _ $ alloc_all ! (λ l. pass_all ! refl ((tt, tt), ((tt, ((tt, tt), tt)), tt)) $
    fsplit3 ! $ move ! (1 ∷ 2 ∷ 3 ∷ []) $ opens ! tt R b o (λ us.
    move ! (1 ∷ []) $ peeks ! R _ (shows 𝓛 R) h us (λ is. fsplit ! $ drop ! $
    -- [what the handle owns; its cell; the open borrow, in three entries; self's first part; the allocator]
    owned_in_block inner.the_row ! h.at h.value there (λ b' o' e.
    move ! (1 ∷ []) $
    let word = lowers.val_is h us is ∙ ap (λ (p : Ptr). lowers.lowered (record h { at = p }) ∷ []) e in
    let Cell = λ (ws : List Val). ‵ (cell_at full_share R.mir ws b o) in
    rewrite ! 0 Cell word refl $
    -- [the cell; what the handle owned; ..]
    sets ! (of_opd ! (load ! (through ! refl (fld ! refl (stop !))) (look_in ! 0 (sub ! 0 refl (whole !))))) refl (tt, tt) $
    sets ! (of_opd ! (get ! refl)) refl (tt, tt) $
    assigns ! (of_opd ! (lit ! tt)) (through ! refl (fld ! refl (stop !))) (store_in ! 0 (sub ! 0 refl (whole !)) (tt, record { fits = lit< tt })) $
    sets ! (agg ! (and_then ! (get ! refl) (and_then ! (get ! refl) (no_more !)))) refl (tt, (tt, (((tt, tt), tt), tt))) $
    -- [the cell; what the handle owned; the open borrow, in three entries; self's first part; the token; the allocator]
    let h' = record h { at = null_ptr } in let w' = lowers.lowered h' in
    nothing ! $ nothing ! $ feq_i ! (List Val) (vnull ∷ []) (vnull ∷ []) refl $ fjoin ! $
    feq_i ! (List Val) (w' ∷ []) (w' ∷ []) refl $ fjoin ! $ fpack ! (Valss (RawPtr ∷ [])) (within (shape pass.the_type) (null_ptr, tt) (w' ∷ [])) (vnull ∷ [], tt) $ fjoin ! $
    move ! (1 ∷ 0 ∷ 3 ∷ 4 ∷ 5 ∷ []) $ closes ! tt R h' (w' ∷ []) b o $
    -- [two parts of self; the token; what the handle owned; self's first part; the allocator]
    returns ! (look_at ! 0 refl) $ free_all ! refl $
    let d : (parts.the_row inner.the_row heap.the_row ghosts).Denot = record { ptr = block_ptr b' o'; alloc = g; value = h.value } in let pv = vstruct (vcons (vptr b' o') (vcons gv vnil)) in
    move ! (3 ∷ []) $ nothing ! $ move ! (6 ∷ 0 ∷ []) $ fjoin ! $ feq_i ! (List Val) (vptr b' o' ∷ []) (vptr b' o' ∷ []) refl $ fjoin ! $
    feq_i ! (List Val) (pv ∷ []) (pv ∷ []) refl $ fjoin ! $
    fpack ! (Valss (RawPtr ∷ heap.the_row ∷ [])) (within (shape (parts.the_type inner.the_row heap.the_row ghosts)) (block_ptr b' o', (g, tt)) (pv ∷ [])) (vptr b' o' ∷ [], (gv ∷ [], tt)) $ fjoin ! $
    move ! (4 ∷ 1 ∷ 2 ∷ []) $
    suffices ! _ (ends_at 𝓛 f.ended stayed c y pv d (h', (tt, tt)) (tt, (tt, tt))) $ says ! (sym (ap (λ (p : Ptr). pass_at p h.value.pass) e), refl, refl) $
    group ! 3 $ nothing ! $ nothing ! $ join ! $ move ! (1 ∷ 0 ∷ []) $ join ! $ nothing ! $ move ! (3 ∷ 0 ∷ []) $ join ! $ frame ! $ frame ! $ done !))))))
