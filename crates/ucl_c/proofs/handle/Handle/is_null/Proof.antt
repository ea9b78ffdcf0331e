-- `is_null` reads the pointer, which is null or the start of a block, and leaves the handle as it was.
use Rattle.ucl_c.proofs.Common.{true, false, List, [], ◌∷◌, refl, sym, ap, ◌∙◌, subst, lit<, T, proved, full_share, ftrue, flft, named, Val, vbool, tables, ‵, ◌⊛◌}
use Rattle.ucl_c.proofs.Common.{◌$◌, ◌∵◌, !, qed, done, move, keep, split, join, fsplit, fsplit3, fjoin, feq_i, rewrite, suffices, frame, group, enter, of_opd, bin}
use Rattle.ucl_c.proofs.Common.{lit, load, stop, fld, returns, alloc_all, pass_all, free_all, look_at, get, through, sets, whole, sub, look_in, shows, cell_at, Ptr}
use Rattle.ucl_c.proofs.Common.{block_ptr, tests_null, MutRef, mut_vals, mut_Tells, plain, nothing, opens, closes, peeks, Stays, walk_of, says, stay_ref, Goes-ref}
use Rattle.ucl_c.proofs.Common.{ends_at, box_owns, freed, owned_at, is_null, pass_at}
use Rattle.ucl_c.proofs.NullOrOwned.{null_or_owned}
use Rattle.ucl_c.specs.contracts.board_pass.BoardPass as inner
use Rattle.ucl_c.specs.contracts.handle.Handle.is_null as f
use Rattle.ucl_c.proofs.handle.Handle.is_null.Statement.{statement}
use Rattle.ucl_c.proofs.handle.Handle.is_null.Code as code
use Rattle.ucl_c.specs.contracts.handle.Handle.{the_row as R}
use Rattle.ucl_c.proofs.handle.Handle.TheLaws.{lowers}

-- what `is_null` leaves of its parameter: the handle behind a borrow
abbrev stayed : Stays f.ended.signature.params f.ended.kept
stayed = (stay_ref (0 ∷ []) tt (plain (λ _. R)), tt)

-- the body of `is_null` meets its contract, by a walk over its statements: one branch where the pointer is null, one where it is not
pub is_null_spec : {M : Type 1} → statement M
is_null_spec 𝓤 𝓛 𝓜 𝓡 wired =
    let c = f.clauses 𝓛 𝓜.mem 𝓡.returns in let W = walk_of 𝓛 f.ended stayed c in let 𝓣 = tables 𝓤 𝓛.H 𝓜 𝓡 𝓡.env in
    proved 𝓛 f.ended stayed c 𝓜 𝓡 (Goes-ref 𝓛 1 0 tt (plain (λ _. R)), tt)
    f.Key.name code.function (code.unfolded 𝓤 𝓛.H 𝓜 𝓡 wired)
    (λ κs. (mut_vals, tt)) (λ κs. (mut_Tells (named 0) κs.0 R, tt)) (λ κs qs bounds a _ are.
    let b = a.0.ref_ptr.0 in let o = a.0.ref_ptr.1 in let h = a.0.now in let vs = mut_vals a.0 in
    let y : W.Ghost = ((κs, qs, bounds, a, (vs, tt)), tt) in
    let Cell = λ (ws : List Val). ‵ (cell_at full_share R.mir ws b o) in
    let Owned = λ (p : Ptr). ‵ (owned_at (λ q. box_owns freed inner.the_row q h.value) p) in
    qed 𝓛 (((‵ (flft κs.0 qs.0) ⊛ ‵ ftrue) ⊛ ‵ ((MutRef (named 0) κs.0 R).own_val a.0 vs) ⊛ ‵ ftrue) ∷ ‵ ftrue ∷ []) ∵
    split ! $ split ! $ move ! (2 ∷ []) $ split ! $ keep ! (0 ∷ 2 ∷ []) $
    enter ! _ _ _ _ _ $ alloc_all ! (λ l. pass_all ! refl ((tt, tt), tt) $
    fsplit3 ! $ move ! (1 ∷ 2 ∷ 3 ∷ []) $ opens ! tt R b o (λ us.
    move ! (1 ∷ []) $ peeks ! R _ (shows 𝓛 R) h us (λ is. fsplit ! $ move ! (1 ∷ []) $
    -- [what the handle owns; what its fields own; its cell; the open borrow, in three entries]
    null_or_owned inner.the_row ! h.at h.value
    (λ e. let word = lowers.val_is h us is ∙ ap (λ (p : Ptr). lowers.lowered (record h { at = p }) ∷ []) e in
    rewrite ! 2 Cell word refl $
    sets ! (of_opd ! (load ! (through ! refl (fld ! refl (stop !))) (look_in ! 2 (sub ! 0 refl (whole !))))) refl (tt, record { fits = lit< tt }) $
    sets ! (bin ! (get ! refl) (lit ! tt) tt) refl (tt, tt) $
    rewrite ! 2 Cell (sym word) refl $ rewrite ! 0 Owned (sym e) refl $
    move ! (1 ∷ []) $ fjoin ! $ move ! (1 ∷ []) $ closes ! tt R h us b o $
    returns ! (look_at ! 0 refl) $ free_all ! refl $ move ! (3 ∷ []) $
    suffices ! _ (ends_at 𝓛 f.ended stayed c y (vbool true) true (h, tt) (tt, tt)) $ says ! (sym (ap is_null e), (λ _. ap (λ (p : Ptr). pass_at p h.value.pass) e), refl) $
    group ! 3 $ nothing ! $ move ! (1 ∷ 0 ∷ []) $ join ! $ nothing ! $ move ! (2 ∷ 0 ∷ []) $ join ! $ frame ! $ frame ! $
    feq_i ! _ (vbool true ∷ []) _ refl $ done !)
    (λ b' o' e t. let word = lowers.val_is h us is ∙ ap (λ (p : Ptr). lowers.lowered (record h { at = p }) ∷ []) e in
    rewrite ! 2 Cell word refl $
    sets ! (of_opd ! (load ! (through ! refl (fld ! refl (stop !))) (look_in ! 2 (sub ! 0 refl (whole !))))) refl (tt, tt) $
    sets ! (bin ! (get ! refl) (lit ! tt) (tests_null (block_ptr b' o') t)) refl (tt, tt) $
    rewrite ! 2 Cell (sym word) refl $ rewrite ! 0 Owned (sym e) refl $
    move ! (1 ∷ []) $ fjoin ! $ move ! (1 ∷ []) $ closes ! tt R h us b o $
    returns ! (look_at ! 0 refl) $ free_all ! refl $ move ! (3 ∷ []) $
    suffices ! _ (ends_at 𝓛 f.ended stayed c y (vbool false) false (h, tt) (tt, tt)) $ says ! (sym (ap is_null e), (λ yes. absurd (subst T (sym yes) tt)), refl) $
    group ! 3 $ nothing ! $ move ! (1 ∷ 0 ∷ []) $ join ! $ nothing ! $ move ! (2 ∷ 0 ∷ []) $ join ! $ frame ! $ frame ! $
    feq_i ! _ (vbool false ∷ []) _ refl $ done !)))))
