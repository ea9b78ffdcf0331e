-- `logged` makes a value of no bytes, whose ghost field is the list that the caller's proof names.
use mathlib.Core.Path.{refl}
use mathlib.Core.List.{List, [], ◌∷◌, ◌++◌}
use mir.Syntax.{a_type}
use mir.Val.{Val, vptr, vstruct, vcons, vnil}
use mir.MapTy.{inst_fn}
use prog.Wp.{WpFn}
use contract.Running.{tables}
use types.Kit.{‵, raw, ◌⊛◌, prop, ◌$◌, ◌∵◌, !, qed, move, keep, drop, split, fsplit, fjoin, feq_l, regoal, use0, suffices, done}
use types.Run.{no_more, and_then, returns, enter}
use types.Part.{agg}
use types.ByLocal.{alloc_all, pass_all, free_all, look_at, get, sets}
use denote.RattleType.{owns}
use denote.Exit.{yes}
use denote.Param.{param, layouts}
use denote.Shadow.{makes_shadow}
use denote.Builtin.{RefOf}
use denote.Signature.{types_at, type_at, plain}
use denote.Steps.{nothing}
use denote.Triple.Entry.{Res, alive}
use denote.Triple.Walked.{says, Stays, stay_dropped, walk_of, ends_at, Goes-dropped}
use Rattle.std.proofs.raw_atomic.Walks.{proved_at}
use Rattle.ucl_io.specs.contracts.call_log.CallLog.logged as F
use Rattle.ucl_io.proofs.call_log.CallLog.logged.Statement.{statement}
use Rattle.ucl_io.proofs.call_log.CallLog.logged.Code as code

-- the body of `logged` meets its contract, by a walk over its statements
pub logged_spec : {M : Type 1} → statement M
logged_spec 𝓤 𝓛 𝓜 𝓡 wired S W N T LS LW LN LT =
    let f = F.ended S W N T in let c = F.clauses S W N T 𝓛 𝓜.mem 𝓡.returns in let 𝓣 = tables 𝓤 𝓛.H 𝓜 𝓡 𝓡.env in
    let types = layouts (a_type ∷ a_type ∷ a_type ∷ a_type ∷ []) (S, (W, (N, (T, tt)))) in let function = inst_fn types code.function in
    let stayed : Stays f.signature.params f.kept = (stay_dropped (RefOf (0 ∷ []) tt (plain (λ _. param 3 T)) (λ _. tt)) yes, tt) in
    proved_at 𝓛 f stayed c 𝓜 𝓡 (Goes-dropped 𝓛 5 (RefOf (0 ∷ []) tt (plain (λ _. param 3 T)) (λ _. tt)) yes (λ κs x v. refl), tt)
    (F.Key.name types) function (code.unfolded 𝓤 𝓛.H 𝓜 𝓡 wired (S, (W, (N, (T, tt))))) (λ y _.
    let a = y.0.3 in let p = vptr a.0.ref_ptr.0 a.0.ref_ptr.1 in let v : Val = vstruct (vcons (vstruct vnil) vnil) in let Post = (walk_of 𝓛 f stayed c).post y in
    let made : Res f.signature y.0.0 = record { of = record {}; times = y.1 } in
    qed 𝓛 ((raw (alive 𝓛 f.signature y.0.0 y.0.1) ⊛ ‵ (owns (types_at f.signature.params y.0.0) a y.0.4)) ∷ raw ((c y.0.0 a).requires y.1) ∷ []) ∵
    keep ! (0 ∷ []) $ split ! $ move ! (1 ∷ []) $ fsplit ! $ fsplit ! $ feq_l ! (λ is. drop ! $ drop ! $
    regoal ! (λ (us : List Val). prop (WpFn 𝓤 𝓛.H 𝓣.C 𝓣.Λ function (us ++ []) Post)) is refl $
    enter ! 𝓣.C 𝓣.Λ function (p ∷ []) Post $ alloc_all ! (λ l. pass_all ! refl ((tt, tt), tt) $
    sets ! (agg ! (no_more !)) refl (tt, tt) $
    sets ! (agg ! (and_then ! (get ! refl) (no_more !))) refl (tt, (tt, tt)) $
    returns ! (look_at ! 0 refl) $ free_all ! refl $
    let O = (type_at f.signature.result y.0.0).own_val made (v ∷ []) in
    use0 𝓛 (‵ O) (makes_shadow 𝓛 O ((λ vss. (tt, ((λ uss. (tt, tt)), tt))), tt) (((vstruct vnil ∷ [], tt), (refl, ((tt, (refl, tt)), tt))), tt)) $
    suffices ! _ (ends_at 𝓛 f stayed c y v made (tt, tt) (tt, tt)) $ says ! refl $
    nothing ! $ nothing ! $ fjoin ! $ move ! (2 ∷ 0 ∷ 1 ∷ []) $ done !)))
