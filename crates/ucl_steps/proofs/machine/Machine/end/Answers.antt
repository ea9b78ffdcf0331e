use Rattle.ucl_steps.proofs.Common.{◌≡◌, ℕ, Some, length, List, set, arith, refl, sym, ap, ◌∙◌, rules, End, CallRecord, Idle, Answered, with_held, with_end}
use Rattle.ucl_steps.proofs.Common.{state_of}
use Rattle.ucl_steps.specs.declared.machine.Held.TheVariants as has
use Rattle.ucl_steps.proofs.Reachable.{call_below, holds, step_is, set-change_at}
use Rattle.ucl_steps.proofs.machine.Machine.end.Goals as goal

pub index-record-requires : goal.index-record-requires
index-record-requires c =
    let l = call_below (state_of c.args.self.now) c.requires c.args.caller c.held-held.result c.held-held.ensures
    (has.Answered c.in-Some-Answered.call) c.in-Some-Answered.call (search rules) refl in
    omega arith

pub index_mut-requires : goal.index_mut-requires
index_mut-requires c =
    let l = call_below (state_of c.args.self.now) c.requires c.args.caller c.held-held.result c.held-held.ensures
    (has.Answered c.in-Some-Answered.call) c.in-Some-Answered.call (search rules) refl in
    omega arith

pub returns : goal.returns
returns c =
    let call = c.in-Some-Answered.call in
    let w = state_of c.args.self.now in
    let is : c.held-held.result ≡ Some (has.Answered call) = search rules in
    let l = call_below w c.requires c.args.caller c.held-held.result c.held-held.ensures (has.Answered call) call is refl in
    let held = holds w c.requires c.args.caller c.held-held.result c.held-held.ensures (has.Answered call) is in
    let ended = ap (λ (n : ℕ). set w.calls call (with_end n c.index-record.result.now)) c.now.ensures
    ∙ set-change_at w.calls call c.index-record.result.now (with_end (length w.history)) l c.index-record.ensures in
    step_is (End c.args.caller) w (state_of c.hold.new.self) (Answered call) held
    (ap Some (sym (c.hold.ensures ∙ ap (λ (cs : List CallRecord). with_held Idle c.args.caller (record w { calls = cs })) ended)))
