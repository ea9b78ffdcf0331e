-- A log and a longer one: completed calls stay, and a call that began after all that its pass knew comes after all of the shorter log.
use Rattle.ucl_steps.proofs.Common.{◌≡◌, inl, inr, ℕ, ◌≤◌, List, [], ◌∷◌, length, Some, slice_get, sym, ap, ◌∙◌, subst, arith, cases_lt, same_Some}
use Rattle.ucl_steps.proofs.Common.{at_beginning, IsPrefix, CompletedCall}
use Rattle.std.specs.List.{fold}
use Rattle.std.proofs.lemmas.List.Sums.{fold-append}
use Rattle.ucl_word.proofs.Sequences.{may_begin}
use Rattle.ucl_log.specs.Log.{IsConsistentLog, Log, LoggedStep, MayBeTaken, TakenStep, taken_by}
use Rattle.ucl_log.proofs.Logs.{knows_step, taken_append}
use Rattle.ucl_steps.proofs.LocalStates.{all_in_turn, calls_kept}
use Rattle.ucl_steps.proofs.Histories.{get_some}
use Rattle.ucl_steps.specs.LocalState.{LocalState, FollowsProtocol, local_at, local_of, initial_local, with_step}
use Rattle.ucl_steps.specs.LocalState.{IsCompletedCall}

-- more steps leave the completed calls of a pass where they are
steps_keep : (steps : List TakenStep) (d : LocalState) (k : ℕ) (c : CompletedCall) → slice_get d.calls k ≡ Some c → slice_get (fold with_step d steps).calls k ≡ Some c
steps_keep [] d k c at = at
steps_keep (x ∷ steps) d k c at = steps_keep steps (with_step d x) k c (calls_kept x.action x d k c at)

-- a longer log leaves the completed calls of a pass where they are
pub calls_stay : (log later : Log) (seat k : ℕ) (c : CompletedCall) → IsPrefix log later → IsCompletedCall log seat k c → IsCompletedCall later seat k c
calls_stay log later seat k c p at =
    let is = ap local_of (taken_append seat log p.0) ∙ fold-append with_step initial_local (taken_by seat log) (taken_by seat p.0) in
    subst (λ (l : Log). IsCompletedCall l seat k c) p.1 (subst (λ (d : LocalState). slice_get d.calls k ≡ Some c) (sym is) (steps_keep (taken_by seat p.0) (local_at seat log) k c at))

-- if a pass took no step of a log after `known`, the part that it knew, and a call of it began after that part, the call began after the
-- whole log
pub begins_after : (known log later : Log) (seat k : ℕ) (c : CompletedCall) → IsConsistentLog later → FollowsProtocol later → IsPrefix log later → IsPrefix known log
    → taken_by seat known ≡ taken_by seat log → IsCompletedCall later seat k c → length known ≤ c.first_index → length log ≤ c.first_index
begins_after known log later seat k c is follows p q same at since = elim (cases_lt c.first_index (length log)) [
  | inl less ↦
      let own = ((all_in_turn later is follows seat).timed k c at).begins in
      let y = get_some log c.first_index less in
      let step : y.0 ≡ own.0 = same_Some y.0 own.0 (sym (at_beginning log later c.first_index y.0 p y.1) ∙ own.1) in
      let seat_is : y.0.seat ≡ seat = ap (λ (z : LoggedStep). z.seat) step ∙ own.2 in
      let all : taken_by y.0.seat known ≡ taken_by y.0.seat log = subst (λ (n : ℕ). taken_by n known ≡ taken_by n log) (sym seat_is) same in
      let below = knows_step known log c.first_index y.0 (may_begin MayBeTaken log p.0 (subst IsConsistentLog (sym p.1) is)) q all y.1 in
      absurd (omega arith)
  | inr not ↦ not
]
