-- The events that a mend leaves out are at most as many as those that stand.
use Rattle.ucl_mends.proofs.Common.{Fate, List, Refused, StandingEvent, [], arith, fate_of, kept_after, left_by, left_out, length}
use Rattle.ucl_mends.proofs.Common.{length-append, ℕ, ◌∷◌, ◌≤◌}
unfoldable use Rattle.ucl_mends.specs.Mended.{left_out_after}

-- of one event, whatever its fate, at most one is left out
at-most-one : (event : StandingEvent) (fate : Fate) → length (left_by event fate) ≤ 1
at-most-one event (Refused refusal) = omega arith
at-most-one event _ = omega arith

-- of events that a mend enters again after those that it has kept, it leaves out no more than there are
few-after : (row : ℕ) (kept events : List StandingEvent) → length (left_out_after row kept events) ≤ length events
unfolding left_out_after
few-after row kept [] = omega arith
few-after row kept (event ∷ events) =
    let fate = fate_of row kept event in
    let one = at-most-one event fate in
    let more = few-after row (kept_after row kept event) events in
    let both = length-append (left_by event fate) (left_out_after row (kept_after row kept event) events) in
    omega (arith, one, more, both)

-- a mend leaves out no more events than stand
pub few-left : (row : ℕ) (events : List StandingEvent) → length (left_out row events) ≤ length events
few-left row events = few-after row [] events
