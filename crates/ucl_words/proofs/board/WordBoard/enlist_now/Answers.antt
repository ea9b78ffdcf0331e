use Rattle.ucl_words.proofs.Common.{inl, inr, refl, sym, ap, ◌∙◌, arith, rules, length, Occurs, pass_of}
use Rattle.ucl_words.proofs.Steps.{loads_enlisted, enlist_won}
use Rattle.ucl_words.proofs.LocalStates.{counted_does, enlisted_does}
use Rattle.ucl_words.proofs.Boards.{missed_none, missed_higher, missed_more, won_consistent, won_number, was_enlisted, was_full}
use Rattle.ucl_words.proofs.board.WordBoard.enlist_now.Goals as goal

pub tries-init : goal.tries-init
tries-init c = record {
  same = refl;
  place = refl;
  bound = omega arith;
  missed = missed_none c.pass.inside.seat.me.0 c.pass.invariant.0;
  does = record { calls = refl; held = refl };
  occurs = inl refl;
}

-- a number was won: the pass is a reporter's, and satisfies the invariant of one
pub invariant_of-result : goal.invariant_of-result
invariant_of-result c =
    let same = c.if-found-known.true in
    let less = c.tries-test.true in
    let m = c.add_reporter-found.new.seat in
    let n = c.add_reporter-found.result in
    let x = c.tries.seat.me.0 in
    let was = c.tries.invariant in
    let step = c.add_reporter-found.ensures.won same in
    let won = enlist_won m.id n x m.me.0 step in
    let v = c.pass.inside.seat.me.0 in
    let number = won_number v x m.me.0 c.tries.known n was.missed same won in (
      won_consistent v x m.me.0 c.tries.known n was.missed same won,
      number ∙ sym c.in-Some.ensures.value,
      ap length won.gives.mine,
      (enlisted_does m.id n x m.me.0 step).held ∙ (was.does.held ∙ c.pass.invariant.2),
    )

-- what the enlistment says then
pub returns-in-Some : goal.returns-in-Some
returns-in-Some c =
    let k = c.pass.inside.seat in
    let m = c.add_reporter-found.new.seat in
    let found = c.add_reporter-found.ensures in
    let n = c.add_reporter-found.result in
    let x = c.tries.seat.me.0 in
    let same = c.if-found-known.true in
    let less = c.tries-test.true in
    let was = c.tries.invariant in
    let step = found.won same in
    let done = enlisted_does m.id n x m.me.0 step in
    let all = was_enlisted (pass_of k.table_id k.id k.me.0) (pass_of m.table_id m.id m.me.0) (found.own ∙ was.same) (found.seat ∙ was.place)
    (record { calls = done.calls ∙ was.does.calls; held = done.held ∙ was.does.held })
    step.occurs x c.tries.known n was.missed (omega arith) same (enlist_won m.id n x m.me.0 step) in
    search (arith, rules, all)

pub tries-smaller : goal.tries-smaller
tries-smaller c =
    let other = c.if-found-known.false in
    let m = c.add_reporter-found.new.seat in
    let n = c.add_reporter-found.result in
    let x = c.tries.seat.me.0 in
    let missed = loads_enlisted m.id n x m.me.0 (c.add_reporter-found.ensures.missed other) in
    let less = c.tries-test.true in
    let higher = (missed_higher c.pass.inside.seat.me.0 x m.me.0 c.tries.known n c.tries.invariant.missed other missed).0 in
    omega arith

-- an exchange that was missed keeps the loop's invariant, with the number that it found
pub tries-preserved : goal.tries-preserved
tries-preserved c =
    let other = c.if-found-known.false in
    let less = c.tries-test.true in
    let v = c.pass.inside.seat.me.0 in
    let x = c.tries.seat.me.0 in
    let m = c.add_reporter-found.new.seat in
    let n = c.add_reporter-found.result in
    let was = c.tries.invariant in
    let step = c.add_reporter-found.ensures.missed other in
    let missed = loads_enlisted m.id n x m.me.0 step in
    let done = counted_does m.id n x m.me.0 step in
    record {
      same = c.add_reporter-found.ensures.own ∙ was.same;
      place = c.add_reporter-found.ensures.seat ∙ was.place;
      bound = (missed_higher v x m.me.0 c.tries.known n was.missed other missed).1;
      missed = missed_more v x m.me.0 c.tries.known n was.missed other missed (omega arith);
      does = record { calls = done.calls ∙ was.does.calls; held = done.held ∙ was.does.held };
      occurs = inr step.occurs;
    }

pub returns : goal.returns
returns c =
    let k = c.pass.inside.seat in
    let m = c.tries.seat in
    let was = c.tries.invariant in
    let many = c.tries-test.false in
    let occurs : Occurs m.id m.me.0 = search (arith, was.occurs) in
    let all = was_full (pass_of k.table_id k.id k.me.0) (pass_of m.table_id m.id m.me.0) was.same was.place was.does occurs c.tries.known was.missed was.bound (omega arith) in
    search (arith, rules, all)
