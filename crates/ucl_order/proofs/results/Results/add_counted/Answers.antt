use Rattle.ucl_order.proofs.Common.{All, All-set, IsWithin, [], arith, cond, finished, has_finished, under_way, refl, rules, sym, ◌+◌}
use Rattle.ucl_order.proofs.Common.{◌∙◌, ◌≡◌}
use Rattle.ucl_order.proofs.LevelMatches.{within_all_later}
use Rattle.ucl_order.proofs.States.{counted_at, counted_more}
use Rattle.ucl_order.proofs.results.Results.add_counted.Goals as goal

pub returns-then-has_started-clause-value : goal.returns-then-has_started-clause-value
returns-then-has_started-clause-value c ms is =
    let over = has_finished c.args.game.now in
    let place : c.from.result ≡ cond over 1 0 = search rules in
    rw (place, is) (counted_more ms c.args.game.now over _ (sym c.has_started.ensures ∙ c.if-has_started.true) refl
    (c.add_to_clubs.ensures.value (cond over (finished ms) (under_way ms)) (rw (place, is) (counted_at ms over _))))

pub returns-then-has_started-clause-within : goal.returns-then-has_started-clause-within
returns-then-has_started-clause-within c n all =
    All-set (All (IsWithin (n + 1))) c.args.states.now c.from.result _
    (c.add_to_clubs.ensures.within n (all c.from.result [] (search rules)))
    (λ k d h. within_all_later n (n + 1) _ (omega arith) (all k d h))
