use Rattle.ucl_order.proofs.Common.{All, All-nil, All-push, HasScore, IsWithin, ap, arith, counted, map, match_at, match_numbers, refl}
use Rattle.ucl_order.proofs.Common.{rules, subst, take, totals, ◌+◌, ◌-◌, ◌∙◌}
use Rattle.ucl_order.proofs.LevelMatches.{matches_all, matches_more, within_all_later}
use Rattle.ucl_order.proofs.Limits.{group_of_board}
use Rattle.ucl_order.proofs.Slots.{all-four, all-two}
use Rattle.ucl_order.proofs.results.Results.of_states.Goals.{in-Some, in_default}
use Rattle.ucl_order.proofs.results.Results.of_states.Goals as goal

pub loop-number-init : goal.loop-number-init
unfolding totals
loop-number-init c =
    let four = all-four (IsWithin 0) _ _ _ _ (search arith) (search arith) (search arith) (search arith) in
    record { are = refl; valid = All-nil HasScore; within = all-two (All (IsWithin 0)) _ _ four four }

pub loop-number-preserved : goal.loop-number-preserved
loop-number-preserved c = elim c.match-new.branch [
  | in-Some w ↦
      let n = c.loop-number.number in
      let next = matches_more c.args.board.now n _ _ _ (omega arith) (omega arith) refl
      (w.of.ensures.value ∙ ap (match_at c.args.board.now) w.in-Some.ensures.value) refl in
      rw w.states-is (record {
        are = w.add_counted.ensures.value (map (match_at c.args.board.now) (take (n - 1) match_numbers)) c.loop-number.invariant.are
            ∙ ap counted next;
        valid = subst (All HasScore) next (All-push HasScore
            (map (match_at c.args.board.now) (take (n - 1) match_numbers)) _ c.loop-number.invariant.valid w.of.ensures.score);
        within = λ k d h. within_all_later (n - 1 + 1) (n + 1 - 1) _ (omega arith)
            (w.add_counted.ensures.within (n - 1) c.loop-number.invariant.within k d h);
      })
  | in_default w ↦ absurd (search rules)
]

pub returns-clause-value : goal.returns-clause-value
returns-clause-value c = c.loop-number.invariant.are ∙ ap counted (matches_all c.args.board.now c.loop-number.number _ (omega arith) refl)

pub returns-clause-group : goal.returns-clause-group
returns-clause-group c =
    group_of_board c.args.board.now
    (subst (All HasScore) (matches_all c.args.board.now c.loop-number.number _ (omega arith) refl) c.loop-number.invariant.valid)
