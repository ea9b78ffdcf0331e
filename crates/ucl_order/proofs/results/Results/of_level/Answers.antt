use Rattle.ucl_order.proofs.Common.{All, All-nil, All-push, FitsFields, HasScore, IsWithin, ap, arith, filter, is_level, map, match_at}
use Rattle.ucl_order.proofs.Common.{match_numbers, matches_of, refl, results_of_clubs, rules}
use Rattle.ucl_order.proofs.Common.{started_of, subst, sym, take, totals, ◌+◌, ◌-◌, ◌∙◌}
use Rattle.ucl_order.proofs.LevelMatches.{level_tied, matches_all, matches_more, within_all_later}
use Rattle.ucl_order.proofs.Limits.{group_started, tied_fit}
use Rattle.ucl_order.proofs.Slots.{all-four, pairings}
use Rattle.ucl_order.proofs.results.Results.of_level.Goals.{in-Some, in_default}
use Rattle.ucl_order.proofs.results.Results.of_level.Goals as goal

pub loop-number-init : goal.loop-number-init
unfolding totals
loop-number-init c = record {
  are = refl;
  valid = All-nil HasScore;
  within = all-four (IsWithin 0) _ _ _ _ (search arith) (search arith)
      (search arith) (search arith);
}

pub loop-number-preserved : goal.loop-number-preserved
loop-number-preserved c = elim c.match-new.branch [
  | in-Some w ↦
      let n = c.loop-number.number in
      let board = c.args.board.now in
      let next = matches_more board n _ _ _ (omega arith) (omega arith) refl
      (w.of.ensures.value ∙ ap (match_at board) w.in-Some.ensures.value) refl in
      rw w.results-is (record {
        are = w.add_level.ensures.value (map (match_at board) (take (n - 1) match_numbers)) c.loop-number.invariant.are
            ∙ ap (λ ms. results_of_clubs (filter (is_level c.args.keys.now) ms)) next;
        valid = subst (All HasScore) next
            (All-push HasScore (map (match_at board) (take (n - 1) match_numbers)) _ c.loop-number.invariant.valid w.of.ensures.score);
        within = within_all_later (n - 1 + 1) (n + 1 - 1) _ (omega arith)
            (w.add_level.ensures.within (n - 1) c.loop-number.invariant.within);
      })
  | in_default w ↦ absurd (search rules)
]

pub returns-clause-value : goal.returns-clause-value
returns-clause-value c =
    let board = c.args.board.now in
    c.loop-number.invariant.are
    ∙ ap (λ ms. results_of_clubs (filter (is_level c.args.keys.now) ms)) (matches_all board c.loop-number.number _ (omega arith) refl)
    ∙ level_tied c.args.keys.now (matches_of board) (pairings board)

pub returns-clause-fits : goal.returns-clause-fits
returns-clause-fits c =
    let board = c.args.board.now in
    let valid = subst (All HasScore) (matches_all board c.loop-number.number _ (omega arith) refl) c.loop-number.invariant.valid in
    subst (All FitsFields) (sym (returns-clause-value c)) (tied_fit (started_of board) (group_started board valid) c.args.keys.now)
