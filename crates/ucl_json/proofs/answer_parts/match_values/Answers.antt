use Rattle.ucl_json.proofs.Common.{arith, rules, ◌≡◌}
use Rattle.ucl_json.proofs.Places.{all-matches, next-match}
use Rattle.ucl_json.proofs.answer_parts.match_values.Goals as goal
use Rattle.ucl_json.proofs.answer_parts.match_values.Goals.{in-Some+in_ok-match_value+in_ok-push, in_default}

pub loop-number-preserved : goal.loop-number-preserved
loop-number-preserved c = elim c.match-new.branch [
  | in-Some+in_ok-match_value+in_ok-push w ↦ rw w.values-is (
      next-match c.args.board.now c.loop-number.values.items w.push.new.self.items w.in_ok-match_value.field-0 c.loop-number.number w.in-Some.game (omega arith) (omega arith)
      w.in-Some.ensures.value c.loop-number.invariant (rw w.game.ensures.value at w.in_ok-match_value.ensures) w.in_ok-push.ensures.items)
  | in_default w ↦ absurd (search rules)
]

pub returns : goal.returns
returns c =
    let last : c.loop-number.number ≡ 13 = omega arith in all-matches c.args.board.now c.loop-number.values.items c.loop-number.number last c.loop-number.invariant
