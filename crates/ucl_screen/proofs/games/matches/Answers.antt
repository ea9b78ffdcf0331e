use Rattle.ucl_screen.proofs.Common.{arith, match_line, matches_text, rules, string_bytes, ◌≡◌}
use Rattle.ucl_screen.proofs.EventsInTurn.{line_more, lines_all}
use Rattle.ucl_screen.proofs.games.matches.Goals.{in-Some+in_ok-push_match, in_default}
use Rattle.ucl_screen.proofs.games.matches.Goals as goal

pub loop-number-preserved : goal.loop-number-preserved
loop-number-preserved c = elim c.match-new.branch [
  | in-Some+in_ok-push_match w ↦ rw w.text-is (
      line_more (match_line c.args.board.now c.args.roster.now) c.loop-number.number w.in-Some.game (string_bytes c.loop-number.text) _ (omega arith) (omega arith)
      w.in-Some.ensures.value c.loop-number.invariant w.in_ok-push_match.ensures)
  | in_default w ↦ absurd (search rules)
]

pub returns : goal.returns
unfolding matches_text
returns c =
    let last : c.loop-number.number ≡ 13 = omega arith in
    lines_all (match_line c.args.board.now c.args.roster.now) c.loop-number.number (string_bytes c.loop-number.text) last c.loop-number.invariant
