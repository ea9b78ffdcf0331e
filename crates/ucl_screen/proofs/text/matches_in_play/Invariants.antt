use Rattle.ucl_screen.proofs.Common.{in_play, take, ◌≡◌, ◌≤◌}
use Rattle.ucl_screen.proofs.text.matches_in_play.Given as goal

abbrev pub invariant-loop-word : goal.invariant-loop-word
invariant-loop-word l = (l.count ≡ in_play (take l.word-index l.word-items)) × (l.count ≤ l.word-index)
