use Rattle.ucl_rows.proofs.Common.{[], drop, length, ◌≡◌, ◌≤◌}
use Rattle.ucl_screen.proofs.HexDigits.{low}
use Rattle.ucl_rows.proofs.words.digits_of.Given as goal

abbrev pub invariant-loop-place : goal.invariant-loop-place
invariant-loop-place l = record {
  within : l.place ≤ 16;
  sixteen : length l.digits ≡ 16;
  so_far : low l.place l.rest (drop l.place l.digits) ≡ low 16 l.fn.word [];
}

abbrev pub decreases-loop-place : goal.decreases-loop-place
decreases-loop-place l = l.place
