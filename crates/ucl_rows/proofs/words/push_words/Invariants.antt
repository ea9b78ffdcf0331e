use Rattle.ucl_rows.proofs.Common.{drop, length, word_lines, ◌*◌, ◌++◌, ◌+◌, ◌≡◌, ◌≤◌}
use Rattle.ucl_rows.proofs.words.push_words.Given as goal

abbrev pub invariant-loop-word : goal.invariant-loop-word
invariant-loop-word l = record {
  counted : l.index ≡ 1 + l.word-index;
  short : length l.out.items ≤ 27 * l.word-index;
  written : l.out.items ++ word_lines l.index (drop l.word-index l.words) ≡ word_lines 1 l.words;
}
