use Rattle.ucl_json.proofs.Common.{drop, length, map, parse_each, parse_word, view, ◌≡◌}
use Rattle.ucl_json.proofs.Members.{read_with}
use Rattle.ucl_json.proofs.board_line.twelve_words.Given as goal

abbrev pub invariant-loop-value : goal.invariant-loop-value
invariant-loop-value l = record {
  count : length l.words.items ≡ l.value-index;
  parsed : read_with parse_word l.words.items (drop l.value-index l.values) ≡ parse_each parse_word (map view l.values);
}
