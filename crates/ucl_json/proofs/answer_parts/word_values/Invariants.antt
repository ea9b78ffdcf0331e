use Rattle.ucl_json.proofs.Common.{items_view, take, word_items, ◌≡◌}
use Rattle.ucl_json.proofs.answer_parts.word_values.Given as goal

abbrev pub invariant-loop-word : goal.invariant-loop-word
invariant-loop-word l = items_view l.values.items ≡ word_items (take l.word-index l.words)
