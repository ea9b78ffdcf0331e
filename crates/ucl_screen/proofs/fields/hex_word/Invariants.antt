use Rattle.ucl_screen.proofs.Common.{drop, hex_after, ◌<◌, ◌^◌, ◌≡◌}
use Rattle.ucl_screen.proofs.fields.hex_word.Given as goal

abbrev pub invariant-loop-b : goal.invariant-loop-b
invariant-loop-b l = (l.word < 16 ^ l.b-index) × (hex_after l.word (drop l.b-index l.text) ≡ hex_after 0 l.text)
