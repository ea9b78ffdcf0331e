-- Word lines, written one at a time.
use Rattle.ucl_rows.proofs.Common.{List, append_assoc, drop, get_or, length, sym, word_line, ℕ, ◌++◌, ◌+◌, ◌<◌, ◌∙◌, ◌∷◌, ◌≡◌, ◌≤◌}
use Rattle.std.proofs.Common.{add-one, drop-cons}
use Rattle.std.proofs.lemmas.List.{append-nil}
use Rattle.std.proofs.lemmas.List.{drop_all}
use Rattle.ucl_rows.specs.Lines.{word_lines}

-- once one word more is written, what was written and what is still to be written are the whole text of word lines
pub words_step : (index i : ℕ) (words out new whole : List ℕ) → i < length words → out ++ word_lines index (drop i words) ≡ whole
    → new ≡ out ++ word_line index (get_or words i 0) → new ++ word_lines (index + 1) (drop (i + 1) words) ≡ whole
unfolding word_lines
words_step index i words out new whole h so_far line =
    let split : drop i words ≡ get_or words i 0 ∷ drop (i + 1) words = rw (add-one i) (drop-cons words i 0 h) in
    rw (line, append_assoc out (word_line index (get_or words i 0)) (word_lines (index + 1) (drop (i + 1) words))) (rw split at so_far)

-- once all words are written, what was written is the whole text of word lines
pub words_end : (index i : ℕ) (words out whole : List ℕ) → length words ≤ i → out ++ word_lines index (drop i words) ≡ whole → out ≡ whole
unfolding word_lines
words_end index i words out whole h so_far = sym (append-nil out) ∙ (rw (drop_all i words h) at so_far)
