use Rattle.ucl_words.proofs.Common.{ℕ, refl, sym, ap, ◌∙◌, word_at, board_of, followed_by, entry_known}
use Rattle.ucl_words.proofs.theorems.words_tell_the_entry.Goals as goal

pub returns : goal.returns
returns c = λ history e f old new legal game word next_e next_f.
    let by_e = next_e history legal word in
    let by_f = next_f history legal (ap (λ (g : ℕ). word_at (board_of history) g) (sym game) ∙ word) in
    entry_known history history e f by_e.1 by_f.1 game refl (sym by_e.0 ∙ (by_f.0 ∙ ap (λ (g : ℕ). word_at (board_of (followed_by history f)) g) (sym game)))
