use Rattle.ucl_words.proofs.Common.{rules, ℕ, sym, subst, Occurs, words_after, IsNextOfProtocol}
use Rattle.ucl_words.proofs.Steps.{opens, opened_occurs}
use Rattle.ucl_live_board.proofs.LogFacts.{opens_fresh}
use Rattle.ucl_words.proofs.board.WordBoard.open.Goals as goal

pub of_words-requires : goal.of_words-requires
of_words-requires g c = opens _ c.fresh_words.ensures

pub returns-clause-rule : goal.returns-clause-rule
returns-clause-rule g c = opens_fresh words_after IsNextOfProtocol

pub returns-in_err-table-clause-rule : goal.returns-in_err-table-clause-rule
returns-in_err-table-clause-rule g c = opens_fresh words_after IsNextOfProtocol

pub returns-clause-opened : goal.returns-clause-opened
returns-clause-opened g c =
    let made = c.in_ok-table.ensures in
    let occurs = subst (λ (k : ℕ). Occurs k c.in_ok-table.seat.me.0) (sym made.3) (subst (λ m. Occurs 0 m.0) (sym made.4) (opened_occurs _ c.fresh_words.ensures)) in
    record { fresh = search rules; occurs = occurs }

pub returns-clause-own : goal.returns-clause-own
returns-clause-own g c =
    let made = c.in_ok-table.ensures in
    (search rules, (0, subst (λ m. Occurs 0 m.0) (sym made.4) (opened_occurs _ c.fresh_words.ensures)))
