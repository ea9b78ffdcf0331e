use Rattle.ucl_pass.proofs.Common.{rules, subst, sym, List, ℕ, ◌∷◌, ◌++◌, ap, ◌∙◌, [], words_after, IsLegalStep}
use Rattle.ucl_live_board.proofs.LogFacts.{opens_fresh}
use Rattle.ucl_pass.specs.CellInvariants.{CellOccurs}
use Rattle.ucl_pass.proofs.InvariantIsKept.{begins, opened_occurs}
use Rattle.ucl_pass.proofs.cell_board.CellBoard.open.Goals as goal

-- the words of no event and no reporter, with the first pass, satisfy the invariant that the cell is made with
pub ruled-requires : goal.ruled-requires
ruled-requires g c = (search rules, (search rules, begins _ (c.words_with.ensures ∙ ap (λ (b : List ℕ). b ++ 0 ∷ []) c.fresh.ensures)))

pub returns-clause-rule : goal.returns-clause-rule
returns-clause-rule g c = opens_fresh words_after IsLegalStep

pub returns-in_err-cell-clause-rule : goal.returns-in_err-cell-clause-rule
returns-in_err-cell-clause-rule g c = opens_fresh words_after IsLegalStep

pub returns-clause-own : goal.returns-clause-own
returns-clause-own g c = let made = c.in_ok-cell.ensures in (made.0, subst CellOccurs (sym made.1) opened_occurs)
