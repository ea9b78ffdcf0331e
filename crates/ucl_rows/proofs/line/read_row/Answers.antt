use Rattle.ucl_rows.proofs.Common.{sym, ◌∙◌}
use Rattle.ucl_rows.proofs.LinesSaid.{only_quoted}
use Rattle.ucl_rows.proofs.line.read_row.Goals as goal

pub returns-then-row-eq1-clause-memory : goal.returns-then-row-eq1-clause-memory
returns-then-row-eq1-clause-memory c =
    let short = sym c.fits.ensures.value ∙ c.if-not-fits.false in
    only_quoted _ c.args.line.now c.unmarked.result.now short c.unmarked.ensures.plain c.in_default.ensures.plain

pub returns-clause-memory : goal.returns-clause-memory
returns-clause-memory c =
    let short = sym c.fits.ensures.value ∙ c.if-not-fits.false in
    only_quoted _ c.args.line.now c.unmarked.result.now short c.unmarked.ensures.plain c.in_default.ensures.plain
