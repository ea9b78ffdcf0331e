use Rattle.ucl_screen.specs.Rows.{four_seen}
use Rattle.ucl_rows.proofs.Common.{Row, sym, ◌∙◌}
use Rattle.ucl_rows.proofs.LinesSaid.{says_later}
use Rattle.ucl_rows.proofs.line.plain_row.Goals as goal

pub returns-in-Some-Some-Four : goal.returns-in-Some-Some-Four
returns-in-Some-Some-Four c =
    let row = c.in-Some-Some-Four in
    let short = sym c.fits.ensures.value ∙ c.if-fits.true in
    says_later c.args.row c.args.line.now (Row (four_seen row.four)) c.if-row-gt1.true short (rw (row.field-0-is, row.field-0-0-is) at row.ensures.said)
