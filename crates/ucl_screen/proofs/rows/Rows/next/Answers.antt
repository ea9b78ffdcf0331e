use Rattle.ucl_screen.proofs.PlainRows.{none_ahead, row_ahead}
use Rattle.ucl_screen.specs.PlainRows.{fields_of_four}
use Rattle.ucl_screen.specs.Rows.{four_seen}
use Rattle.ucl_screen.proofs.rows.Rows.next.Goals as goal

pub returns-in-None-clause-reads : goal.returns-in-None-clause-reads
returns-in-None-clause-reads c =
    rw c.in-Plain.is (none_ahead c.in-Plain.text.now c.without_mark.result.now c.without_mark.ensures.strips c.in-None.ensures.begins)

pub returns-in-Four-clause-reads : goal.returns-in-Four-clause-reads
returns-in-Four-clause-reads c =
    rw c.in-Plain.is
    (row_ahead c.in-Plain.text.now c.without_mark.result.now c.in-Four.rest.now (fields_of_four (four_seen c.in-Four.four)) c.without_mark.ensures.strips c.in-Four.ensures.begins)
