use Rattle.ucl_screen.specs.Rows.{four_seen}
use Rattle.ucl_rows.proofs.LinesSaid.{says_four, says_nothing}
use Rattle.ucl_rows.proofs.line.plain_text.Goals as goal

pub returns-in-None-clause-said : goal.returns-in-None-clause-said
returns-in-None-clause-said c = says_nothing c.args.text.now c.in-None.ensures.begins

pub returns-in-None-first_row-clause-said : goal.returns-in-None-first_row-clause-said
returns-in-None-first_row-clause-said c = says_four c.args.text.now c.in-Four.rest.now (four_seen c.in-Four.four) c.in-Four.ensures.begins c.in-None-first_row.ensures.begins
