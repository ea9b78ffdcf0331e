use Rattle.ucl_rows.proofs.LiveShown.{shown_all}
use Rattle.ucl_rows.proofs.bad_row.shown_length.Goals as goal

pub returns-clause-shown : goal.returns-clause-shown
returns-clause-shown c = shown_all c.loop-at.at c.args.text.now c.loop-at-test.false c.loop-at.invariant.few c.loop-at.invariant.printed
