use Rattle.ucl_io.proofs.Cuts.{rest_of}
use Rattle.ucl_screen.proofs.Commas.{no_later_quote}
use Rattle.ucl_screen.proofs.PlainRows.{marked, unmarked}
use Rattle.ucl_screen.proofs.plain.without_mark.Goals as goal

pub returns-then-text-3-clause-strips : goal.returns-then-text-3-clause-strips
returns-then-text-3-clause-strips c tail h = rw (rest_of 3 c.args.text.now) (marked c.args.text.now tail c.if-text-ge3.true c.if-text.true c.if-text-2.true c.if-text-3.true)

pub returns-then-text-3-clause-plain : goal.returns-then-text-3-clause-plain
returns-then-text-3-clause-plain c = λ plain. rw (rest_of 3 c.args.text.now) (no_later_quote c.args.text.now 3 plain)
