use Rattle.ucl_runs.proofs.Common.{string_bytes, style_of, ◌∙◌}
use Rattle.ucl_runs.proofs.RunFacts.{just_read, shown_more}
use Rattle.ucl_runs.proofs.workers.show_screens.Goals as goal

pub shown-requires-clause-own : goal.shown-requires-clause-own
shown-requires-clause-own g c κs within = c.read-reading.ensures.own

pub shown-requires-clause-sound : goal.shown-requires-clause-sound
shown-requires-clause-sound g c κs within = c.read-reading.ensures.says.always.sound

pub shown-requires-clause-read : goal.shown-requires-clause-read
shown-requires-clause-read g c κs within =
    let k = g.B.LiveBoard.reader in
    just_read (k c.loop-call.pass) (k c.read-reading.new.pass) c.read-reading.result c.read-reading.ensures.says.reading

pub shown-requires-clause-text : goal.shown-requires-clause-text
shown-requires-clause-text g c κs within = c.as_str.ensures.value ∙ c.in_ok-text.ensures

pub loop-call-preserved : goal.loop-call-preserved
loop-call-preserved g c =
    let k = g.B.LiveBoard.reader in
    let config = c.args.config.now in
    let read = c.read-reading.ensures.says in
    let so_far = c.loop-call.invariant in
    record {
      own = c.read-reading.ensures.own;
      shown = shown_more (style_of config) (k c.args.pass) (k c.loop-call.pass) (k c.read-reading.new.pass) c.read-reading.result c.loop-call.call _
          (string_bytes c.in_ok-text.text) so_far.shown read.always read.reading c.in_ok-text.ensures;
    }
