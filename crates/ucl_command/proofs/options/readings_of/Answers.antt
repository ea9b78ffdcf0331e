use Rattle.std.proofs.Common.{sym}
use Rattle.clap.specs.Matches.{found_of}
use Rattle.ucl_command.proofs.Parses.{readings_read}
use Rattle.ucl_command.proofs.options.readings_of.Goals as goal

pub returns : goal.returns
returns c =
    readings_read (found_of c.args.matches.now) c.in_ok-readings.readings c.then_some.result c.then_some.ensures c.in_ok-readings.ensures.none
    (λ t is. sym (c.in_ok-readings.ensures.value t is).0.1)
