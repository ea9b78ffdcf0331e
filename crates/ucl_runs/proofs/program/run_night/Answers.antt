use Rattle.ucl_runs.proofs.Common.{All, Err, IsOnDuty, MeansNight, OutOfMemory, night_output, night_seen, night_task, refl}
use Rattle.ucl_runs.proofs.NightLength.{played_fits}
use Rattle.ucl_runs.proofs.RunFacts.{failed_night, played, refused, scripted, stopped, wrote}
use Rattle.ucl_runs.proofs.program.run_night.Goals as goal

pub returns-in-Err : goal.returns-in-Err
returns-in-Err g c =
    let read = c.in-Err.ensures in (
      Err c.from.result,
      rw c.from.ensures (refused g.W.Sink (night_task g.B.LiveBoard (g.O.FnOnce.post c.args.opening tt) c.args.profile c.args.group c.args.readings) _ _ read.calls
          MeansNight night_seen _ read.reads read.reads (λ e. tt) tt refl),
      c.ended.ensures,
    )

pub returns-in-Err-opening : goal.returns-in-Err-opening
returns-in-Err-opening g c =
    let read = c.in-Ok.ensures in (
      Err OutOfMemory,
      stopped g.W.Sink (night_task g.B.LiveBoard (g.O.FnOnce.post c.args.opening tt) c.args.profile c.args.group c.args.readings) _ _ read.calls
          OutOfMemory tt refl read.reads.0 tt tt (λ bad. absurd (cc)),
      c.ended-in-Err-opening.ensures,
    )

-- a night that was played ended as its result says
pub returns-in-Ok-play : goal.returns-in-Ok-play
returns-in-Ok-play g c =
    let opens = g.O.FnOnce.post c.args.opening tt in
    let known = g.S.Source.left c.args.source.now in
    let night = night_seen c.in-Ok.night in
    let read = c.in-Ok.ensures in
    let end = c.in-Ok-play.end in
    let text = night_output end.last end.closing in
    let put = c.put_night.ensures in
    let opened = rw c.in-Ok-opening.is at c.opening.ensures in
    let is = played g.B.LiveBoard opens _ _ opened c.args.profile c.args.group c.args.readings known night text read.reads.1 c.in-Ok-play.ensures in (
      c.put_night.result,
      wrote g.W.Sink (night_task g.B.LiveBoard opens c.args.profile c.args.group c.args.readings) _ _ read.calls text c.put_night.result read.reads.0 is
          (λ bytes called. played_fits g.B.LiveBoard opens c.args.profile c.args.group c.args.readings bytes text called)
          (λ written. scripted known night (All IsOnDuty) read.reads.1 c.in-Ok-play.ensures.duty) put.all put.part put.sound,
      c.ended-in-Ok-play.ensures,
    )

pub returns : goal.returns
returns g c =
    let read = c.in-Ok.ensures in
    let opened = rw c.in-Ok-opening.is at c.opening.ensures in
    let why = c.in-Err-play.ensures in (
      Err c.in-Err-play.fault,
      failed_night g.B.LiveBoard (g.O.FnOnce.post c.args.opening tt) c.args.profile c.args.group c.args.readings (g.S.Source.left c.args.source.now) (night_seen c.in-Ok.night)
          read.reads.1 _ _ opened g.W.Sink c.args.sink.now _ _ _ c.in-Err-play.fault read.calls refl read.reads.0 why.0 why.1,
      c.ended-in-Err-play.ensures,
    )
