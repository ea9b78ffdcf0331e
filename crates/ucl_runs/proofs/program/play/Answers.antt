use Rattle.ucl_runs.proofs.Common.{arith, begins_through, styled}
use Rattle.ucl_runs.proofs.NightOutput.{others, output}
use Rattle.ucl_runs.proofs.program.play.Goals as goal

pub returns-then-version-settled : goal.returns-then-version-settled
returns-then-version-settled g c =
    let reporter = g.B.LiveBoard.reporter in
    let end = c.in_ok-last.field-0 in
    let promise = c.in_ok-last.ensures in
    let read = c.read_own-version.ensures in
    let met = (reporter c.meet-2.new.second).seen in
    let on = begins_through (reporter end.reporter_2).seen (reporter c.meet.new.second).seen met c.meet.ensures.says.always.on.seen c.meet-2.ensures.says.always.on.seen in (
      others g.B.LiveBoard c.args.board.now c.args.pass c.args.night.now.events.items (styled c.args.profile c.args.night.now.roster c.args.group) c.args.readings
          end promise.night promise.duty met on c.read_own-version.new.pass c.read_own-version.result.version read.own read.says.always.on.seen
          read.says.reading.low read.says.reading.high c.if-version-settled.true,
      promise.duty,
    )

-- a night that no stranger came to writes its output
pub returns : goal.returns
returns g c =
    let reporter = g.B.LiveBoard.reporter in
    let reader = g.B.LiveBoard.reader in
    let end = c.in_ok-last.field-0 in
    let promise = c.in_ok-last.ensures in
    let read = c.read_own-version.ensures.says in
    let met_1 = c.meet.ensures.says in
    let met_2 = c.meet-2.ensures.says in
    let met = (reporter c.meet-2.new.second).seen in
    let first = (reporter c.meet.new.second).seen in
    let one = (reporter c.in_ok-reader_1.reader_1).seen in
    let two = (reporter c.in_ok-reader_2.reader_2).seen in
    let on = begins_through (reporter end.reporter_2).seen first met met_1.always.on.seen met_2.always.on.seen in
    let low = read.reading.low in
    let same = c.if-version-settled.false in
    output g.B.LiveBoard c.args.board.now c.args.pass c.args.night.now.events.items (styled c.args.profile c.args.night.now.roster c.args.group) c.args.readings
    end promise.night promise.duty met on
    (begins_through (reader end.reader_1).seen one met c.in_ok-reader_1.ensures.says.on.seen (begins_through one first met met_1.meeting.met met_2.always.on.seen))
    (begins_through (reader end.reader_2).seen two met c.in_ok-reader_2.ensures.says.on.seen met_2.meeting.met)
    (omega arith)
