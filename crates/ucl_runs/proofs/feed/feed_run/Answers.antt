use Rattle.ucl_runs.proofs.Common.{MeansNight, OutOfMemory, arith, err_from_is_err_and, feed_task, night_seen, refl, ◌∙◌}
use Rattle.ucl_runs.proofs.RunFacts.{text_of_feed, refused, stopped, wrote}
use Rattle.ucl_runs.proofs.feed.feed_run.Goals as goal

pub returns-in_err-night : goal.returns-in_err-night
returns-in_err-night g c =
    let fault = err_from_is_err_and c.from_residual.result c.from_residual.ensures.1 in
    let read = c.in_err-night.ensures in
    rw (fault.1, fault.2) (refused g.W.Sink feed_task _ _ read.calls MeansNight night_seen _ read.reads read.reads (λ e. tt) tt refl)

pub returns-in_err-text : goal.returns-in_err-text
returns-in_err-text g c =
    let fault = err_from_is_err_and c.from_residual-in_err-text.result c.from_residual-in_err-text.ensures.1 in
    let read = c.in_ok-night.ensures in
    rw (fault.1, fault.2) (stopped g.W.Sink feed_task _ _ read.calls OutOfMemory tt refl read.reads.0 tt tt (λ bad. absurd (cc)))

pub returns : goal.returns
returns g c =
    let known = g.S.Source.left c.args.source.now in
    let text = rw c.deref.ensures.value at c.in_ok-text.ensures in
    let is = text_of_feed known (night_seen c.in_ok-night.night) c.as_slice.result.now c.in_ok-night.ensures.reads.1 (c.as_slice.ensures.value ∙ text) in
    wrote g.W.Sink feed_task _ _ c.in_ok-night.ensures.calls c.as_slice.result.now c.put_text.result c.in_ok-night.ensures.reads.0 is
    (λ bytes called. omega arith) (λ written. tt) c.put_text.ensures.all c.put_text.ensures.part c.put_text.ensures.sound
