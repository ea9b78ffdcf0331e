use Rattle.ucl_runs.proofs.Common.{MeansSheet, OutOfMemory, arith, err_from_is_err_and, refl, sheet_seen, show_task, ◌∙◌}
use Rattle.ucl_runs.proofs.RunFacts.{refused, shown, stopped, wrote}
use Rattle.ucl_runs.proofs.show.show_run.Goals as goal

pub returns-in_err-sheet : goal.returns-in_err-sheet
returns-in_err-sheet g c =
    let fault = err_from_is_err_and c.from_residual.result c.from_residual.ensures.1 in
    let read = c.in_err-sheet.ensures in
    rw (fault.1, fault.2) (refused g.W.Sink (show_task c.args.profile c.args.group) _ _ read.calls MeansSheet sheet_seen _ read.reads read.reads (λ e. tt) tt refl)

pub returns-in_err-text : goal.returns-in_err-text
returns-in_err-text g c =
    let fault = err_from_is_err_and c.from_residual-in_err-text.result c.from_residual-in_err-text.ensures.1 in
    let read = c.in_ok-sheet.ensures in
    rw (fault.1, fault.2) (stopped g.W.Sink (show_task c.args.profile c.args.group) _ _ read.calls OutOfMemory tt refl read.reads.0 tt tt (λ bad. absurd (cc)))

pub returns : goal.returns
returns g c =
    let known = g.S.Source.left c.args.source.now in
    let is = shown c.args.profile known c.args.group (sheet_seen c.in_ok-sheet.sheet) c.as_bytes.result.now
    c.in_ok-sheet.ensures.reads.1 (c.as_bytes.ensures.value ∙ c.in_ok-text.ensures) in
    wrote g.W.Sink (show_task c.args.profile c.args.group) _ _ c.in_ok-sheet.ensures.calls c.as_bytes.result.now c.put_text.result c.in_ok-sheet.ensures.reads.0 is
    (λ bytes called. omega arith) (λ written. tt)
    c.put_text.ensures.all c.put_text.ensures.part c.put_text.ensures.sound
