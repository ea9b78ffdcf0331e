use Rattle.ucl_runs.proofs.Common.{Appends, List, arith, codes, err_from_is_err_and, last_shown, last_text, length, length-append, min}
use Rattle.ucl_runs.proofs.Common.{string_bytes, ℕ, ◌++◌, ◌+◌, ◌-◌, ◌^◌, ◌≡◌}
use Rattle.std.proofs.lemmas.Grind.{common_steps}
use Rattle.ucl_rows.proofs.NightParts.{stopped_second}
use Rattle.ucl_runs.proofs.night.put_night.Goals as goal

pub returns-in_err-put_under-clause-part : goal.returns-in_err-put_under-clause-part
returns-in_err-put_under-clause-part g c =
    let fault = err_from_is_err_and c.from_residual-in_err-put_under.result c.from_residual-in_err-put_under.ensures.1 in
    let end = c.args.end.now in
    let lasts : List ℕ = last_text (codes "READER 1\n") (last_shown end.last 0) ++ last_text (codes "READER 2\n") (last_shown end.last 1) in
    let out : Appends (g.W.Sink.taken c.args.sink.now) (g.W.Sink.taken c.put_last-2.new.sink) lasts = grind (arith, common_steps) in
    let total : c.in_ok-written-2.written ≡ min (0 + length lasts) (2 ^ 64 - 1) = grind (arith, common_steps, length-append) in
    rw (fault.1, fault.2) (stopped_second 0 c.in_ok-written-2.written _ _ _ _ lasts (codes "FINAL\n" ++ string_bytes end.closing) _ out total
    (rw c.as_str.ensures.value at c.in_err-put_under.ensures.part))
