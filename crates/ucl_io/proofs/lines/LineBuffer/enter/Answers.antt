use Rattle.std.proofs.Common.{refl, ◌∙◌, arith}
use Rattle.std.proofs.lemmas.List.{length-take}
use Rattle.std.proofs.lemmas.Result.{err_from_is_err_and}
use Rattle.std.specs.Prelude.{Ok, Err}
use Rattle.ucl_io.proofs.Turns.{entered_none, line_answered, line_short, rest_answered, rest_kept, row_below}
use Rattle.ucl_io.proofs.lines.LineBuffer.enter.Goals as goal

pub lines-init : goal.lines-init
lines-init g c = record { ready = c.requires.ready; cap = refl; short = c.requires.short; so_far = entered_none _ _ _ _ _ c.written-written.ensures.bound }

pub end_line-requires-clause-row : goal.end_line-requires-clause-row
end_line-requires-clause-row g c = row_below c.lines.invariant.so_far c.requires.short _ c.in-Some.ensures.line c.requires.few

pub returns-in_err-end_line-in-Some-clause-answered : goal.returns-in_err-end_line-in-Some-clause-answered
returns-in_err-end_line-in-Some-clause-answered g c =
    let p = err_from_is_err_and c.from_residual.result c.from_residual.ensures.1 in
    rw (p.1, p.2) (line_short c.lines.invariant.so_far c.requires.short _ c.in-Some.ensures.line _ _ (rw c.lines.invariant.cap at c.in_err-end_line-in-Some.ensures.answered))

pub lines-preserved : goal.lines-preserved
lines-preserved g c =
    let new = c.in_ok-end_line-in-Some.ensures in record {
      ready = new.ready;
      cap = new.cap ∙ c.lines.invariant.cap;
      short = rw new.begun (omega arith);
      so_far = line_answered c.lines.invariant.so_far c.requires.short _ c.in-Some.ensures.line _ _ new.begun (rw c.lines.invariant.cap at new.answered);
    }

pub returns-in-None-clause-begun : goal.returns-in-None-clause-begun
returns-in-None-clause-begun g c =
    (rw c.lines.invariant.cap at c.keep.ensures) ∙ rest_kept c.lines.invariant.so_far c.requires.short (c.in-None.ensures.none refl)

pub returns-in-None-clause-answered : goal.returns-in-None-clause-answered
returns-in-None-clause-answered g c =
    rest_answered c.lines.invariant.so_far c.requires.short (c.in-None.ensures.none refl) _ (Ok tt) refl refl c.in_ok-flush-in-None.ensures.put

pub returns-in_err-flush-in-None-clause-answered : goal.returns-in_err-flush-in-None-clause-answered
returns-in_err-flush-in-None-clause-answered g c =
    let p = err_from_is_err_and c.from_residual-in_err-flush-in-None.result c.from_residual-in_err-flush-in-None.ensures.1 in
    rw (p.1, p.2) (rest_answered c.lines.invariant.so_far c.requires.short (c.in-None.ensures.none refl) _ (Err _) refl refl c.in_err-flush-in-None.ensures.put)

pub returns-in-None-clause-short : goal.returns-in-None-clause-short
returns-in-None-clause-short g c = rw (c.keep.ensures, c.lines.invariant.cap, length-take) (omega arith)
