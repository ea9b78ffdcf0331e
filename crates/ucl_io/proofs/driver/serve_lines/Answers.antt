use Rattle.std.proofs.Common.{◌+◌, ◌≡◌, ◌∙◌, length, take, inl, inr, refl, ap, arith, length-append, true≢false}
use Rattle.std.proofs.lemmas.List.{length-take}
use Rattle.std.proofs.lemmas.Result.{err_from_is_err_and}
use Rattle.ucl_io.specs.Output.{Waiting}
use Rattle.std.proofs.lemmas.Bool.{false_from_ne_true}
use Rattle.ucl_io.proofs.Turns.{answered_row, row_low, run_ended, run_ends_badly, run_read_failed, run_stopped, run_too_long, standing_first, standing_then}
use Rattle.ucl_io.proofs.driver.serve_lines.Goals as goal

pub pieces-init : goal.pieces-init
pieces-init g c =
    let new = c.new-lines.ensures in record {
      room = refl;
      ready = c.requires.ready;
      cap = new.cap;
      short = rw new.begun (omega arith);
      so_far = standing_first _ _ _ _ _ _ _ _ _ _ new.row new.begun (ap (λ (w : Waiting). w.held) new.output) (ap (λ (w : Waiting). w.out) new.output);
      read = refl;
      source_sound = inl refl;
    }

pub returns-then-read-gt-MAX_READ-clause-served : goal.returns-then-read-gt-MAX_READ-clause-served
returns-then-read-gt-MAX_READ-clause-served g c =
    let long = c.if-read-gt-MAX_READ.true in
    let read = c.pieces.invariant.read in
    run_too_long c.pieces.invariant.so_far (omega arith)

pub returns-in-None-clause-served : goal.returns-in-None-clause-served
returns-in-None-clause-served g c =
    run_read_failed c.pieces.invariant.so_far (c.take.new.self.source, c.take.new.self.sink, c.pieces.handler) c.take.ensures.log c.take.ensures.counts _
    c.in-None.ensures.moves (ap g.W.Sink.taken c.take.ensures.sink) (ap g.W.Sink.failed c.take.ensures.sink) refl c.pieces.invariant.read

pub returns-in_err-end-in-Some-eq0-clause-served : goal.returns-in_err-end-in-Some-eq0-clause-served
returns-in_err-end-in-Some-eq0-clause-served g c =
    let room = c.pieces.invariant.room in
    let e = err_from_is_err_and c.from_residual.result c.from_residual.ensures.1 in
    let zero = c.in-Some-eq0.field-0-test in
    rw (e.1, e.2) (run_ends_badly c.pieces.invariant.so_far (c.take.new.self.source, c.end.new.sink, c.end.new.handler) c.take.ensures.log c.take.ensures.counts (c.pieces.lines.row + 1) _ _
    (c.in-Some-eq0.ensures.end zero (omega arith)) (rw zero at c.in-Some-eq0.ensures.moves) _ _ c.in_err-end-in-Some-eq0.ensures.closed (rw c.take.ensures.sink refl))

pub returns-in-Some-eq0-clause-served : goal.returns-in-Some-eq0-clause-served
returns-in-Some-eq0-clause-served g c =
    let room = c.pieces.invariant.room in
    let zero = c.in-Some-eq0.field-0-test in
    let row = answered_row c.pieces.invariant.so_far.answered in
    let same = c.in_ok-end-in-Some-eq0.ensures.row in
    run_ended c.pieces.invariant.so_far (c.take.new.self.source, c.end.new.sink, c.end.new.handler) c.take.ensures.log c.take.ensures.counts 0 _ _
    (c.in-Some-eq0.ensures.end zero (omega arith)) (rw zero at c.in-Some-eq0.ensures.moves) _ (omega arith) (rw c.take.ensures.sink at c.in_ok-end-in-Some-eq0.ensures.closed)

pub enter-requires-clause-few : goal.enter-requires-clause-few
enter-requires-clause-few g c =
    let row = row_low c.pieces.invariant.so_far in
    let read = c.pieces.invariant.read in
    let fits = c.in-Some.ensures.fits in
    let count = length-take c.in-Some.n c.take.new.buf in
    let same = c.take.auto.buf in
    let room = c.pieces.invariant.room in
    let long = c.if-read-gt-MAX_READ.false in omega arith

pub returns-in_err-enter-in-Some-clause-served : goal.returns-in_err-enter-in-Some-clause-served
returns-in_err-enter-in-Some-clause-served g c =
    let e = err_from_is_err_and c.from_residual-in_err-enter-in-Some.result c.from_residual-in_err-enter-in-Some.ensures.1 in
    rw (e.1, e.2) (run_stopped c.pieces.invariant.so_far (c.take.new.self.source, c.enter.new.sink, c.enter.new.handler) c.take.ensures.log c.take.ensures.counts _ _ _ _
    c.in-Some.ensures.moves _ (rw (c.take.ensures.sink, c.pieces.invariant.cap) at c.in_err-enter-in-Some.ensures.answered))

-- a call that gave bytes, whose lines were all answered, keeps the loop's invariant
pub pieces-preserved : goal.pieces-preserved
pieces-preserved g c =
    let so_far = c.pieces.invariant.so_far in
    let more = take c.in-Some.n c.take.new.buf in
    let new = c.in_ok-enter-in-Some.ensures in
    let fits = c.in-Some.ensures.fits in
    let same = c.take.auto.buf in
    let room = c.pieces.invariant.room in
    let count : length more ≡ c.in-Some.n = omega (arith, length-take c.in-Some.n c.take.new.buf) in
    let long = length-append so_far.bytes more in
    let before = c.pieces.invariant.read in
    let there = rw (c.take.ensures.sink, c.pieces.invariant.cap) at new.answered in
    let some = c.in-Some.n-test in
    record {
      room = same ∙ room;
      ready = new.ready;
      cap = new.cap ∙ c.pieces.invariant.cap;
      short = rw c.pieces.invariant.cap at new.short;
      so_far = standing_then so_far (c.take.new.self.source, c.enter.new.sink, c.enter.new.handler) c.take.ensures.log c.take.ensures.counts _ _ _ _
          c.in-Some.ensures.moves there new.empty (rw c.pieces.invariant.cap at new.begun) (omega arith);
      read = omega arith;
      source_sound = inr (false_from_ne_true _ (λ h. true≢false (c.in-Some.ensures.fails.1 h)));
    }
