use Rattle.ucl_screen.proofs.Common.{arith, get_or, inl, inr, sym, ◌-◌, ◌∙◌, ◌≤◌}
use Rattle.ucl_screen.proofs.Digits.{number-is, more-digits, no-digit, no-more, nonempty, one-more-digit}
use Rattle.ucl_live_runs.proofs.request.number.Goals.{then-b-lt48-via-then-b-lt48, then-b-lt48-via-else-b-lt48+then-b-gt57}
use Rattle.ucl_live_runs.proofs.request.number.Goals as goal

pub returns-then-b-lt48 : goal.returns-then-b-lt48
returns-then-b-lt48 c =
    let some = nonempty c.args.text.now c.is_empty.result c.is_empty.ensures c.if-is_empty.false in
    let whole = number-is 10 c.args.text.now some c.loop-b.invariant.2 in
    elim c.then-b-lt48.branch [
      | then-b-lt48-via-then-b-lt48 w ↦ sym (whole ∙ sym c.loop-b.invariant.1 ∙ no-digit c.loop-b.n c.loop-b.b-index c.args.text.now c.loop-b-test.true (inl w.if-b-lt48.true))
      | then-b-lt48-via-else-b-lt48+then-b-gt57 w ↦ sym (whole ∙ sym c.loop-b.invariant.1 ∙ no-digit c.loop-b.n c.loop-b.b-index c.args.text.now c.loop-b-test.true (inr w.if-b-gt57.true))
    ]

pub loop-b-preserved : goal.loop-b-preserved
loop-b-preserved c =
    let digit = c.from.ensures in
    let small : get_or c.args.text.now c.loop-b.b-index 0 - 48 ≤ 9 = omega arith in
    rw digit (
      one-more-digit c.loop-b.n c.loop-b.b-index _ c.loop-b.invariant.0 small,
      sym (more-digits c.loop-b.n c.loop-b.b-index c.args.text.now c.loop-b-test.true c.if-b-lt48.false c.if-b-gt57.false) ∙ c.loop-b.invariant.1,
      c.loop-b.invariant.2,
    )

pub returns : goal.returns
returns c =
    let some = nonempty c.args.text.now c.is_empty.result c.is_empty.ensures c.if-is_empty.false in
    let whole = number-is 10 c.args.text.now some c.loop-b.invariant.2 in
    sym (whole ∙ sym c.loop-b.invariant.1 ∙ no-more c.loop-b.n c.loop-b.b-index c.args.text.now c.loop-b-test.false)
