use Rattle.ucl_rows.proofs.Common.{arith, length, refl, ◌-◌, ◌<◌, ◌^◌, ◌∙◌, ◌≡◌, ◌≤◌}
use Rattle.std.proofs.Common.{length-set}
use Rattle.ucl_screen.proofs.HexDigits.{digits-end, digits-step}
use Rattle.ucl_rows.proofs.words.digits_of.Goals as goal

pub loop-place-preserved : goal.loop-place-preserved
loop-place-preserved c =
    let so_far = c.loop-place.invariant in
    let within = so_far.within in
    let sixteen = so_far.sixteen in
    let some = c.loop-place-test.true in
    let short : c.loop-place.place ≤ length c.loop-place.digits = omega arith in
    record {
      within = omega arith;
      sixteen = length-set c.loop-place.digits (c.loop-place.place - 1) c.digit_of.result ∙ sixteen;
      so_far = digits-step c.args.word c.loop-place.place c.loop-place.rest c.loop-place.digits _ c.digit_of.result some short c.digit_of.ensures refl so_far.so_far;
    }

pub returns : goal.returns
returns c =
    let stopped = c.loop-place-test.false in
    let none : c.loop-place.place ≡ 0 = omega arith in
    let small : c.args.word < 2 ^ 64 = omega arith in
    digits-end c.args.word c.loop-place.place c.loop-place.rest c.loop-place.digits none small c.loop-place.invariant.so_far
