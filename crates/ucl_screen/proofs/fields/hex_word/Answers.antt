use Rattle.ucl_screen.proofs.Common.{arith, if◌then◌else◌, sym, ◌*◌, ◌+◌, ◌<◌, ◌∙◌}
use Rattle.ucl_screen.proofs.Digits.{word-is, more-hex, no-hex, no-more-hex, one-more-hex, hex-fits}
use Rattle.ucl_screen.proofs.fields.hex_word.Goals as goal

pub returns-in_err-digit : goal.returns-in_err-digit
returns-in_err-digit c =
    let stops = no-hex c.loop-b.word c.loop-b.b-index c.args.text.now c.loop-b-test.true (sym c.in_err-digit.ensures.value) in
    c.from_residual.ensures ∙ sym (word-is c.args.text.now c.if-text-ne16.false ∙ sym c.loop-b.invariant.1 ∙ stops)

pub overflow_mul-word : goal.overflow_mul-word
overflow_mul-word c =
    let bound = one-more-hex c.loop-b.word c.loop-b.b-index 0 c.loop-b.invariant.0 (omega arith) in
    let fits = hex-fits (16 * c.loop-b.word + 0) c.loop-b.b-index bound (omega arith) in
    omega arith

pub overflow_add-word : goal.overflow_add-word
overflow_add-word c =
    let small : c.from.result < 16 = rw c.from.ensures c.in_ok-digit.ensures.small in
    let bound = one-more-hex c.loop-b.word c.loop-b.b-index c.from.result c.loop-b.invariant.0 small in
    let fits = hex-fits (16 * c.loop-b.word + c.from.result) c.loop-b.b-index bound (omega arith) in
    omega arith

pub loop-b-preserved : goal.loop-b-preserved
loop-b-preserved c =
    let small : c.from.result < 16 = rw c.from.ensures c.in_ok-digit.ensures.small in
    let more = more-hex c.loop-b.word c.loop-b.b-index c.in_ok-digit.digit c.args.text.now c.loop-b-test.true (sym c.in_ok-digit.ensures.value) in
    (one-more-hex c.loop-b.word c.loop-b.b-index c.from.result c.loop-b.invariant.0 small, rw c.from.ensures (sym more ∙ c.loop-b.invariant.1))

pub returns : goal.returns
returns c =
    let whole = no-more-hex c.loop-b.word c.loop-b.b-index c.args.text.now c.loop-b-test.false in
    sym (word-is c.args.text.now c.if-text-ne16.false ∙ sym c.loop-b.invariant.1 ∙ whole)
