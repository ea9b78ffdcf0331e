use Rattle.ucl_json.proofs.Common.{ap, arith, length, parse_word, sym, ℕ, ◌∙◌, ◌≡◌}
use Rattle.ucl_json.proofs.Members.{inner-ok, just-each, read-all, read-next, read-none, read-not}
use Rattle.ucl_json.proofs.board_line.twelve_words.Goals as goal

pub loop-value-init : goal.loop-value-init
loop-value-init c = record { count = ap (length {A = ℕ}) c.new-words.ensures; parsed = read-none parse_word c.args.values.now _ c.new-words.ensures }

pub returns-in_err-word_in : goal.returns-in_err-word_in
returns-in_err-word_in c =
    c.from_residual.ensures ∙ sym
    (just-each parse_word 12 c.args.values.now c.if-values-ne12.false ∙ sym c.loop-value.invariant.parsed
    ∙ read-not parse_word c.args.values.now c.loop-value.value-index c.value-item.result _ c.loop-value-test.true c.value-item.is c.in_err-word_in.ensures)

pub loop-value-preserved : goal.loop-value-preserved
loop-value-preserved c = record {
  count = let k = c.loop-value.invariant.count in let n = c.push.ensures.len in omega arith;
  parsed = read-next parse_word c.args.values.now c.loop-value.value-index c.value-item.result _ _ _ c.loop-value-test.true c.value-item.is
      c.in_ok-word_in.ensures c.push.ensures.items ∙ c.loop-value.invariant.parsed;
}

pub returns : goal.returns
returns c =
    let all = sym (just-each parse_word 12 c.args.values.now c.if-values-ne12.false ∙ sym c.loop-value.invariant.parsed
    ∙ read-all parse_word c.args.values.now c.loop-value.value-index _ c.loop-value-test.false) in
    let past = c.loop-value-test.false in
    let count = c.loop-value.invariant.count in
    let twelve = c.if-values-ne12.false in
    let full : length c.loop-value.words.items ≡ 12 = omega arith in
    c.ok.ensures.value ∙ inner-ok c.into_inner.result _ (c.into_inner.ensures.variant.1 full) c.into_inner.ensures.ok ∙ all
