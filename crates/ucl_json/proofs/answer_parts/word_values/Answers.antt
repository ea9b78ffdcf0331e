use Rattle.ucl_json.proofs.Places.{all-items, next-item}
use Rattle.ucl_json.proofs.answer_parts.word_values.Goals as goal

pub loop-word-preserved : goal.loop-word-preserved
loop-word-preserved c =
    next-item _ c.loop-word.values.items c.push.new.self.items c.in_ok-word_value.field-0 c.args.words.now c.loop-word.word-index _ c.loop-word-test.true c.loop-word.invariant
    c.in_ok-word_value.ensures c.in_ok-push.ensures.items

pub returns : goal.returns
returns c = all-items _ c.loop-word.values.items c.args.words.now c.loop-word.word-index c.loop-word-test.false c.loop-word.invariant
