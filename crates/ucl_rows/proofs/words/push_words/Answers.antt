use Rattle.ucl_rows.proofs.Common.{arith}
use Rattle.ucl_rows.proofs.Texts.{words_step, words_end}
use Rattle.ucl_rows.proofs.words.push_words.Goals as goal

pub loop-word-preserved : goal.loop-word-preserved
loop-word-preserved c = record {
  counted = let k = c.loop-word.invariant.counted in omega arith;
  short = let k = c.push_word.ensures.short in let s = c.loop-word.invariant.short in omega arith;
  written = words_step c.loop-word.index c.loop-word.word-index c.args.words.now _ _ _ c.loop-word-test.true c.loop-word.invariant.written c.push_word.ensures.text;
}

pub returns : goal.returns
returns c = words_end c.loop-word.index c.loop-word.word-index c.args.words.now _ _ c.loop-word-test.false c.loop-word.invariant.written
