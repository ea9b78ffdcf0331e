use Rattle.std.proofs.Common.{ap, sym, ◌∙◌, ◌≡◌, arith, get_or, Err, Ok, ℕ}
use Rattle.std.proofs.lemmas.List.{length-set}
use Rattle.ucl_board.proofs.HistoryTheorems.{next_read, are_read, are_words, first_bad, read_again}
use Rattle.ucl_board.proofs.board.Board.of_words.Goals as goal

pub loop-i-preserved : goal.loop-i-preserved
loop-i-preserved c = (
  length-set c.loop-i.read _ _ ∙ c.loop-i.invariant.0,
  next_read c.args.words.now c.loop-i.read c.loop-i.i _ c.from-in-Ok.result c.in-Ok.word c.loop-i.invariant.0 (omega arith)
      c.from.ensures c.from-in-Ok.ensures c.loop-i.invariant.1 c.in-Ok.ensures.read,
)

pub invariant_of-result : goal.invariant_of-result
invariant_of-result c = are_words c.args.words.now c.loop-i.read (omega arith) c.loop-i.invariant.0 (λ k below. c.loop-i.invariant.1 k (omega arith))

pub returns-clause-board : goal.returns-clause-board
returns-clause-board c = are_read c.args.words.now c.loop-i.read (omega arith) c.loop-i.invariant.0 (λ k below. c.loop-i.invariant.1 k (omega arith))

pub returns-clause-again : goal.returns-clause-again
returns-clause-again c are =
    let told = sym (returns-clause-board c) ∙ read_again c.args.words.now are in
    let same : c.loop-i.read ≡ c.args.words.now = cc in ap Ok same

pub returns-in-Err-clause-refused : goal.returns-in-Err-clause-refused
returns-in-Err-clause-refused c = first_bad 1 c.loop-i.i c.args.words.now (λ k. get_or c.loop-i.read k 0) (omega arith) (rw c.from.ensures at c.in-Err.ensures.read) c.loop-i.invariant.1
    ∙ ap (λ (n : ℕ). Err n) (omega arith)
