use Rattle.ucl_words.proofs.Common.{ℕ, sym, ◌∙◌, subst, arith, Steps, Match, Second}
use Rattle.ucl_words.proofs.Steps.{again}
use Rattle.ucl_words.proofs.board.WordBoard.load_again.Goals as goal

pub load-requires : goal.load-requires
load-requires g c = search (arith, again)

-- the load was a step of the pass at this seat, on this match word, in the second collect of a reading, and found the result
pub returns-clause-loads : goal.returns-clause-loads
returns-clause-loads g c = subst (λ (k : ℕ). Steps k (Match Second c.args.word c.load.result) c.args.seat.now.me.0 c.load.new.seat.me.0) (c.requires.place ∙ sym c.load.ensures.1) c.load.ensures.2
