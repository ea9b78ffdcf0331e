use Rattle.ucl_words.proofs.Common.{ℕ, sym, ◌∙◌, subst, arith, Steps, CountRead}
use Rattle.ucl_words.proofs.Steps.{counts}
use Rattle.ucl_words.proofs.board.WordBoard.count.Goals as goal

pub load-requires : goal.load-requires
load-requires g c = (c.requires.table ∙ sym c.self.view_is, omega (arith, c.self.invariant.0), counts _ _ _ _ c.requires.place c.requires.acts)

-- the load was a step of the pass at this seat, on the number of enlisted reporters, and found the result
pub returns-clause-counts : goal.returns-clause-counts
returns-clause-counts g c = subst (λ (k : ℕ). Steps k (CountRead c.load.result) c.args.seat.now.me.0 c.load.new.seat.me.0) (c.requires.place ∙ sym c.load.ensures.1) c.load.ensures.2.1
