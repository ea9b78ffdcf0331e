use Rattle.ucl_words.proofs.Common.{ℕ, Bool, cond, sym, ◌∙◌, subst, arith, eq-eqb, ne_eqb, Steps, CountRead, CountRaised}
use Rattle.ucl_words.proofs.Steps.{enlisting}
use Rattle.ucl_words.proofs.board.WordBoard.add_reporter.Goals as goal

pub compare_exchange-requires : goal.compare_exchange-requires
compare_exchange-requires g c = search (arith, enlisting)

pub returns-clause-won : goal.returns-clause-won
returns-clause-won g c hit =
    let n = c.compare_exchange.result in
    let v = c.args.seat.now.me.0 in
    let w = c.compare_exchange.new.seat.me.0 in
    subst (λ (k : ℕ). Steps k (CountRaised n) v w) (c.requires.place ∙ sym c.compare_exchange.ensures.1)
    (subst (λ (b : Bool). Steps g.K.Asking.seat (cond b (CountRaised n) (CountRead n)) v w) (eq-eqb n c.args.tried hit) c.compare_exchange.ensures.2.1)

pub returns-clause-missed : goal.returns-clause-missed
returns-clause-missed g c miss =
    let n = c.compare_exchange.result in
    let v = c.args.seat.now.me.0 in
    let w = c.compare_exchange.new.seat.me.0 in
    subst (λ (k : ℕ). Steps k (CountRead n) v w) (c.requires.place ∙ sym c.compare_exchange.ensures.1)
    (subst (λ (b : Bool). Steps g.K.Asking.seat (cond b (CountRaised n) (CountRead n)) v w) (ne_eqb n c.args.tried miss) c.compare_exchange.ensures.2.1)
