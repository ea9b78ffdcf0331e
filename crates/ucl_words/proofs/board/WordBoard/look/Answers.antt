use Rattle.ucl_words.proofs.Common.{ℕ, ◌≤◌, ap, sym, ◌∙◌, subst, arith, EventCall, Steps, Match, Look}
use Rattle.ucl_words.proofs.Steps.{looks}
use Rattle.ucl_words.proofs.board.WordBoard.look.Goals as goal

pub load-requires : goal.load-requires
load-requires g c =
    let range = c.get.ensures.within in let a = range.0 in let b = range.1 in
    let word = c.from-word.ensures ∙ c.get.ensures.value in
    let is : (1 ≤ c.from-word.result) × (c.from-word.result ≤ 12) = (omega arith, omega arith) in
    let slots : ℕ = c.self.inside.table.shared.table_id.slots in
    let seat = c.args.seat.now in
    search (
      arith,
      looks slots seat.id c.from-word.result g.K.Asking.seat seat.me g.K.Asking.call c.requires.place c.requires.acts is
          (ap (λ (e : EventCall). e.game) c.requires.call ∙ sym word) c.requires.me c.requires.next,
    )

pub returns-clause-looks : goal.returns-clause-looks
returns-clause-looks g c =
    let v = c.args.seat.now.me.0 in
    let w = c.load.new.seat.me.0 in
    let n = c.load.result in
    let call = c.args.call.now in
    subst (λ (k : ℕ). Steps k (Match (Look call) call.game n) v w) (c.requires.place ∙ sym c.load.ensures.1)
    (subst (λ (game : ℕ). Steps g.K.Asking.seat (Match (Look call) game n) v w) (c.from-word.ensures ∙ c.get.ensures.value)
    (subst (λ (e : EventCall). Steps g.K.Asking.seat (Match (Look e) c.from-word.result n) v w) c.requires.call c.load.ensures.2))
