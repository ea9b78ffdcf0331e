use Rattle.ucl_words.proofs.Common.{ℕ, sym, ◌∙◌, subst, arith, Steps, Match, Swap}
use Rattle.ucl_words.proofs.Steps.{swaps}
use Rattle.ucl_words.proofs.board.WordBoard.swap.Goals as goal

pub compare_exchange_with-requires : goal.compare_exchange_with-requires
compare_exchange_with-requires g c =
    let range = c.get.ensures.within in
    let slots : ℕ = c.self.inside.table.shared.table_id.slots in
    let seat = c.args.seat.now in
    let next = c.requires.next in
    search (arith, swaps slots seat.id _ _ seat.me next.e c.args.entry c.args.loaded c.args.next c.requires.place c.requires.acts next.holds next.of)

pub returns-clause-swaps : goal.returns-clause-swaps
returns-clause-swaps g c =
    let v = c.args.seat.now.me.0 in
    let w = c.compare_exchange_with.new.seat.me.0 in
    subst (λ (k : ℕ). Steps k (Match Swap c.args.entry.game c.compare_exchange_with.result) v w) (c.requires.place ∙ sym c.compare_exchange_with.ensures.1)
    (subst (λ (game : ℕ). Steps g.K.Asking.seat (Match Swap game c.compare_exchange_with.result) v w) (c.from-word.ensures ∙ c.get.ensures.value) c.compare_exchange_with.ensures.2)
