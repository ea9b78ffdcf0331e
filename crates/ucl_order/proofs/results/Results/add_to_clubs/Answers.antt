use Rattle.ucl_order.proofs.Common.{ap, arith, with_match, ◌∙◌, ◌≢◌}
use Rattle.ucl_order.proofs.LevelMatches.{clubs_more, second_within, within_two}
use Rattle.ucl_order.proofs.results.Results.add_to_clubs.Goals as goal

pub returns-clause-value : goal.returns-clause-value
returns-clause-value c ms is =
    clubs_more ms c.args.game.now _ _ c.args.results.now c.from.result c.from-2.result _ _ c.requires.pairing is
    c.from.ensures (c.add.ensures.value ∙ ap (with_match _) c.seen_from_home.ensures) c.from-2.ensures (c.add-2.ensures.value ∙ ap (with_match _) c.seen_from_away.ensures)

pub returns-clause-within : goal.returns-clause-within
returns-clause-within c n all =
    let apart : c.from-2.result ≢ c.from.result = (λ e. c.requires.pairing.2 (omega arith)) in
    within_two n c.args.results.now c.from.result c.from-2.result _ _ all (c.add.ensures.within n (all c.from.result _ (omega arith)))
    (c.add-2.ensures.within n (second_within n c.args.results.now c.from.result c.from-2.result _ _ apart all (omega arith)))
