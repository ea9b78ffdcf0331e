use Rattle.ucl_order.proofs.Common.{All, FitsFields, finished, has_finished, has_started, matches_of, refl, started, subst, sym}
use Rattle.ucl_order.proofs.Limits.{group_filter, results_fit}
use Rattle.ucl_order.proofs.results.Results.of_clubs.Goals as goal

pub returns-clause-all : goal.returns-clause-all
returns-clause-all c =
    let ms = matches_of c.args.board.now in
    let is = c.of_states.ensures.value in
    rw (
      c.together.ensures 1 ms (rw is refl) (rw is refl),
      c.together-2.ensures 2 ms (rw is refl) (rw is refl),
      c.together-3.ensures 3 ms (rw is refl) (rw is refl),
      c.together-4.ensures 4 ms (rw is refl) (rw is refl),
    )

pub returns-clause-fits : goal.returns-clause-fits
returns-clause-fits c =
    let ms = matches_of c.args.board.now in
    subst (All FitsFields) (sym (returns-clause-all c)) (results_fit (started ms) (group_filter has_started ms c.of_states.ensures.group))

pub returns-clause-ended_fit : goal.returns-clause-ended_fit
returns-clause-ended_fit c =
    let ms = matches_of c.args.board.now in
    rw c.of_states.ensures.value (results_fit (finished ms) (group_filter has_finished ms c.of_states.ensures.group))
