use Rattle.ucl_order.proofs.Common.{among, overall_key, slots_in, started_of, tie_key}
use Rattle.ucl_order.proofs.KeysFit.{coefficient_fits, words_valid, higher_greater, overall_ranks, tie_ranks}
use Rattle.ucl_order.proofs.Limits.{fits_among, fits_group, group_started}
use Rattle.ucl_order.proofs.theorems.higher_has_greater_key.Goals as goal

pub returns : goal.returns
unfolding overall_key tie_key
returns c profile board roster a b words is_roster is_a is_b =
    let ms = started_of board in
    let group = group_started board (words_valid board words) in record {
      by_all = higher_greater _ _ _ (overall_ranks ms roster a b is_a is_b (coefficient_fits roster a is_roster is_a) (coefficient_fits roster b is_roster is_b)
          (fits_group ms group a is_a) (fits_group ms group b is_b));
      among_some = λ clubs. higher_greater _ _ _
          (tie_ranks profile (among (slots_in clubs) ms) a b (fits_among ms group (slots_in clubs) a is_a) (fits_among ms group (slots_in clubs) b is_b));
    }
