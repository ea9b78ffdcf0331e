-- The words and lemmas from elsewhere that the proofs of this crate share.
pub use Rattle.std.proofs.Common.{All, Bool, Contains, Equal, Greater, Less, List, None, Option, Ordering, Some, [], ap, append-nil, arith}
pub use Rattle.std.proofs.Common.{cond, count_by, eq-eqb, eqb-true, false, filter, flat_map, get_or, if◌then◌else◌, inl, inr, length, map}
pub use Rattle.std.proofs.Common.{length-append}
pub use Rattle.std.proofs.Common.{nat_le, nat_lt, ne_eqb, not, pos, refl, reverse, rules, set, slice_index, slice_index_or, subst, suc}
pub use Rattle.std.proofs.Common.{sum_by, sym, take, true, true≢false, zero, ℕ, ◌%◌, ◌&&◌, ◌*◌, ◌++◌, ◌+◌, ◌-ℤ◌, ◌-◌, ◌<ℤ◌, ◌<◌, ◌==◌, ◌^◌}
pub use Rattle.std.proofs.Common.{◌||◌, ◌∙◌, ◌∷◌, ◌≡◌, ◌≢◌, ◌≤◌, ◌⊎◌}
pub use Rattle.std.proofs.Math.Bool.{and-true}
pub use Rattle.std.proofs.Math.Path.{fun_ext}
pub use Rattle.std.proofs.lemmas.Bool.{and_parts, and_right, cases_Bool, cases_eq, cases_lt, false_from_ne_true, le-leb, le-ltb}
pub use Rattle.std.proofs.lemmas.Bool.{leb-true, true_from_ne_false}
pub use Rattle.std.proofs.lemmas.Bool.Decides.{Decides-eqb, nat_tests}
pub use Rattle.std.proofs.lemmas.Cmp.{alike_right, back_total, int_cmp_total, int_ranked, nat_cmp_total, nat_eq_equiv, on_total}
pub use Rattle.std.proofs.lemmas.Cmp.{then_total, tied_itself}
pub use Rattle.std.proofs.lemmas.Int.{ints}
pub use Rattle.std.proofs.lemmas.List.{get_or-map, get_or-reverse, get_or-set_other, get_or_default, length-map, length-set, length_push}
pub use Rattle.std.proofs.lemmas.List.{map-append, map-set, take_more}
pub use Rattle.std.proofs.lemmas.List.Elements.{All-append, All-cons, All-contains, All-contains_itself, All-filter, All-get_or, All-head}
pub use Rattle.std.proofs.lemmas.List.Elements.{All-map, All-nil, All-push, All-same, All-set, All-tail, All-weaker, filter-append}
pub use Rattle.std.proofs.lemmas.List.Elements.{filter_agree, filter_map-append, filter_passes}
pub use Rattle.std.proofs.lemmas.List.Folds.{list_any_at}
pub use Rattle.std.proofs.lemmas.List.Kept.{AllPairs-cons, AllPairs-filter}
pub use Rattle.std.proofs.lemmas.List.Sorted.{All-permutation, Contains-permutation, IsNonDecreasingBy-from_sort, IsPermutation-append}
pub use Rattle.std.proofs.lemmas.List.Sorted.{IsPermutation-append_right}
pub use Rattle.std.proofs.lemmas.List.Sorted.{IsPermutation-cons, IsPermutation-map, IsPermutation-middle, IsPermutation-refl}
pub use Rattle.std.proofs.lemmas.List.Sorted.{IsPermutation-reverse, IsPermutation-sym, IsPermutation-trans, length_permutation}
pub use Rattle.std.proofs.lemmas.List.Sorted.{sum_by-IsPermutation}
pub use Rattle.std.proofs.lemmas.List.Sums.{count_by-le-length, length-filter, sum_by-append, sum_by-cons, sum_by-le, sum_by-le-sum_by}
pub use Rattle.std.proofs.lemmas.List.Sums.{sum_by-remove, sum_by_push}
pub use Rattle.std.proofs.lemmas.Map.Keys.{IsDistinct-IsPermutation}
pub use Rattle.std.proofs.lemmas.Map.Made.{AllPairs-from_IsDistinct, IsDistinct-from_AllPairs}
pub use Rattle.std.proofs.lemmas.Map.Views.{Contains-from_any, any-filter_same, list_any-from_Contains}
pub use Rattle.std.specs.Cmp.{IsTotalOrder}
pub use Rattle.std.specs.List.{AllPairs, cons_option, list_all, remove}
pub use Rattle.std.specs.List.Sorted.{IsNonDecreasing, IsPermutation}
pub use Rattle.std.specs.Ordering.{int_cmp, is_eq, is_gt, nat_cmp, ordering_reverse, ordering_then}
pub use Rattle.std.specs.Prelude.{◌↔◌}
pub use Rattle.ucl_board.proofs.HistoryTheorems.{each_match, each_slot, number_listed}
pub use Rattle.ucl_board.specs.Fixtures.{IsMatch, IsSlot, fixture_of, match_numbers}
pub use Rattle.ucl_board.specs.Words.{AreWords, game_at}
pub use Rattle.ucl_order.specs.Counting.{AreOfGroup, FitsFields, HasSixEach, IsWithin, row_by, with_match}
pub use Rattle.ucl_order.specs.Keys.{HasRoom, overall_of, tie_number, triple_number}
unfoldable pub use Rattle.ucl_order.specs.Keys.{overall_key, slots_in, tie_key}
pub use Rattle.ucl_order.specs.Marks.{GoesThrough, IsCompletion, early_mark, final_mark, mark_by, out_of_reach, reach, rivals, sure_points}
unfoldable pub use Rattle.ucl_order.specs.Marks.{mark_of}
pub use Rattle.ucl_order.specs.Matches.{HasScore, IsPairing, IsScore, disciplinary_points, under_way, is_under_way, finished}
pub use Rattle.ucl_order.specs.Matches.{has_finished, has_started, is_drawn}
pub use Rattle.ucl_order.specs.Matches.{is_lost, is_won, match_at, score_of, seen_by, seen_from_away, seen_from_home, started, started_of}
pub use Rattle.ucl_order.specs.Matches.{unfinished}
unfoldable pub use Rattle.ucl_order.specs.Matches.{matches_of}
pub use Rattle.ucl_order.specs.Order.{Ranking, above, all_clubs, among, by_points, by_profile, by_triple, class_below, head_to_head, is_in}
pub use Rattle.ucl_order.specs.Order.{is_one_class, overall, settled, settled_within, split}
unfoldable pub use Rattle.ucl_order.specs.Order.{order_of}
pub use Rattle.ucl_order.specs.Results.{appearances, away_goals, away_matches, away_wins, difference, discipline, draws, goals_against}
pub use Rattle.ucl_order.specs.Results.{goals_for, losses, played, points, results_of, wins}
unfoldable pub use Rattle.ucl_order.specs.Results.{totals}
pub use Rattle.ucl_order.specs.Roster.{IsClub, IsRoster, NamedClub, bad_slot, club_lent, club_seen, coefficient_of, coefficients_in}
pub use Rattle.ucl_order.specs.Roster.{is_name, member_seen, members_seen}
unfoldable pub use Rattle.ucl_order.specs.Roster.{bad_slot_from, is_club}
pub use Rattle.ucl_order.specs.Rounds.{AreLast, counted, is_level, key_at, results_of_clubs, tied_results}
unfoldable pub use Rattle.ucl_order.specs.Rounds.{clubs_below, keys_after, next_key, next_keys, tied_pairs, tied_with}
pub use Rattle.ucl_order.specs.Rows.{IsWithinTable, MarkIsCertain, row_with, rows_of}
unfoldable pub use Rattle.ucl_order.specs.Rows.{row_of}
pub use Rattle.ucl_order.specs.Standing.{ComesBefore, IsAbove, StandsAbove, head_to_head_higher, higher_in_class, higher_in_tie, level_with}
pub use Rattle.ucl_order.specs.Standing.{overall_higher, points_higher}
pub use Rattle.ucl_order.specs.Theorems.{AreSplit, TableGoesByCoefficients}
pub use Rattle.ucl_order.specs.declared.game.Appearance.{Appearance}
pub use Rattle.ucl_order.specs.declared.game.Match.{Match}
pub use Rattle.ucl_order.specs.declared.mark.Mark.{Mark}
pub use Rattle.ucl_order.specs.declared.mark.Mark.TheVariants.{Blank, Minus, Plus}
pub use Rattle.ucl_order.specs.declared.profile.Profile.{Profile}
pub use Rattle.ucl_order.specs.declared.profile.Profile.TheVariants.{AwayInTie, Uefa}
pub use Rattle.ucl_order.specs.declared.results.Results.{Results}
pub use Rattle.ucl_order.specs.declared.roster.LentClub.{LentClub}
pub use Rattle.ucl_order.specs.declared.roster.Member.{Member}
pub use Rattle.ucl_order.specs.declared.table.Row.{Row}
pub use Rattle.ucl_word.proofs.ValidRecords.{away_expulsions_valid, away_goals_valid, away_yellows_valid, home_expulsions_valid}
pub use Rattle.ucl_word.proofs.ValidRecords.{home_goals_valid, home_yellows_valid}
pub use Rattle.ucl_word.proofs.Words.{word_valid}
pub use Rattle.ucl_word.specs.Record.{IsValid}
pub use Rattle.ucl_word.specs.Rules.{is_finished}
pub use Rattle.ucl_word.specs.declared.record.MatchRecord.{MatchRecord}
pub use Rattle.ucl_word.specs.declared.record.State.{State}
pub use Rattle.ucl_word.specs.declared.record.State.TheVariants.{Finished}
pub use native.Mathlib.Numerals.{unary_clauses}
