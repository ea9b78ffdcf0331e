-- The words and lemmas from elsewhere that the proofs of this crate share.
pub use Rattle.atomic_table.proofs.Lists.{at_set, set_else, set_here}
pub use Rattle.std.proofs.Common.{Bool, List, [], ap, append-nil, append_assoc, arith, cond, eq-eqb, false, inl, inr, le_refl, length, length-append}
pub use Rattle.std.proofs.Common.{length-set, length-take-le, map, nat_lt, ne_eqb, refl, set, subst, suc, sym, take, true, true≢false, zero, ℕ, ⊎_elim, ◌++◌}
pub use Rattle.std.proofs.Common.{◌+◌, ◌<◌, ◌==◌, ◌∙◌, ◌∷◌, ◌≡◌, ◌≢◌, ◌≤◌, ◌⊎◌}
pub use Rattle.std.proofs.lemmas.Bool.{eqb-true, ltb-true}
pub use Rattle.std.proofs.lemmas.List.{nil_from_length}
pub use Rattle.std.proofs.lemmas.List.Elements.{All-append, All-cons, All-head, All-nil, All-tail, filter-append}
pub use Rattle.std.specs.Prelude.{All, IsSome, Option, IsTrue, None, Some, filter, not, ◌&&◌}
pub use Rattle.ucl_board.proofs.HistoryTheorems.{begins_length, begins_more, begins_none, begins_same, begins_take, begins_through}
pub use Rattle.ucl_board.specs.History.{IsLegal, MayFollow, followed_by}
pub use Rattle.ucl_log.specs.Log.{CountRaised, IsLegalRule, IsConsistentLog, ReadsCurrent, Log, LoggedStep, MayBeTaken, TakenStep, Action, added_by, enlisted_by}
pub use Rattle.ucl_log.specs.Log.{enlists, entry_list, history_of, logged_by, number_by, number_of, step_taken, taken_by}
pub use Rattle.ucl_board.specs.Words.{max_version}
pub use Rattle.ucl_board.specs.declared.entry.Entry.{Entry}
pub use Rattle.ucl_live_board.specs.BoardInvariant.{BoardsOpenFresh, DidAllAlone, ViewInvariant, HoldersDidAll, IsHeld, BoardInvariant, LastStepsSeeAll, Covers}
pub use Rattle.ucl_live_board.specs.BoardInvariant.{NumbersAreApart, StepsComeLast, WholeIsAlone}
pub use Rattle.ucl_live_board.specs.Passes.{Continues, IsSound, Meeting, PassView, SeesOn, SharedReading, entries_by}
pub use Rattle.ucl_live_board.specs.Shares.{Overlap, Share, first_half, half_of, second_half, whole}
pub use Rattle.ucl_live_board.specs.Steps.{BoardStep, stepped_to}
pub use Rattle.ucl_live_board.specs.Views.{Takes, count_of, first_pass, left_pass, new_pass, note_pass, pass_view_by, second_pass, told_pass}
pub use Rattle.ucl_live_board.specs.declared.view.View.{View}
pub use Rattle.ucl_word.proofs.Sequences.{may_induction, may_none}
pub use lib.ListN.{get_elem?}
pub use mathlib.Core.List.{IsPrefix}
pub use mathlib.Core.Logic.{dite}
pub use mathlib.Core.Option.{some, some-injective, some-ne-none}
pub use native.Mathlib.Decide.{ℕ_discrete}
