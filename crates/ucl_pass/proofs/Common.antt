-- The words and lemmas from elsewhere that the proofs of this crate share.
pub use Rattle.atomic_table.specs.Seated.{TableId}
pub use Rattle.crossbeam_utils.specs.Register.{Forks, Merges, Turns}
pub use Rattle.crossbeam_utils.specs.Seq.{cell_view}
pub use Rattle.std.proofs.Common.{List, [], ap, arith, false, if◌then◌else◌, inl, inr, le_refl, length, length-append, nat_eq, refl, rules, set, subst, sym}
pub use Rattle.std.proofs.Common.{take, true, true≢false, ℕ, ◌++◌, ◌+◌, ◌<◌, ◌∙◌, ◌∷◌, ◌≡◌, ◌≢◌, ◌≤◌}
pub use Rattle.std.proofs.lemmas.List.{take_all}
pub use Rattle.std.specs.Prelude.{Bool, Err, IsSome, None, Option, Some, MatchResult, Ok, Result, is_ok, slice_index}
pub use Rattle.ucl_board.proofs.HistoryTheorems.{begins_length, begins_through, board_words, one_word, versions}
pub use Rattle.ucl_board.specs.History.{IsLegal, board_of, entry_of, followed_by, reading_of, sequential_reply}
pub use Rattle.ucl_log.specs.Log.{IsLegalStep, TakenStep, Action, enlisted_by, history_of, number_of, taken_by}
pub use Rattle.ucl_board.specs.Words.{AreWords, version_of}
pub use Rattle.ucl_board.specs.declared.entry.Entry.{Entry}
pub use Rattle.ucl_pass.specs.CellRecords.{CellEnlisted, CellFull, CellMet, CellPass, CellRead, CellReported, cell_pass_of}
pub use Rattle.ucl_pass.specs.CellInvariants.{CellInvariant, IsUpToDate, cell_pass_view, shown_after, versions_loaded, words_after}
pub use Rattle.ucl_pass.specs.CellSteps.{CellStep, Exchanges, IsNextBoard, LooksAndShows, LooksOnly, MayStore, StoresEvent, StoresReporter, entry_at}
pub use Rattle.ucl_pass.specs.CellSteps.{with_one_more}
pub use Rattle.ucl_live_board.proofs.CallsBySteps.{Stays, sound_left, sound_second, stays_more, stays_none, takes_count}
pub use Rattle.ucl_live_board.specs.Passes.{Continues, IsSound, SharedReading}
pub use Rattle.ucl_live_board.specs.Views.{Takes, count_of, first_pass, left_pass, new_pass, note_pass, second_pass, told_pass}
pub use Rattle.ucl_live_board.specs.declared.view.View.{View}
pub use Rattle.ucl_word.specs.declared.event.Accepted.{Accepted}
pub use Rattle.ucl_word.specs.declared.event.EventCall.{EventCall}
pub use Rattle.ucl_word.specs.declared.refusal.Refusal.{Refusal}
pub use lib.ListN.{get_elem?}
pub use mathlib.Core.Option.{some}
