-- The words and lemmas from elsewhere that the proofs of this crate share.
pub use Rattle.std.proofs.Common.{Bool, List, None, Option, Some, [], add-zero, ap, arith, codes, cond, drop, eq-eqb, false}
pub use Rattle.std.proofs.Common.{get_or, inl, inr, le_refl, length, length-append, length-take-le, map, min, ne_eqb, refl, rules}
pub use Rattle.std.proofs.Common.{slice_get, subst, suc, sym, take, take_all, true, true≢false, zero, ℕ, ⊎_elim, ◌++◌, ◌+◌, ◌-◌, ◌<◌, ◌==◌}
pub use Rattle.std.proofs.Common.{◌^◌, ◌∙◌, ◌∷◌, ◌≡◌, ◌≢◌, ◌≤◌, ◌⊎◌}
pub use Rattle.std.proofs.Math.Seq.{take-append_seam, take-length}
pub use Rattle.std.proofs.lemmas.Bool.{cases_eq, cases_lt, cases_order, cond_both, false≢true}
pub use Rattle.std.proofs.lemmas.List.{drop_all, map_push, nil_from_length, same_from_push, take-append-drop}
pub use Rattle.std.proofs.lemmas.List.Elements.{All-get_or, All-more, All-pop, All-push}
pub use Rattle.std.proofs.lemmas.Option.{get_or_from_slice_get, none-some, same_Some}
pub use Rattle.std.proofs.lemmas.Result.{err_from_is_err_and}
pub use Rattle.std.specs.Io.KnownBytes.{Appends}
pub use Rattle.std.specs.Prelude.{All, Err, IfErr, IfSome, Ok, OnOk, Result, if◌then◌else◌, option_map, string_bytes, ⊤}
pub use Rattle.std.specs.Result.{is_ok}
pub use Rattle.ucl_board.proofs.HistoryTheorems.{at_beginning, at_within, begins_length, begins_take, begins_through, board_words}
pub use Rattle.ucl_board.proofs.HistoryTheorems.{entries_else, entries_same, legal_take, take_beginning}
pub use Rattle.ucl_board.specs.Fixtures.{match_numbers}
pub use Rattle.ucl_board.specs.History.{Attempt, IsLegal, accepted_of, after_attempt, attempted, entries_of, entry_of}
unfoldable pub use Rattle.ucl_board.specs.History.{board_of}
pub use Rattle.ucl_board.specs.History.{followed_by, sequential_reply, snapshot_at}
pub use Rattle.ucl_board.specs.declared.entry.Entry.{Entry}
pub use Rattle.ucl_board.specs.declared.reading.Reading.{Reading}
pub use Rattle.ucl_board.specs.declared.night_event.NightEvent.{NightEvent}
pub use Rattle.ucl_live_board.specs.Passes.{Continues, IsReadingOf, IsSound, PassView, SharedReading, entries_by, kept_pass, split_pass}
pub use Rattle.ucl_order.specs.declared.profile.Profile.{Profile}
pub use Rattle.ucl_rows.specs.Run.{IsStopped, TextHas}
pub use Rattle.ucl_rows.specs.declared.fault.RunFault.{RunFault}
pub use Rattle.ucl_rows.specs.declared.fault.RunFault.TheVariants.{Input, NotOnDuty, OutOfMemory, WriteFailed}
pub use Rattle.ucl_runs.specs.Feed.{IsFed, feed_text, line_of_event}
pub use Rattle.ucl_runs.specs.Nights.{ComesFirst, EachMatchHasOneReporter, FoundStrangers, HasEnteredAll, HasLinearizationPoint, HaveEntered}
pub use Rattle.ucl_runs.specs.Nights.{HasReported, HasShown, IsDutyTold, IsEnteredAt, IsFirstOffDuty, IsFresh, IsFreshOn, IsInterleaving}
pub use Rattle.ucl_runs.specs.Nights.{IsNightEnd, IsOfRow, IsOnDuty, IsOneOfTwo, IsRefusedAt, IsWhyNoNight, ScheduleDoesNotMatter}
pub use Rattle.ucl_runs.specs.Nights.{attempt_by, calls_of, last_shown, last_text, night_board, night_output, night_text, number_of_two}
pub use Rattle.ucl_runs.specs.Nights.{style_of}
pub use Rattle.ucl_runs.specs.Program.{IsFaultOfNight, IsOfScript, IsOutputOfNight, IsPlayed, IsRun, Streams, Task, feed_task}
pub use Rattle.ucl_runs.specs.Program.{night_task, show_task}
pub use Rattle.ucl_runs.specs.Show.{IsShown, Style, styled, styled_screen}
pub use Rattle.ucl_screen.proofs.EventsInTurn.{AreEntered, entered-all, entered-one, first-event, version-bound}
pub use Rattle.ucl_screen.specs.Parsing.{MeansNight, MeansSheet, night_seen, sheet_seen}
pub use Rattle.ucl_screen.specs.Screen.{screen_text}
pub use Rattle.ucl_screen.specs.Script.{Script}
pub use Rattle.ucl_word.proofs.Sequences.{at_below, at_either, at_end, get_some, take_one}
pub use Rattle.ucl_word.specs.Counts.{MatchEntry, counted_match}
pub use Rattle.ucl_word.specs.Layout.{word_of}
pub use Rattle.ucl_word.specs.Rules.{reply_of}
pub use Rattle.ucl_word.specs.declared.event.Accepted.{Accepted}
pub use Rattle.ucl_word.specs.declared.event.EventCall.{EventCall}
pub use Rattle.ucl_word.specs.declared.refusal.Refusal.{Refusal}
pub use mathlib.Core.List.{IsPrefix}
