-- The words and lemmas from elsewhere that the proofs of this crate share.
pub use Rattle.atomic_table.proofs.Lists.{at_longer, exchanged, set_else, set_here}
pub use Rattle.atomic_table.specs.Table.{Allows, Joins, Me, Splits, State, Valid, carried_after, keeps, opening, step, stepped}
pub use Rattle.std.proofs.Common.{Bool, List, None, Option, Some, [], ap, append-nil, append_assoc, arith, cond, eq-eqb, false, get_or}
pub use Rattle.std.proofs.Common.{get_or-set_same, inl, inr, le_refl, length, length-append, length-set, map, ne_eqb, refl, rules, set}
pub use Rattle.std.proofs.Common.{subst, sym, take, true, ℕ, ◌++◌, ◌+◌, ◌-◌, ◌<◌, ◌==◌, ◌∙◌, ◌∷◌, ◌≡◌, ◌≢◌, ◌≤◌, ◌⊎◌}
pub use Rattle.std.proofs.Math.Seq.{take-append_seam, take-length}
pub use Rattle.std.proofs.lemmas.Bool.{cases_eq, ltb-true}
pub use Rattle.std.proofs.lemmas.List.{length-take-le, map-append, set-get_or}
pub use Rattle.std.proofs.lemmas.List.Concat.{flat_map-append}
pub use Rattle.std.proofs.lemmas.List.Elements.{All-head, All-tail}
pub use Rattle.std.proofs.lemmas.List.Sums.{fold-append}
pub use Rattle.std.proofs.lemmas.Option.{none-some}
pub use Rattle.std.specs.List.{AllByRecursion, flat_map}
pub use Rattle.std.specs.Prelude.{All, Err, IfErr, IfOk, IsOk, IsSome, Ok, Result, nat_lt, slice_get, slice_index}
pub use Rattle.ucl_board.proofs.HistoryTheorems.{accepted_reply, board_words, game_after, match_valid, refused_reply, word_after}
pub use Rattle.ucl_board.proofs.HistoryTheorems.{beginnings, entry_known, may_attempt, versions}
pub use Rattle.ucl_log.proofs.Logs.{accesses_append, by_seat, enlisted_on, log_begins, number_more, shorter, taken_on}
pub use Rattle.ucl_board.proofs.HistoryTheorems.{begins_length, begins_more, begins_same, begins_through}
pub use Rattle.ucl_board.specs.Fixtures.{IsMatch}
pub use Rattle.ucl_board.specs.History.{IsLegal, MayFollow, attempted, board_of, entry_of, followed_by, match_after, reading_of}
pub use Rattle.ucl_board.specs.History.{sequential_reply}
pub use Rattle.ucl_log.specs.Log.{Access, AccessKind, CountRead, CountRaised, First, IsConsistentLog, ReadsCurrent, Log, LoggedStep, Look, Match, MayBeTaken}
pub use Rattle.ucl_log.specs.Log.{Second, Swap, TakenStep, Action, Whole, access, accesses_in, added_by, enlisted_by, history_of, logged_by}
pub use Rattle.ucl_log.specs.Log.{number_by, number_of, step_taken, taken_by}
pub use Rattle.ucl_board.specs.Words.{AreWords, max_version, version_of, word_at}
pub use Rattle.ucl_board.specs.declared.entry.Entry.{Entry}
pub use Rattle.ucl_board.specs.declared.reading.Reading.{Reading}
pub use Rattle.ucl_live_board.proofs.Alone.{seat_there, some_acts}
pub use Rattle.ucl_live_board.proofs.CallsBySteps.{Stays, adds_continue, hears, meets, sound_left, sound_second}
pub use Rattle.ucl_live_board.proofs.CallsBySteps.{stays_more, stays_none, takes_count, takes_none, takes_on}
pub use Rattle.ucl_live_board.proofs.Halves.{acts_some, half_acts}
pub use Rattle.ucl_live_board.proofs.InvariantIsKept.{joins_keep, notes_keep, opens_keep, place_below, seconds_keep, takes_step}
pub use Rattle.ucl_live_board.proofs.InvariantIsKept.{words_enlisted, words_entered, words_stay}
pub use Rattle.ucl_live_board.proofs.StepFacts.{Adds, GivesNumber, Goes, Sees, adds, at_is, enlisted, first_later, log_long, own_is, sees}
pub use Rattle.ucl_live_board.proofs.StepFacts.{since, sound, there_before}
pub use Rattle.ucl_live_board.specs.CallSteps.{CountsReporters, FoundEnlisted, steps_with}
pub use Rattle.ucl_live_board.specs.Passes.{AcceptedReport, Continues, IsSound, RefusedReport, SharedReading}
pub use Rattle.ucl_live_board.specs.Views.{Takes, count_of, first_pass, left_pass, new_pass, note_pass, second_pass, steps_of, told_pass}
pub use Rattle.ucl_live_board.specs.Views.{trail_of}
pub use Rattle.ucl_live_board.specs.declared.view.View.{View}
pub use Rattle.ucl_steps.proofs.Accesses.{clean_shows, collect_more, collect_none, collect_set, follows_append, follows_longer, follows_one}
pub use Rattle.ucl_steps.proofs.Accesses.{follows_wider, reading_whole, report_whole, unclean_try}
pub use Rattle.ucl_steps.proofs.Histories.{board_next, read_back}
pub use Rattle.ucl_steps.proofs.LocalStates.{checking, local_number, collecting, count_none, enlist_none, first_none, look_none, second_none}
pub use Rattle.ucl_steps.proofs.LogFacts.{calls_low, legal_steps, logs_facts, logs_legal, logs_sound}
pub use Rattle.ucl_steps.specs.LocalState.{LocalState, IsNextFor, IsNextOfProtocol, call_answered, call_asked, local_at, local_of}
pub use Rattle.ucl_steps.specs.LocalState.{entry_by, begun_index, initial_local, next_match, outcome, with_outcome, with_step, with_action}
pub use Rattle.ucl_steps.specs.LocalState.{CompletedCall}
pub use Rattle.ucl_steps.specs.Protocol.{Checking, Collecting, GoesOn, Holding, MayAsk, NoCall, Outcome, Pending, by_rules, collected}
pub use Rattle.ucl_steps.specs.Protocol.{report_reply}
pub use Rattle.ucl_steps.specs.Theorems.{IsReadFrom}
pub use Rattle.ucl_steps.specs.Trails.{Follows, IsClean, IsCollect, IsUnclean, ReadingAccesses, ReportAccesses, accesses_of, max_loads}
pub use Rattle.ucl_steps.specs.Trails.{max_tries}
pub use Rattle.ucl_steps.specs.declared.step.Call.{Call}
pub use Rattle.ucl_steps.specs.declared.trace.Reply.{Reply}
pub use Rattle.ucl_word.proofs.AcceptedEvents.{after_number}
pub use Rattle.ucl_word.proofs.Sequences.{at_either, may_begin, may_last}
pub use Rattle.ucl_word.proofs.Words.{word_packed}
pub use Rattle.ucl_word.specs.Layout.{IsWord, record_at, word_of}
pub use Rattle.ucl_word.specs.Record.{IsReporter}
pub use Rattle.ucl_word.specs.Rules.{after, refusal_of, reply_of}
pub use Rattle.ucl_word.specs.declared.event.Accepted.{Accepted}
pub use Rattle.ucl_word.specs.declared.event.EventCall.{EventCall}
pub use Rattle.ucl_word.specs.declared.record.MatchRecord.{MatchRecord}
pub use Rattle.ucl_word.specs.declared.refusal.Refusal.{Refusal}
pub use Rattle.ucl_word.specs.declared.refusal.Refusal.TheVariants.{Stale}
pub use Rattle.ucl_words.specs.CollectSteps.{Collects, FindsAgain, FindsAnother, Completes, IsBegun, IsHoldingFor, MayCollect, StaysIn}
pub use Rattle.ucl_words.specs.CollectSteps.{Walks}
pub use Rattle.ucl_words.specs.LaterState.{FindsEnlisted, JoinIsMonotone, LaterState, LaterStatesCompose, SplitIsMonotone}
pub use Rattle.ucl_words.specs.TableInvariants.{EnlistStep, EnlistedStep, ExchangeStep, FirstStep, LookStep, Occurs}
pub use Rattle.ucl_words.specs.TableInvariants.{SecondStep, Steps, TableInvariant, words_after}
pub use Rattle.ucl_words.specs.Theorems.{LaterBoardsExtend, NumbersRiseInTime}
pub use Rattle.ucl_words.specs.WordCalls.{CompletesCall, DoneAsBefore, EnlistTries, Enlisting, HasTrail, IsAnswered, IsConsistent}
pub use Rattle.ucl_words.specs.WordCalls.{ReadingSteps, ReportSteps}
pub use Rattle.ucl_words.specs.WordRecords.{WordEnlisted, WordFull, WordMet, WordReported, WordSplit}
pub use Rattle.ucl_words.specs.WordViews.{WordPass, pass_of, pass_view_of, version_in, versions_by, versions_shown}
pub use lib.ListN.{get_elem?}
pub use mathlib.Core.List.{IsPrefix}
pub use mathlib.Core.Option.{some, some-injective}
pub use prog.Atomic.{either}
