-- The words and lemmas from elsewhere that the proofs of this crate share.
pub use Rattle.std.proofs.Common.{Bool, Err, List, None, Ok, Option, Some, [], add-one, ap, append-nil, append_assoc, arith, cond, drop, eq-eqb, false}
pub use Rattle.std.proofs.Common.{get_or, get_or-set_other, inl, inr, le_refl, length, length-append, length-take, map, nat_le, ne_eqb, refl, rules, set}
pub use Rattle.std.proofs.Common.{subst, suc, sym, take, true, zero, ℕ, ◌*◌, ◌++◌, ◌+◌, ◌-◌, ◌<◌, ◌==◌, ◌∙◌, ◌∷◌, ◌≡◌, ◌≢◌, ◌≤◌, ◌⊎◌}
pub use Rattle.std.proofs.Math.Seq.{take-append_seam, take-length}
pub use Rattle.std.proofs.lemmas.Bool.{and_parts, cases_eq, cases_lt, cases_order, eqb-false, eqb-true, false≢true, le-leb, leb-true, not-false}
pub use Rattle.std.proofs.lemmas.List.{ext_get_or, get_or_append_left, get_or_default, get_or_push, length-map, length-set, length-take-le, length_push}
pub use Rattle.std.proofs.lemmas.List.{map-append, map-set, take-append-drop, take-append-le, take-take, take_all, take_more_set}
pub use Rattle.std.proofs.lemmas.List.Elements.{All-append, All-cons, All-nil}
pub use Rattle.std.proofs.lemmas.Option.{cond_some, none-some, option_and_then_some, same_Some, slice_get-get_or, slice_get-map, slice_get_past}
pub use Rattle.std.specs.List.{AllByRecursion}
pub use Rattle.std.specs.Option.{option_and_then, option_map}
pub use Rattle.std.specs.Prelude.{All, IfSome, IsOk, IsSome, IsSomeAnd, replicate, slice_get, slice_index, slice_set, ◌↔◌}
pub use Rattle.ucl_board.proofs.HistoryTheorems.{at_beginning, begins_length, begins_same, get_back, take_beginning}
pub use Rattle.ucl_board.proofs.HistoryTheorems.{board_length, entries-append, entries_same, legal_match, match_valid, word_after}
pub use Rattle.ucl_board.proofs.HistoryTheorems.{legal_take, may_attempt, same_number, same_word, versions}
pub use Rattle.ucl_board.specs.Fixtures.{IsMatch}
pub use Rattle.ucl_board.specs.History.{IsLegal, MayFollow, attempted, board_of, entries_of, entry_of, match_after, reading_of, sequential_reply, snapshot_at}
pub use Rattle.ucl_log.specs.Log.{Access, AccessKind, access}
pub use Rattle.ucl_board.specs.Words.{AreWords, max_version, version_of, word_at}
pub use Rattle.ucl_board.specs.declared.entry.Entry.{Entry}
pub use Rattle.ucl_steps.specs.Theorems.{ReadingsAreSnapshots, ReportsAreSequential, RunsAreLinearizable, UncleanTriesAreFew}
pub use Rattle.ucl_steps.specs.Theorems.{UncleanTriesSeeMore, WordsAreOfTheHistory}
pub use Rattle.ucl_steps.specs.LocalState.{CompletedCall}
pub use Rattle.ucl_steps.specs.RunHistory.{caller_number}
pub use Rattle.ucl_steps.specs.Seen.{accepts}
pub use Rattle.ucl_steps.specs.Machine.{Answered, Callers, CallerState, Idle, MachineState, Wanting, Within, after_begin, after_end, after_outcome}
pub use Rattle.ucl_steps.specs.Machine.{after_reply, after_step, after_step_holding, after_steps, caller_of, change_at, held_at_begin, held_by, initial_state}
pub use Rattle.ucl_steps.specs.Machine.{may_begin, set_held, state_after_first, stored, with_end, with_held, with_reply}
pub use Rattle.ucl_steps.specs.Protocol.{Answers, Checking, Collecting, GoesOn, Pending, Holding, NoCall, Outcome, by_rules, second_outcome, first_outcome}
pub use Rattle.ucl_steps.specs.Protocol.{look_outcome, swap_outcome}
pub use Rattle.ucl_steps.specs.Running.{IsReachable, Takes, holds_of, state_of}
pub use Rattle.ucl_steps.specs.Trails.{Does, Follows, IsClean, IsCollect, IsFoundIn, IsUnclean, accesses_of}
pub use Rattle.ucl_steps.specs.declared.step.Call.{Call}
pub use Rattle.ucl_steps.specs.declared.step.Call.TheVariants.{Event, Reading}
pub use Rattle.ucl_steps.specs.declared.step.Caller.{Caller}
pub use Rattle.ucl_steps.specs.declared.step.Caller.TheVariants.{Reader, Reporter}
pub use Rattle.ucl_steps.specs.declared.step.Cast.{Cast}
pub use Rattle.ucl_steps.specs.declared.step.Step.{Step}
pub use Rattle.ucl_steps.specs.declared.step.Step.TheVariants.{Begin, End, First, Look, Second, Swap}
pub use Rattle.ucl_steps.specs.declared.trace.CallRecord.{CallRecord}
pub use Rattle.ucl_steps.specs.declared.trace.Reply.{Reply}
pub use Rattle.ucl_steps.specs.declared.trace.Reply.TheVariants.{Accepted, Copied, Refused}
pub use Rattle.ucl_word.proofs.Sequences.{at_below, at_either, at_end, at_longer, may_next, may_none}
pub use Rattle.ucl_word.specs.Layout.{IsWord, record_at, word_of}
pub use Rattle.ucl_word.specs.Record.{IsReporter}
pub use Rattle.ucl_word.specs.Rules.{after, answer, refusal_of, reply_of}
pub use Rattle.ucl_word.specs.declared.event.EventCall.{EventCall}
pub use Rattle.ucl_word.specs.declared.record.MatchRecord.{MatchRecord}
pub use Rattle.ucl_word.specs.declared.refusal.Refusal.{Refusal}
pub use Rattle.ucl_word.specs.declared.refusal.Refusal.TheVariants.{Stale}
pub use mathlib.Core.List.{IsPrefix}
