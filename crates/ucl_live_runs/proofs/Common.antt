-- The words and lemmas from elsewhere that the proofs of this crate share.
pub use Rattle.json.specs.Print.{quoted}
unfoldable pub use Rattle.json.specs.Print.{escape_byte}
pub use Rattle.serde_json.specs.Data.{Data}
pub use Rattle.serde_json.specs.Written.{compact_text}
pub use Rattle.std.proofs.Common.{Bool, List, None, Option, Some, [], ap, append-nil, append_assoc, ap₂, arith, codes, false, get_or, inl}
pub use Rattle.std.proofs.Common.{inr, le-leb, leb-true, length, length-append, min, refl, rules, subst, suc, sym, take, take-append-drop}
pub use Rattle.std.proofs.Common.{true, ℕ, ◌&&◌, ◌++◌, ◌+◌, ◌-◌, ◌/◌, ◌<◌, ◌==◌, ◌^◌, ◌∙◌, ◌∷◌, ◌≡◌, ◌≤◌, ◌⊎◌}
pub use Rattle.std.proofs.lemmas.Bool.{and_from, and_parts, both_ways, cases_Bool, cases_lt, cond_both, eq-eqb, eqb-true, lt-leb}
pub use Rattle.std.proofs.lemmas.Bool.Decides.{nat_tests}
pub use Rattle.std.proofs.lemmas.Grind.{flat_map-append}
pub use Rattle.std.proofs.lemmas.List.{append_cancel_left, append_cancel_right, length-map, length-set, length-take, map-append}
pub use Rattle.std.proofs.lemmas.List.{nil_from_length, take-append-le, take_all, take_more}
pub use Rattle.std.proofs.lemmas.List.Elements.{All-append, All-cons, All-contains, All-contains_itself, All-drop, All-get_or, All-head}
pub use Rattle.std.proofs.lemmas.List.Elements.{All-map, All-nil, All-push, All-set, All-tail, All-take, All-weaker, Contains-append_cases}
pub use Rattle.std.proofs.lemmas.List.Elements.{Contains-append_left, Contains-append_right}
pub use Rattle.std.proofs.lemmas.List.Sums.{fold-append}
pub use Rattle.std.proofs.lemmas.Option.{cond_some, same_Some}
pub use Rattle.std.proofs.lemmas.Result.{err_from_is_err_and}
pub use Rattle.std.specs.List.{Contains, fold, list_all}
pub use Rattle.std.specs.Prelude.{All, Err, IfSome, Ok, Result, flat_map, if◌then◌else◌, map, nat_le, option_to_list, unwrap_or, ⊤, ◌≢◌}
pub use Rattle.std.specs.Result.{is_ok}
pub use Rattle.ucl_board.proofs.HistoryTheorems.{attempt_board, attempts_from, board_words, game_after, go_stale, read_again}
pub use Rattle.ucl_board.specs.Fixtures.{IsMatch}
pub use Rattle.ucl_board.specs.History.{Attempt, IsAttempt, IsLegal, MayFollow, after_attempt, board_after, board_of, sequential_reply}
pub use Rattle.ucl_board.specs.Words.{AreWords, game_at, read_words, version_of, word_at}
pub use Rattle.ucl_board.specs.declared.entry.Entry.{Entry}
pub use Rattle.ucl_board.specs.declared.night_event.NightEvent.{NightEvent}
pub use Rattle.ucl_command.specs.declared.follow.FollowArgs.{FollowArgs}
pub use Rattle.ucl_command.specs.declared.live.LiveArgs.{LiveArgs}
pub use Rattle.ucl_command.specs.declared.options.Format.{Format}
pub use Rattle.ucl_command.specs.declared.options.Format.TheVariants.{Json}
pub use Rattle.ucl_io.proofs.Cuts.{begun_append, begun_ended, begun_none, cut_at, ended_append, ended_line, ended_none, few_lines}
pub use Rattle.ucl_io.specs.Lines.{HasNoFeed, longer}
pub use Rattle.ucl_json.proofs.OneLine.{line_of_value, lines_then, no_lines, one_line}
unfoldable pub use Rattle.ucl_json.specs.BoardLines.{parse_board_line, parse_board_state}
pub use Rattle.ucl_json.specs.Lines.{AreLinesOfValues, json_line}
pub use Rattle.ucl_json.specs.Mended.{left_out_value, mend_refused_value, mended_value}
pub use Rattle.ucl_json.specs.Values.{bad_row_value, refused_by, refused_value, reply_value, words_value}
pub use Rattle.ucl_json.specs.declared.board_state.BoardState.{BoardState}
pub use Rattle.ucl_json.specs.declared.header.BoardHeader.{BoardHeader}
pub use Rattle.ucl_live_runs.specs.Follow.{IsBoardState, IsCarriedIn, IsFollowed, IsLatest, IsNoFall, IsNoNewer, IsOlder, IsRecord}
pub use Rattle.ucl_live_runs.specs.Follow.{IsShownLast, LeaveTheSame, RiseAbove, WasAccepted, after_line, after_shown, answer_lines}
pub use Rattle.ucl_live_runs.specs.Follow.{board_state_at, board_state_now, board_state_with, follow_text, is_later, is_newer, is_shown}
pub use Rattle.ucl_live_runs.specs.Follow.{line_output, shown_if, shown_of, shown_output, table_text, unseen}
pub use Rattle.ucl_live_runs.specs.LiveText.{Session, answer_at, answer_of, answer_said, event_answer, live_text, mend_answer, mended_stage}
pub use Rattle.ucl_live_runs.specs.LiveText.{missing_after, missing_now, moved, next, next_at, request_stage, screen_after, screen_if}
pub use Rattle.ucl_live_runs.specs.LiveText.{stage, start_of}
pub use Rattle.ucl_live_runs.specs.LiveTheorems.{answer_by_history, attempts_of, ended, line_by_history, reply_by_history, uncut_lines}
pub use Rattle.ucl_mends.specs.Mended.{entered, fate_of, has_row, history_in, kept_after, kept_by, left_by, row_number, standing_of}
pub use Rattle.ucl_live_runs.specs.Moments.{IsLegalAt, Showing, ShowsTheNewest, board_state_of_moment, mixture, moment, tables_text}
pub use Rattle.ucl_live_runs.specs.Moments.{text_if, two_kickoffs}
pub use Rattle.ucl_live_runs.specs.Mends.{board_in, clubs_after, edition_after, edition_reply, events_after, left_out_by, left_out_lines}
pub use Rattle.ucl_live_runs.specs.Mends.{mend_refused_answer, mended_answer, row_named}
pub use Rattle.ucl_live_runs.specs.Phases.{Reached, after_beginning, after_club, after_header, club_said, fault_row, missing, open_at}
pub use Rattle.ucl_live_runs.specs.Phases.{with_roster}
pub use Rattle.ucl_live_runs.specs.Requests.{asked_header, edition_by, event_or_mend, header_by, header_said, is_asked, is_group_row}
pub use Rattle.ucl_live_runs.specs.Requests.{is_mend, is_same_order, mend_by, mend_or_bad, request_of, shown_by, slot_in}
pub use Rattle.ucl_live_runs.specs.SessionRuns.{Closes, HasNoAnswer, HasNoEnd, IsRejected, NeedsMemory, RanOutOfMemory, after_bytes}
pub use Rattle.ucl_live_runs.specs.SessionRuns.{answers_to, end_of, missing_at, session_due, session_of}
pub use Rattle.ucl_live_runs.specs.declared.follower.FollowState.{FollowState}
pub use Rattle.ucl_live_runs.specs.declared.live_fault.LiveFault.{LiveFault}
pub use Rattle.ucl_live_runs.specs.declared.live_fault.LiveFault.TheVariants.{OtherGroup, Run}
pub use Rattle.ucl_mends.specs.declared.mend_refusal.MendRefusal.{MendRefusal}
pub use Rattle.ucl_live_runs.specs.declared.phase.Phase.TheVariants.{AwaitingClubs, AwaitingHeader, Open}
pub use Rattle.ucl_live_runs.specs.declared.request.Mend.{Mend}
pub use Rattle.ucl_live_runs.specs.declared.request.Mend.TheVariants.{As, Club, Without}
pub use Rattle.ucl_live_runs.specs.declared.request.Request.{Request}
pub use Rattle.ucl_live_runs.specs.declared.request.Request.TheVariants.{Bad, Event, Matches, Mends, Screen, Words}
pub use Rattle.ucl_mends.specs.declared.standing.Fate.{Fate}
pub use Rattle.ucl_mends.specs.declared.standing.Fate.TheVariants.{Kept, Refused}
pub use Rattle.ucl_mends.specs.declared.standing.LeftOut.{LeftOut}
pub use Rattle.ucl_mends.specs.declared.standing.StandingEvent.{StandingEvent}
pub use Rattle.ucl_order.specs.Names.{profile_name, profile_named}
pub use Rattle.ucl_order.specs.Roster.{IsClub, IsRoster, NamedClub, bad_slot, club_lent, is_name, is_printed, named}
pub use Rattle.ucl_order.specs.declared.profile.Profile.{Profile}
pub use Rattle.ucl_order.specs.declared.profile.Profile.TheVariants.{AwayInTie, Uefa}
pub use Rattle.ucl_rows.specs.Answers.{bad_answer, matches_answer, reply_answer, screen_answer, words_answer}
pub use Rattle.ucl_rows.specs.BadRows.{bad_field, field_name, shown_text}
pub use Rattle.ucl_rows.specs.InputLines.{last_lines, lines_of}
pub use Rattle.ucl_rows.specs.Rows.{Nothing, Other, Row, Said, fits, said_on}
pub use Rattle.ucl_rows.specs.declared.fault.RunFault.{RunFault}
pub use Rattle.ucl_rows.specs.declared.fault.RunFault.TheVariants.{Input, OutOfMemory}
pub use Rattle.ucl_screen.specs.Events.{attempt_of, event_of, ◌>>=◌}
pub use Rattle.ucl_screen.specs.Numbers.{in_range}
pub use Rattle.ucl_screen.specs.Rows.{FourFields}
pub use Rattle.ucl_screen.specs.Screen.{IsGroup, in_play, letter_in}
pub use Rattle.ucl_word.proofs.Sequences.{may_none}
pub use Rattle.ucl_word.proofs.ValidRecords.{number_valid}
pub use Rattle.ucl_word.proofs.Words.{word_high, word_valid}
pub use Rattle.ucl_word.specs.Layout.{IsWord, record_at}
pub use Rattle.ucl_word.specs.Names.{found_of, kind_named, refusal_code, refusal_name}
pub use Rattle.ucl_word.specs.Record.{IsReporter, IsValid}
pub use Rattle.ucl_word.specs.Rules.{after, answer}
pub use Rattle.ucl_word.specs.declared.event.Accepted.{Accepted}
pub use Rattle.ucl_word.specs.declared.event.Kind.{Kind}
pub use Rattle.ucl_word.specs.declared.record.MatchRecord.{MatchRecord}
pub use Rattle.ucl_word.specs.declared.refusal.Refusal.{Refusal}
unfoldable pub use Rattle.serde_json.proofs.OnLiterals.{serde_json_on_literals}
unfoldable pub use Rattle.ucl_io.specs.Lines.{begun_line, ended_lines}
unfoldable pub use Rattle.ucl_json.specs.Values.{edition_screen_value, matches_value}
unfoldable pub use Rattle.ucl_live_runs.specs.Follow.{AnswersFitTheirLines, AnswersNeverFall, FollowersEndWithTheBoard, HasRepeats}
unfoldable pub use Rattle.ucl_live_runs.specs.Follow.{LatestIsShownLast, NeverFall, OthersDoNotMatter, RepeatedRowsChangeNothing}
unfoldable pub use Rattle.ucl_live_runs.specs.Follow.{ShownVersionsRise, board_states_shown, follow_outputs, followed}
unfoldable pub use Rattle.ucl_live_runs.specs.Moments.{EveryTableIsOneMoment, MixturesAreRefused, OlderMomentsAreRefused, RunsShowMoments}
unfoldable pub use Rattle.ucl_live_runs.specs.Moments.{SessionsShowMoments, answers_with_tables}
unfoldable pub use Rattle.ucl_live_runs.specs.LiveText.{after_lines, answers}
unfoldable pub use Rattle.ucl_live_runs.specs.LiveTheorems.{BeginningsAreAnswered, BoardsTakeEvents, JsonAnswersAreLines, LinesAreReadWhole}
unfoldable pub use Rattle.ucl_live_runs.specs.LiveTheorems.{MendsAreDone, NoneMends, RefusedSessionsAreSilent, RepliesAreThoseOfFeed}
unfoldable pub use Rattle.ucl_live_runs.specs.LiveTheorems.{SessionsAreSequential, answers_by_history, attempts_in, events_in, uncut_after}
unfoldable pub use Rattle.ucl_live_runs.specs.Requests.{asked_by}
unfoldable pub use Rattle.ucl_order.specs.Roster.{bad_slot_from, is_club}
unfoldable pub use Rattle.ucl_rows.specs.BadRows.{printed}
unfoldable pub use Rattle.ucl_rows.specs.Rows.{said_by_text}
unfoldable pub use Rattle.ucl_word.specs.Rules.{refusal_of}
