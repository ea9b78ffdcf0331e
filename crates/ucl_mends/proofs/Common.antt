-- The words and lemmas from elsewhere that the proofs of this crate share.
pub use Rattle.std.proofs.Common.{Bool, List, Option, [], ap, append-nil, append_assoc, arith, false, get_or, inl, inr, length}
pub use Rattle.std.proofs.Common.{length-append, ne_eqb, refl, set, subst, sym, take, true, ℕ, ◌++◌, ◌+◌, ◌<◌, ◌==◌, ◌∙◌, ◌∷◌, ◌≡◌, ◌≤◌}
pub use Rattle.std.proofs.lemmas.Bool.{cases_Bool, cases_eq}
pub use Rattle.std.proofs.lemmas.List.{append_cancel_left, drop-set-lt, drop_all, drop_more, length-map, length-set, map-append}
pub use Rattle.std.proofs.lemmas.List.{take_more_set}
pub use Rattle.std.proofs.lemmas.List.Elements.{All-cons, All-head, All-nil, All-tail, filter-append}
pub use Rattle.std.proofs.lemmas.List.Sums.{fold-append}
pub use Rattle.std.specs.List.{fold}
pub use Rattle.std.specs.Prelude.{All, Result, if◌then◌else◌}
pub use Rattle.std.specs.Result.{is_ok}
pub use Rattle.ucl_board.proofs.HistoryTheorems.{attempts_from, game_after}
pub use Rattle.ucl_board.specs.Fixtures.{IsMatch}
pub use Rattle.ucl_board.specs.History.{IsAttempt, IsLegal, MayFollow, board_of, sequential_reply}
pub use Rattle.ucl_board.specs.Words.{game_at, version_of}
pub use Rattle.ucl_board.specs.declared.entry.Entry.{Entry}
pub use Rattle.ucl_mends.specs.Mended.{call_again, fate_by, fate_of, history_in, kept_after, kept_by, left_by, left_out, mended}
pub use Rattle.ucl_mends.specs.Standing.{AreOnBoard, MendsOneMore}
pub use Rattle.ucl_mends.specs.declared.standing.Fate.{Fate}
pub use Rattle.ucl_mends.specs.declared.standing.Fate.TheVariants.{Kept, Named, Refused}
pub use Rattle.ucl_mends.specs.declared.standing.LeftOut.{LeftOut}
pub use Rattle.ucl_mends.specs.declared.standing.StandingEvent.{StandingEvent}
pub use Rattle.ucl_word.proofs.Sequences.{may_begin, may_last, may_none}
pub use Rattle.ucl_word.specs.Record.{IsReporter}
pub use Rattle.ucl_word.specs.Rules.{answer}
pub use Rattle.ucl_word.specs.declared.event.Accepted.{Accepted}
pub use Rattle.ucl_word.specs.declared.event.EventCall.{EventCall}
pub use Rattle.ucl_word.specs.declared.record.MatchRecord.{MatchRecord}
pub use Rattle.ucl_word.specs.declared.refusal.Refusal.{Refusal}
