-- The words and lemmas from elsewhere that the proofs of this crate share.
pub use Rattle.std.proofs.Common.{Bool, Err, List, None, Ok, Result, Some, [], ap, arith, eq-eqb, false, inl, inr, length, refl, rules}
pub use Rattle.std.proofs.Common.{subst, suc, sym, true, zero, ℕ, ◌%◌, ◌*◌, ◌++◌, ◌+◌, ◌-◌, ◌<◌, ◌==◌, ◌^◌, ◌∙◌, ◌∷◌, ◌≡◌, ◌≤◌}
pub use Rattle.std.proofs.lemmas.Bool.Decides.{nat_tests}
pub use Rattle.std.specs.Prelude.{if◌then◌else◌, nat_le, not}
pub use Rattle.ucl_word.specs.Layout.{HasLayoutTag, IsWord, bits_at, layout, state_code}
unfoldable pub use Rattle.ucl_word.specs.Layout.{record_at, word_of}
pub use Rattle.ucl_word.specs.Record.{IsReporter, IsValid, is_within_limits, scheduled, suits_state}
pub use Rattle.ucl_word.specs.Rules.{changed_by, is_full_time, is_kick_off, is_reopen, lacks_caution, lacks_goal}
unfoldable pub use Rattle.ucl_word.specs.Rules.{after, refusal_of}
pub use Rattle.ucl_word.specs.declared.event.Kind.{Kind}
pub use Rattle.ucl_word.specs.declared.event.Kind.TheVariants.{Disallow, FullTime, Goal, KickOff, Red, Reopen, SecondYellow, Yellow}
pub use Rattle.ucl_word.specs.declared.event.Side.{Side}
pub use Rattle.ucl_word.specs.declared.event.Side.TheVariants.{Away, Home}
pub use Rattle.ucl_word.specs.declared.record.MatchRecord.{MatchRecord}
pub use Rattle.ucl_word.specs.declared.record.State.{State}
pub use Rattle.ucl_word.specs.declared.record.State.TheVariants.{Finished, InPlay, Scheduled}
pub use Rattle.ucl_word.specs.declared.refusal.BadWord.{BadWord}
pub use Rattle.ucl_word.specs.declared.refusal.Refusal.{Refusal}
