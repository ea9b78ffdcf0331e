-- What each change of a word does to its record, and that the next word is that of the record after the event.
use Rattle.ucl_word.proofs.Common.{Disallow, Err, Finished, FullTime, Goal, InPlay, IsReporter, IsValid, IsWord, KickOff, Kind}
use Rattle.ucl_word.proofs.Common.{MatchRecord, None, Ok, Red, Refusal, Reopen, Result, Scheduled, SecondYellow, Side, Yellow, after, ap}
use Rattle.ucl_word.proofs.Common.{arith, bits_at, changed_by, false, layout, nat_tests, record_at, refl, refusal_of, state_code}
use Rattle.ucl_word.proofs.Common.{word_of, ℕ, ◌*◌, ◌+◌, ◌-◌, ◌<◌, ◌==◌, ◌^◌, ◌≡◌, ◌≤◌}
use Rattle.std.proofs.lemmas.Bool.{eq-eqb, le-leb, lt-leb}
use Rattle.ucl_word.specs.Rules.{goals, yellows, expulsions}
use Rattle.ucl_word.specs.declared.refusal.Refusal.TheVariants.{NoGoal, NoCaution, LimitReached}
use Rattle.ucl_word.specs.Changes.{goals_field, yellows_field, expulsions_field, Raises, Lowers, Changes}
use Rattle.ucl_word.proofs.Words.{word_high, word_valid, word_packed}
use Rattle.ucl_word.proofs.AcceptedEvents.{accepts, after_valid}

-- a word of a valid record is below two to the power of 62
pub word_below : (word : ℕ) → IsWord word → word < 2 ^ 62
word_below word is = let high = word_high word is in omega arith

-- the goals, yellow cards and expulsions of a side are what the fields of the side hold
counts_in_bits : (side : Side) (word : ℕ) → (goals side (record_at word) ≡ bits_at word (goals_field side).low layout.home_goals.width)
    × (yellows side (record_at word) ≡ bits_at word (yellows_field side).low layout.home_yellows.width)
    × (expulsions side (record_at word) ≡ bits_at word (expulsions_field side).low layout.home_expulsions.width)
unfolding record_at
counts_in_bits side word = (search arith, search arith, search arith)

-- a goal, a yellow card and a red card each add one in the side's field: they raise the word by two to the power of the field's lowest bit
added : (side : Side) (m : MatchRecord) → (word_of (changed_by (Goal side) m) ≡ word_of m + 2 ^ (goals_field side).low)
    × (word_of (changed_by (Yellow side) m) ≡ word_of m + 2 ^ (yellows_field side).low)
    × (word_of (changed_by (Red side) m) ≡ word_of m + 2 ^ (expulsions_field side).low)
unfolding word_of
added side m = (search arith, search arith, search arith)

-- a disallowed goal takes one from the side's field of goals
goal_taken : (side : Side) (m : MatchRecord) → 0 < goals side m → word_of (changed_by (Disallow side) m) + 2 ^ (goals_field side).low ≡ word_of m
unfolding word_of
goal_taken side m some = search arith

-- a kick-off of a scheduled match, or full time of one in play, adds one in the word's field of the state
moved_on : (m : MatchRecord) → (m.state ≡ Scheduled → word_of (changed_by KickOff m) ≡ word_of m + 2 ^ layout.state.low)
    × (m.state ≡ InPlay → word_of (changed_by FullTime m) ≡ word_of m + 2 ^ layout.state.low)
unfolding word_of
moved_on m = (
  λ state. let code : state_code m.state ≡ 0 = ap state_code state in omega arith,
  λ state. let code : state_code m.state ≡ 1 = ap state_code state in omega arith,
)

-- a reopening of a finished match takes one from the word's field of the state
reopened : (m : MatchRecord) → m.state ≡ Finished → word_of (changed_by Reopen m) + 2 ^ layout.state.low ≡ word_of m
unfolding word_of
reopened m state = let code : state_code m.state ≡ 2 = ap state_code state in omega arith

-- a second yellow takes one from the side's field of yellows and adds one in its field of expulsions
yellow_turned : (side : Side) (m : MatchRecord) → 0 < yellows side m
    → word_of (changed_by (SecondYellow side) m) + 2 ^ (yellows_field side).low ≡ word_of m + 2 ^ (expulsions_field side).low
unfolding word_of
yellow_turned side m some = search arith

-- the test for 0 is false of a positive number
is_some : (n : ℕ) → 0 < n → (n == 0) ≡ false
is_some n some = grind (arith, nat_tests)

-- what an event of any kind changes in a record leaves its event number and its reporter as they are
kept : (kind : Kind) (m : MatchRecord) → ((changed_by kind m).number ≡ m.number) × ((changed_by kind m).reporter ≡ m.reporter)
kept kind m = search arith

-- the word after an event is that of the record with the event's change, but with the event number one more, and with the new reporter in
-- place of the old one
entered_word : (kind : Kind) (m : MatchRecord) (reporter : ℕ)
    → word_of (after m reporter kind) + m.reporter * 2 ^ layout.reporter.low ≡ word_of (changed_by kind m) + 1 + reporter * 2 ^ layout.reporter.low
unfolding word_of after
entered_word kind m reporter = let k = kept kind m in omega arith

-- the word after an event is greater than what its field of the reporter adds to it
reporter_below : (kind : Kind) (m : MatchRecord) (reporter : ℕ) → reporter * 2 ^ layout.reporter.low < word_of (after m reporter kind)
unfolding word_of after
reporter_below kind m reporter = omega arith

-- `next` is valid; its word is `changed`, with one event more and `reporter` in place of `before`, the reporter that stood there; the word
-- is below two to the power of 62, and above what its field of the reporter adds to it
pub record Entered (changed before reporter : ℕ) (next : MatchRecord) : Type 0 where
  pub valid : IsValid next
  pub sum : word_of next + before * 2 ^ layout.reporter.low ≡ changed + 1 + reporter * 2 ^ layout.reporter.low
  pub above : reporter * 2 ^ layout.reporter.low < word_of next
  pub below : word_of next < 2 ^ 62

-- the word of a valid record
module _ (word : ℕ) (is : IsWord word) where
  abbrev m : MatchRecord
  m = record_at word

  again : word_of m ≡ word
  again = word_packed word is

  -- a word that is greater, or less, by d is that of a record whose word is
  module _ (d next : ℕ) (n : MatchRecord) where
    by_sum : next ≡ word + d → word_of n ≡ word_of m + d → next ≡ word_of n
    by_sum is_next sum = let a = again in omega arith

    by_difference : next + d ≡ word → word_of n + d ≡ word_of m → next ≡ word_of n
    by_difference is_next sum = let a = again in omega arith

  -- what a kind of event changes in the word, by what its fields hold, is what the definition says
  pub kick_off_changes : m.state ≡ Scheduled → Changes word KickOff (Ok (word + 2 ^ layout.state.low))
  kick_off_changes state = (refl, by_sum (2 ^ layout.state.low) _ (changed_by KickOff m) refl ((moved_on m).0 state))

  pub full_time_changes : m.state ≡ InPlay → Changes word FullTime (Ok (word + 2 ^ layout.state.low))
  full_time_changes state = (refl, by_sum (2 ^ layout.state.low) _ (changed_by FullTime m) refl ((moved_on m).1 state))

  pub reopen_below : m.state ≡ Finished → 2 ^ layout.state.low ≤ word
  reopen_below state = let a = again in let r = reopened m state in omega arith

  pub reopen_changes : m.state ≡ Finished → Changes word Reopen (Ok (word - 2 ^ layout.state.low))
  reopen_changes state = let below = reopen_below state in (refl, by_difference (2 ^ layout.state.low) _ (changed_by Reopen m) (omega arith) (reopened m state))

  pub goal_changes : (side : Side) (result : Result ℕ Refusal) → Raises word (goals_field side).low layout.home_goals.width 63 result → Changes word (Goal side) result
  goal_changes side (Ok next) r = (rw ((counts_in_bits side word).0, lt-leb _ _ r.0) refl, by_sum _ next _ r.1 (added side m).0)
  goal_changes side (Err refusal) r = rw ((counts_in_bits side word).0, le-leb _ _ r.0, r.1) refl

  pub disallow_changes : (side : Side) (result : Result ℕ Refusal) → Lowers word (goals_field side).low layout.home_goals.width NoGoal result → Changes word (Disallow side) result
  disallow_changes side (Ok next) l =
      let some : 0 < goals side m = rw (counts_in_bits side word).0 l.0 in
      (rw (is_some _ some) refl, by_difference _ next _ l.1 (goal_taken side m some))
  disallow_changes side (Err refusal) l = rw ((counts_in_bits side word).0, eq-eqb _ 0 l.0, l.1) refl

  pub yellow_changes : (side : Side) (result : Result ℕ Refusal) → Raises word (yellows_field side).low layout.home_yellows.width 63 result → Changes word (Yellow side) result
  yellow_changes side (Ok next) r = (rw ((counts_in_bits side word).1, lt-leb _ _ r.0) refl, by_sum _ next _ r.1 (added side m).1)
  yellow_changes side (Err refusal) r = rw ((counts_in_bits side word).1, le-leb _ _ r.0, r.1) refl

  pub red_changes : (side : Side) (result : Result ℕ Refusal) → Raises word (expulsions_field side).low layout.home_expulsions.width 31 result → Changes word (Red side) result
  red_changes side (Ok next) r = (rw ((counts_in_bits side word).2, lt-leb _ _ r.0) refl, by_sum _ next _ r.1 (added side m).2)
  red_changes side (Err refusal) r = rw ((counts_in_bits side word).2, le-leb _ _ r.0, r.1) refl

  -- no second yellow where none stands
  pub no_caution : (side : Side) (refusal : Refusal) → bits_at word (yellows_field side).low layout.home_yellows.width ≡ 0 → refusal ≡ NoCaution → Changes word (SecondYellow side) (Err refusal)
  no_caution side refusal none missing = rw ((counts_in_bits side word).1, eq-eqb _ 0 none, missing) refl

  -- a second yellow card, where a yellow one stands
  module _ (side : Side) (some : 0 < bits_at word (yellows_field side).low layout.home_yellows.width) where
    cautioned : 0 < yellows side m
    cautioned = rw (counts_in_bits side word).1 some

    pub no_expulsion : (refusal : Refusal) → (31 ≤ bits_at word (expulsions_field side).low layout.home_expulsions.width) × (refusal ≡ LimitReached)
        → Changes word (SecondYellow side) (Err refusal)
    no_expulsion refusal r = rw (is_some _ cautioned, (counts_in_bits side word).2, le-leb _ _ r.0, r.1) refl

    pub second_yellow_changes : (fewer more : ℕ) → fewer + 2 ^ (yellows_field side).low ≡ word
        → (bits_at word (expulsions_field side).low layout.home_expulsions.width < 31) × (more ≡ word + 2 ^ (expulsions_field side).low)
        → Changes word (SecondYellow side) (Ok (fewer + (more - word)))
    second_yellow_changes fewer more less r = (
      rw (is_some _ cautioned, (counts_in_bits side word).2, lt-leb _ _ r.0) refl,
      let a = again in let sum = yellow_turned side m cautioned in let one = r.1 in omega arith,
    )

  -- the word after an accepted event, as a sum, and its bounds
  pub entered : (kind : Kind) (reporter expected changed before : ℕ) → IsReporter reporter → refusal_of m expected kind ≡ None → changed ≡ word_of (changed_by kind m)
      → before ≡ bits_at word layout.reporter.low layout.reporter.width → Entered changed before reporter (after m reporter kind)
  unfolding record_at
  entered kind reporter expected changed before by none is_changed is_before =
      let valid = after_valid m reporter expected kind (word_valid word is) by (accepts m expected kind none) in
      let below = word_below (word_of (after m reporter kind)) (record { of = after m reporter kind; valid = valid; packed = refl }) in
      let above = reporter_below kind m reporter in
      let sum = entered_word kind m reporter in
      record { valid = valid; sum = omega arith; above = above; below = below }
