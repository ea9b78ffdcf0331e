-- The record of a match after a list of its entries, by counting, and which lists of entries are legal.
-- An entry is an event that was accepted. A list of entries is legal if each of them is accepted after those before it.
use Rattle.std.specs.Prelude.{◌≡◌, ℕ, List, [], ◌∷◌, ◌++◌, take, Some, slice_get, ◌+◌, ◌-◌, ◌==◌, Bool, true, false, if◌then◌else◌, length, None, count_by}
use Rattle.ucl_word.specs.declared.record.MatchRecord.{MatchRecord}
use Rattle.ucl_word.specs.declared.record.State.{State}
use Rattle.ucl_word.specs.declared.record.State.TheVariants.{Scheduled, InPlay, Finished}
use Rattle.ucl_word.specs.declared.event.Side.{Side}
use Rattle.ucl_word.specs.declared.event.Side.TheVariants.{Home, Away}
use Rattle.ucl_word.specs.declared.event.Kind.{Kind}
use Rattle.ucl_word.specs.declared.event.Kind.TheVariants.{KickOff, Goal, Disallow, Yellow, SecondYellow, Red, FullTime, Reopen}
use Rattle.ucl_word.specs.Record.{IsReporter}
use Rattle.ucl_word.specs.Rules.{refusal_of}

-- each element of the list may follow the list of those before it; the relation `May before element` says that it may
pub record EachMay {X : Type 0} (May : List X → X → Type 0) (list : List X) : Type 0 where
  pub at : (place : ℕ) (element : X) → slice_get list place ≡ Some element → May (take place list) element

-- for each legal list that the function `view` maps to `before`: with `element` at its end it is legal too, and is mapped to `after`
abbrev pub GainsOne : {X Y : Type 0} → (List X → Type 0) → (List X → Y) → X → Y → Y → Type 0
GainsOne {X} IsLegal view element before after = (list : List X) → IsLegal list → view list ≡ before
    → (after ≡ view (list ++ element ∷ [])) × IsLegal (list ++ element ∷ [])

-- an entry of one match, which is an accepted event: the number of the reporter who entered it, and its kind
pub record MatchEntry : Type 0 where
  pub reporter : ℕ
  pub kind : Kind

-- whether two sides are the same
abbrev pub is_side : Side → Side → Bool
is_side Home Home = true
is_side Away Away = true
is_side _ _ = false

-- whether two kinds of events are the same, and for the same side
abbrev pub is_kind : Kind → Kind → Bool
is_kind KickOff KickOff = true
is_kind (Goal side) (Goal other) = is_side side other
is_kind (Disallow side) (Disallow other) = is_side side other
is_kind (Yellow side) (Yellow other) = is_side side other
is_kind (SecondYellow side) (SecondYellow other) = is_side side other
is_kind (Red side) (Red other) = is_side side other
is_kind FullTime FullTime = true
is_kind Reopen Reopen = true
is_kind _ _ = false

-- how many of these entries are events of this kind
abbrev pub count : Kind → List MatchEntry → ℕ
count kind entries = count_by (λ entry. is_kind kind entry.kind) entries

-- the state of a match after these entries: scheduled without a kick-off; else in play if as many reopenings as full times; else finished
abbrev pub state_of : List MatchEntry → State
state_of entries =
    if count KickOff entries == 0 then Scheduled else (if count FullTime entries == count Reopen entries then InPlay else Finished)

-- the number of the reporter of the last entry, 0 if there is no entry
abbrev pub last_reporter : List MatchEntry → ℕ
last_reporter [] = 0
last_reporter (entry ∷ []) = entry.reporter
last_reporter (entry ∷ next ∷ entries) = last_reporter (next ∷ entries)

-- the record of a match after these entries, each number counted: its yellows are those that no second yellow turned into an expulsion
unfoldable pub counted_match : List MatchEntry → MatchRecord
counted_match entries = record {
  number = length entries;
  state = state_of entries;
  home_goals = count (Goal Home) entries - count (Disallow Home) entries;
  away_goals = count (Goal Away) entries - count (Disallow Away) entries;
  home_yellows = count (Yellow Home) entries - count (SecondYellow Home) entries;
  away_yellows = count (Yellow Away) entries - count (SecondYellow Away) entries;
  home_expulsions = count (Red Home) entries + count (SecondYellow Home) entries;
  away_expulsions = count (Red Away) entries + count (SecondYellow Away) entries;
  reporter = last_reporter entries;
}

-- `entry` may come next after `entries`: its reporter's number is 1 to 255, and the match as counted from `entries` accepts its event, if
-- that expects as event number how many entries there are
pub record IsAccepted (entries : List MatchEntry) (entry : MatchEntry) : Type 0 where
  pub reporter : IsReporter entry.reporter
  pub accepted : refusal_of (counted_match entries) (length entries) entry.kind ≡ None

-- a legal list of entries of one match: each is accepted after the entries before it
abbrev pub IsLegalMatch : List MatchEntry → Type 0
IsLegalMatch entries = EachMay IsAccepted entries

-- each legal list of entries from which `before` is counted stays legal with this reporter's event at its end, and `next` is then its count
abbrev pub CountsOneMore : MatchRecord → ℕ → Kind → MatchRecord → Type 0
CountsOneMore before reporter kind next = GainsOne IsLegalMatch counted_match (record { reporter = reporter; kind = kind }) before next
