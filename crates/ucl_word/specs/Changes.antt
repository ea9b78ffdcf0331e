-- The nine rules by which a match refuses an event, in two parts: six on its event number and state, and three on the change that is made:
-- a goal to disallow that is not there, a second yellow without a first, and a limit. A field is named by its lowest bit and its width.
use Rattle.std.specs.Prelude.{◌≡◌, ℕ, ◌+◌, ◌^◌, ◌<◌, ◌≤◌, [], ◌∷◌, Option, Some, None, Result, MatchResult}
use Rattle.ucl_word.specs.declared.record.MatchRecord.{MatchRecord}
use Rattle.ucl_word.specs.declared.record.State.{State}
use Rattle.ucl_word.specs.declared.record.State.TheVariants.{Scheduled, InPlay, Finished}
use Rattle.ucl_word.specs.declared.event.Side.{Side}
use Rattle.ucl_word.specs.declared.event.Side.TheVariants.{Home, Away}
use Rattle.ucl_word.specs.declared.event.Kind.{Kind}
use Rattle.ucl_word.specs.declared.event.Kind.TheVariants.{KickOff, Reopen}
use Rattle.ucl_word.specs.declared.refusal.Refusal.{Refusal}
use Rattle.ucl_word.specs.declared.refusal.Refusal.TheVariants.{NoGoal, NoCaution, LimitReached}
use Rattle.ucl_word.specs.Layout.{Field, layout, bits_at, word_of, record_at}
use Rattle.ucl_word.specs.Rules.{lacks_goal, lacks_caution, passes_limit, first_of, changed_by}

-- the state that a match must have to accept an event of this kind
abbrev pub state_for : Kind → State
state_for KickOff = Scheduled
state_for Reopen = Finished
state_for _ = InPlay

-- the refusal of an event for the change that it makes, or none: no goal to disallow, no standing yellow for a second yellow, or a limit
-- passed; if several hold, the first of these
abbrev pub change_refusal : MatchRecord → Kind → Option Refusal
change_refusal game kind = first_of (
    (lacks_goal game kind, NoGoal)
    ∷ (lacks_caution game kind, NoCaution)
    ∷ (passes_limit game kind, LimitReached)
    ∷ [])

-- the field of a word that holds the goals of a side
abbrev pub goals_field : Side → Field
goals_field Home = layout.home_goals
goals_field Away = layout.away_goals

-- the field of a word that holds the yellow cards of a side that led to no expulsion
abbrev pub yellows_field : Side → Field
yellows_field Home = layout.home_yellows
yellows_field Away = layout.away_yellows

-- the field of a word that holds the expulsions of a side
abbrev pub expulsions_field : Side → Field
expulsions_field Home = layout.home_expulsions
expulsions_field Away = layout.away_expulsions

-- the result is `word` with one more in its field from bit `low` on, `width` bits wide, or `LimitReached` if that field is `most` or more
abbrev pub Raises : ℕ → ℕ → ℕ → ℕ → Result ℕ Refusal → Type 0
Raises word low width most result = MatchResult result
    (λ next. (bits_at word low width < most) × (next ≡ word + 2 ^ low))
    (λ refusal. (most ≤ bits_at word low width) × (refusal ≡ LimitReached))

-- the result is `word` with one less in its field from bit `low` on, `width` bits wide, or the refusal `missing` if that field is 0
abbrev pub Lowers : ℕ → ℕ → ℕ → Refusal → Result ℕ Refusal → Type 0
Lowers word low width missing result = MatchResult result
    (λ next. (0 < bits_at word low width) × (next + 2 ^ low ≡ word))
    (λ refusal. (bits_at word low width ≡ 0) × (refusal ≡ missing))

-- the result is `word` with the change that an event of this kind makes, the event number and reporter left as they are; or the refusal
-- of this change: no goal to disallow, no standing yellow for a second yellow, or a limit passed
abbrev pub Changes : ℕ → Kind → Result ℕ Refusal → Type 0
Changes word kind result = MatchResult result
    (λ next. (change_refusal (record_at word) kind ≡ None) × (next ≡ word_of (changed_by kind (record_at word))))
    (λ refusal. change_refusal (record_at word) kind ≡ Some refusal)
