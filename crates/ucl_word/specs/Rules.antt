-- The rules of events: which are refused, and what an accepted one changes in the record of its match.
use Rattle.std.specs.Prelude.{ℕ, ◌+◌, ◌-◌, ◌==◌, ◌&&◌, not, nat_le, Bool, true, false, if◌then◌else◌, List, [], ◌∷◌, Option, Some, None, Result, Ok, Err}
use Rattle.ucl_word.specs.declared.record.MatchRecord.{MatchRecord}
use Rattle.ucl_word.specs.declared.record.State.{State}
use Rattle.ucl_word.specs.declared.record.State.TheVariants.{Scheduled, InPlay}
use Rattle.ucl_word.specs.declared.record.State.TheVariants as state
use Rattle.ucl_word.specs.declared.event.Side.{Side}
use Rattle.ucl_word.specs.declared.event.Side.TheVariants.{Home, Away}
use Rattle.ucl_word.specs.declared.event.Kind.{Kind}
use Rattle.ucl_word.specs.declared.event.Kind.TheVariants.{KickOff, Goal, Disallow, Yellow, SecondYellow, Red, FullTime, Reopen}
use Rattle.ucl_word.specs.declared.event.EventCall.{EventCall}
use Rattle.ucl_word.specs.declared.event.Accepted.{Accepted}
use Rattle.ucl_word.specs.declared.refusal.Refusal.{Refusal}
use Rattle.ucl_word.specs.declared.refusal.Refusal.TheVariants.{Stale, Finished, NotFinished, NotStarted, AlreadyStarted, NumberFull, NoGoal, NoCaution}
use Rattle.ucl_word.specs.declared.refusal.Refusal.TheVariants.{LimitReached}
use Rattle.ucl_word.specs.Record.{max_number_in_play}

-- in the record of a match, the goals of a side that were not disallowed
abbrev pub goals : Side → MatchRecord → ℕ
goals Home game = game.home_goals
goals Away game = game.away_goals

-- in the record of a match, the standing yellows of a side: its yellow cards that no second yellow turned into an expulsion
abbrev pub yellows : Side → MatchRecord → ℕ
yellows Home game = game.home_yellows
yellows Away game = game.away_yellows

-- in the record of a match, the expulsions of a side, for a red card or a second yellow
abbrev pub expulsions : Side → MatchRecord → ℕ
expulsions Home game = game.home_expulsions
expulsions Away game = game.away_expulsions

-- whether a match in this state has not kicked off
abbrev pub is_scheduled : State → Bool
is_scheduled Scheduled = true
is_scheduled _ = false

-- whether a match in this state has kicked off and is not over
abbrev pub is_in_play : State → Bool
is_in_play InPlay = true
is_in_play _ = false

-- whether a match in this state is over
abbrev pub is_finished : State → Bool
is_finished state.Finished = true
is_finished _ = false

-- whether an event of this kind is a kick-off
abbrev pub is_kick_off : Kind → Bool
is_kick_off KickOff = true
is_kick_off _ = false

-- whether an event of this kind is full time
abbrev pub is_full_time : Kind → Bool
is_full_time FullTime = true
is_full_time _ = false

-- whether an event of this kind reopens a finished match
abbrev pub is_reopen : Kind → Bool
is_reopen Reopen = true
is_reopen _ = false

-- whether the event disallows a goal of a side that has none
abbrev pub lacks_goal : MatchRecord → Kind → Bool
lacks_goal game (Disallow side) = goals side game == 0
lacks_goal game _ = false

-- whether the event is a second yellow for a side that has no standing yellow
abbrev pub lacks_caution : MatchRecord → Kind → Bool
lacks_caution game (SecondYellow side) = yellows side game == 0
lacks_caution game _ = false

-- whether the event would take the goals or standing yellows of a side past 63, or its expulsions past 31
abbrev pub passes_limit : MatchRecord → Kind → Bool
passes_limit game (Goal side) = nat_le 63 (goals side game)
passes_limit game (Yellow side) = nat_le 63 (yellows side game)
passes_limit game (SecondYellow side) = nat_le 31 (expulsions side game)
passes_limit game (Red side) = nat_le 31 (expulsions side game)
passes_limit game _ = false

-- in a list of conditions, each with its refusal, the refusal of the first condition that holds; none if none holds
abbrev pub first_of : List (Bool × Refusal) → Option Refusal
first_of [] = None
first_of (rule ∷ rules) = if rule.0 then Some rule.1 else first_of rules

-- why a match with this record refuses an event of this kind that expects this event number, or none if it accepts the event
unfoldable pub refusal_of : MatchRecord → ℕ → Kind → Option Refusal
refusal_of game expected kind = first_of (
    (not (expected == game.number), Stale game.number)
    ∷ (is_finished game.state && not (is_reopen kind), Finished)
    ∷ (not (is_finished game.state) && is_reopen kind, NotFinished)
    ∷ (is_scheduled game.state && not (is_kick_off kind), NotStarted)
    ∷ (is_in_play game.state && is_kick_off kind, AlreadyStarted)
    ∷ (nat_le max_number_in_play game.number && not (is_full_time kind), NumberFull)
    ∷ (lacks_goal game kind, NoGoal)
    ∷ (lacks_caution game kind, NoCaution)
    ∷ (passes_limit game kind, LimitReached)
    ∷ [])

-- the record of a match with what an event of this kind changes in it, but with its event number and its reporter as they were
abbrev pub changed_by : Kind → MatchRecord → MatchRecord
changed_by KickOff game = record game { state = InPlay }
changed_by FullTime game = record game { state = state.Finished }
changed_by Reopen game = record game { state = InPlay }
changed_by (Goal Home) game = record game { home_goals = game.home_goals + 1 }
changed_by (Goal Away) game = record game { away_goals = game.away_goals + 1 }
changed_by (Disallow Home) game = record game { home_goals = game.home_goals - 1 }
changed_by (Disallow Away) game = record game { away_goals = game.away_goals - 1 }
changed_by (Yellow Home) game = record game { home_yellows = game.home_yellows + 1 }
changed_by (Yellow Away) game = record game { away_yellows = game.away_yellows + 1 }
changed_by (SecondYellow Home) game = record game { home_yellows = game.home_yellows - 1; home_expulsions = game.home_expulsions + 1 }
changed_by (SecondYellow Away) game = record game { away_yellows = game.away_yellows - 1; away_expulsions = game.away_expulsions + 1 }
changed_by (Red Home) game = record game { home_expulsions = game.home_expulsions + 1 }
changed_by (Red Away) game = record game { away_expulsions = game.away_expulsions + 1 }

-- the record of a match after it accepted an event of this kind by the reporter with this number
unfoldable pub after : MatchRecord → ℕ → Kind → MatchRecord
after game reporter kind = record (changed_by kind game) { number = game.number + 1; reporter = reporter }

-- the reply to an event by a match with event number `number`: the refusal if there is one, else accepted, with the next event number
abbrev pub answer : ℕ → Option Refusal → Result Accepted Refusal
answer number None = Ok (record { number = number + 1 })
answer number (Some refusal) = Err refusal

-- the reply of a match with this record to an event: why the event is refused, or the next event number if it is accepted
abbrev pub reply_of : MatchRecord → EventCall → Result Accepted Refusal
reply_of game call = answer game.number (refusal_of game call.expected call.kind)
