-- The numbers by which C names states and marks, and a match in the form of C.
use Rattle.std.specs.Prelude.{ℕ, nat_lt, if◌then◌else◌, Option, None, Some}
use Rattle.ucl_word.specs.declared.record.State.{State}
use Rattle.ucl_word.specs.declared.record.State.TheVariants.{Scheduled, InPlay, Finished}
use Rattle.ucl_word.specs.Names.{kind_with}
use Rattle.ucl_order.specs.declared.mark.Mark.{Mark}
use Rattle.ucl_order.specs.declared.mark.Mark.TheVariants.{Plus, Minus, Blank}
use Rattle.ucl_word.specs.declared.event.Kind.{Kind}
use Rattle.ucl_word.specs.declared.record.MatchRecord.{MatchRecord}
use Rattle.ucl_word.specs.Layout.{record_at, word_of}
use Rattle.ucl_word.specs.Rules.{after}
use Rattle.ucl_c.specs.declared.event.MatchOfC.{MatchOfC}

-- the number of a mark of the table: 1 if a club is certain to be first or second, 2 if it is certain not to be, 0 if neither
abbrev pub mark_code : Mark → ℕ
mark_code Blank = 0
mark_code Plus = 1
mark_code Minus = 2

-- the number of the state of a match: 0 scheduled, 1 in play, 2 finished
abbrev pub state_code_in_c : State → ℕ
state_code_in_c Scheduled = 0
state_code_in_c InPlay = 1
state_code_in_c Finished = 2

-- in 16 bits, the event number that a reporter expects of a match: 65,535 stands for all that do not fit; no match has one over 4,095
abbrev pub expected_told : ℕ → ℕ
expected_told expected = if nat_lt expected 65536 then expected else 65535

-- the word of a match after an event of this reporter and this kind, if `game` is the match unpacked before it; 0 if there is no kind
abbrev pub word_after : MatchRecord → ℕ → Option Kind → ℕ
word_after game reporter (Some kind) = word_of (after game reporter kind)
word_after game reporter None = 0

-- the word that this word of a match becomes by an event of this reporter, whose kind has this code
abbrev pub next_of : ℕ → ℕ → ℕ → ℕ
next_of word reporter code = word_after (record_at word) reporter (kind_with code)

-- the record of a match in the form of C
abbrev pub match_seen : MatchRecord → MatchOfC
match_seen game = record {
  number = game.number;
  state = state_code_in_c game.state;
  home_goals = game.home_goals;
  away_goals = game.away_goals;
  home_yellows = game.home_yellows;
  away_yellows = game.away_yellows;
  home_expulsions = game.home_expulsions;
  away_expulsions = game.away_expulsions;
  reporter = game.reporter;
}
