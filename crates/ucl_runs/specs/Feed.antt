-- The text of `feed`: a line with the reply to each event of a script, and then a line for each word of the board.
use Rattle.std.specs.Prelude.{◌≡◌, ℕ, List, [], ◌++◌, map, Ok}
use Rattle.ucl_board.specs.declared.entry.Entry.{Entry}
use Rattle.ucl_board.specs.declared.night_event.NightEvent.{NightEvent}
use Rattle.ucl_board.specs.History.{accepted_of, board_of}
use Rattle.ucl_screen.specs.Events.{attempt_of, each_in_turn}
use Rattle.ucl_screen.specs.Script.{Script, first_event_row}
use Rattle.ucl_screen.specs.Parsing.{MeansNight}
use Rattle.ucl_rows.specs.Lines.{reply_line, word_lines}

-- the line with the reply to the event in this row of a script, entered after this history
abbrev pub line_of_event : ℕ → List Entry → NightEvent → List ℕ
line_of_event row history event = reply_line row history event.call

-- what `ucl_night feed` writes for the events of a script: a reply line for each, entered in turn, and then the twelve word lines
abbrev pub feed_text : List NightEvent → List ℕ
feed_text events = each_in_turn line_of_event first_event_row [] events ++ word_lines 1 (board_of (accepted_of (map attempt_of events)))

-- the bytes of an input are a script, and the text is what `ucl_night feed` writes for it: a reply line for each event, then word lines
pub record IsFed (bytes text : List ℕ) : Type 0 where
  pub night : Script
  pub means : MeansNight bytes (Ok night)
  pub text_is : text ≡ feed_text night.events
