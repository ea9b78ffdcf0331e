-- What becomes of the events of a script, in the form of C: they are entered in turn on a fresh board.
use Rattle.std.specs.Prelude.{◌≡◌, ℕ, ◌+◌, ◌-◌, ◌++◌, List, [], ◌∷◌, length, map, take, drop, replicate, unwrap_or, Result, Ok, Err}
use Rattle.ucl_word.specs.declared.event.Accepted.{Accepted}
use Rattle.ucl_word.specs.declared.refusal.Refusal.{Refusal}
use Rattle.ucl_word.specs.Names.{found_of, refusal_code}
use Rattle.ucl_board.specs.declared.entry.Entry.{Entry}
use Rattle.ucl_board.specs.declared.night_event.NightEvent.{NightEvent}
use Rattle.ucl_board.specs.History.{accepted_of, board_of, sequential_reply}
use Rattle.ucl_order.specs.Roster.{NamedClub, club_in}
use Rattle.ucl_screen.specs.Script.{Script, first_event_row, night_of}
use Rattle.ucl_screen.specs.Events.{attempt_of, each_in_turn}
use Rattle.ucl_c.specs.declared.script.ReplyOfC.{ReplyOfC}
use Rattle.ucl_c.specs.declared.group.ClubOfC.{ClubOfC}

-- what C is told of the event of this row and match, at this version of the board, on which the board gave this reply
abbrev pub reply_by : ℕ → ℕ → ℕ → Result Accepted Refusal → ReplyOfC
reply_by row game version (Ok accepted) = record { row = row; match_number = game; status = 0; event_number = accepted.number; version = version + 1 }
reply_by row game version (Err refusal) =
    record { row = row; match_number = game; status = refusal_code refusal; event_number = unwrap_or (found_of refusal) 0; version = version }

-- what C is told of the event of this row, if it is entered after this history
abbrev pub reply_after : ℕ → List Entry → NightEvent → ReplyOfC
reply_after row history event = reply_by row event.call.game (length history) (sequential_reply history event.call)

-- what C is told of the events of a script, the first of which is in row 5, on a fresh board
abbrev pub replies_to : List NightEvent → List ReplyOfC
replies_to events = each_in_turn (λ row history event. reply_after row history event ∷ []) first_event_row [] events

-- the twelve words of a fresh board after the events of a script were entered in turn
abbrev pub words_after : List NightEvent → List ℕ
words_after events = board_of (accepted_of (map attempt_of events))

-- a club in the form of C: behind its name there are zeros, up to 20 bytes
abbrev pub club_written : NamedClub → ClubOfC
club_written club = record { name = club.name ++ replicate (20 - length club.name) 0; length = length club.name; coefficient = club.coefficient }

-- the four clubs of a roster in the form of C, slot by slot
abbrev pub clubs_written : List NamedClub → List ClubOfC
clubs_written roster = map (λ slot. club_written (club_in roster slot)) (1 ∷ 2 ∷ 3 ∷ 4 ∷ [])

-- a list was `before` and is `after`: the replies stand at its front, and the rest is as it was
pub record AreWritten (replies before after : List ReplyOfC) : Type 0 where
  pub front : take (length replies) after ≡ replies
  pub beyond : drop (length replies) after ≡ drop (length replies) before

-- the bytes are a script, `clubs` are its clubs, `words` the board after its events, and what became of these stands at the front of
-- `after`, of which the rest is as it was in `before`
pub record IsWholeScript (bytes : List ℕ) (clubs : List ClubOfC) (words : List ℕ) (before after : List ReplyOfC) : Type 0 where
  pub script : Script
  pub said : night_of bytes ≡ Ok script
  pub clubs_are : clubs ≡ clubs_written script.clubs
  pub words_are : words ≡ words_after script.events
  pub replies_are : AreWritten (replies_to script.events) before after

-- the bytes are a script that has `count` events
pub record CountsEvents (bytes : List ℕ) (count : ℕ) : Type 0 where
  pub script : Script
  pub said : night_of bytes ≡ Ok script
  pub counted : count ≡ length script.events
