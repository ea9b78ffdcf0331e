-- What a mend makes of the events that stand: it keeps, in their order, those that the rules still accept, but for the one that it names.
-- An event is entered again after those kept before it, with the event number that its match then has.
use Rattle.std.specs.Prelude.{ℕ, ◌+◌, ◌==◌, ◌&&◌, not, nat_le, Bool, if◌then◌else◌, List, [], ◌∷◌, ◌++◌, map, Result, Ok, Err}
use Rattle.std.specs.List.{fold, list_any}
use Rattle.std.specs.Result.{is_ok}
use Rattle.ucl_word.specs.declared.event.Accepted.{Accepted}
use Rattle.ucl_word.specs.declared.event.EventCall.{EventCall}
use Rattle.ucl_word.specs.declared.refusal.Refusal.{Refusal}
use Rattle.ucl_board.specs.declared.entry.Entry.{Entry}
use Rattle.ucl_board.specs.declared.night_event.NightEvent.{NightEvent}
use Rattle.ucl_board.specs.History.{entry_of, match_after, sequential_reply}
use Rattle.ucl_mends.specs.declared.standing.StandingEvent.{StandingEvent}
use Rattle.ucl_mends.specs.declared.standing.LeftOut.{LeftOut}
use Rattle.ucl_mends.specs.declared.standing.Fate.{Fate}
use Rattle.ucl_mends.specs.declared.standing.Fate.TheVariants.{Kept, Named, Refused}
use Rattle.ucl_mends.specs.declared.mend_refusal.MendRefusal.{MendRefusal}
use Rattle.ucl_mends.specs.declared.mend_refusal.MendRefusal.TheVariants.{LastEdition, NoEvent}

-- ---- the events that stand

-- the history of the events that stand
abbrev pub history_in : List StandingEvent → List Entry
history_in events = map (λ event. event.entry) events

-- the number of a row, by which a mend can name its event: 0, which none can name, if it is past 4,294,967,295
abbrev pub row_number : ℕ → ℕ
row_number row = if nat_le row 4294967295 then row else 0

-- the event of this row as it stands once it is accepted
abbrev pub standing_of : ℕ → NightEvent → StandingEvent
standing_of row event = record { row = row_number row; entry = entry_of event.reporter event.call }

-- the events that stand after the event of this row is entered: with it at their end if it is accepted, else as they were
abbrev pub entered : ℕ → List StandingEvent → NightEvent → List StandingEvent
entered row events event = if is_ok (sequential_reply (history_in events) event.call) then events ++ standing_of row event ∷ [] else events

-- ---- a mend

-- the event of an entry, entered again after this history: it expects the number that its match then has
abbrev pub call_again : List Entry → Entry → EventCall
call_again history entry = record { game = entry.game; expected = (match_after history entry.game).number; kind = entry.kind }

-- what becomes of an event that is entered again and gets this reply
abbrev pub fate_by : Result Accepted Refusal → Fate
fate_by (Ok accepted) = Kept
fate_by (Err refusal) = Refused refusal

-- the fate of an event in a mend that names this row, after the events kept so far: `Named` if it has this row, else kept or refused by the
-- rules, when it is entered again after them
abbrev pub fate_of : ℕ → List StandingEvent → StandingEvent → Fate
fate_of row kept event =
    if event.row == row then Named else fate_by (sequential_reply (history_in kept) (call_again (history_in kept) event.entry))

-- the events kept so far, with this event at their end if its fate is to be kept
abbrev pub kept_by : List StandingEvent → StandingEvent → Fate → List StandingEvent
kept_by kept event Kept = kept ++ event ∷ []
kept_by kept event fate = kept

-- the events kept so far, with this event at their end if a mend that names this row keeps it
abbrev pub kept_after : ℕ → List StandingEvent → StandingEvent → List StandingEvent
kept_after row kept event = kept_by kept event (fate_of row kept event)

-- the events that stand after a mend that names this row
abbrev pub mended : ℕ → List StandingEvent → List StandingEvent
mended row events = fold (kept_after row) [] events

-- an event with its refusal, as a list of one, if its fate is to be refused; else the empty list
abbrev pub left_by : StandingEvent → Fate → List LeftOut
left_by event (Refused refusal) = record { event = event; refusal = refusal } ∷ []
left_by event fate = []

-- of these events, those that a mend which names this row leaves out because the rules refuse them after the events kept so far, each with
-- its refusal; the event of the named row goes too, but has no refusal and is not in the list
unfoldable pub left_out_after : ℕ → List StandingEvent → List StandingEvent → List LeftOut
left_out_after row kept [] = []
left_out_after row kept (event ∷ events) = left_by event (fate_of row kept event) ++ left_out_after row (kept_after row kept event) events

-- the events that stand and that a mend which names this row leaves out, each with its refusal; the one of this row is not among them
abbrev pub left_out : ℕ → List StandingEvent → List LeftOut
left_out row events = left_out_after row [] events

-- the events that a mend which names this row leaves out, if they are to be `listed`; else none
abbrev pub left_if : Bool → ℕ → List StandingEvent → List LeftOut
left_if listed row events = if listed then left_out row events else []

-- ---- the reply to a mend

-- whether an event that stands has this row
abbrev pub has_row : ℕ → List StandingEvent → Bool
has_row row events = list_any (λ event. event.row == row) events

-- the reply to a mend that names this row in this edition: the edition after it, or why it is refused; no event can be named by row 0
abbrev pub mend_reply : ℕ → ℕ → List StandingEvent → Result ℕ MendRefusal
mend_reply edition row events =
    if edition == 65535 then Err LastEdition else (if not (row == 0) && has_row row events then Ok (edition + 1) else Err NoEvent)
