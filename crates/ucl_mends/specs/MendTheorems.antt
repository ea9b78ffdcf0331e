-- What holds of all mends.
use Rattle.std.specs.Prelude.{◌≡◌, ◌≢◌, ℕ, ◌==◌, List, [], ◌++◌, All, filter}
use mathlib.Core.List.{IsPrefix}
use Rattle.ucl_board.specs.History.{IsLegal}
use Rattle.ucl_mends.specs.declared.standing.StandingEvent.{StandingEvent}
use Rattle.ucl_mends.specs.Mended.{history_in, left_out, mended}

-- the events of one match among these
abbrev pub events_of : ℕ → List StandingEvent → List StandingEvent
events_of game events = filter (λ event. event.entry.game == game) events

-- theorem: what a mend of a legal history keeps is a legal history
unfoldable pub MendsAreLegal : Type 0
MendsAreLegal = (row : ℕ) (events : List StandingEvent) → IsLegal (history_in events) → IsLegal (history_in (mended row events))

-- theorem: if no event has the row that is named, a mend of a legal history keeps all, and leaves out none
unfoldable pub WholeHistoriesAreKept : Type 0
WholeHistoriesAreKept = (row : ℕ) (events : List StandingEvent) → IsLegal (history_in events) → All (λ event. event.row ≢ row) events
    → (mended row events ≡ events) × (left_out row events ≡ [])

-- theorem: a mend of a legal history keeps all events of each match of which no event has the row that is named
unfoldable pub OtherMatchesStay : Type 0
OtherMatchesStay = (row game : ℕ) (events : List StandingEvent) → IsLegal (history_in events)
    → All (λ event. event.row ≡ row → event.entry.game ≢ game) events
    → events_of game (mended row events) ≡ events_of game events

-- if more events follow these, a mend keeps first what it kept of these alone, and leaves out first what it left out of these alone; if it
-- leaves out no others, and none of those that follow has the named row, it keeps all that follow
pub record GoesOn (row : ℕ) (events more : List StandingEvent) : Type 0 where
  pub kept : IsPrefix (mended row events) (mended row (events ++ more))
  pub left : IsPrefix (left_out row events) (left_out row (events ++ more))
  pub same : left_out row (events ++ more) ≡ left_out row events → All (λ event. event.row ≢ row) more
      → mended row (events ++ more) ≡ mended row events ++ more

-- theorem: a mend does the same with a list of events whether more follow or not; it keeps all that follow if it leaves out and names none
-- of them
unfoldable pub LaterEventsGoOn : Type 0
LaterEventsGoOn = (row : ℕ) (events more : List StandingEvent) → GoesOn row events more
