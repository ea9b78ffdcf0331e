-- What contracts know of a pass of a word board. A local state is what the steps of a pass make of it: its number (0 for a reader), and its
-- completed calls.
use Rattle.std.specs.Prelude.{ℕ, ◌==◌, List, [], ◌∷◌, if◌then◌else◌}
use Rattle.std.specs.List.{flat_map}
use Rattle.atomic_table.specs.Seated.{TableId}
use Rattle.ucl_log.specs.Log.{TakenStep}
use Rattle.ucl_steps.specs.declared.trace.Reply.{Reply}
use Rattle.ucl_steps.specs.declared.trace.Reply.TheVariants.{Copied}
use Rattle.ucl_steps.specs.LocalState.{LocalState, local_of}
use Rattle.ucl_live_board.specs.declared.view.View.{View}
use Rattle.ucl_live_board.specs.Passes.{PassView}
use Rattle.ucl_live_board.specs.Views.{pass_view_by}

-- The version in a reply, that is, how many events the board had that was read, as a list: none if it is the reply of a report.
abbrev pub version_in : Reply → List ℕ
version_in (Copied reading) = reading.version ∷ []
version_in reply = []

-- The versions (how many entries the history had) of the readings that a pass completed since it has its present number, oldest first.
abbrev pub versions_by : LocalState → List ℕ
versions_by local = flat_map (λ call. if call.number == local.number then version_in call.reply else []) local.calls

-- The versions of the readings that a pass with these steps has completed, oldest first, since it was enlisted if it is a reporter's.
abbrev pub versions_shown : List TakenStep → List ℕ
versions_shown steps = versions_by (local_of steps)

-- What every shared board says of a pass, by its view: the events that it has seen, its own, its number, its share, its readings' versions.
abbrev pub pass_view_of : View → PassView
pass_view_of pass = pass_view_by versions_shown pass

-- What contracts see of a pass: which board it is of, its place in the list of all passes (`seat`), and its view (`pass`), that is, the
-- prefix of the log that it knows, its own steps, and its share of the board.
pub record WordPass : Type 0 where
  pub board : TableId
  pub seat : ℕ
  pub pass : View

-- What contracts see of the pass of this board, in this place (`seat`) of the list of all passes, with this view.
abbrev pub pass_of : TableId → ℕ → View → WordPass
pass_of board seat pass = record { board = board; seat = seat; pass = pass }
