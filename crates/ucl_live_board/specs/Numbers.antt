-- Numbers of reporters in the order of time: one that is given later is greater.
use Rattle.std.specs.Prelude.{◌≡◌, ℕ, ◌<◌, List}
use mathlib.Core.Option.{some}
use lib.ListN.{get_elem?}
use Rattle.ucl_log.specs.Log.{number_of}
use Rattle.ucl_live_board.specs.declared.view.View.{View}

-- the number was given to a reporter after a moment at which `enlisted` reporters had one and the passes had these views: it is above that
-- count, and above the number of each pass then
pub record IsGivenAfter (enlisted : ℕ) (views : List View) (number : ℕ) : Type 0 where
  pub above : enlisted < number
  pub others : (seat : ℕ) (view : View) → get_elem? views seat ≡ some view → number_of view.own < number
