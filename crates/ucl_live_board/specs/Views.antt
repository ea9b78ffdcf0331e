-- Views of passes: what a pass knows and has done.
use Rattle.std.specs.Prelude.{◌≡◌, ℕ, List, [], ◌∷◌, ◌++◌, None, length, nat_lt, if◌then◌else◌}
use Rattle.ucl_log.specs.Log.{Access, TakenStep, Log, added_by, number_of, history_of, enlisted_by, accesses_in}
use Rattle.ucl_live_board.specs.declared.view.View.{View}
use Rattle.ucl_live_board.specs.Shares.{whole, first_half, second_half}
use Rattle.ucl_live_board.specs.Passes.{PassView}

-- what contracts know of a pass with this view, on a board where `shown_by` works out the versions of a pass's readings from its steps
abbrev pub pass_view_by : (List TakenStep → List ℕ) → View → PassView
pass_view_by shown_by v = record {
  seen = history_of v.log;
  mine = added_by v.own;
  number = number_of v.own;
  listed = enlisted_by v.log;
  shown = shown_by v.own;
  share = v.share;
}

-- the steps of the passes that a pass was split off from, and its own
abbrev pub steps_of : View → List TakenStep
steps_of v = v.copied ++ v.own

-- how many steps the view of a pass has: its own, and those of the passes that it was split off from
abbrev pub count_of : View → ℕ
count_of v = length (steps_of v)

-- the trail of a pass: its steps on match words, oldest first
abbrev pub trail_of : View → List Access
trail_of v = accesses_in (steps_of v)

-- a pass took just these steps, from the view v to the view w
pub record Takes (v : View) (steps : List TakenStep) (w : View) : Type 0 where
  pub own : w.own ≡ v.own ++ steps
  pub copied : w.copied ≡ v.copied

-- the view of a pass that knows nothing and has no share, as a note is after a meeting
abbrev pub new_pass : View
new_pass = record { log = []; told = []; own = []; share = None; copied = [] }

-- the view of the pass of a board that was just opened: it knows nothing, and has the whole board
abbrev pub first_pass : View
first_pass = record new_pass { share = whole }

-- the view of a pass after another was split off it: it keeps the first half of its share
abbrev pub left_pass : View → View
left_pass v = record v { share = first_half v.share }

-- the view of a pass that is split off another: it knows as much, has a copy of its steps, took none, and has the second half of its share
abbrev pub second_pass : View → View
second_pass v = record { log = v.log; told = []; own = []; share = second_half v.share; copied = steps_of v }

-- the view of a note of what a pass knows: it has no share
abbrev pub note_pass : View → View
note_pass v = record { log = v.log; told = []; own = []; share = None; copied = [] }

-- the longer one of two logs
abbrev pub longer_log : Log → Log → Log
longer_log one other = if nat_lt (length one) (length other) then other else one

-- the view of a pass that took in a note at a meeting: it knows the longer one of its log and the note's, and until its next step it keeps
-- both as what it was told
abbrev pub told_pass : View → View → View
told_pass v note = record v { log = longer_log v.log note.log; told = v.log ∷ note.log ∷ v.told }
