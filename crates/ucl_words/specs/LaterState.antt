-- When one state of a word board comes after another. A state has the words of the board and, by seat, the view of each pass.
use Rattle.std.specs.Prelude.{◌≡◌, ◌≢◌, ℕ, List, [], ◌∷◌, ◌++◌, None, slice_index, slice_set}
use mathlib.Core.Option.{some}
use mathlib.Core.List.{IsPrefix}
use lib.ListN.{get_elem?}
use Rattle.atomic_table.specs.Table.{State, Step, Me}
use Rattle.ucl_board.specs.declared.entry.Entry.{Entry}
use Rattle.ucl_log.specs.Log.{enlisted_by}
use Rattle.ucl_live_board.specs.CallSteps.{CountsReporters}
use Rattle.ucl_live_board.specs.declared.view.View.{View}
use Rattle.ucl_words.specs.TableInvariants.{TableInvariant}

-- The second state is later than the first, or the same: each pass that has a share in the first has one in the second, at the same seat,
-- and knows no less of the log there.
abbrev pub LaterState : State Entry View → State Entry View → Type 0
LaterState earlier later = (seat : ℕ) (old : View) → get_elem? earlier.views seat ≡ some old → old.share ≢ None
    → (new : View) × (get_elem? later.views seat ≡ some new) × (new.share ≢ None) × IsPrefix old.log new.log

-- If a second state is later than a first, and a third later than the second, the third is later than the first.
abbrev pub LaterStatesCompose : Type 0
LaterStatesCompose = (first second third : State Entry View) → LaterState first second → LaterState second third → LaterState first third

-- A kind of atomic step, as a relation: which step was asked for, the pass before it, the word that was found, and the pass after it.
abbrev pub StepKind : Type 1
StepKind = Step Entry → Me Entry View → ℕ → Me Entry View → Type 0

-- If the pass at a seat takes a step of this kind, the state after it is later, whatever word it found and whatever `words` it leaves.
abbrev pub StepIsMonotone : StepKind → Type 0
StepIsMonotone kind =
    (state : State Entry View) (seat : ℕ) (step : Step Entry) (before : Me Entry View) (found : ℕ) (after : Me Entry View) (words : List ℕ)
    → get_elem? state.views seat ≡ some before.0 → kind step before found after
    → LaterState state (record state { words = words; views = slice_set state.views seat after.0 })

-- A split of a pass leads to a later state: `left` says what the pass at the seat becomes, `right` the new pass, added at the end.
abbrev pub SplitIsMonotone : (View → View) → (View → View) → Type 0
SplitIsMonotone left right = (state : State Entry View) (seat : ℕ) (pass : View) → get_elem? state.views seat ≡ some pass
    → LaterState state (record state { views = slice_set state.views seat (left pass) ++ right pass ∷ [] })

-- A join leads to a later state: the pass at a seat takes in a note, a pass without a share, at the seat `other`. `both` says what the pass
-- becomes, and `spent` is what is left of the note.
abbrev pub JoinIsMonotone : (View → View → View) → View → Type 0
JoinIsMonotone both spent =
    (state : State Entry View) → TableInvariant state → (seat other : ℕ) (pass note : View)
    → get_elem? state.views seat ≡ some pass → get_elem? state.views other ≡ some note → other ≢ seat → note.share ≡ None
    → LaterState state (record state { views = slice_set (slice_set state.views seat (both pass note)) other spent })

-- In a state that satisfies the invariant, if a step of this kind finds the word that the state has, it finds as many reporters enlisted as
-- the log of the state has.
abbrev pub FindsEnlisted : StepKind → Type 0
FindsEnlisted kind = (state : State Entry View) (rule : TableInvariant state) (step : Step Entry) (before after : Me Entry View)
    → kind step before (slice_index state.words step.word) after → CountsReporters (enlisted_by rule.log) before.0 after.0
