-- What a run of a list of steps of the machine answers: its trace, or its first disabled step.
-- A trace is the history, the calls and the words that the steps leave.
use Rattle.std.specs.Prelude.{◌≡◌, ℕ, List, take, slice_get, IsSomeAnd}
use Rattle.ucl_steps.specs.declared.step.Cast.{Cast}
use Rattle.ucl_steps.specs.declared.step.Step.{Step}
use Rattle.ucl_steps.specs.declared.trace.Trace.{Trace}
use Rattle.ucl_steps.specs.Machine.{MachineState, initial_state, IsEnabled, after_steps}

-- a trace has the history, the calls and the match words of this state of the machine
pub record IsLeftBy (state : MachineState) (trace : Trace) : Type 0 where
  pub history : trace.history.items ≡ state.history
  pub calls : trace.calls.items ≡ state.calls
  pub words : trace.words ≡ state.words

-- each step of the list is enabled in its turn, for the callers of this cast, and the trace is what the last state leaves
abbrev pub IsTraceOf : Cast → List Step → Trace → Type 0
IsTraceOf cast steps trace = IsSomeAnd (after_steps steps (initial_state cast)) (λ state. IsLeftBy state trace)

-- the steps of the list before place `at`, counted from 0, are enabled in their turn for this cast, and the one at this place is not
abbrev pub IsFirstDisabled : Cast → List Step → ℕ → Type 0
IsFirstDisabled cast steps at =
    IsSomeAnd (after_steps (take at steps) (initial_state cast)) (λ state. IsSomeAnd (slice_get steps at) (λ step. IsEnabled state step → ⊥))
