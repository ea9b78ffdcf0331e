-- How a value of the program's struct `Machine` stands for a state of the machine as defined in Machine.antt.
use Rattle.std.specs.Prelude.{◌≡◌, Bool, List, map, take, Some, None, MatchBool}
use Rattle.ucl_steps.specs.declared.step.Cast.{Cast}
use Rattle.ucl_steps.specs.declared.step.Step.{Step}
use Rattle.ucl_steps.specs.declared.machine.Held.{Held}
use Rattle.ucl_steps.specs.declared.machine.Held.TheVariants as has
use Rattle.ucl_steps.specs.declared.machine.Machine.{Machine}
use Rattle.ucl_steps.specs.Protocol.{Holding, Collecting, Checking}
use Rattle.ucl_steps.specs.Machine.{CallerState, Idle, Wanting, Within, Answered, MachineState, initial_state, after_step, after_steps}

-- what a caller holds, from the program's value for it; of that value's twelve words in a first collect only the first `loaded` count
abbrev pub holds_of : Held → CallerState
holds_of has.Idle = Idle
holds_of (has.Wanting call event) = Wanting call event
holds_of (has.Holding call event old new) = Within call (Holding event old new)
holds_of (has.Collecting call words loaded) = Within call (Collecting (take loaded words))
holds_of (has.Checking call words checked point) = Within call (Checking words checked point)
holds_of (has.Answered call) = Answered call

-- the state, as the machine is defined, that a value of the program's struct `Machine` stands for
abbrev pub state_of : Machine → MachineState
state_of machine = record {
  words = machine.words;
  history = machine.history.items;
  calls = machine.calls.items;
  callers = record { reporters = map holds_of machine.reporters.items; readers = map holds_of machine.readers.items };
}

-- from the start, with some cast, some list of enabled steps leads to this state
abbrev pub IsReachable : MachineState → Type 0
IsReachable state = (cast : Cast) × (steps : List Step) × (after_steps steps (initial_state cast) ≡ Some state)

-- if `taken` is true, the step leads from the state `old` to the state `new`; if it is false, the step is not enabled in `old`
abbrev pub Takes : MachineState → Step → Bool → MachineState → Type 0
Takes old step taken new = MatchBool taken (after_step old step ≡ Some new) (after_step old step ≡ None)
