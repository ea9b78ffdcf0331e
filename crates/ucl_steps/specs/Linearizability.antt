-- Linearizability (Herlihy and Wing 1990) of a history of calls to an object, whatever the object is; and strong linearizability.
-- A place in a list is counted from 0.
use Rattle.std.specs.Prelude.{◌≡◌, ◌≢◌, ℕ, ◌<◌, ◌==◌, Bool, true, false, not, if◌then◌else◌, List, [], ◌∷◌, ◌++◌, All, filter, take, Some}
use Rattle.std.specs.Prelude.{slice_get}
use Rattle.std.specs.List.{fold}
use mathlib.Core.List.{IsPrefix}

-- a sequential object: its first state, and for a call in a state, the state after it and the reply
pub record SequentialObject (State Call Reply : Type 0) : Type 0 where
  pub initial : State
  pub after : State → Call → State
  pub reply : State → Call → Reply

-- an event of a history: a process invokes a call, or it gets the response to its call, which is the reply
pub data HistoryEvent (Call Reply : Type 0) : Type 0 where
  Invocation : (process : ℕ) (call : Call) → HistoryEvent Call Reply
  Response : (process : ℕ) (reply : Reply) → HistoryEvent Call Reply

-- an operation: a call of a process, the place of its invocation in a history, and the reply
pub record Operation (Call Reply : Type 0) : Type 0 where
  pub process : ℕ
  pub call : Call
  pub invoked : ℕ
  pub reply : Reply

-- the process of an event
abbrev pub process_of : {Call Reply : Type 0} → HistoryEvent Call Reply → ℕ
process_of (Invocation process call) = process
process_of (Response process reply) = process

-- whether an event is a response
abbrev pub is_response : {Call Reply : Type 0} → HistoryEvent Call Reply → Bool
is_response (Invocation process call) = false
is_response (Response process reply) = true

-- whether a process has a pending call after these events: the last event of the process is an invocation
abbrev pub is_pending : {Call Reply : Type 0} → ℕ → List (HistoryEvent Call Reply) → Bool
is_pending {Call} {Reply} process history = fold
    (λ (pending : Bool) (event : HistoryEvent Call Reply). if process_of event == process then not (is_response event) else pending) false history

-- each process makes one call after another: a response comes only if its process has a pending call, an invocation only if it
-- has none
abbrev pub IsWellFormed : {Call Reply : Type 0} → List (HistoryEvent Call Reply) → Type 0
IsWellFormed {Call} {Reply} history = (place : ℕ) (event : HistoryEvent Call Reply) → slice_get history place ≡ Some event
    → is_pending (process_of event) (take place history) ≡ is_response event

-- an operation of a history: its invocation is there, and its response, at a later place, with no event of its process between them
pub record IsOperation {Call Reply : Type 0} (history : List (HistoryEvent Call Reply)) (o : Operation Call Reply) : Type 0 where
  pub invocation : slice_get history o.invoked ≡ Some (Invocation o.process o.call)
  pub answered : ℕ
  pub response : slice_get history answered ≡ Some (Response o.process o.reply)
  pub order : o.invoked < answered
  pub next : (place : ℕ) (event : HistoryEvent Call Reply) → o.invoked < place → place < answered → slice_get history place ≡ Some event
      → process_of event ≢ o.process

-- these operations, made one after the other from this state on, have the replies of the object
abbrev pub IsLegalSequence : {State Call Reply : Type 0} → SequentialObject State Call Reply → State → List (Operation Call Reply) → Type 0
IsLegalSequence object state [] = Unit {0}
IsLegalSequence object state (o ∷ rest) = (o.reply ≡ object.reply state o.call) × IsLegalSequence object (object.after state o.call) rest

-- the state of the object after these operations, made so from this state on
abbrev pub state_after : {State Call Reply : Type 0} → SequentialObject State Call Reply → State → List (Operation Call Reply) → State
state_after object state [] = state
state_after object state (o ∷ rest) = state_after object (object.after state o.call) rest

-- a sequence is a linearization of a history: it has the operations of the history, each once, with the replies of the object; and one that
-- got its response before another was invoked comes before it
pub record IsLinearization {State Call Reply : Type 0} (object : SequentialObject State Call Reply)
    (history : List (HistoryEvent Call Reply)) (sequence : List (Operation Call Reply)) : Type 0 where
  pub legal : IsLegalSequence object object.initial sequence
  pub operations : (i : ℕ) (o : Operation Call Reply) → slice_get sequence i ≡ Some o → IsOperation history o
  pub each_once : (o : Operation Call Reply) → IsOperation history o
      → (i : ℕ) × (slice_get sequence i ≡ Some o) × ((j : ℕ) → slice_get sequence j ≡ Some o → j ≡ i)
  pub order : (i j : ℕ) (a b : Operation Call Reply) → slice_get sequence i ≡ Some a → slice_get sequence j ≡ Some b
      → (of_a : IsOperation history a) → of_a.answered < b.invoked → i < j

-- a sequence linearizes a history, of which calls may be pending at its end: it is a linearization of the history with some responses to
-- pending calls added there. Calls that are pending even then count for nothing
pub record Linearizes {State Call Reply : Type 0} (object : SequentialObject State Call Reply)
    (history : List (HistoryEvent Call Reply)) (sequence : List (Operation Call Reply)) : Type 0 where
  pub responses : List (HistoryEvent Call Reply)
  pub only : All (λ (event : HistoryEvent Call Reply). is_response event ≡ true) responses
  pub well_formed : IsWellFormed (history ++ responses)
  pub linearization : IsLinearization object (history ++ responses) sequence

-- a history is linearizable: some sequence linearizes it
abbrev pub IsLinearizable : {State Call Reply : Type 0} → SequentialObject State Call Reply → List (HistoryEvent Call Reply) → Type 0
IsLinearizable {State} {Call} {Reply} object history = (sequence : List (Operation Call Reply)) × Linearizes object history sequence

-- strong linearizability of executions, which are lists of steps that may be taken, each with a history of calls: `linearize` gives each
-- execution a sequence that linearizes its history, and a longer one a sequence of which the calls that pass the test `fixed` begin with
-- those of the shorter, in their order. If all calls are fixed, this is strong linearizability (Golab, Higham and Woelfel 2011)
pub record IsPrefixPreserving {Step State Call Reply : Type 0} (MayTake : List Step → Type 0) (events : List Step → List (HistoryEvent Call Reply))
    (object : SequentialObject State Call Reply) (fixed : Call → Bool) (linearize : List Step → List (Operation Call Reply)) : Type 0 where
  pub linearizes : (steps : List Step) → MayTake steps → Linearizes object (events steps) (linearize steps)
  pub extends : (steps later : List Step) → MayTake later → IsPrefix steps later
      → IsPrefix (filter (λ o. fixed o.call) (linearize steps)) (filter (λ o. fixed o.call) (linearize later))
