-- What is known of a state that steps lead to.
use Rattle.ucl_board.proofs.HistoryTheorems.{board_none}
use Rattle.ucl_steps.proofs.Common.{legal_take, ◌≡◌, ℕ, zero, suc, ◌+◌, ◌-◌, ◌<◌, ◌≤◌, Bool, true, List, ◌∷◌, ◌++◌, take, length, map, Option, Some, None}
use Rattle.ucl_steps.proofs.Common.{refl, sym, ap, ◌∙◌, arith, [], get_or, set, length-take, eq-eqb, ne_eqb, slice_get, slice_index, replicate, option_map}
use Rattle.ucl_steps.proofs.Common.{option_and_then, slice_get-map, slice_get-get_or, slice_get_past, option_and_then_some, false≢true, get_or_default}
use Rattle.ucl_steps.proofs.Common.{take_more_set, take_all, length-take-le, map-set, length-set, EventCall, record_at, IsWord, IsMatch, AreWords, word_at}
use Rattle.ucl_steps.proofs.Common.{max_version, match_after, board_of, reading_of, match_valid, versions, Cast, Caller, Reporter, Reader, Step, Swap, Second}
use Rattle.ucl_steps.proofs.Common.{Accepted, Copied, CallRecord, Collecting, Checking, CallerState, Idle, Wanting, Within, Callers, MachineState}
use Rattle.ucl_steps.proofs.Common.{initial_state, held_by, with_held, after_reply, stored, state_after_first, change_at, caller_of, after_step_holding}
use Rattle.ucl_steps.proofs.Common.{after_step, after_steps, Entry, holds_of, IsReachable, Takes, at_below}
use Rattle.ucl_steps.specs.declared.machine.Held.{Held}
use Rattle.ucl_steps.specs.declared.machine.Held.TheVariants as has
use Rattle.ucl_steps.proofs.Runs.{Keeps, word_now, kept_at_start, run_kept}
use Rattle.ucl_steps.proofs.Calls.{in_call}

-- a state that enabled steps lead to from the start satisfies `Keeps`, the invariant of runs of the machine
pub reached_kept : (w : MachineState) (r : IsReachable w) → Keeps w
reached_kept w r = run_kept r.1 (initial_state r.0) w (kept_at_start r.0) r.2

-- a state that steps lead to has a history no longer than the greatest version
pub reached_short : (w : MachineState) → IsReachable w → length w.history ≤ max_version
reached_short w r = (versions w.history (reached_kept w r).legal).1

-- in a state that steps lead to the word of each match is valid
pub word_is : (w : MachineState) (r : IsReachable w) (g : ℕ) → IsMatch g → IsWord (word_at w.words g)
word_is w r g within = let k = reached_kept w r in record { of = match_after w.history g; valid = match_valid g w.history k.legal; packed = sym (word_now w k g within) }

-- to change element k of a list by f is to set it to f of what it was
pub change_at-set : {X : Type 0} (k : ℕ) (f : X → X) (xs : List X) (d : X) → k < length xs → change_at k f xs ≡ set xs k (f (get_or xs k d))
change_at-set k f [] d l = absurd (omega arith)
change_at-set zero f (x ∷ xs) d l = refl
change_at-set {X = X} (suc k) f (x ∷ xs) d l = ap (λ (z : List X). x ∷ z) (change_at-set k f xs d (omega arith))

-- callers of the program that are idle stand for idle callers of the machine
pub idle_all : (n : ℕ) → map holds_of (replicate n has.Idle) ≡ replicate n Idle
idle_all zero = refl
idle_all (suc n) = ap (λ (z : List CallerState). Idle ∷ z) (idle_all n)

-- what reporter r holds is at place r - 1 of what the reporters hold
pub held_reporter : (cs : Callers) (r : ℕ) → 1 ≤ r → held_by cs (Reporter r) ≡ slice_get cs.reporters (r - 1)
held_reporter cs r l = search arith

-- what reader r holds is at place r - 1 of what the readers hold
pub held_reader : (cs : Callers) (r : ℕ) → 1 ≤ r → held_by cs (Reader r) ≡ slice_get cs.readers (r - 1)
held_reader cs r l = search arith

-- what a caller of the program holds stands for what the machine's caller at its place holds
pub held_at : (hs : List Held) (k : ℕ) (x d : Held) → k < length hs → x ≡ get_or hs k d → Some (holds_of x) ≡ slice_get (map holds_of hs) k
held_at hs k x d l e = sym (slice_get-map holds_of hs k ∙ (ap (option_map holds_of) (slice_get-get_or hs k d l) ∙ ap (λ (z : Held). Some (holds_of z)) (sym e)))

-- past the callers of the program there is no caller of the machine
pub held_past : (hs : List Held) (k : ℕ) → length hs ≤ k → None ≡ slice_get (map holds_of hs) k
held_past hs k l = sym (slice_get-map holds_of hs k ∙ ap (option_map holds_of) (slice_get_past hs k l))

-- the machine's state of these words, history and calls, and of what its reporters and its readers hold
abbrev state : List ℕ → List Entry → List CallRecord → List CallerState → List CallerState → MachineState
state words history calls reporters readers = record { words = words; history = history; calls = calls; callers = record { reporters = reporters; readers = readers } }

-- a caller of the program that holds y then: the machine's state with that held
module _ (words : List ℕ) (history : List Entry) (calls : List CallRecord) where
  pub hold_reporter : (hs : List Held) (readers : List CallerState) (c : Caller) (r k : ℕ) (y : Held) → c ≡ Reporter r → k ≡ r - 1
      → state words history calls (map holds_of (set hs k y)) readers ≡ with_held (holds_of y) c (state words history calls (map holds_of hs) readers)
  hold_reporter hs readers c r k y is at = search (arith, map-set)

  pub hold_reader : (hs : List Held) (reporters : List CallerState) (c : Caller) (r k : ℕ) (y : Held) → c ≡ Reader r → k ≡ r - 1
      → state words history calls reporters (map holds_of (set hs k y)) ≡ with_held (holds_of y) c (state words history calls reporters (map holds_of hs))
  hold_reader hs reporters c r k y is at = search (arith, map-set)

-- to set call k to f of that call is to change it by f
pub set-change_at : (calls : List CallRecord) (k : ℕ) (x : CallRecord) (f : CallRecord → CallRecord) → k < length calls → x ≡ get_or calls k x → set calls k (f x) ≡ change_at k f calls
set-change_at calls k x f l is = ap (λ (z : CallRecord). set calls k (f z)) is ∙ sym (change_at-set k f calls x l)

-- the load of word n of a first collect, by a caller of the program
module _ (w : MachineState) (c : Caller) (k : ℕ) (ws : List ℕ) (n : ℕ) (twelve : length ws ≡ 12) (few : n < 12) where
  taken_long : length (take n ws) ≡ n
  taken_long = length-take-le n ws (omega arith)

  one_longer : take n ws ++ slice_index w.words (length (take n ws)) ∷ [] ≡ take (n + 1) (set ws n (get_or w.words n 0))
  one_longer = ap (λ (z : ℕ). take n ws ++ slice_index w.words z ∷ []) taken_long ∙ sym (take_more_set ws n (get_or w.words n 0) (omega arith))

  long : length (take (n + 1) (set ws n (get_or w.words n 0))) ≡ n + 1
  long = let l = length-set ws n (get_or w.words n 0) in length-take-le (n + 1) (set ws n (get_or w.words n 0)) (omega arith)

  -- with the twelfth word it holds all, to compare them; before, it holds one more
  pub first_last : n ≡ 11 → with_held (Within k (Checking (set ws n (get_or w.words n 0)) 0 (length w.history))) c w ≡ state_after_first c k (take n ws) w
  first_last is = search (arith, length-set, take_all, eq-eqb, long, one_longer)

  pub first_more : (n ≡ 11 → ⊥) → with_held (Within k (Collecting (take (n + 1) (set ws n (get_or w.words n 0))))) c w ≡ state_after_first c k (take n ws) w
  first_more not = search (arith, long, ne_eqb, one_longer)

-- a state with a fresh board, no entry, no call, and only idle callers is the initial state of the machine
pub start_is : (cast : Cast) (words : List ℕ) (history : List Entry) (calls : List CallRecord) (reporters readers : List CallerState) → words ≡ board_of [] → history ≡ [] → calls ≡ []
    → reporters ≡ replicate cast.reporters Idle → readers ≡ replicate cast.readers Idle
    → state words history calls reporters readers ≡ initial_state cast
start_is cast words history calls reporters readers w a b c d = search (arith, board_none)

-- if the caller of step s holds x in state w, s leads from w to the state to which it leads a caller that holds x
pub step_is : (s : Step) (w w' : MachineState) (x : CallerState) → held_by w.callers (caller_of s) ≡ Some x → after_step_holding s (Some x) w ≡ Some w' → after_step w s ≡ Some w'
step_is s w w' x holds e = ap (λ (o : Option CallerState). after_step_holding s o w) holds ∙ e

-- what a caller holds in a state that steps lead to, as the program has it
module _ (w : MachineState) (r : IsReachable w) (c : Caller) (o : Option Held) (told : option_map holds_of o ≡ held_by w.callers c) where
  pub holds : (h : Held) → o ≡ Some h → held_by w.callers c ≡ Some (holds_of h)
  holds h is = sym told ∙ ap (option_map holds_of) is

  -- a call that it is in is one of the calls; it has loaded and checked fewer than twelve words
  pub call_below : (h : Held) (k : ℕ) → o ≡ Some h → in_call (holds_of h) ≡ Some k → k < length w.calls
  call_below h k is within = let t = (reached_kept w r).knows c (holds_of h) k (holds h is) within in at_below w.calls k t.call t.at

  pub checked_few : (k : ℕ) (ws : List ℕ) (n p : ℕ) → o ≡ Some (has.Checking k ws n p) → n < 12
  checked_few k ws n p is = ((reached_kept w r).knows c (Within k (Checking ws n p)) k (holds (has.Checking k ws n p) is) refl).sees.few

  pub loaded_few : (k : ℕ) (ws : List ℕ) (n : ℕ) → o ≡ Some (has.Collecting k ws n) → length ws ≡ 12 → n < 12
  loaded_few k ws n is twelve = let few = ((reached_kept w r).knows c (Within k (Collecting (take n ws))) k (holds (has.Collecting k ws n) is) refl).sees.few in let l = length-take n ws in omega arith

  -- each collected word is one that its match had
  pub collected_words : (k : ℕ) (ws : List ℕ) (n p : ℕ) → o ≡ Some (has.Checking k ws n p) → AreWords ws
  collected_words k ws n p is =
      let kept = reached_kept w r in
      let sees = (kept.knows c (Within k (Checking ws n p)) k (holds (has.Checking k ws n p) is) refl).sees in
      record {
        twelve = sees.twelve;
        each = λ i d below. let t = sees.loaded i below in
            search (arith, match_valid (i + 1) (take t.0 w.history) (legal_take w.history t.0 kept.legal), legal_take w.history t.0 kept.legal, get_or_default ws i 0 d below);
      }

  -- the word that a report loads is that of a valid record
  pub wanted_word : (k : ℕ) (e : EventCall) → o ≡ Some (has.Wanting k e) → IsWord (word_at w.words e.game)
  wanted_word k e is = word_is w r e.game ((reached_kept w r).knows c (Wanting k e) k (holds (has.Wanting k e) is) refl).sees.game

  -- a swap that is won
  pub won_step : (n k : ℕ) (e : EventCall) (old new : ℕ) → c ≡ Reporter n → o ≡ Some (has.Holding k e old new) → word_at w.words e.game ≡ old
      → after_step w (Swap c) ≡ Some (after_reply c k (length w.history) (Accepted (record { number = (record_at new).number })) (stored n e new w))
  won_step n k e old new reporter is same = search (arith, holds, step_is, eq-eqb)

  -- a second collect that is clean
  pub clean_step : (k : ℕ) (ws : List ℕ) (n p : ℕ) → o ≡ Some (has.Checking k ws n p) → slice_index w.words n ≡ slice_index ws n → n ≡ 11
      → after_step w (Second c) ≡ Some (after_reply c k p (Copied (reading_of ws)) w)
  clean_step k ws n p is same last = search (arith, holds, eq-eqb, step_is)

-- a step that was taken (`taken` is true) leads from the state `old` to the state `new`
pub taken_step : (old new : MachineState) (s : Step) (taken : Bool) → Takes old s taken new → taken ≡ true → after_step old s ≡ Some new
taken_step old new s taken t is = search (arith, false≢true)

-- if the first `at` steps of a list lead from w to v, and the next one from v to u, the first `at + 1` lead from w to u
pub steps_more : (steps : List Step) (at : ℕ) (s : Step) (w v u : MachineState) → slice_get steps at ≡ Some s → after_steps (take at steps) w ≡ Some v → after_step v s ≡ Some u
    → after_steps (take (suc at) steps) w ≡ Some u
steps_more (x ∷ steps) (suc at) s w v u here before then =
    option_and_then_some (after_steps (take at steps)) (after_step w x) v before (λ y is rest. ap (option_and_then (after_steps (take (suc at) steps))) is ∙ steps_more steps at s y v u here rest then)
steps_more steps at s w v u here before then = search arith
