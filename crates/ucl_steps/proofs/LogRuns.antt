-- A log is a run of the machine, with one caller for each pass; a longer log is a longer run.
use Rattle.ucl_steps.proofs.Common.{◌≡◌, ◌≢◌, inl, inr, ℕ, zero, suc, ◌+◌, ◌-◌, ◌<◌, ◌≤◌, ◌==◌, nat_le, Bool, true, false, cond, List, ◌∷◌, ◌++◌}
use Rattle.ucl_steps.proofs.Common.{length, get_or_append_left, get_or_push, length_push, Option, Some, None, refl, sym, ap, ◌∙◌, subst, arith, []}
use Rattle.ucl_steps.proofs.Common.{append-nil, append_assoc, le-leb, same_Some, option_and_then, option_and_then_some, slice_get, slice_index, All, Entry}
use Rattle.ucl_steps.proofs.Common.{EventCall, IsMatch, IsReporter, word_of, word_at, match_after, board_of, word_after, entry_of, Caller, Reporter, Reader}
use Rattle.ucl_steps.proofs.Common.{Call, Event, Reading, Step, Reply, CallerState, Idle, Wanting, Within, Answered, MachineState, initial_state, held_by}
use Rattle.ucl_steps.proofs.Common.{with_held, held_at_begin, after_begin, after_reply, after_end, after_outcome, stored, after_step_holding, after_step}
use Rattle.ucl_steps.proofs.Common.{after_steps, Pending, NoCall, Holding, Collecting, Checking, Outcome, GoesOn, Answers, look_outcome, swap_outcome, first_outcome, second_outcome}
use Rattle.ucl_steps.proofs.Common.{CompletedCall, replicate, at_end, at_either, none-some}
use Rattle.ucl_steps.proofs.Common.{All-nil, All-cons, CallRecord, with_reply, with_end, begins_length}
use Rattle.std.proofs.lemmas.Bool.{and_from}
use Rattle.ucl_word.proofs.Sequences.{may_induction, may_begin, may_last}
use Rattle.ucl_steps.specs.declared.step.Step.TheVariants as machine
use Rattle.ucl_steps.specs.Machine as rules
use Rattle.ucl_steps.specs.Machine.{begun_call}
use Rattle.ucl_steps.proofs.Histories.{held_here, held_else, change_at_here}
use Rattle.ucl_steps.proofs.Calls.{IsDecided, IsSequential, IsSettled, LiesWithin, sequential_later, decided}
use Rattle.ucl_steps.proofs.Runs.{Keeps, kept_at_start, run_kept, same_reporter}
use Rattle.ucl_steps.proofs.LocalStates.{begins, by_seat, look_none, first_none, second_none, count_none, enlist_none}
use Rattle.ucl_steps.proofs.LocalStates.{numbers_low, numbers_apart, point_new, point_same}
use Rattle.ucl_steps.proofs.Points.{point_at, point_of, pointed}
use Rattle.ucl_steps.proofs.LogFacts.{Offers, Sees, logs_facts, logs_sound}
use Rattle.ucl_log.proofs.Logs.{history_more, history_same, enlisted_more, below_more}
use Rattle.ucl_log.specs.Log.{AccessKind, Look, Swap, First, Second, Action, Match, CountRead, CountRaised, TakenStep, LoggedStep, Log, history_of, enlists, enlisted_by}
use Rattle.ucl_log.specs.Log.{ReadsCurrent, MayBeTaken, IsConsistentLog, Whole, LogFacts, entry_list}
use Rattle.ucl_steps.specs.LocalState.{LocalState, local_at, outcome, with_outcome, with_step, next_match, IsNextFor, entry_by}
use Rattle.ucl_steps.specs.LocalState.{IsNextOfProtocol, FollowsProtocol, call_asked, call_answered}
use Rattle.ucl_steps.specs.LocalState.{IsCompletedCall}
use Rattle.ucl_steps.specs.LogRuns.{caller_for, cast_for, ends_by, steps_on, steps_after, machine_steps, LongerLogsAreLongerRuns}
use Rattle.ucl_steps.specs.LogRuns.{HoldsAs, LogsAreRuns}

-- the machine's steps for x, a step that comes after this log
abbrev own_steps : Log → LoggedStep → List Step
own_steps log x = let d = local_at x.seat log in steps_on (caller_for x.seat d.number) d.number d.held x.step.action x.step.length

-- the machine's steps for two parts of a log are those for the first, and then those for the second after it
steps_append : (before xs ys : Log) → steps_after before (xs ++ ys) ≡ steps_after before xs ++ steps_after (before ++ xs) ys
steps_append before [] ys = ap (λ (l : Log). steps_after l ys) (sym (append-nil before))
steps_append before (x ∷ xs) ys =
    let own = own_steps before x in
    ap (λ (l : List Step). own ++ l) (steps_append (before ++ x ∷ []) xs ys)
    ∙ (sym (append_assoc own (steps_after (before ++ x ∷ []) xs) (steps_after ((before ++ x ∷ []) ++ xs) ys))
    ∙ ap (λ (l : Log). (own ++ steps_after (before ++ x ∷ []) xs) ++ steps_after l ys) (append_assoc before (x ∷ []) xs))

-- the machine's steps for a log with one step more are those for the log, and then those for that step
steps_more : (log : Log) (x : LoggedStep) → machine_steps (log ++ x ∷ []) ≡ machine_steps log ++ own_steps log x
steps_more log x = steps_append [] log (x ∷ []) ∙ ap (λ (l : List Step). machine_steps log ++ l) (append-nil (own_steps log x))

-- if a log is a prefix of a later one, the machine's steps for it are a prefix of those for the later one
pub longer_logs : LongerLogsAreLongerRuns
longer_logs log later p = (steps_after log p.0, sym (steps_append [] log p.0) ∙ ap machine_steps p.1)

-- if a step leads from w to v, and more steps from v to u, the step and then these steps lead from w to u
one_then : (s : Step) (steps : List Step) (w v u : MachineState) → after_step w s ≡ Some v → after_steps steps v ≡ Some u → after_steps (s ∷ steps) w ≡ Some u
one_then s steps w v u one rest = ap (option_and_then (after_steps steps)) one ∙ rest

-- steps and then more steps lead where the later ones lead from the state between them
pub run_append : (xs ys : List Step) (w v : MachineState) → after_steps xs w ≡ Some v → after_steps (xs ++ ys) w ≡ after_steps ys v
run_append [] ys w v e = ap (after_steps ys) (same_Some w v e)
run_append (s ∷ xs) ys w v e = option_and_then_some (after_steps xs) (after_step w s) v e (λ u is rest. ap (option_and_then (after_steps (xs ++ ys))) is
    ∙ run_append xs ys u v rest)

-- in state w caller c holds what the outcome of its call k says if the call goes on, and is idle if the call has its reply
abbrev HeldThen : Caller → ℕ → Outcome → MachineState → Type 0
HeldThen c k (GoesOn held) w = held_by w.callers c ≡ Some (Within k held)
HeldThen c k (Answers reply) w = held_by w.callers c ≡ Some Idle

-- call k in the list of calls is one of caller c, and asked this
record IsCallOf (calls : List CallRecord) (k : ℕ) (c : Caller) (call : Call) : Type 0 where
  record_is : CallRecord
  at : slice_get calls k ≡ Some record_is
  caller : record_is.caller ≡ c
  asked : record_is.call ≡ call

-- if the outcome is a reply, call k of caller c, which asked this, has that reply and this point
abbrev IsAnswered : List CallRecord → ℕ → Caller → Call → ℕ → Outcome → Type 0
IsAnswered calls k c call point (GoesOn held) = Unit {0}
IsAnswered calls k c call point (Answers reply) = (i : IsCallOf calls k c call) × IsDecided i.record_is point reply

-- these steps lead from state w to one with this history, in which the call of caller c has this outcome, with this point if it is a reply,
-- and all other callers hold what they held
record Leaves (c : Caller) (w : MachineState) (steps : List Step) (call : Call) (point : ℕ) (o : Outcome) (history : List Entry) : Type 0 where
  last : MachineState
  run : after_steps steps w ≡ Some last
  history_is : last.history ≡ history
  others : (d : Caller) → d ≢ c → held_by last.callers d ≡ held_by w.callers d
  place : ℕ
  holds : HeldThen c place o last
  answered : IsAnswered last.calls place c call point o

-- if step s gives call k of caller c an outcome, then s, and the call's End if the outcome is a reply, lead to that outcome (Leaves). State
-- v has the words and the history after s, and what the callers held before it
leaves_by : (c : Caller) (w v : MachineState) (s : Step) (k point : ℕ) (x : CallerState) (call : Call) (o : Outcome) → held_by w.callers c ≡ Some x → v.callers ≡ w.callers
    → IsCallOf v.calls k c call → after_step w s ≡ Some (after_outcome c k point o v) → Leaves c w (s ∷ ends_by o c) call point o v.history
leaves_by c w v s k point x call (GoesOn held) holds same known one =
    let here = ap (λ cs. held_by cs c) same ∙ holds in
    let last = with_held (Within k held) c v in
    record {
      last = last;
      run = one_then s [] w last last one refl;
      history_is = refl;
      others = λ d not. held_else v.callers c d (Within k held) x here not ∙ ap (λ cs. held_by cs d) same;
      place = k;
      holds = held_here v.callers c x (Within k held) here;
      answered = tt;
    }
leaves_by c w v s k point x call (Answers reply) holds same known one =
    let here = ap (λ cs. held_by cs c) same ∙ holds in
    let z = after_reply c k point reply v in
    let last = after_end c k z in
    let replied = change_at_here k (with_reply point reply) v.calls known.record_is known.at in
    let ended = change_at_here k (with_end (length z.history)) z.calls (with_reply point reply known.record_is) replied in
    let held_z : held_by z.callers c ≡ Some (Answered k) = held_here v.callers c x (Answered k) here in
    let end : after_step z (machine.End c) ≡ Some last = ap (λ (o : Option CallerState). after_step_holding (machine.End c) o z) held_z in
    record {
      last = last;
      run = one_then s (machine.End c ∷ []) w z last one (one_then (machine.End c) [] z last last end refl);
      history_is = refl;
      others = λ d not. held_else z.callers c d Idle (Answered k) held_z not ∙ (held_else v.callers c d (Answered k) x here not ∙ ap (λ cs. held_by cs d) same);
      place = k;
      holds = held_here z.callers c (Answered k) Idle held_z;
      answered = (
        record { record_is = with_end (length z.history) (with_reply point reply known.record_is); at = ended; caller = known.caller; asked = known.asked },
        (refl, refl),
      );
    }

-- if steps lead from the state in which an idle caller has begun a call to an outcome of it (Leaves), the Begin and then these steps do so
-- from the state before
leaves_begun : (c : Caller) (call : Call) (w : MachineState) (steps : List Step) (point : ℕ) (o : Outcome) (history : List Entry) → held_by w.callers c ≡ Some Idle
    → rules.may_begin c call ≡ true → Leaves c (after_begin c call w) steps call point o history → Leaves c w (machine.Begin c call ∷ steps) call point o history
leaves_begun c call w steps point o history idle may l =
    let v = after_begin c call w in
    let one : after_step w (machine.Begin c call) ≡ Some v =
    ap (λ (h : Option CallerState). after_step_holding (machine.Begin c call) h w) idle ∙ ap (λ (b : Bool). cond b (Some v) None) may in
    record {
      last = l.last;
      run = one_then (machine.Begin c call) steps w v l.last one l.run;
      history_is = l.history_is;
      others = λ d not. l.others d not ∙ held_else w.callers c d (held_at_begin call (length w.calls)) Idle idle not;
      place = l.place;
      holds = l.holds;
      answered = l.answered;
    }

-- a call that a caller has just begun is the last in the list of calls
begun_now : (c : Caller) (call : Call) (w : MachineState) → IsCallOf (after_begin c call w).calls (length w.calls) c call
begun_now c call w = let b = begun_call c call (length w.history) in record { record_is = b; at = at_end w.calls b; caller = refl; asked = refl }

-- each reporter may begin to enter an event of a match that there is
may_report : (number : ℕ) (e : EventCall) → IsReporter number → IsMatch e.game → rules.may_begin (Reporter number) (Event e) ≡ true
may_report number e reporter is = search (arith, and_from, nat_le, le-leb)

-- each caller may begin a reading
may_read : (c : Caller) → rules.may_begin c Reading ≡ true
may_read c = search arith

-- the board before one step of a pass on a match word, which finds the word that is there
module _ (w : MachineState) (kept : Keeps w) (number game found at : ℕ) (is : IsMatch game)
    (there : found ≡ word_of (match_after w.history game)) (now : at ≡ length w.history) where
  word_here : word_at w.words game ≡ found
  word_here = ap (λ (ws : List ℕ). word_at ws game) kept.words ∙ (word_after w.history game is ∙ sym there)

  word_in : (k : ℕ) → game ≡ k + 1 → slice_index w.words k ≡ found
  word_in k of = let same : k ≡ game - 1 = omega arith in ap (slice_index w.words) same ∙ word_here

  -- the caller's steps for that lead on, with these entries behind the history
  abbrev Gives : Caller → AccessKind → Pending → List Entry → Type 0
  Gives c act h entries = Leaves c w (steps_on c number h (Match act game found) at) (call_asked h (Match act game found)) (point_of h at)
      (outcome number h (Match act game found) at) (w.history ++ entries)

  kept_history : {c : Caller} {v : MachineState} {steps : List Step} {call : Call} {point : ℕ} {o : Outcome} → Leaves c v steps call point o w.history
      → Leaves c v steps call point o (w.history ++ [])
  kept_history {c} {v} {steps} {call} {point} {o} l = subst (Leaves c v steps call point o) (sym (append-nil w.history)) l

  -- the load that begins a report leads on, by a reporter that is idle
  look_gives : (e : EventCall) → IsReporter number → game ≡ e.game → held_by w.callers (Reporter number) ≡ Some Idle → Gives (Reporter number) (Look e) NoCall []
  look_gives e reporter of idle =
      let c = Reporter number in
      let v = after_begin c (Event e) w in
      let k = length w.calls in
      let holds : held_by v.callers c ≡ Some (Wanting k e) = held_here w.callers c Idle (Wanting k e) idle in
      let word : word_at w.words e.game ≡ found = ap (word_at w.words) (sym of) ∙ word_here in
      let one : after_step v (machine.Look c) ≡ Some (after_outcome c k at (look_outcome number e found) v) =
      ap (λ (h : Option CallerState). after_step_holding (machine.Look c) h v) holds
      ∙ (λ i. Some (after_outcome c k (sym now i) (look_outcome number e (word i)) v)) in
      kept_history (leaves_begun c (Event e) w (machine.Look c ∷ ends_by (look_outcome number e found) c) at (look_outcome number e found) w.history idle
      (may_report number e reporter (subst IsMatch of is))
      (leaves_by c v v (machine.Look c) k at (Wanting k e) (Event e) (look_outcome number e found) holds refl (begun_now c (Event e) w) one))

  -- the exchange of a pass is that of its caller in the machine
  swap_gives : (e : EventCall) (old new k : ℕ) → game ≡ e.game → held_by w.callers (Reporter number) ≡ Some (Within k (Holding e old new))
      → Gives (Reporter number) Swap (Holding e old new) (entry_list (cond (found == old) (Some (entry_of number e)) None))
  swap_gives e old new k of holds = by (found == old) refl
    where
      word : word_at w.words e.game ≡ found
      word = ap (word_at w.words) (sym of) ∙ word_here

      step_is : (b : Bool) → (found == old) ≡ b → after_step w (machine.Swap (Reporter number)) ≡ Some
          (after_outcome (Reporter number) k at (swap_outcome old new found) (cond b (stored number e new w) w))
      step_is b is = ap (λ (h : Option CallerState). after_step_holding (machine.Swap (Reporter number)) h w) holds
          ∙ ((λ i. Some (after_outcome (Reporter number) k (sym now i) (swap_outcome old new (word i)) (cond (word i == old) (stored number e new w) w)))
          ∙ ap (λ (b : Bool). Some (after_outcome (Reporter number) k at (swap_outcome old new found) (cond b (stored number e new w) w))) is)

      known : IsCallOf w.calls k (Reporter number) (Event e)
      known = let m = kept.knows (Reporter number) (Within k (Holding e old new)) k holds refl in
          record { record_is = m.call; at = m.at; caller = m.caller; asked = m.sees.asks.call }

      by : (b : Bool) → (found == old) ≡ b
          → Leaves (Reporter number) w (machine.Swap (Reporter number) ∷ ends_by (swap_outcome old new found) (Reporter number)) (Event e) at (swap_outcome old new found)
          (w.history ++ entry_list (cond b (Some (entry_of number e)) None))
      by true is = leaves_by (Reporter number) w (stored number e new w) (machine.Swap (Reporter number)) k at
          (Within k (Holding e old new)) (Event e) (swap_outcome old new found) holds refl known (step_is true is)
      by false is = kept_history (leaves_by (Reporter number) w w (machine.Swap (Reporter number)) k at (Within k (Holding e old new))
          (Event e) (swap_outcome old new found) holds refl known (step_is false is))

  module _ (c : Caller) where
    -- the load of one word of a first collect, in a state with the same words and history
    loads : (v : MachineState) (ws : List ℕ) (k : ℕ) → v.words ≡ w.words → v.history ≡ w.history
        → held_by v.callers c ≡ Some (Within k (Collecting ws)) → IsCallOf v.calls k c Reading → game ≡ length ws + 1
        → Leaves c v (machine.First c ∷ ends_by (first_outcome ws found at) c) Reading at (first_outcome ws found at) w.history
    loads v ws k same_words same_history holds known next =
        let word : slice_index v.words (length ws) ≡ found = ap (λ (l : List ℕ). slice_index l (length ws)) same_words ∙ word_in (length ws) next in
        let place : length v.history ≡ at = ap length same_history ∙ sym now in
        let one : after_step v (machine.First c) ≡ Some (after_outcome c k at (first_outcome ws found at) v) =
        ap (λ (h : Option CallerState). after_step_holding (machine.First c) h v) holds
        ∙ (λ i. Some (after_outcome c k (place i) (first_outcome ws (word i) (place i)) v)) in
        subst (Leaves c v (machine.First c ∷ ends_by (first_outcome ws found at) c) Reading at (first_outcome ws found at)) same_history
        (leaves_by c v v (machine.First c) k at (Within k (Collecting ws)) Reading (first_outcome ws found at) holds refl known one)

    -- the load of one word of a first collect leads on from a caller that is idle, and from one that has loaded words
    first_begins : game ≡ 1 → held_by w.callers c ≡ Some Idle → Gives c First NoCall []
    first_begins next idle =
        let v = after_begin c Reading w in
        kept_history (leaves_begun c Reading w (machine.First c ∷ ends_by (first_outcome [] found at) c) at (first_outcome [] found at) w.history idle (may_read c)
        (loads v [] (length w.calls) refl refl (held_here w.callers c Idle (Within (length w.calls) (Collecting [])) idle) (begun_now c Reading w) next))

    first_gives : (ws : List ℕ) (k : ℕ) → game ≡ length ws + 1 → held_by w.callers c ≡ Some (Within k (Collecting ws)) → Gives c First (Collecting ws) []
    first_gives ws k next holds =
        let m = kept.knows c (Within k (Collecting ws)) k holds refl in
        kept_history (loads w ws k refl refl holds (record { record_is = m.call; at = m.at; caller = m.caller; asked = m.sees.reads.call }) next)

    -- the load of one word of a second collect leads on
    second_gives : (ws : List ℕ) (checked point k : ℕ) → game ≡ checked + 1 → held_by w.callers c ≡ Some (Within k (Checking ws checked point))
        → Gives c Second (Checking ws checked point) []
    second_gives ws checked point k next holds =
        let m = kept.knows c (Within k (Checking ws checked point)) k holds refl in
        let one : after_step w (machine.Second c) ≡ Some (after_outcome c k point (second_outcome ws checked point found) w) =
        ap (λ (h : Option CallerState). after_step_holding (machine.Second c) h w) holds
        ∙ ap (λ (n : ℕ). Some (after_outcome c k point (second_outcome ws checked point n) w)) (word_in checked next) in
        kept_history (leaves_by c w w (machine.Second c) k point (Within k (Checking ws checked point)) Reading (second_outcome ws checked point found) holds refl
        (record { record_is = m.call; at = m.at; caller = m.caller; asked = m.sees.reads.call }) one)

-- what a pass holds after an outcome
abbrev held_after : Outcome → Pending
held_after (GoesOn held) = held
held_after (Answers reply) = NoCall

-- after an outcome a pass has the number that it had, and holds what the outcome says
outcome_held : (o : Outcome) (y : TakenStep) (d : LocalState) → ((with_outcome o y d).number ≡ d.number) × ((with_outcome o y d).held ≡ held_after o)
outcome_held o y d = search arith

-- in a run of the machine a caller that is within a call and holds h matches a pass that holds h, which is not NoCall
holds_within : (w : MachineState) → Keeps w → (c : Caller) (k : ℕ) (h : Pending) → held_by w.callers c ≡ Some (Within k h)
    → HoldsAs h (held_by w.callers c)
holds_within w kept c k h holds = search (arith, (kept.knows c (Within k h) k holds refl).sees)

-- in a run of the machine a caller that holds what an outcome says matches a pass after that outcome
holds_then : (w : MachineState) → Keeps w → (c : Caller) (k : ℕ) (o : Outcome) → HeldThen c k o w
    → HoldsAs (held_after o) (held_by w.callers c)
holds_then w kept c k o holds = search (arith, holds_within)

-- the caller of a pass with a number is the reporter of that number
reporter_is : (seat number : ℕ) → IsReporter number → caller_for seat number ≡ Reporter number
reporter_is seat number reporter = search arith

-- readers that are the same caller have the same number
same_reader : (n m : ℕ) → Reader n ≡ Reader m → n ≡ m
same_reader n m e = cc

-- the passes of two seats have different callers, if they do not have the same reporter's number
callers_apart : (i j n m : ℕ) → i ≢ j → (0 < n → n ≡ m → i ≡ j) → caller_for i n ≢ caller_for j m
callers_apart i j n m not numbers e = search (arith, same_reader, same_reporter)

-- a pass with a number less than n does not have the reporter with number n as its caller
not_reporter : (n seat number : ℕ) → number < n → Reporter n ≢ caller_for seat number
not_reporter n seat number less e = search (arith, same_reporter)

-- a completed call ended with a step of the log, and its reply is that of the board of one thread at its point
abbrev IsSettledIn : Log → ℕ → CompletedCall → Type 0
IsSettledIn log seat c = (c.last_index < length log) × IsSettled (history_of log) (pointed log seat c)

-- it is so with one step more of the log
settled_later : (log : Log) (x : LoggedStep) (seat : ℕ) (c : CompletedCall) → IsSettledIn log seat c → IsSettledIn (log ++ x ∷ []) seat c
settled_later log x seat c s =
    let p = begins log x in
    let long = begins_length (history_of log) (history_of (log ++ x ∷ [])) p in
    let push = length_push log x in
    let below = s.0 in
    let low = s.1.0 in (
      omega arith,
      subst (λ (n : ℕ). (n ≤ length (history_of (log ++ x ∷ []))) × IsSequential (history_of (log ++ x ∷ [])) n (Reporter c.number) c.call c.reply) (sym (point_same log x seat c s.0))
          (omega arith, sequential_later (history_of log) (history_of (log ++ x ∷ [])) p (point_at log seat c) (Reporter c.number) c.call c.reply s.1.0 s.1.1),
    )

-- if a reply to the caller of a pass is that of the board of one thread after k entries (IsSequential), it is so too for the reporter with
-- the number of the pass, which is 0 for a reader
by_reporter : (h : List Entry) (seat number k : ℕ) (call : Call) (reply : Reply) → IsSequential h k (caller_for seat number) call reply
    → IsSequential h k (Reporter number) call reply
by_reporter h seat number k call reply s = search arith

-- the point of a call that lies within a history of n entries is at most n
lies_low : (c : CallRecord) (k : ℕ) (reply : Reply) (n : ℕ) → LiesWithin c k reply n → k ≤ n
lies_low c k reply n s = search arith

-- in a run of the machine a call of a pass's caller that has its reply has that of the board of one thread at its point
settled_now : (w : MachineState) → Keeps w → (seat number k : ℕ) (call : Call) (point : ℕ) (reply : Reply)
    → IsAnswered w.calls k (caller_for seat number) call point (Answers reply) → (point ≤ length w.history) × IsSequential w.history point (Reporter number) call reply
settled_now w kept seat number k call point reply a =
    let i = a.0 in
    let s = decided w.history i.record_is (kept.explained k i.record_is i.at) point reply a.1 in (
      lies_low i.record_is point reply (length w.history) s.0,
      by_reporter w.history seat number point call reply (subst (λ (asked : Call). IsSequential w.history point (caller_for seat number) asked reply) i.asked
          (subst (λ (d : Caller). IsSequential w.history point d i.record_is.call reply) i.caller s.1)),
    )

-- a log leads to this state of the machine: with its history, its calls answered as by the board of one thread, and what each pass holds
pub record Leads (readers : ℕ) (log : Log) : Type 0 where
  pub state : MachineState
  pub run : after_steps (machine_steps log) (initial_state (cast_for readers)) ≡ Some state
  pub history_is : state.history ≡ history_of log
  pub settled : (seat k : ℕ) (c : CompletedCall) → IsCompletedCall log seat k c → IsSettledIn log seat c
  pub each : (seat : ℕ) → seat < readers → HoldsAs (local_at seat log).held (held_by state.callers (caller_for seat (local_at seat log).number))
  unnumbered : (n : ℕ) → enlisted_by log < n → n ≤ 255 → held_by state.callers (Reporter n) ≡ Some Idle

-- the state of the machine that a log leads to satisfies `Keeps`, the invariant of runs
pub keeps_log : (readers : ℕ) (log : Log) (r : Leads readers log) → Keeps r.state
keeps_log readers log r = run_kept (machine_steps log) (initial_state (cast_for readers)) r.state (kept_at_start (cast_for readers)) r.run

-- a log that leads to a state, and one step more of it
module _ (readers : ℕ) (log : Log) (r : Leads readers log) (facts : LogFacts log) (x : LoggedStep) (place_is : x.step.index ≡ length log)
    (at_is : x.step.length ≡ length (history_of log)) where
  abbrev d : LocalState
  d = local_at x.seat log

  abbrev c : Caller
  c = caller_for x.seat (local_at x.seat log).number

  abbrev log' : Log
  log' = log ++ x ∷ []

  -- the steps of its caller lead on with this outcome
  abbrev Comes : Outcome → Type 0
  Comes o = Leaves c r.state (own_steps log x) (call_asked d.held x.step.action) (point_of d.held x.step.length) o (r.state.history ++ entry_list x.step.entry)

  run_on : (last : MachineState) → after_steps (own_steps log x) r.state ≡ Some last → after_steps (machine_steps log') (initial_state (cast_for readers)) ≡ Some last
  run_on last then = ap (λ (l : List Step). after_steps l (initial_state (cast_for readers))) (steps_more log x)
      ∙ (run_append (machine_steps log) (own_steps log x) (initial_state (cast_for readers)) r.state r.run ∙ then)

  -- the completed calls of all passes, those of this one among them
  settled_by : (d' : LocalState) → with_step d x.step ≡ d' → ((k : ℕ) (a : CompletedCall) → slice_get d'.calls k ≡ Some a → IsSettledIn log' x.seat a)
      → (seat k : ℕ) (a : CompletedCall) → IsCompletedCall log' seat k a → IsSettledIn log' seat a
  settled_by d' is own seat k a = by_seat log x (λ seat y. slice_get y.calls k ≡ Some a → IsSettledIn log' seat a) d' is (own k a)
      (λ seat not at. settled_later log x seat a (r.settled seat k a at)) seat

  settled_outcome : (o : Outcome) (l : Comes o) → Keeps l.last → l.last.history ≡ history_of log'
      → (k : ℕ) (a : CompletedCall) → slice_get (with_outcome o x.step d).calls k ≡ Some a → IsSettledIn log' x.seat a
  settled_outcome (GoesOn held) l kept history k a at = settled_later log x x.seat a (r.settled x.seat k a at)
  settled_outcome (Answers reply) l kept history k a at =
      let new = call_answered reply x.step d in
      let push = length_push log x in
      elim (at_either d.calls new k a at) [
        | inl u ↦ settled_later log x x.seat a (r.settled x.seat k a u.1)
        | inr u ↦ subst (IsSettledIn log' x.seat) u.1 (
          omega arith,
          subst (λ (n : ℕ). (n ≤ length (history_of log')) × IsSequential (history_of log') n (Reporter d.number) new.call reply) (sym (point_new log x place_is at_is reply))
              (subst (λ (h : List Entry). (point_of d.held x.step.length ≤ length h) × IsSequential h (point_of d.held x.step.length) (Reporter d.number) new.call reply) history
              (settled_now l.last kept x.seat d.number l.place new.call (point_of d.held x.step.length) reply l.answered)),
        )
      ]

  -- the caller of a seat holds then what its pass holds
  abbrev EachHolds : MachineState → ℕ → LocalState → Type 0
  EachHolds last seat y = seat < readers → HoldsAs y.held (held_by last.callers (caller_for seat y.number))

  -- a step on a match word
  leads_turn : (o : Outcome) → Comes o → length (enlists x.step.action) ≡ 0 → with_step d x.step ≡ with_outcome o x.step d → Leads readers log'
  leads_turn o l none does =
      let count : enlisted_by log' ≡ enlisted_by log = let e = enlisted_more log x in omega arith in
      let kept = run_kept (machine_steps log') (initial_state (cast_for readers)) l.last (kept_at_start (cast_for readers)) (run_on l.last l.run) in
      let history : l.last.history ≡ history_of log' =
      l.history_is ∙ (ap (λ (h : List Entry). h ++ entry_list x.step.entry) r.history_is ∙ sym (history_more log x)) in
      let after = outcome_held o x.step d in
      let own : HoldsAs (held_after o) (held_by l.last.callers c) = holds_then l.last kept c l.place o l.holds in
      record {
        state = l.last;
        run = run_on l.last l.run;
        history_is = history;
        settled = settled_by (with_outcome o x.step d) does (settled_outcome o l kept history);
        each = by_seat log x (EachHolds l.last) (with_outcome o x.step d) does
            (λ below. subst (λ (n : ℕ). HoldsAs (with_outcome o x.step d).held (held_by l.last.callers (caller_for x.seat n))) (sym after.0)
            (subst (λ (h : Pending). HoldsAs h (held_by l.last.callers c)) (sym after.1) own))
            (λ seat not below.
            let y = local_at seat log in
            let apart = callers_apart seat x.seat y.number d.number (λ e. not (sym e)) (numbers_apart log facts seat x.seat) in
            subst (HoldsAs y.held) (sym (l.others (caller_for seat y.number) apart)) (r.each seat below));
        unnumbered = λ n above few.
            let low = numbers_low log facts x.seat in
            l.others (Reporter n) (not_reporter n x.seat d.number (omega arith)) ∙ r.unnumbered n (omega arith) few;
      }

  -- a step on the number of reporters
  leads_same : own_steps log x ≡ [] → x.step.entry ≡ None → (with_step d x.step).calls ≡ d.calls → enlisted_by log ≤ enlisted_by log'
      → EachHolds r.state x.seat (with_step d x.step) → Leads readers log'
  leads_same silent no_entry calls_are more own = record {
    state = r.state;
    run = run_on r.state (ap (λ (l : List Step). after_steps l r.state) silent);
    history_is = r.history_is ∙ sym (history_same log x no_entry);
    settled = settled_by (with_step d x.step) refl
        (λ k a at. settled_later log x x.seat a (r.settled x.seat k a (ap (λ (l : List CompletedCall). slice_get l k) (sym calls_are) ∙ at)));
    each = by_seat log x (EachHolds r.state) (with_step d x.step) refl own (λ seat not below. r.each seat below);
    unnumbered = λ n above few. r.unnumbered n (omega arith) few;
  }

-- a step of this seat with this action, with its index in the log, the length of the history before it, and the entry that it adds, if any
abbrev placed : ℕ → Action → ℕ → ℕ → Option Entry → LoggedStep
placed seat action index length entry = record { seat = seat; step = record { action = action; index = index; length = length; entry = entry } }

-- each step of a log
module _ (readers : ℕ) (log : Log) (r : Leads readers log) (is_log : IsConsistentLog log) (follows : FollowsProtocol log) (seat : ℕ) (seated : seat < readers) (place at : ℕ)
    (entry : Option Entry) (here : place ≡ length log) (now : at ≡ length (history_of log)) where
  abbrev number : ℕ
  number = (local_at seat log).number

  abbrev held : Pending
  held = (local_at seat log).held

  abbrev caller : Caller
  caller = caller_for seat (local_at seat log).number

  -- what the caller of the seat holds is what its pass holds
  holds_now : (h : Pending) → held ≡ h → HoldsAs h (held_by r.state.callers caller)
  holds_now h is = subst (λ (k : Pending). HoldsAs k (held_by r.state.callers caller)) is (r.each seat seated)

  module _ (act : AccessKind) (game found : ℕ) where
    abbrev Given : Caller → Pending → List Entry → Type 0
    Given c h entries = Leaves c r.state (steps_on c number h (Match act game found) at) (call_asked h (Match act game found)) (point_of h at)
        (outcome number h (Match act game found) at) (r.state.history ++ entries)

    -- what is held, and what came of the step
    turn : (h : Pending) → held ≡ h → (entries : List Entry) → entry_list entry ≡ entries → Given caller h entries
        → Leads readers (log ++ placed seat (Match act game found) place at entry ∷ [])
    turn h is_held entries made l =
        leads_turn readers log r (logs_facts log is_log follows) (placed seat (Match act game found) place at entry) here now (outcome number held (Match act game found) at)
        (subst (λ (k : Pending). Given caller k (entry_list entry)) (sym is_held) (subst (Given caller h) (sym made) l)) refl refl

  -- a step on a match word that the protocol lets come next
  module _ (game found : ℕ) (is : IsMatch game) (there : found ≡ word_of (match_after (history_of log) game)) where
    kept : Keeps r.state
    kept = keeps_log readers log r

    there_now : found ≡ word_of (match_after r.state.history game)
    there_now = there ∙ ap (λ (h : List Entry). word_of (match_after h game)) (sym r.history_is)

    at_now : at ≡ length r.state.history
    at_now = now ∙ ap length (sym r.history_is)

    -- a look leads on, and so do an exchange and the loads of both collects
    leads_look : (e : EventCall) → held ≡ NoCall → game ≡ e.game → IsReporter number → entry ≡ None
        → Leads readers (log ++ placed seat (Match (Look e) game found) place at entry ∷ [])
    leads_look e nothing of reporter none =
        let same = reporter_is seat number reporter in
        turn (Look e) game found NoCall nothing [] (ap entry_list none) (subst (λ (c : Caller). Given (Look e) game found c NoCall []) (sym same)
        (look_gives r.state kept number game found at is there_now at_now e reporter of
        (ap (held_by r.state.callers) (sym same) ∙ holds_now NoCall nothing)))

    leads_swap : (h : Pending) → held ≡ h → game ≡ next_match Swap h → entry ≡ entry_by number h (Match Swap game found)
        → Leads readers (log ++ placed seat (Match Swap game found) place at entry ∷ [])
    leads_swap (Holding e old new) is_held next made =
        let u = holds_now (Holding e old new) is_held in
        let offers : Offers number e old new = subst (Sees number) is_held ((logs_sound log is_log follows).sees seat) in
        let same = reporter_is seat number offers.reporter in
        let entries = entry_list (cond (found == old) (Some (entry_of number e)) None) in
        turn Swap game found (Holding e old new) is_held entries (ap entry_list made) (subst (λ (c : Caller). Given Swap game found c (Holding e old new) entries) (sym same)
        (swap_gives r.state kept number game found at is there_now at_now e old new u.0 next (ap (held_by r.state.callers) (sym same) ∙ u.1)))
    leads_swap h is_held next made = absurd (let low = is.0 in omega arith)

    leads_first : (h : Pending) → held ≡ h → game ≡ next_match First h → entry ≡ None
        → Leads readers (log ++ placed seat (Match First game found) place at entry ∷ [])
    leads_first NoCall is_held next none =
        turn First game found NoCall is_held [] (ap entry_list none)
        (first_begins r.state kept number game found at is there_now at_now caller next (holds_now NoCall is_held))
    leads_first (Collecting ws) is_held next none =
        let u = holds_now (Collecting ws) is_held in
        turn First game found (Collecting ws) is_held [] (ap entry_list none)
        (first_gives r.state kept number game found at is there_now at_now caller ws u.0 next u.1)
    leads_first h is_held next none = absurd (let low = is.0 in omega arith)

    leads_second : (h : Pending) → held ≡ h → game ≡ next_match Second h → entry ≡ None
        → Leads readers (log ++ placed seat (Match Second game found) place at entry ∷ [])
    leads_second (Checking ws checked point) is_held next none =
        let u = holds_now (Checking ws checked point) is_held in
        turn Second game found (Checking ws checked point) is_held [] (ap entry_list none)
        (second_gives r.state kept number game found at is there_now at_now caller ws checked point u.0 next u.1)
    leads_second h is_held next none = absurd (let low = is.0 in omega arith)

  -- a load of the number of reporters leaves the call as it is
  count_does : (found : ℕ) (h : Pending) → outcome number h (CountRead found) at ≡ GoesOn h
  count_does found h = search arith

  -- a log that leads to a state of the machine does so with one step more
  leads_by : (action : Action) → ReadsCurrent log action → IsNextFor (local_at seat log) action → entry ≡ entry_by number held action
      → Leads readers (log ++ placed seat action place at entry ∷ [])
  leads_by (Match (Look e) game found) there next is = leads_look game found there.0 there.1 e next.0 next.1 next.2 (is ∙ look_none held number game found e)
  leads_by (Match Swap game found) there next is = leads_swap game found there.0 there.1 held refl next is
  leads_by (Match First game found) there next is = leads_first game found there.0 there.1 held refl next (is ∙ first_none held number game found)
  leads_by (Match Second game found) there next is = leads_second game found there.0 there.1 held refl next (is ∙ second_none held number game found)
  leads_by (CountRead found) there next is =
      let x = placed seat (CountRead found) place at entry in
      let does : with_step (local_at seat log) x.step ≡ with_outcome (GoesOn held) x.step (local_at seat log) =
      ap (λ (o : Outcome). with_outcome o x.step (local_at seat log)) (count_does found held) in
      let count = enlisted_more log x in
      leads_same readers log r (logs_facts log is_log follows) x here now refl (is ∙ count_none held number found) (ap (λ (y : LocalState). y.calls) does) (omega arith)
      (subst (EachHolds readers log r (logs_facts log is_log follows) x here now r.state seat) (sym does) (r.each seat))
  leads_by (Whole shown) there next is = absurd next
  leads_by (CountRaised found) there next is =
      let x = placed seat (CountRaised found) place at entry in
      let found_is = there.0 in
      let room = there.1 in
      let count = enlisted_more log x in
      let free = r.unnumbered (found + 1) (omega arith) (omega arith) in
      let same = reporter_is seat (found + 1) (omega arith, omega arith) in
      leads_same readers log r (logs_facts log is_log follows) x here now refl (is ∙ enlist_none held number found) refl (omega arith)
      (λ below. subst (λ (h : Pending). HoldsAs h (held_by r.state.callers (caller_for seat (found + 1)))) (sym next.0) (ap (held_by r.state.callers) same ∙ free))

-- each caller in a list of n idle ones is idle
idle_in : (n k : ℕ) → k < n → slice_get (replicate n Idle) k ≡ Some Idle
idle_in (suc n) (suc k) l = idle_in n k (omega arith)
idle_in n k l = search arith

-- the empty log leads to the first state of the machine
leads_none : (readers : ℕ) → Leads readers []
leads_none readers = record {
  state = initial_state (cast_for readers);
  run = refl;
  history_is = refl;
  settled = λ seat k c at. absurd (none-some c at);
  each = reader_idle;
  unnumbered = λ n above few. reporter_idle n (omega arith) few;
}
  where
    reader_idle : (seat : ℕ) → seat < readers → held_by (initial_state (cast_for readers)).callers (Reader (seat + 1)) ≡ Some Idle
    reader_idle seat below = search (arith, idle_in)

    reporter_idle : (n : ℕ) → 1 ≤ n → n ≤ 255 → held_by (initial_state (cast_for readers)).callers (Reporter n) ≡ Some Idle
    reporter_idle zero some few = absurd (omega arith)
    reporter_idle (suc m) some few = idle_in 255 m (omega arith)

-- each log that follows the protocol leads to a state of the machine
pub leads_all : (readers : ℕ) (log : Log) → IsConsistentLog log → FollowsProtocol log → All (λ (x : LoggedStep). x.seat < readers) log → Leads readers log
leads_all readers log =
    may_induction MayBeTaken (λ l. FollowsProtocol l → All (λ (x : LoggedStep). x.seat < readers) l → Leads readers l)
    (λ f all. leads_none readers)
    (λ xs x before may was f all.
    let p = may_last IsNextOfProtocol xs x f in
    let g = may_begin IsNextOfProtocol xs (x ∷ []) f in
    let long = length_push xs x in
    let r = was g (λ k d l. subst (λ (y : LoggedStep). y.seat < readers) (get_or_append_left xs (x ∷ []) d k l) (all k d (omega arith))) in
    leads_by readers xs r before g x.seat (subst (λ (y : LoggedStep). y.seat < readers) (get_or_push xs x x (length xs) refl) (all (length xs) x (omega arith)))
    x.step.index x.step.length x.step.entry may.index may.length x.step.action may.there p.next p.entry)
    log

-- each log that follows the protocol, with seats below `readers`, is a run of the machine with so many readers
pub logs_run : LogsAreRuns
logs_run readers log is follows seated =
    let l = leads_all readers log is follows seated in
    let kept = keeps_log readers log l in
    record {
      state = l.state;
      run = l.run;
      history_is = l.history_is;
      words_are = kept.words ∙ ap board_of l.history_is;
      each = l.each;
    }

-- there is a number greater than each seat that took a step in a log
pub seats_below : (log : Log) → (n : ℕ) × All (λ (x : LoggedStep). x.seat < n) log
seats_below [] = (0, All-nil (λ (x : LoggedStep). x.seat < 0))
seats_below (x ∷ log) = let t = seats_below log in let n = t.0 + (x.seat + 1) in
    (n, All-cons (λ (y : LoggedStep). y.seat < n) x log (omega arith) (below_more t.0 n log (omega arith) t.1))

-- each log that follows the protocol leads to a state of the machine, with as many readers as its seats need
pub run_of : (log : Log) → IsConsistentLog log → FollowsProtocol log → Leads (seats_below log).0 log
run_of log is follows = leads_all (seats_below log).0 log is follows (seats_below log).1
