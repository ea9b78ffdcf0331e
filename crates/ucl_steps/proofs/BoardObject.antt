-- The calls of a log are linearizable: each in its place (Placed.antt), they are a run of the board of one thread, in the order of time.
use Rattle.ucl_steps.proofs.Common.{refl, ◌≡◌, inl, inr, ℕ, ◌+◌, ◌<◌, true, List, [], length, take, map, sym, ap, ◌∙◌}
use Rattle.ucl_steps.proofs.Common.{subst, arith, append-nil, cases_order, cases_lt, All-nil, take-length}
use Rattle.ucl_steps.proofs.Common.{Call, Reply, CompletedCall, IsLegal, IsPrefix}
use Rattle.ucl_steps.proofs.Common.{All, All-append, All-cons, IsMatch, Pending, NoCall, Outcome, ◌∷◌}
use Rattle.ucl_word.proofs.Sequences.{may_begin, may_induction, may_last}
use Rattle.ucl_log.specs.Log.{AccessKind, Look, IsConsistentLog, ReadsCurrent, Log, Match, MayBeTaken, Action, history_of}
use Rattle.ucl_steps.specs.LocalState.{LocalState, FollowsProtocol, IsCompletedCall, IsNextFor, IsNextOfProtocol, call_asked, local_at, outcome}
use Rattle.ucl_steps.specs.Protocol.{MayAsk}
use Rattle.ucl_steps.specs.Linearizability.{Operation, IsLinearization, IsOperation, IsWellFormed, Linearizes, is_response, state_after}
use Rattle.ucl_steps.specs.BoardObject.{BoardEvent, CallsAreLinearizable, MayInvoke, board_object}
use Rattle.ucl_steps.specs.CallEvents.{call_events, events_on, invocation_by, response_by}
use Rattle.ucl_steps.specs.Strong.{LogsAreWriteStronglyLinearizable}
use Rattle.ucl_steps.proofs.CallEvents.{answered_at, events_before, operation_of}
use Rattle.ucl_steps.proofs.CallHistories.{Traces, all_traced, events_more, events_rise}
use Rattle.ucl_steps.proofs.LocalStates.{AllInTurn, all_in_turn}
use Rattle.ucl_steps.proofs.EventLists.{IsOperationAt, same_operation}
use Rattle.ucl_steps.proofs.LogHistory.{logs_have_points}
use Rattle.ucl_steps.proofs.LogRuns.{keeps_log, run_of, seats_below}
use Rattle.ucl_steps.proofs.Points.{IsExplained, PointedCall, pointed}
use Rattle.ucl_steps.proofs.LegalSequences.{leaves, linearization}
use Rattle.ucl_steps.proofs.Placed.{Done, Each, IsDone, IsDoneCall, as_operation, done, done_all, done_of, operation_with, reports, reports_stay, sizes}

-- the calls of a log as operations, each in its place
abbrev pub linearized : Log → List (Operation (ℕ × Call) Reply)
linearized log = map (as_operation log) (done log)

module _ (log : Log) (is : IsConsistentLog log) (follows : FollowsProtocol log) where
  abbrev es : List BoardEvent
  es = call_events log

  turns : AllInTurn log
  turns = all_in_turn log is follows

  traces : Traces log log es
  traces = all_traced log is follows

  -- the place of the invocation of a call
  abbrev first_of : Done → ℕ
  first_of d = events_before log d.call.first_index

  all_done : IsDone log (done log)
  all_done = done_all log is follows

  explained : Each (λ e. IsExplained (history_of log) e.call) (done log)
  explained q e at = let u = all_done.are q e at in subst (IsExplained (history_of log)) u.same ((logs_have_points log is follows).explained e.seat e.turn u.call u.is)

  -- of two calls one ended before the other began just if its response came before the other's invocation
  pub events_apart : (i j k l : ℕ) (a b : CompletedCall) → IsCompletedCall log i k a → IsCompletedCall log j l b → a.last_index < b.first_index → answered_at log a < events_before log b.first_index
  events_apart i j k l a b at bt less =
      let s = (traces.completed i k a at).0 in
      let made = s.0.order in
      let place = s.1 in
      let rise = events_rise log (a.last_index + 1) b.first_index (omega arith) in
      omega arith

  steps_apart : (i j k l : ℕ) (a b : CompletedCall) → IsCompletedCall log i k a → IsCompletedCall log j l b → answered_at log a < events_before log b.first_index → a.last_index < b.first_index
  steps_apart i j k l a b at bt less = elim (cases_lt a.last_index b.first_index) [
    | inl before ↦ before
    | inr after ↦
        let s = (traces.completed i k a at).1 in
        let rise = events_rise log b.first_index a.last_index after in
        absurd (omega arith)
  ]

  -- two completed calls that are one operation are one
  one_turn : (x y : Done) → IsDoneCall log x → IsDoneCall log y → as_operation log x ≡ as_operation log y → (x.seat ≡ y.seat) × (x.turn ≡ y.turn)
  one_turn x y u v same =
      let seat : x.seat ≡ y.seat = ap (λ (o : Operation (ℕ × Call) Reply). o.process) same in
      let at = u.is in
      let here : IsCompletedCall log x.seat y.turn v.call = subst (λ (n : ℕ). IsCompletedCall log n y.turn v.call) (sym seat) v.is in
      let invoked = ap (λ (o : Operation (ℕ × Call) Reply). o.invoked) same in
      let x_first = ap (λ (z : PointedCall). events_before log z.first_index) u.same in
      let y_first = ap (λ (z : PointedCall). events_before log z.first_index) v.same in
      let s = (traces.completed x.seat x.turn u.call at).0 in
      let t = (traces.completed y.seat y.turn v.call v.is).0 in
      let x_order = s.0.order in
      let y_order = t.0.order in
      let x_place = s.1 in
      let y_place = t.1 in
      elim (cases_order x.turn y.turn) [
        | inl turn ↦ (seat, turn)
        | inr not ↦ elim not [
          | inl less ↦ let apart = events_apart x.seat x.seat x.turn y.turn u.call v.call at here ((turns x.seat).turns x.turn y.turn u.call v.call at here less) in absurd (omega arith)
          | inr more ↦ let apart = events_apart x.seat x.seat y.turn x.turn v.call u.call here at ((turns x.seat).turns y.turn x.turn v.call u.call here at more) in absurd (omega arith)
        ]
      ]

  -- an operation of the history is a completed call, in its place
  pub call_of : (o : Operation (ℕ × Call) Reply) → IsOperation es o → (k : ℕ) × (c : CompletedCall) × IsCompletedCall log o.process k c × (operation_of log o.process c ≡ o)
  call_of o made =
      let a = traces.responses made.answered o.process o.reply made.response in
      let t = (traces.completed o.process a.number a.call a.is).0 in
      (a.number, a.call, a.is, same_operation es (operation_of log o.process a.call) o t.0 made (t.1 ∙ a.at))

  in_places : IsLinearization board_object es (linearized log)
  in_places = linearization (history_of log) es (done log) first_of all_done.pairs all_done.points explained
      (λ q d at.
      let u = all_done.are q d at in
      let s = (traces.completed d.seat d.turn u.call u.is).0 in
      let last = ap (λ (z : PointedCall). z.last_index) u.same in (
        answered_at log u.call,
        subst (IsOperationAt es (answered_at log u.call)) (ap (λ (z : PointedCall). operation_with first_of (done_of d.seat d.turn z)) u.same) s,
        λ p e bt less.
            let v = all_done.are p e bt in
            let first = ap (λ (z : PointedCall). z.first_index) v.same in
            let invoked = ap (events_before log) first in
            let steps = steps_apart d.seat e.seat d.turn e.turn u.call v.call u.is v.is (omega arith) in
            omega arith,
      ))
      (λ o made. let a = call_of o made in let t = all_done.all o.process a.0 a.1 a.2 in (t.0, done_of o.process a.0 (pointed log o.process a.1), t.1, a.3))
      (λ i j x y at bt same. one_turn x y (all_done.are i x at) (all_done.are j y bt) same)

  -- they linearize the history of calls of the log; no response is added
  pub linearizes : Linearizes board_object es (linearized log)
  linearizes = record {
    responses = [];
    only = All-nil (λ (e : BoardEvent). is_response e ≡ true);
    well_formed = subst IsWellFormed (sym (append-nil es)) traces.formed;
    linearization = subst (λ (l : List BoardEvent). IsLinearization board_object l (linearized log)) (sym (append-nil es)) in_places;
  }

  -- and leave its history
  leaves_all : state_after board_object [] (linearized log) ≡ history_of log
  leaves_all = leaves (history_of log) first_of (done log) 0 all_done.points explained
      ∙ (let all = all_done.size_all in let n : 0 + sizes (done log) ≡ length (history_of log) = omega arith in
      ap (λ (k : ℕ). take k (history_of log)) n ∙ take-length (history_of log))

-- the calls of a log are ones that may be asked
invokes_by : (h : Pending) (seat number : ℕ) (call : Call) → (h ≡ NoCall → MayAsk number call) → All MayInvoke (invocation_by h seat number call)
invokes_by h seat number call may = search (arith, All-nil MayInvoke, All-cons MayInvoke)

responds_by : (o : Outcome) (seat : ℕ) → All MayInvoke (response_by o seat)
responds_by o seat = search (arith, All-nil MayInvoke, All-cons MayInvoke)

asks_by : (d : LocalState) (kind : AccessKind) (game found : ℕ) → IsNextFor d (Match kind game found) → IsMatch game → d.held ≡ NoCall
    → MayAsk d.number (call_asked d.held (Match kind game found))
asks_by d (Look e) game found next is none = (next.2, subst IsMatch next.1 is)
asks_by d kind game found next is none = subst (λ (h : Pending). MayAsk d.number (call_asked h (Match kind game found))) (sym none) (search arith)

invokes_on : (log : Log) (seat : ℕ) (d : LocalState) (t : Action) (now : ℕ) → IsNextFor d t → ReadsCurrent log t → All MayInvoke (events_on seat d t now)
invokes_on log seat d (Match kind game found) now next there =
    let asked = call_asked d.held (Match kind game found) in
    let o = outcome d.number d.held (Match kind game found) now in
    All-append MayInvoke (invocation_by d.held seat d.number asked) (response_by o seat)
    (invokes_by d.held seat d.number asked (asks_by d kind game found next there.0)) (responds_by o seat)
invokes_on log seat d t now next there = search (arith, All-nil MayInvoke)

all_may_ask : (log : Log) → IsConsistentLog log → FollowsProtocol log → All MayInvoke (call_events log)
all_may_ask log = may_induction MayBeTaken (λ l. FollowsProtocol l → All MayInvoke (call_events l)) (λ f. All-nil MayInvoke)
    (λ xs x before may was f.
    let d = local_at x.seat xs in
    let next = may_last IsNextOfProtocol xs x f in
    subst (All MayInvoke) (sym (events_more xs x))
    (All-append MayInvoke (call_events xs) (events_on x.seat d x.step.action x.step.length) (was (may_begin IsNextOfProtocol xs (x ∷ []) f))
    (invokes_on xs x.seat d x.step.action x.step.length next.next may.there)))
    log

-- each log of steps that the protocol lets come one after another has linearizable calls
pub calls_linearizable : CallsAreLinearizable
unfolding linearizes
calls_linearizable log is follows = record {
  history = call_events log;
  asked = all_may_ask log is follows;
  linearizable = record { linearizable = (linearized log, linearizes log is follows); leaves = leaves_all log is follows };
  legal = let l = run_of log is follows in subst IsLegal l.history_is (keeps_log (seats_below log).0 log l).legal;
  none_added = refl;
  invoked = λ seat c. events_before log c.first_index;
  completed = λ seat k c at. ((traces log is follows).completed seat k c at).0.0;
  only = call_of log is follows;
  order = λ seat other k l a b at bt. let place = ((traces log is follows).completed seat k a at).0.1 in (
    λ less. steps_apart log is follows seat other k l a b at bt (omega arith),
    λ less. let apart = events_apart log is follows seat other k l a b at bt less in omega arith,
  );
}

-- and a longer log leaves the reports as they are
pub write_strong : LogsAreWriteStronglyLinearizable
write_strong = (
  linearized,
  record {
    linearizes = λ log may. linearizes log may.0 may.1;
    extends = λ log later may p. subst (λ (l : Log). IsPrefix (reports log (done log)) (reports l (done l))) p.1
        (reports_stay log p.0 (subst IsConsistentLog (sym p.1) may.0) (subst FollowsProtocol (sym p.1) may.1));
  },
)
