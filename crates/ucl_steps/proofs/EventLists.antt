-- Histories of calls, one event more: which calls are pending then, which operations there are, and that processes go on one call at a time.
use Rattle.ucl_steps.proofs.Common.{◌≡◌, ◌≢◌, ℕ, ◌<◌, ◌==◌, Bool, true, false, cond, List, [], ◌∷◌, ◌++◌, ◌⊎◌, inl, inr, length, take, refl, sym, ap, ◌∙◌}
use Rattle.ucl_steps.proofs.Common.{subst, arith, slice_get, Option, Some, None, same_Some, at_below, at_longer, at_end, at_either, get_back, take-append-le}
use Rattle.ucl_steps.proofs.Common.{take-append_seam, eq-eqb, ne_eqb, cases_order, All, append-nil, append_assoc, zero, suc}
use Rattle.std.proofs.lemmas.List.Elements.{All-head, All-tail}
use Rattle.std.specs.Prelude.{not}
use Rattle.std.proofs.lemmas.List.Sums.{fold-append}
use Rattle.ucl_steps.specs.Linearizability.{HistoryEvent, Invocation, Response, Operation, IsOperation, IsWellFormed, is_pending, is_response, process_of}

module _ {C R : Type 0} where
  -- an operation has its response at this place
  abbrev pub IsOperationAt : List (HistoryEvent C R) → ℕ → Operation C R → Type 0
  IsOperationAt es place o = (s : IsOperation es o) × (s.answered ≡ place)

  -- operations stay, whatever events come
  pub longer : (es more : List (HistoryEvent C R)) (place : ℕ) (o : Operation C R) → IsOperationAt es place o → IsOperationAt (es ++ more) place o
  longer es more place o has = let s = has.0 in (
    record {
      invocation = at_longer es more o.invoked (Invocation o.process o.call) s.invocation;
      answered = s.answered;
      response = at_longer es more s.answered (Response o.process o.reply) s.response;
      order = s.order;
      next = λ later f low high at. let below = at_below es s.answered (Response o.process o.reply) s.response in
          s.next later f low high (get_back es more later f (omega arith) at);
    },
    has.1,
  )

  -- an operation has one response
  pub one_answer : (es : List (HistoryEvent C R)) (o : Operation C R) (s t : IsOperation es o) → s.answered ≡ t.answered
  one_answer es o s t = elim (cases_order s.answered t.answered) [
    | inl is ↦ is
    | inr not ↦ elim not [
      | inl less ↦ absurd (t.next s.answered (Response o.process o.reply) s.order less s.response refl)
      | inr more ↦ absurd (s.next t.answered (Response o.process o.reply) t.order more t.response refl)
    ]
  ]

  -- a process invoked this call at this place, and no later event is of the process
  pub record IsInvoked (es : List (HistoryEvent C R)) (process : ℕ) (call : C) (place : ℕ) : Type 0 where
    pub at : slice_get es place ≡ Some (Invocation process call)
    pub last : (later : ℕ) (e : HistoryEvent C R) → place < later → slice_get es later ≡ Some e → process_of e ≢ process

  -- what a process has under way after these events: nothing, or this call, invoked at this place
  abbrev pub HasUnderWay : List (HistoryEvent C R) → ℕ → Option (C × ℕ) → Type 0
  HasUnderWay es process None = is_pending process es ≡ false
  HasUnderWay es process (Some way) = (is_pending process es ≡ true) × IsInvoked es process way.0 way.1

  -- one event more
  module _ (es : List (HistoryEvent C R)) (e : HistoryEvent C R) where
    pending_next : (process : ℕ) → is_pending process (es ++ e ∷ []) ≡ cond (process_of e == process) (not (is_response e)) (is_pending process es)
    pending_next process = fold-append (λ (pending : Bool) (event : HistoryEvent C R). cond (process_of event == process) (not (is_response event)) pending) false es (e ∷ [])

    pending_own : is_pending (process_of e) (es ++ e ∷ []) ≡ not (is_response e)
    pending_own = pending_next (process_of e)
        ∙ ap (λ (b : Bool). cond b (not (is_response e)) (is_pending (process_of e) es)) (eq-eqb (process_of e) (process_of e) refl)

    pending_other : (process : ℕ) → process_of e ≢ process → is_pending process (es ++ e ∷ []) ≡ is_pending process es
    pending_other process other = pending_next process
        ∙ ap (λ (b : Bool). cond b (not (is_response e)) (is_pending process es)) (ne_eqb (process_of e) process other)

    invoked_other : (process : ℕ) (call : C) (place : ℕ) → process_of e ≢ process → IsInvoked es process call place → IsInvoked (es ++ e ∷ []) process call place
    invoked_other process call place other s = record {
      at = at_longer es (e ∷ []) place (Invocation process call) s.at;
      last = λ later f less at. elim (at_either es e later f at) [
        | inl t ↦ s.last later f less t.1
        | inr t ↦ subst (λ (z : HistoryEvent C R). process_of z ≢ process) t.1 other
      ];
    }

    -- what other processes have under way stays
    pub under_way_other : (process : ℕ) (way : Option (C × ℕ)) → process_of e ≢ process → HasUnderWay es process way → HasUnderWay (es ++ e ∷ []) process way
    under_way_other process None other has = pending_other process other ∙ has
    under_way_other process (Some way) other has = (pending_other process other ∙ has.0, invoked_other process way.0 way.1 other has.1)

    -- processes go on one call at a time
    pub well_formed_next : IsWellFormed es → is_pending (process_of e) es ≡ is_response e → IsWellFormed (es ++ e ∷ [])
    well_formed_next formed may place f at = elim (at_either es e place f at) [
      | inl t ↦
          let below = t.0 in
          ap (is_pending (process_of f)) (take-append-le place es (e ∷ []) (omega arith)) ∙ formed place f t.1
      | inr t ↦
          subst (λ (z : HistoryEvent C R). is_pending (process_of z) (take place (es ++ e ∷ [])) ≡ is_response z) t.1
          (ap (λ (l : List (HistoryEvent C R)). is_pending (process_of e) l) (ap (λ (n : ℕ). take n (es ++ e ∷ [])) t.0 ∙ take-append_seam es (e ∷ [])) ∙ may)
    ]

  -- responses leave a process without a pending call
  pub responses_leave : (process : ℕ) (es more : List (HistoryEvent C R)) (k : ℕ) → All (λ (e : HistoryEvent C R). is_response e ≡ true) more
      → is_pending process es ≡ false → is_pending process (es ++ take k more) ≡ false
  responses_leave process es more zero all none = ap (is_pending process) (append-nil es) ∙ none
  responses_leave process es [] (suc k) all none = ap (is_pending process) (append-nil es) ∙ none
  responses_leave process es (e ∷ more) (suc k) all none =
      ap (is_pending process) (sym (append_assoc es (e ∷ []) (take k more)))
      ∙ responses_leave process (es ++ e ∷ []) more k (All-tail (λ (f : HistoryEvent C R). is_response f ≡ true) e more all)
      (pending_next es e process ∙ (ap (λ (b : Bool). cond (process_of e == process) (not b) (is_pending process es)) (All-head (λ (f : HistoryEvent C R). is_response f ≡ true) e more all)
      ∙ (ap (cond (process_of e == process) false) none ∙ same_either (process_of e == process))))
    where
      same_either : (b : Bool) → cond b false false ≡ false
      same_either true = refl
      same_either false = refl

  -- a process that invokes a call has it under way
  pub under_way_invoked : (es : List (HistoryEvent C R)) (process : ℕ) (call : C) → HasUnderWay (es ++ Invocation process call ∷ []) process (Some (call, length es))
  under_way_invoked es process call = (
    pending_own es (Invocation process call),
    record {
      at = at_end es (Invocation process call);
      last = λ later f less at. elim (at_either es (Invocation process call) later f at) [
        | inl t ↦ let below = t.0 in absurd (omega arith)
        | inr t ↦ let is = t.0 in absurd (omega arith)
      ];
    },
  )

  -- a process that gets its response has nothing under way, and has made an operation
  module _ (es : List (HistoryEvent C R)) (process : ℕ) (reply : R) where
    pub under_way_none : HasUnderWay (es ++ Response process reply ∷ []) process None
    under_way_none = pending_own es (Response process reply)

    pub operation_made : (call : C) (place : ℕ) → IsInvoked es process call place
        → IsOperationAt (es ++ Response process reply ∷ []) (length es) (record { process = process; call = call; invoked = place; reply = reply })
    operation_made call place s = (
      record {
        invocation = at_longer es (Response process reply ∷ []) place (Invocation process call) s.at;
        answered = length es;
        response = at_end es (Response process reply);
        order = at_below es place (Invocation process call) s.at;
        next = λ later f low high at. s.last later f low (get_back es (Response process reply ∷ []) later f high at);
      },
      refl,
    )

  -- an operation is what its fields are
  pub same_fields : (a b : Operation C R) → a.process ≡ b.process → a.call ≡ b.call → a.invoked ≡ b.invoked → a.reply ≡ b.reply → a ≡ b
  same_fields a b p c i r = λ k. record { process = p k; call = c k; invoked = i k; reply = r k }

  asked : (p q : ℕ) (c d : C) → ◌≡◌ {A = HistoryEvent C R} (Invocation p c) (Invocation q d) → c ≡ d
  asked p q c d is = cc

  pub replied : (p q : ℕ) (r s : R) → ◌≡◌ {A = HistoryEvent C R} (Response p r) (Response q s) → r ≡ s
  replied p q r s is = cc

  -- two operations with one response are one
  pub same_operation : (es : List (HistoryEvent C R)) (a b : Operation C R) → (s : IsOperation es a) (t : IsOperation es b) → s.answered ≡ t.answered → a ≡ b
  same_operation es a b s t is = by (cases_order a.invoked b.invoked)
    where
      event : ◌≡◌ {A = Option (HistoryEvent C R)} (Some (Response a.process a.reply)) (Some (Response b.process b.reply))
      event = sym s.response ∙ (ap (slice_get es) is ∙ t.response)

      response : ◌≡◌ {A = HistoryEvent C R} (Response a.process a.reply) (Response b.process b.reply)
      response = same_Some (Response a.process a.reply) (Response b.process b.reply) event

      process : a.process ≡ b.process
      process = ap process_of response

      reply : a.reply ≡ b.reply
      reply = replied a.process b.process a.reply b.reply response

      by : (a.invoked ≡ b.invoked) ⊎ ((a.invoked < b.invoked) ⊎ (b.invoked < a.invoked)) → a ≡ b
      by (inl same) =
          let call : ◌≡◌ {A = HistoryEvent C R} (Invocation a.process a.call) (Invocation b.process b.call) = same_Some (Invocation a.process a.call) (Invocation b.process b.call)
          (sym s.invocation ∙ (ap (slice_get es) same ∙ t.invocation)) in
          same_fields a b process (asked a.process b.process a.call b.call call) same reply
      by (inr (inl less)) = let low = t.order in absurd (s.next b.invoked (Invocation b.process b.call) less (omega arith) t.invocation (sym process))
      by (inr (inr more)) = let low = s.order in absurd (t.next a.invoked (Invocation a.process a.call) more (omega arith) s.invocation process)
