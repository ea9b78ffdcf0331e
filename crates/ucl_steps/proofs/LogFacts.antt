-- What holds of each log that follows the protocol, by induction over its steps: they are legal ones, and what a pass holds of an event it
-- rightly holds; and no call has a number that its pass did not have.
use Rattle.ucl_steps.proofs.Common.{◌≡◌, ◌≤◌, ◌==◌, ◌+◌, ◌++◌, ◌∷◌, ◌∙◌, [], ap, arith, cond, eqb-true, length, le_refl, refl, slice_index, subst, sym, ℕ, Bool, true, false}
use Rattle.ucl_steps.proofs.Common.{Option, Some, None, All, All-append, All-cons, All-nil, may_none, may_next, EventCall, Refusal, IsMatch, IsReporter}
use Rattle.ucl_steps.proofs.Common.{IsLegal, after, attempted, entry_of, match_after, may_attempt, record_at, refusal_of, word_of, MatchRecord}
use Rattle.ucl_steps.proofs.Common.{CompletedCall, Outcome, GoesOn, Answers, Pending, Holding, Collecting, Checking, Copied, by_rules, reading_of}
use Rattle.ucl_steps.proofs.Histories.{read_back}
use Rattle.ucl_word.proofs.Sequences.{may_induction, may_begin, may_last}
use Rattle.ucl_log.specs.Log.{AccessKind, Look, Swap, First, Second, CountRead, CountRaised, Whole, IsConsistentLog, Log, LoggedStep, Match, MayBeTaken, TakenStep, Action, ReadsCurrent, MayAdd}
use Rattle.ucl_log.specs.Log.{IsLegalStep, HasLegalSteps, IsLegalRule, LogFacts, history_of, number_of, taken_by}
use Rattle.ucl_log.proofs.Logs.{log_facts, legal_history}
use Rattle.ucl_steps.proofs.LocalStates.{by_seat, local_number, count_none, enlist_none, first_none, look_none, may_enlist, second_none}
use Rattle.ucl_steps.specs.LocalState.{LocalState, FollowsProtocol, IsNextFor, IsNextOfProtocol, call_answered, local_at, entry_by, next_match}
use Rattle.ucl_steps.specs.LocalState.{outcome, with_outcome, with_step, with_action}

-- a reporter with this number may offer event e to a match: the rules accept e on the word `old`, which it found, and make `new` of that
pub record Offers (number : ℕ) (e : EventCall) (old new : ℕ) : Type 0 where
  pub reporter : IsReporter number
  pub game : IsMatch e.game
  pub accepted : refusal_of (record_at old) e.expected e.kind ≡ None
  pub next : new ≡ word_of (after (record_at old) number e.kind)

-- if a pass with this number holds an event, the rules accept it on the word that the pass found, and make of that the word it is to put in
abbrev pub Sees : ℕ → Pending → Type 0
Sees number (Holding e old new) = Offers number e old new
Sees number held = Unit {0}

-- the steps of a log are legal, and if a pass holds an event, the rules accept it on the word that the pass found
pub record IsSound (log : Log) : Type 0 where
  pub steps : HasLegalSteps log
  pub sees : (seat : ℕ) → Sees (local_at seat log).number (local_at seat log).held

-- if a Swap finds the word that is there, and the rules accept the pass's event on the word that it loaded, the entry that the Swap adds,
-- if any, may come next in the history
swap_adds : (log : Log) (number : ℕ) (h : Pending) (game found : ℕ) → IsLegal (history_of log) → Sees number h
    → found ≡ word_of (match_after (history_of log) game) → game ≡ next_match Swap h → MayAdd (history_of log) number (entry_by number h (Match Swap game found))
swap_adds log number (Holding e old new) game found legal o there next = by (found == old) refl
  where
    by : (b : Bool) → (found == old) ≡ b → MayAdd (history_of log) number (cond b (Some (entry_of number e)) None)
    by true is =
        let h = history_of log in
        let word : old ≡ word_of (match_after h e.game) = sym (eqb-true found old is) ∙ (there ∙ ap (λ (g : ℕ). word_of (match_after h g)) next) in
        let match_is : record_at old ≡ match_after h e.game = ap record_at word ∙ read_back h e.game legal in
        (may_attempt h (attempted number e) legal (o.reporter, o.game) (ap (λ (m : MatchRecord). refusal_of m e.expected e.kind) (sym match_is) ∙ o.accepted), refl)
    by false is = tt
swap_adds log number h game found legal sees there next = search arith

-- the entry of each step that the protocol lets come next may come next in the history
may_add : (log : Log) (d : LocalState) (t : Action) → IsLegal (history_of log) → Sees d.number d.held → ReadsCurrent log t → IsNextFor d t
    → MayAdd (history_of log) d.number (entry_by d.number d.held t)
may_add log d (Match Swap game found) legal sees there next = swap_adds log d.number d.held game found legal sees there.1 next
may_add log d t legal sees there next = search (arith, look_none, first_none, second_none, count_none, enlist_none)

-- if a pass holds an event after this outcome, the rules accept it on the word found, and make of that the word it is to put in
abbrev SeesBy : ℕ → Outcome → Type 0
SeesBy number (GoesOn held) = Sees number held
SeesBy number (Answers reply) = Unit {0}

-- if a step with this action is a Look, the load of a report, its pass is a reporter's, and the event is of one of the twelve matches
abbrev IsAsked : ℕ → Action → Type 0
IsAsked number (Match (Look e) game found) = IsReporter number × IsMatch e.game
IsAsked number action = Unit {0}

-- if the rules accept the event that a pass holds on the word that it found, they do so too with the event that it holds after a step
sees_by : (number : ℕ) (h : Pending) (t : Action) (now : ℕ) → Sees number h → IsAsked number t → SeesBy number (outcome number h t now)
sees_by number h (Match (Look e) game found) now sees asked = by (refusal_of (record_at found) e.expected e.kind) refl
  where
    by : (o : Option Refusal) → refusal_of (record_at found) e.expected e.kind ≡ o → SeesBy number (by_rules number e found o)
    by (Some refusal) is = tt
    by None is = record { reporter = asked.0; game = asked.1; accepted = is; next = refl }
sees_by number (Collecting words) (Match First game found) now sees asked = by (length (words ++ found ∷ []) == 12)
  where
    by : (b : Bool) → Sees number (cond b (Checking (words ++ found ∷ []) 0 now) (Collecting (words ++ found ∷ [])))
    by b = search arith
sees_by number (Checking words checked point) (Match Second game found) now sees asked = by (found == slice_index words checked) (checked == 11)
  where
    by : (a b : Bool) → SeesBy number (cond a (cond b (Answers (Copied (reading_of words))) (GoesOn (Checking words (checked + 1) point))) (GoesOn (Collecting [])))
    by a b = search arith
sees_by number h t now sees asked = search arith

-- if the rules accept the event that is held by an outcome on the word found, they do so too with the event in the pass's state after it
sees_then : (o : Outcome) (y : TakenStep) (d : LocalState) → SeesBy d.number o → Sees (with_outcome o y d).number (with_outcome o y d).held
sees_then o y d sees = search arith

-- a Look that finds what is there, and that the protocol lets come next, is a reporter's, and its event is of one of the twelve matches
is_asked : (log : Log) (d : LocalState) (kind : AccessKind) (game found : ℕ) → ReadsCurrent log (Match kind game found) → IsNextFor d (Match kind game found)
    → IsAsked d.number (Match kind game found)
is_asked log d kind game found there next = search arith

-- if the rules accept the event that a pass holds on the word that it found, they do so after each step that the protocol lets come next
sees_next : (log : Log) (y : TakenStep) (d : LocalState) (t : Action) → Sees d.number d.held → ReadsCurrent log t → IsNextFor d t
    → Sees (with_action t y d).number (with_action t y d).held
sees_next log y d (Match kind game found) sees there next = search (arith, sees_then, sees_by, is_asked log d kind game found there next)
sees_next log y d t sees there next = search (arith, sees_then, sees_by)

-- if the steps of a log are legal, and each held event is accepted by the rules (IsSound), this is so with one more step of the protocol
sound_next : (log : Log) (x : LoggedStep) → MayBeTaken log x → IsNextOfProtocol log x → IsSound log → IsSound (log ++ x ∷ [])
sound_next log x may next was =
    let d = local_at x.seat log in
    let given = number_of (taken_by x.seat log) in
    let number = local_number (taken_by x.seat log) in
    let entry = may_add log d x.step.action (legal_history log was.steps) (was.sees x.seat) may.there next.next in
    record {
      steps = may_next IsLegalStep log x was.steps (record {
        adds = subst (λ (n : ℕ). MayAdd (history_of log) n x.step.entry) number (subst (MayAdd (history_of log) d.number) (sym next.entry) entry);
        enlists = may_enlist d given x.step.action x.step.entry number next.next next.entry;
      });
      sees = by_seat log x (λ seat y. Sees y.number y.held) (with_step d x.step) refl
          (sees_next log x.step d x.step.action (was.sees x.seat) may.there next.next) (λ seat not. was.sees seat);
    }

-- in each log that follows the protocol the steps are legal, and the rules accept each event that a pass holds on the word that it found
pub logs_sound : (log : Log) → IsConsistentLog log → FollowsProtocol log → IsSound log
logs_sound log = may_induction MayBeTaken (λ l. FollowsProtocol l → IsSound l)
    (λ f. record { steps = may_none IsLegalStep; sees = λ seat. tt })
    (λ xs x before may was f. sound_next xs x may (may_last IsNextOfProtocol xs x f) (was (may_begin IsNextOfProtocol xs (x ∷ []) f)))
    log

-- a log that follows the protocol has only legal steps: each keeps the history legal, adds only an entry with the number of its own pass,
-- and enlists only a pass with no number
pub legal_steps : IsLegalRule IsNextOfProtocol
legal_steps log is follows = (logs_sound log is follows).steps

-- a log that follows the protocol has a legal history
pub logs_legal : (log : Log) → IsConsistentLog log → FollowsProtocol log → IsLegal (history_of log)
logs_legal log is follows = legal_history log (legal_steps log is follows)

-- a log that follows the protocol gives its reporters the numbers from 1 to how many they are, at most 255, each to one pass; and the
-- entries with a number are those that its pass added
pub logs_facts : (log : Log) → IsConsistentLog log → FollowsProtocol log → LogFacts log
logs_facts log is follows = log_facts log is (legal_steps log is follows)

-- the calls of a pass have no greater number than it has
abbrev LowCalls : LocalState → Type 0
LowCalls d = All (λ (c : CompletedCall). c.number ≤ d.number) d.calls

-- no completed call of a pass has a greater number than the pass after an outcome, if none had before it
low_outcome : (o : Outcome) (y : TakenStep) (d : LocalState) → LowCalls d → LowCalls (with_outcome o y d)
low_outcome (GoesOn held) y d low = low
low_outcome (Answers reply) y d low =
    let c = call_answered reply y d in
    All-append (λ (a : CompletedCall). a.number ≤ d.number) d.calls (c ∷ []) low
    (All-cons (λ (a : CompletedCall). a.number ≤ d.number) c [] (le_refl d.number) (All-nil (λ (a : CompletedCall). a.number ≤ d.number)))

-- no completed call of a pass has a greater number than the pass after a step of the protocol, if none had before it
low_step : (t : Action) (y : TakenStep) (d : LocalState) → IsNextFor d t → LowCalls d → LowCalls (with_action t y d)
low_step (CountRaised found) y d next low = λ k c at. let was = low k c at in let none = next.1 in omega arith
low_step (Match kind game found) y d next low = low_outcome (outcome d.number d.held (Match kind game found) y.length) y d low
low_step (Whole shown) y d next low = absurd next
low_step (CountRead found) y d next low = low_outcome (outcome d.number d.held (CountRead found) y.length) y d low

-- the completed calls of each pass of a log have no greater number than it has
pub calls_low : (log : Log) → IsConsistentLog log → FollowsProtocol log → (seat : ℕ) → LowCalls (local_at seat log)
calls_low log = may_induction MayBeTaken (λ l. FollowsProtocol l → (seat : ℕ) → LowCalls (local_at seat l))
    (λ f seat. All-nil (λ (c : CompletedCall). c.number ≤ 0))
    (λ xs x before may was f.
    let p = may_last IsNextOfProtocol xs x f in
    let old = was (may_begin IsNextOfProtocol xs (x ∷ []) f) in
    by_seat xs x (λ seat d. LowCalls d) (with_step (local_at x.seat xs) x.step) refl
    (low_step x.step.action x.step (local_at x.seat xs) p.next (old x.seat))
    (λ seat not. old seat))
    log
