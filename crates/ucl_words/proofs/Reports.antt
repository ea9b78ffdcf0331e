-- What a report says of its pass: one load on whose word the rules refuse, or a load and an exchange.
use Rattle.ucl_words.proofs.Common.{Accepted, AcceptedReport, Access, Bool, CompletesCall, Continues, Entry, Err, EventCall, Follows, []}
use Rattle.ucl_words.proofs.Common.{HasTrail, Holding, IfErr, IfOk, IsConsistent, IsHoldingFor, IsLegal, IsMatch, IsOk, IsPrefix, IsWord}
use Rattle.ucl_words.proofs.Common.{List, Look, Match, MatchRecord, MayAsk, NoCall, None, Occurs, Ok, Pending, Refusal, RefusedReport}
use Rattle.ucl_words.proofs.Common.{Reply, ReportAccesses, ReportSteps, Result, Some, Stale, StaysIn, Steps, Swap, TakenStep, View, Walks}
use Rattle.ucl_words.proofs.Common.{WordPass, WordReported, accepted_reply, access, adds_continue, after, after_number, ap, append-nil}
use Rattle.ucl_words.proofs.Common.{append_assoc, arith, beginnings, begins_length, begins_more, begins_same, begins_through, local_number}
use Rattle.ucl_words.proofs.Common.{local_of, entry_of, eq-eqb, false, followed_by, follows_append, follows_longer, follows_one, subst}
use Rattle.ucl_words.proofs.Common.{follows_wider, game_after, history_of, inl, inr, le_refl, length, length-append, ne_eqb, number_of}
use Rattle.ucl_words.proofs.Common.{pass_view_of, record_at, refl, refusal_of, refused_reply, reply_of, report_reply, report_whole}
use Rattle.ucl_words.proofs.Common.{sequential_reply, sound, step_taken, steps_with, sym, take-length, takes_count, takes_on}
use Rattle.ucl_words.proofs.Common.{trail_of, true, version_in, versions_shown, word_after, word_of, word_packed, ◌++◌, ◌+◌, ◌<◌, ◌==◌, ◌∙◌}
use Rattle.ucl_words.proofs.Common.{◌∷◌, ◌≡◌, ◌≢◌, ◌≤◌, ℕ}
use Rattle.ucl_words.proofs.Steps.{ExchangeWon, LoadsMatch, takes_trail, trail_on, walks_continue, walks_load, walks_on}
use Rattle.ucl_words.proofs.LocalStates.{answered_shown, look_answers, look_holds, look_loads, reply_by, stays_answered, swap_finishes}
use Rattle.ucl_words.proofs.LocalStates.{swap_missed, swap_won}
use Rattle.ucl_steps.specs.declared.step.Call.TheVariants as calls
use Rattle.ucl_steps.specs.declared.trace.Reply.TheVariants as replies

-- where the rules accept an event on a word, the reply has the event number of the word that takes its place
accepts_by : (word next number reporter : ℕ) (call : EventCall) → refusal_of (record_at word) call.expected call.kind ≡ None
    → record_at next ≡ after (record_at word) reporter call.kind → number ≡ (record_at next).number → reply_of (record_at word) call ≡ Ok (record { number = number })
accepts_by word next number reporter call none is said = search (arith, accepted_reply, after_number)

-- all that is promised of a report of this event with this reply: the pass had the view v before it and has w after it
pub record Reported (v : View) (call : EventCall) (reply : Result Accepted Refusal) (w : View) : Type 0 where
  pub consistent : IsConsistent w
  pub always : Continues (pass_view_of v) (pass_view_of w)
  pub accepted : IfOk reply (λ r. AcceptedReport (pass_view_of v) call r (pass_view_of w))
  pub refused : IfErr reply (λ r. RefusedReport (pass_view_of v) call r (pass_view_of w))
  pub steps : ReportSteps v call reply w
  pub answers : CompletesCall v (calls.Event call) (report_reply reply) w

-- a report adds no version to those that its pass has shown
report_shown : (v w : View) (call : EventCall) (reply : Result Accepted Refusal) → CompletesCall v (calls.Event call) (report_reply reply) w
    → number_of w.own ≡ number_of v.own → versions_shown w.own ≡ versions_shown v.own
report_shown v w call reply c same = answered_shown v w (calls.Event call) (report_reply reply) c.answers same
    ∙ (ap (λ (l : List ℕ). versions_shown v.own ++ l) (none reply) ∙ append-nil (versions_shown v.own))
  where
    none : (r : Result Accepted Refusal) → version_in (report_reply r) ≡ []
    none (Ok accepted) = refl
    none (Err refusal) = refl

-- the load by which the pass of a seat begins a report, from the view v to the view u
module _ (v u : View) (call : EventCall) (reporter loaded seat : ℕ) (game : IsMatch call.game)
    (me : (0 < reporter) × (reporter ≤ 255) × (number_of v.own ≡ reporter)) (consistent : IsConsistent v)
    (nothing : (local_of v.own).held ≡ NoCall) (s : Steps seat (Match (Look call) call.game loaded) v u) where
  may_ask : MayAsk (number_of v.own) (calls.Event call)
  may_ask = let a = me.0 in let b = me.1 in let is = me.2 in ((omega arith, omega arith), game)

  looked : LoadsMatch (Look call) call.game v loaded u
  looked = look_loads seat loaded call v u s nothing

  abbrev look_access : Access
  look_access = access (Look call) call.game loaded looked.index (length (history_of u.log))

  look_walks : Walks v (look_access ∷ []) u
  look_walks = walks_load (Look call) call.game loaded v u consistent looked

  -- a report of which all accesses stored nothing, and whose reply is this refusal, says what it should
  refused_by : (ms : List Access) (w : View) (refusal : Refusal) → Walks v ms w → ReportAccesses call (Err refusal) ms (length (history_of w.log))
      → CompletesCall v (calls.Event call) (replies.Refused refusal) w → Reported v call (Err refusal) w
  refused_by ms w refusal walks report answers = record {
    consistent = walks.consistent;
    always = walks_continue v w ms walks;
    accepted = tt;
    refused = record {
      answer = ap (λ (h : List Entry). sequential_reply h call) (sym (take-length (history_of w.log)))
          ∙ report_whole (history_of w.log) (length (history_of v.log)) (length (history_of w.log)) (length (history_of w.log)) call (Err refusal) ms
          walks.consistent.sound.legal walks.leaves.follows report;
      mine = walks.mine;
      shown = report_shown v w call (Err refusal) answers walks.number;
    };
    steps = record { may = may_ask; accesses = ms; leaves = walks.leaves; report = report };
    answers = answers;
  }

  -- if the rules refuse the event on the word that was loaded, this load was the whole report
  pub refused_report : (refusal : Refusal) → refusal_of (record_at loaded) call.expected call.kind ≡ Some refusal → Reported v call (Err refusal) u
  refused_report refusal refused =
      let reply = sym (refused_reply (record_at loaded) (record_at loaded) call refusal refl refused) in
      refused_by (look_access ∷ []) u refusal look_walks (inl (record { looked = loaded; index = looked.index; accesses = refl; answer = reply }))
      (look_answers seat loaded call v u s nothing refusal refused)

  -- if they accept it on that word, an exchange follows, by which `next` is to take its place
  module _ (accepts : refusal_of (record_at loaded) call.expected call.kind ≡ None) (next : ℕ) (valid : IsWord next) (next_is : record_at next ≡ after (record_at loaded) reporter call.kind) where
    abbrev next_held : Pending
    next_held = Holding call loaded (word_of (after (record_at loaded) (local_of v.own).number call.kind))

    stays : StaysIn v next_held u
    stays = look_holds seat loaded call v u s nothing accepts

    -- the word that the pass holds for the exchange is `next`
    word_is : word_of (after (record_at loaded) (local_of v.own).number call.kind) ≡ next
    word_is = ap (λ (k : ℕ). word_of (after (record_at loaded) k call.kind)) (local_number v.own ∙ me.2) ∙ (ap word_of (sym next_is) ∙ word_packed next valid)

    held_then : (local_of u.own).held ≡ Holding call loaded next
    held_then = stays.held_is ∙ ap (λ (k : ℕ). Holding call loaded k) word_is

    pub holding_for : IsHoldingFor (local_of u.own).held call.game loaded next
    holding_for = record { e = call; holds = held_then; of = refl }

    accepted_as : (number : ℕ) → number ≡ (record_at next).number → reply_of (record_at loaded) call ≡ Ok (record { number = number })
    accepted_as number is = accepts_by loaded next number reporter call accepts next_is is

    -- the exchange of the report found `found`, and led to the view z
    module _ (z : View) (found place : ℕ) (t : Steps place (Match Swap call.game found) u z) where
      answered_as : (reply : Result Accepted Refusal) (b : Bool) → (found == loaded) ≡ b
          → report_reply reply ≡ reply_by place call.game found loaded next call u z t held_then refl b → CompletesCall v (calls.Event call) (report_reply reply) z
      answered_as reply b is same = subst (λ (r : Reply). CompletesCall v (calls.Event call) r z) (sym same)
          (stays_answered v u z next_held (calls.Event call) _ nothing looked.number stays (swap_finishes place call.game found loaded next call u z t held_then refl b is))

      -- an exchange that found another word was missed: the event is refused as stale
      pub missed_report : found ≢ loaded → (number : ℕ) → number ≡ (record_at found).number → Reported v call (Err (Stale number)) z
      missed_report other number is =
          let lost = swap_missed place call.game found loaded next call u z t held_then refl other in
          let swapped : Access = access Swap call.game found lost.index (length (history_of z.log)) in
          let walks = walks_on v u z (look_access ∷ []) (swapped ∷ []) look_walks (walks_load Swap call.game found u z look_walks.consistent lost) in
          let may : IsOk (reply_of (record_at loaded) call) =
          subst (λ (r : Result Accepted Refusal). IsOk r) (sym (accepted_as (record_at next).number refl)) refl in
          refused_by (look_access ∷ swapped ∷ []) z (Stale number) walks
          (inr (record {
            looked = loaded;
            found = found;
            missed = record { length = length (history_of u.log); indices = (looked.index, lost.index); accesses = refl; may = may };
            other = other;
            answer = ap (λ (n : ℕ). Stale n) is;
          }))
          (answered_as (Err (Stale number)) false (ne_eqb found loaded other) (ap (λ (n : ℕ). replies.Refused (Stale n)) is))

      -- an exchange that found the word that was loaded: it was won
      module _ (same : found ≡ loaded) where
        abbrev entry : Entry
        entry = entry_of (number_of v.own) call

        won : ExchangeWon (entry_of (number_of v.own) call) u found z
        won = subst (λ (k : ℕ). ExchangeWon (entry_of k call) u found z) looked.number (swap_won place call.game found loaded next call u z t held_then refl same)

        abbrev before : List Entry
        before = history_of won.before

        abbrev seen : List Entry
        seen = history_of z.log

        abbrev won_access : Access
        won_access = access Swap call.game found won.index (length before)

        since_seen : IsPrefix (history_of v.log) before
        since_seen = begins_through (history_of v.log) (history_of u.log) before look_walks.on.seen won.since

        begun : IsPrefix before seen
        begun = subst (IsPrefix before) (sym won.last) (begins_more before before entry (begins_same before))

        one_longer : length seen ≡ length before + 1
        one_longer = ap length won.last ∙ length-append before (entry ∷ [])

        -- the accesses of the report, a load and an exchange that was won, follow the history from what the pass had seen
        won_follows : Follows seen (length (history_of v.log)) (look_access ∷ won_access ∷ []) (length seen)
        won_follows =
            let n = one_longer in
            let one : Follows before (length (history_of u.log)) (won_access ∷ []) (length before) =
            follows_one before (length (history_of u.log)) won_access (begins_length (history_of u.log) before won.since) refl won.there.1 in
            let both : Follows before (length (history_of v.log)) (look_access ∷ won_access ∷ []) (length before) =
            follows_append before (length (history_of v.log)) (length (history_of u.log)) (length before) (look_access ∷ []) (won_access ∷ [])
            (follows_longer (history_of u.log) before (length (history_of v.log)) (length (history_of u.log)) (look_access ∷ []) won.since
            (le_refl (length (history_of u.log))) look_walks.leaves.follows) one in
            follows_wider seen (length (history_of v.log)) (length (history_of v.log)) (length before) (length seen) (look_access ∷ won_access ∷ [])
            (le_refl (length (history_of v.log))) (omega arith)
            (follows_longer before seen (length (history_of v.log)) (length before) (look_access ∷ won_access ∷ []) begun (le_refl (length before)) both)

        abbrev won_step : TakenStep
        won_step = step_taken (Match Swap call.game found) won.index (length before) (Some entry)

        won_trail : trail_of z ≡ trail_of v ++ look_access ∷ won_access ∷ []
        won_trail = takes_trail u z (won_step ∷ []) won.takes
            ∙ (ap (λ (l : List Access). l ++ won_access ∷ []) look_walks.leaves.trail ∙ append_assoc (trail_of v) (look_access ∷ []) (won_access ∷ []))

        won_whole : HasTrail z
        won_whole = subst (λ (t : List Access). Follows seen 0 t (length seen)) (sym won_trail)
            (trail_on (history_of v.log) seen (trail_of v) (look_access ∷ won_access ∷ []) (begins_through (history_of v.log) before seen since_seen begun) consistent.trail won_follows)

        -- a report whose exchange was won: the event is accepted, with the event number of the word that it left
        pub accepted_report : (number : ℕ) → number ≡ (record_at next).number → Reported v call (Ok (record { number = number })) z
        accepted_report number is =
            let ok = accepted_as number is in
            let always : Continues (pass_view_of v) (pass_view_of z) = adds_continue versions_shown v u z (Match Swap call.game found) entry
            (record { seen = look_walks.on.seen; listed = look_walks.on.listed; share = look_walks.on.share; mine = look_walks.mine; number = look_walks.number }) won in
            let answers = answered_as (Ok (record { number = number })) true (eq-eqb found loaded same) (λ i. replies.Accepted (record { number = is i })) in
            let one = takes_count u z (won_step ∷ []) won.takes in
            let was = look_walks.leaves.taken in
            let legal = beginnings before (entry ∷ []) (subst IsLegal won.last won.goes.legal) in
            let found_is = sym same ∙ (won.there.1 ∙ sym (word_after before call.game game)) in
            record {
              consistent = record { sound = sound versions_shown u z won.goes; told = won.goes.told; trail = won_whole };
              always = always;
              accepted = record {
                before = before;
                last = won.last;
                since = since_seen;
                answer = ap (λ (m : MatchRecord). reply_of m call) (sym (ap record_at found_is ∙ game_after before call.game legal game)) ∙ ok;
                mine = won.mine ∙ ap (λ (l : List Entry). followed_by l entry) look_walks.mine;
                shown = report_shown v z call (Ok (record { number = number })) answers always.number;
              };
              refused = tt;
              steps = record {
                may = may_ask;
                accesses = look_access ∷ won_access ∷ [];
                leaves = record {
                  takes = takes_on v u z (steps_with None (look_access ∷ [])) (won_step ∷ []) look_walks.leaves.takes won.takes;
                  trail = won_trail;
                  taken = omega arith;
                  follows = won_follows;
                  whole_trail = won_whole;
                };
                report = record {
                  looked = loaded;
                  length = length (history_of u.log);
                  before = length before;
                  indices = (looked.index, won.index);
                  accesses = ap (λ (k : ℕ). look_access ∷ access Swap call.game k won.index (length before) ∷ []) same;
                  answer = ok;
                  last = sym one_longer;
                };
              };
              answers = answers;
            }

-- a report's accesses are one or two
report_few : (call : EventCall) (reply : Result Accepted Refusal) (ms : List Access) (now : ℕ) → ReportAccesses call reply ms now → length ms ≤ 2
report_few call reply ms now r = search arith

-- if all that a report promises of its pass's views holds, and the pass keeps its board and seat, the report is as a word board promises
pub was_reported : (k m : WordPass) (call : EventCall) (reply : Result Accepted Refusal) → Reported k.pass call reply m.pass
    → m.board ≡ k.board → m.seat ≡ k.seat → Occurs m.seat m.pass → WordReported k call reply m
was_reported k m call reply r own seat occurs =
    let few = report_few call reply r.steps.accesses (length (history_of m.pass.log)) r.steps.report in
    let taken = r.steps.leaves.taken in
    record {
      own = own;
      seat = seat;
      says = record { always = r.always; accepted = r.accepted; refused = r.refused };
      steps = r.steps;
      answers = r.answers;
      most = omega arith;
      occurs = occurs;
    }
