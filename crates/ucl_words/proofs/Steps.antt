-- What the steps on a word board tell its passes: each kind of step keeps the invariant, and runs of steps on match words add up.
use Rattle.ucl_words.proofs.Common.{Access, AccessKind, Adds, All, All-head, All-tail, Allows, Bool, LocalState, Continues, EnlistStep, []}
use Rattle.ucl_words.proofs.Common.{CountRead, EnlistedStep, CountRaised, Entry, EventCall, ExchangeStep, CompletedCall, First, FirstStep, ap}
use Rattle.ucl_words.proofs.Common.{Follows, GivesNumber, GoesOn, HasTrail, Holding, IsConsistent, IsMatch, IsNextFor, IsNextOfProtocol}
use Rattle.ucl_words.proofs.Common.{IsPrefix, IsReporter, IsSome, ReadsCurrent, IsWord, Joins, List, Look, LookStep, Match, MatchRecord, subst}
use Rattle.ucl_words.proofs.Common.{MayFollow, Me, NoCall, None, Occurs, Option, Pending, Second, SecondStep, Sees, Some, Splits, State}
use Rattle.ucl_words.proofs.Common.{Steps, Swap, TableInvariant, TakenStep, Takes, Action, Valid, View, Walks, access, accesses_append}
use Rattle.ucl_words.proofs.Common.{accesses_in, adds, after, append-nil, append_assoc, arith, attempted, begins_length, begins_same}
use Rattle.ucl_words.proofs.Common.{begins_through, board_next, board_of, calls_low, carried_after, local_at, local_number, local_of}
use Rattle.ucl_words.proofs.Common.{cond, count_none, either, enlist_none, enlisted, enlisted_by, entry_by, entry_of, eq-eqb, exchanged}
use Rattle.ucl_words.proofs.Common.{first_none, first_pass, flat_map, fold-append, follows_append, follows_longer, follows_one}
use Rattle.ucl_words.proofs.Common.{follows_wider, get_elem?, get_or, history_of, joins_keep, keeps, le_refl, left_pass, legal_steps}
use Rattle.ucl_words.proofs.Common.{length, length-append, logged_by, logs_legal, logs_sound, look_none, map, map-append, match_after}
use Rattle.ucl_words.proofs.Common.{match_valid, may_attempt, ne_eqb, initial_local, new_pass, next_match, note_pass, notes_keep, number_of}
use Rattle.ucl_words.proofs.Common.{opening, opens_keep, outcome, own_is, pass_view_of, read_back, record_at, refl, refusal_of, second_none}
use Rattle.ucl_words.proofs.Common.{second_pass, seconds_keep, sees, set, set-get_or, some, sound, step, step_taken, stepped, takes_step}
use Rattle.ucl_words.proofs.Common.{steps_with, sym, takes_count, takes_none, takes_on, there_before, told_pass, trail_of, version_in}
use Rattle.ucl_words.proofs.Common.{versions_by, versions_shown, with_step, with_action, word_after, word_of, words_after, words_enlisted}
use Rattle.ucl_words.proofs.Common.{words_entered, words_stay, ◌++◌, ◌+◌, ◌-◌, ◌<◌, ◌==◌, ◌∙◌, ◌∷◌, ◌≡◌, ◌≢◌, ◌≤◌, ℕ}
use mathlib.Core.Option as core
use Rattle.ucl_log.specs.Log.{enlists}
use Rattle.ucl_steps.proofs.LogFacts.{Offers, Sees as SeesPending}

-- the words of a board and the views of its passes, between two steps
abbrev pub Position : Type 0
Position = State Entry View

-- behind word 0, the number of reporters, the word of a match is at the place that is its number
get_match : (n : ℕ) (b : List ℕ) (game : ℕ) → 1 ≤ game → get_or (n ∷ b) game 0 ≡ get_or b (game - 1) 0
get_match n b game low = search arith

-- to set the word of a match on a board behind its number of reporters sets it among the match words
set_match : (n : ℕ) (b : List ℕ) (game x : ℕ) → 1 ≤ game → set (n ∷ b) game x ≡ n ∷ set b (game - 1) x
set_match n b game x low = search arith

-- a step on a match word is a load, and no exchange
abbrev pub IsLoad : AccessKind → Type 0
IsLoad Swap = ⊥
IsLoad act = Unit {0}

-- no load adds an entry, whatever its pass holds
load_none : (act : AccessKind) → IsLoad act → (h : Pending) (number game found : ℕ) → entry_by number h (Match act game found) ≡ None
load_none (Look e) is h number game found = look_none h number game found e
load_none Swap is h number game found = absurd is
load_none First is h number game found = first_none h number game found
load_none Second is h number game found = second_none h number game found

-- word 0 of a board is how many reporters its log has enlisted
pub count_there : (s : Position) (r : TableInvariant s) → get_or s.words 0 0 ≡ enlisted_by r.log
count_there s r = ap (λ (ws : List ℕ). get_or ws 0 0) r.words_are

-- a pass with a share, at a seat of a state that satisfies the invariant
module _ (s : Position) (r : TableInvariant s) (seat : ℕ) (v : View) (here : get_elem? s.views seat ≡ some v) (acts : IsSome v.share) where
  word_there : (game : ℕ) → IsMatch game → get_or s.words game 0 ≡ word_of (match_after (history_of r.log) game)
  word_there game is = ap (λ (ws : List ℕ). get_or ws game 0) r.words_are ∙ (get_match (enlisted_by r.log) (board_of (history_of r.log)) game is.0 ∙ word_after (history_of r.log) game is)

  local_here : local_of v.own ≡ local_at seat r.log
  local_here = ap local_of (r.fits seat v here).own.1

  abbrev taken : Action → Option Entry → TakenStep
  taken action entry = step_taken action (length r.log) (length (history_of r.log)) entry

  -- a step on what is there, of which the protocol may come next and after which the words fit the log, keeps the invariant
  one_step : (action : Action) (entry : Option Entry) → ReadsCurrent r.log action → IsNextFor (local_of v.own) action
      → entry ≡ entry_by (local_of v.own).number (local_of v.own).held action → (i n : ℕ) (cs : List (ℕ × Entry)) (place : ℕ) → place ≡ seat
      → set s.words i n ≡ words_after (history_of (r.log ++ logged_by seat (taken action entry) ∷ [])) (enlisted_by (r.log ++ logged_by seat (taken action entry) ∷ []))
      → (w : View) × TableInvariant (stepped s i n seat cs w keeps) × Steps place action v w
  one_step action entry there next adds i n cs place is_seat are =
      let t = takes_step words_after IsNextOfProtocol s.words s.views r seat v here (set s.words i n) (taken action entry) acts
      (record { index = refl; length = refl; there = there })
      (record {
        next = subst (λ (d : LocalState). IsNextFor d action) local_here next;
        entry = adds ∙ ap (λ (d : LocalState). entry_by d.number d.held action) local_here;
      }) are in
      (t.0, t.1, subst (λ (k : ℕ). Steps k action v t.0) (sym is_seat) t.2)

  -- a step that adds no entry and enlists no one leaves the words as they are, and keeps the invariant
  one_look : (action : Action) → ReadsCurrent r.log action → IsNextFor (local_of v.own) action → entry_by (local_of v.own).number (local_of v.own).held action ≡ None
      → length (enlists action) ≡ 0 → (i : ℕ) (cs : List (ℕ × Entry)) (place : ℕ) → place ≡ seat
      → (w : View) × TableInvariant (stepped s i (get_or s.words i 0) seat cs w keeps) × Steps place action v w
  one_look action there next none few i cs place is_seat = one_step action None there next (sym none) i (get_or s.words i 0) cs place is_seat
      (set-get_or s.words i 0 ∙ words_stay words_after IsNextOfProtocol s.words s.views r seat v here (taken action None) refl few)

  -- a load of a match word, or an exchange of it that was missed
  load_by : (act : AccessKind) (game : ℕ) (cs : List (ℕ × Entry)) (place : ℕ) → place ≡ seat → IsMatch game → IsNextFor (local_of v.own) (Match act game (get_or s.words game 0))
      → entry_by (local_of v.own).number (local_of v.own).held (Match act game (get_or s.words game 0)) ≡ None
      → (w : View) × TableInvariant (stepped s game (get_or s.words game 0) seat cs w keeps) × Steps place (Match act game (get_or s.words game 0)) v w
  load_by act game cs place is_seat is next none = one_look (Match act game (get_or s.words game 0)) (is, word_there game is) next none refl game cs place is_seat

  -- a load of the enlist word, or an exchange of it that was missed
  count_by : (cs : List (ℕ × Entry)) (place : ℕ) → place ≡ seat
      → (w : View) × TableInvariant (stepped s 0 (get_or s.words 0 0) seat cs w keeps) × Steps place (CountRead (get_or s.words 0 0)) v w
  count_by cs place is_seat =
      one_look (CountRead (get_or s.words 0 0)) (count_there s r) tt (count_none (local_of v.own).held (local_of v.own).number (get_or s.words 0 0)) refl 0 cs place is_seat

-- the table allows a load of a match word by a pass with a share for which the protocol lets it come next
pub loads : (slots seat game place : ℕ) (act : AccessKind) (m : Me Entry View) → place ≡ seat → IsLoad act → IsSome m.0.share → IsMatch game →
    ((n : ℕ) → IsNextFor (local_of m.0.own) (Match act game n))
    → Allows TableInvariant slots seat m game (λ n. n) (λ n m'. Steps place (Match act game n) m.0 m'.0)
loads slots seat game place act m is_seat load acts is next s r _ here _ =
    let n : ℕ = get_or s.words game 0 in
    let t = load_by s r seat m.0 here acts act game m.1 place is_seat is (next n) (load_none act load (local_of m.0.own).held (local_of m.0.own).number game n) in
    (t.0, keeps, tt, t.1, t.2)

-- the table allows the load by which a reporter's pass that holds no call begins a report
pub looks : (slots seat game place : ℕ) (m : Me Entry View) (e : EventCall) → place ≡ seat → IsSome m.0.share → IsMatch game → e.game ≡ game → IsReporter (number_of m.0.own)
    → (local_of m.0.own).held ≡ NoCall → Allows TableInvariant slots seat m game (λ n. n) (LookStep place e (step slots game 0 0 core.none) m)
looks slots seat game place m e is_seat acts is of reporter nothing =
    loads slots seat game place (Look e) m is_seat tt acts is (λ n. (nothing, sym of, subst IsReporter (sym (local_number m.0.own)) reporter))

-- the table allows the next load of a first collect
pub firsts : (slots seat game : ℕ) (m : Me Entry View) → IsSome m.0.share → IsMatch game → game ≡ next_match First (local_of m.0.own).held
    → Allows TableInvariant slots seat m game (λ n. n) (FirstStep (step slots game 0 0 core.none) m)
firsts slots seat game m acts is next s r hs here small =
    let t = loads slots seat game seat First m refl tt acts is (λ n. next) s r hs here small in
    (t.0, t.1, t.2, t.3, (seat, t.4))

-- the table allows the next load of a second collect
pub again : (slots seat game place : ℕ) (m : Me Entry View) → place ≡ seat → IsSome m.0.share → IsMatch game → game ≡ next_match Second (local_of m.0.own).held
    → Allows TableInvariant slots seat m game (λ n. n) (SecondStep place (step slots game 0 0 core.none) m)
again slots seat game place m is_seat acts is next = loads slots seat game place Second m is_seat tt acts is (λ n. next)

-- the table allows a load of the number of reporters
pub counts : (slots seat place : ℕ) (m : Me Entry View) → place ≡ seat → IsSome m.0.share →
    Allows TableInvariant slots seat m 0 (λ n. n) (EnlistedStep place (step slots 0 0 0 core.none) m)
counts slots seat place m is_seat acts s r _ here _ = let t = count_by s r seat m.0 here acts m.1 place is_seat in (t.0, keeps, tt, t.1, (refl, t.2))

-- the table allows the exchange of an enlistment, by a reader's pass that holds no call and expects fewer than 255 reporters
pub enlisting : (slots seat place : ℕ) (m : Me Entry View) (old : ℕ) → place ≡ seat → IsSome m.0.share → number_of m.0.own ≡ 0 → (local_of m.0.own).held ≡ NoCall → old < 255
    → Allows TableInvariant slots seat m 0 (λ n. either (n == old) (old + 1) n) (EnlistStep place (step slots 0 old (old + 1) core.none) m)
enlisting slots seat place m old is_seat acts reader nothing room s r _ here _ =
    let n : ℕ = get_or s.words 0 0 in
    exchanged n old (old + 1)
    (λ x. (w : View) × (a : Rattle.atomic_table.specs.Table.Act Entry) × Valid s.homes m.1 a × TableInvariant (stepped s 0 x seat m.1 w a)
    × EnlistStep place (step slots 0 old (old + 1) core.none) m n (w, carried_after m.1 a))
    (λ hit.
    let found = count_there s r in
    let there : ReadsCurrent r.log (CountRaised n) = (found, omega arith) in
    let adds = sym (enlist_none (local_of m.0.own).held (local_of m.0.own).number n) in
    let next : IsNextFor (local_of m.0.own) (CountRaised n) = (nothing, local_number m.0.own ∙ reader) in
    let x : TakenStep = step_taken (CountRaised n) (length r.log) (length (history_of r.log)) None in
    let are : set s.words 0 (old + 1) ≡ words_after (history_of (r.log ++ logged_by seat x ∷ [])) (enlisted_by (r.log ++ logged_by seat x ∷ [])) =
    ap (λ (ws : List ℕ). set ws 0 (old + 1)) r.words_are ∙ (ap (λ (k : ℕ). words_after (history_of r.log) (k + 1)) (sym hit ∙ found)
    ∙ words_enlisted words_after IsNextOfProtocol s.words s.views r seat m.0 here x refl refl) in
    let t = one_step s r seat m.0 here acts (CountRaised n) None there next adds 0 (old + 1) m.1 place is_seat are in
    (t.0, keeps, tt, t.1, (refl, subst (λ (b : Bool). Steps place (cond b (CountRaised n) (CountRead n)) m.0 t.0) (sym (eq-eqb n old hit)) t.2)))
    (λ miss.
    let t = count_by s r seat m.0 here acts m.1 place is_seat in
    (t.0, keeps, tt, t.1, (refl, subst (λ (b : Bool). Steps place (cond b (CountRaised n) (CountRead n)) m.0 t.0) (sym (ne_eqb n old miss)) t.2)))

-- the exchange of a report, which may add an entry: the pass holds the event, and is at a seat of a state that satisfies the invariant
module _ (s : Position) (r : TableInvariant s) (seat : ℕ) (m : Me Entry View) (here : get_elem? s.views seat ≡ some m.0) (acts : IsSome m.0.share) (game old new : ℕ) (e : EventCall)
    (holds : (local_of m.0.own).held ≡ Holding e old new) (of : game ≡ e.game) where
  abbrev number : ℕ
  number = (local_of m.0.own).number

  seen : Offers (local_at seat r.log).number e old new
  seen = subst (SeesPending (local_at seat r.log).number) (ap (λ (d : LocalState). d.held) (sym (local_here s r seat m.0 here acts)) ∙ holds)
      ((logs_sound r.log r.is_log r.follows).sees seat)

  is_match : IsMatch game
  is_match = subst IsMatch (sym of) seen.game

  abbrev found : ℕ
  found = get_or s.words game 0

  next : IsNextFor (local_of m.0.own) (Match Swap game found)
  next = of ∙ ap (λ (h : Pending). next_match Swap h) (sym holds)

  -- the exchange adds the entry of the event exactly if it finds the word that was loaded
  adds_by : entry_by number (local_of m.0.own).held (Match Swap game found) ≡ cond (found == old) (Some (entry_of number e)) None
  adds_by = ap (λ (h : Pending). entry_by number h (Match Swap game found)) holds

  missed_none : found ≢ old → entry_by number (local_of m.0.own).held (Match Swap game found) ≡ None
  missed_none miss = adds_by ∙ ap (λ (b : Bool). cond b (Some (entry_of number e)) None) (ne_eqb found old miss)

  won_some : found ≡ old → Some (entry_of number e) ≡ entry_by number (local_of m.0.own).held (Match Swap game found)
  won_some hit = sym (adds_by ∙ ap (λ (b : Bool). cond b (Some (entry_of number e)) None) (eq-eqb found old hit))

  abbrev made : Entry
  made = entry_of (local_of m.0.own).number e

  abbrev won_step : TakenStep
  won_step = step_taken (Match Swap game found) (length r.log) (length (history_of r.log)) (Some made)

  -- if it finds that word, the words with the new one in its place are those after the log with this step
  won_words : found ≡ old
      → set s.words game new ≡ words_after (history_of (r.log ++ logged_by seat won_step ∷ [])) (enlisted_by (r.log ++ logged_by seat won_step ∷ []))
  won_words hit =
      let h = history_of r.log in
      let legal = logs_legal r.log r.is_log r.follows in
      let o = seen in
      let number_is : number ≡ (local_at seat r.log).number = ap (λ (d : LocalState). d.number) (local_here s r seat m.0 here acts) in
      let there : old ≡ word_of (match_after h e.game) = sym hit ∙ (word_there s r seat m.0 here acts game is_match ∙ ap (λ (g : ℕ). word_of (match_after h g)) of) in
      let match_is : record_at old ≡ match_after h e.game = ap record_at there ∙ read_back h e.game legal in
      let accepted : refusal_of (match_after h e.game) e.expected e.kind ≡ None = ap (λ (k : MatchRecord). refusal_of k e.expected e.kind) (sym match_is) ∙ o.accepted in
      let may : MayFollow h made = may_attempt h (attempted number e) legal (subst IsReporter (sym number_is) o.reporter, o.game) accepted in
      let new_is : new ≡ word_of (after (match_after h e.game) number e.kind) = o.next ∙ (λ j. word_of (after (match_is j) (sym number_is j) e.kind)) in
      let board : set (board_of h) (game - 1) new ≡ board_of (h ++ made ∷ []) = (λ j. set (board_of h) (of j - 1) (new_is j)) ∙ sym (board_next h made legal may) in
      ap (λ (ws : List ℕ). set ws game new) r.words_are ∙ (set_match (enlisted_by r.log) (board_of h) game new is_match.0
      ∙ (ap (λ (l : List ℕ). enlisted_by r.log ∷ l) board ∙ words_entered words_after IsNextOfProtocol s.words s.views r seat m.0 here won_step made refl refl))

  -- the exchange of a report that is won keeps the invariant
  won_by : found ≡ old → (place : ℕ) → place ≡ seat → (w : View) × TableInvariant (stepped s game new seat m.1 w keeps) × Steps place (Match Swap game found) m.0 w
  won_by hit place is_seat = one_step s r seat m.0 here acts (Match Swap game found) (Some made) (is_match, word_there s r seat m.0 here acts game is_match)
      next (won_some hit) game new m.1 place is_seat (won_words hit)

-- the table allows the exchange of a report, won or missed, by a pass that holds its event
pub swaps : (slots seat place game : ℕ) (m : Me Entry View) (e : EventCall) (entry : Entry) (old new : ℕ) → place ≡ seat → IsSome m.0.share
    → (local_of m.0.own).held ≡ Holding e old new → game ≡ e.game
    → Allows TableInvariant slots seat m game (λ n. either (n == old) new n) (ExchangeStep place (step slots game old new (core.some entry)) m)
swaps slots seat place game m e entry old new is_seat acts holds of s r _ here _ =
    let n : ℕ = get_or s.words game 0 in
    exchanged n old new
    (λ x. (w : View) × (a : Rattle.atomic_table.specs.Table.Act Entry) × Valid s.homes m.1 a × TableInvariant (stepped s game x seat m.1 w a)
    × ExchangeStep place (step slots game old new (core.some entry)) m n (w, carried_after m.1 a))
    (λ hit. let t = won_by s r seat m here acts game old new e holds of hit place is_seat in (t.0, keeps, tt, t.1, t.2))
    (λ miss.
    let t = load_by s r seat m.0 here acts Swap game m.1 place is_seat (is_match s r seat m here acts game old new e holds of) (next s r seat m here acts game old new e holds of)
    (missed_none s r seat m here acts game old new e holds of miss) in
    (t.0, keeps, tt, t.1, t.2))

-- a split of a pass keeps the invariant
pub seconds : (seat : ℕ) (v : View) → Splits TableInvariant seat v (left_pass v) (second_pass v)
seconds seat v s r here = seconds_keep words_after IsNextOfProtocol s.words s.views r seat v here

-- the making of a note of a pass keeps the invariant
pub notes : (seat : ℕ) (v : View) → Splits TableInvariant seat v v (note_pass v)
notes seat v s r here = notes_keep words_after IsNextOfProtocol s.words s.views r seat v here

-- the taking in of a note by a pass keeps the invariant
pub joins : (seat : ℕ) (v : View) (other : ℕ) (a : View) → Joins TableInvariant seat v other (note_pass a) (told_pass v (note_pass a)) new_pass
joins seat v other a s r here apart there = joins_keep words_after IsNextOfProtocol s.words s.views r seat v here other (note_pass a) apart there refl

-- a board may open with the words of no event and no reporter
pub opens : (words : List ℕ) → words ≡ words_after [] 0 → TableInvariant (opening words [] first_pass)
opens words are = opens_keep words_after IsNextOfProtocol words are

-- the first pass of a board that opens with no event and no reporter occurs, at seat 0
pub opened_occurs : (words : List ℕ) → words ≡ words_after [] 0 → Occurs 0 first_pass
opened_occurs words are = record { words = words; views = first_pass ∷ []; rule = opens words are; here = refl }

-- a load of the word of a match, or an exchange of it that was missed
abbrev pub LoadsMatch : AccessKind → ℕ → View → ℕ → View → Type 0
LoadsMatch kind game v n w = Sees (Match kind game n) v w

-- an exchange of a match word that was missed
abbrev pub ExchangeMissed : ℕ → View → ℕ → View → Type 0
ExchangeMissed = LoadsMatch Swap

-- an exchange of a match word that was won: it added this entry, the last that the pass has seen
abbrev pub ExchangeWon : Entry → View → ℕ → View → Type 0
ExchangeWon e v n w = Adds (Match Swap e.game n) e v w

-- an exchange of the number of reporters that was won: the pass is a reporter's, and no reading counts as shown under its number yet
pub record EnlistWon (v : View) (n : ℕ) (w : View) : Type 0 where
  pub gives : GivesNumber n v w
  pub shown : versions_shown w.own ≡ []

-- what a pass has done after a step is what the protocol makes of the step's action and of what it had done before
pub local_is : (seat : ℕ) (action : Action) (v w : View) (s : Steps seat action v w) → local_of w.own ≡ with_action action s.step (local_of v.own)
local_is seat action v w s = ap local_of (own_is words_after IsNextOfProtocol seat action v w s)
    ∙ (fold-append with_step initial_local v.own (s.step ∷ []) ∙ ap (λ (t : Action). with_action t s.step (local_of v.own)) s.of)

-- the version that a completed call shows under a number, as a list: that of a reading under this number, else none
abbrev pub shown_of : ℕ → CompletedCall → List ℕ
shown_of number c = cond (c.number == number) (version_in c.reply) []

-- the word that a step on a match word found is the packing of a valid state of a match
pub found_word : (seat game n : ℕ) (kind : AccessKind) (v w : View) → Steps seat (Match kind game n) v w → IsWord n
found_word seat game n kind v w s =
    let there = there_before words_after IsNextOfProtocol seat (Match kind game n) v w s in
    let legal = logs_legal s.before s.is_log s.follows in
    record { of = match_after (history_of s.before) game; valid = match_valid game (history_of s.before) legal; packed = sym there.1 }

-- a step on a match word that added no entry found the word that is there after it too
pub loads_match : (seat game n : ℕ) (kind : AccessKind) (v w : View) (s : Steps seat (Match kind game n) v w) → s.step.entry ≡ None → LoadsMatch kind game v n w
loads_match seat game n kind v w s none = sees words_after IsNextOfProtocol seat (Match kind game n) v w s legal_steps none refl

-- a load of a match word adds no entry
pub adds_none : (seat game n : ℕ) (kind : AccessKind) (v w : View) (s : Steps seat (Match kind game n) v w) → IsLoad kind → s.step.entry ≡ None
adds_none seat game n kind v w s load = s.next.entry ∙ (ap (entry_by (local_at seat s.before).number (local_at seat s.before).held) s.of
    ∙ load_none kind load (local_at seat s.before).held (local_at seat s.before).number game n)

-- the exchange of a report that found the word that was loaded added its entry
pub exchange_won : (seat game old new : ℕ) (e : EventCall) (v w : View) (s : Steps seat (Match Swap game old) v w) → (local_of v.own).held ≡ Holding e old new → game ≡ e.game
    → ExchangeWon (entry_of (number_of v.own) e) v old w
exchange_won seat game old new e v w s held of =
    let made : Entry = entry_of (local_of v.own).number e in
    let entry : s.step.entry ≡ Some (entry_of (number_of v.own) e) =
    s.next.entry ∙ ((λ i. entry_by (local_of (sym s.own i)).number (local_of (sym s.own i)).held (s.of i))
    ∙ (ap (λ (h : Pending). entry_by (local_of v.own).number h (Match Swap game old)) held
    ∙ (ap (λ (b : Bool). cond b (Some made) None) (eq-eqb old old refl) ∙ ap (λ (n : ℕ). Some (entry_of n e)) (local_number v.own)))) in
    subst (λ (g : ℕ). Adds (Match Swap g old) (entry_of (number_of v.own) e) v w) of
    (adds words_after IsNextOfProtocol seat (Match Swap game old) v w s legal_steps (entry_of (number_of v.own) e) entry refl)

-- a load of the number of reporters leaves what a pass holds of its call
pub count_stays : (number found now : ℕ) (k : Pending) → outcome number k (CountRead found) now ≡ GoesOn k
count_stays number found now k = search arith

-- a step on the number of reporters that enlisted no one: the pass knows how many it found
pub loads_enlisted : (seat n : ℕ) (v w : View) → Steps seat (CountRead n) v w → Sees (CountRead n) v w
loads_enlisted seat n v w s = sees words_after IsNextOfProtocol seat (CountRead n) v w s legal_steps
    (s.next.entry ∙ (ap (entry_by (local_at seat s.before).number (local_at seat s.before).held) s.of ∙ count_none (local_at seat s.before).held (local_at seat s.before).number n)) refl

-- an exchange of the number of reporters that was won made the pass a reporter's, which has shown no reading under its number
pub enlist_won : (seat n : ℕ) (v w : View) → Steps seat (CountRaised n) v w → EnlistWon v n w
enlist_won seat n v w s =
    let d = local_of v.own in
    let own : d ≡ local_at seat s.before = ap local_of s.own in
    let reader : d.number ≡ 0 = ap (λ (z : LocalState). z.number) own ∙ (subst (IsNextFor (local_at seat s.before)) s.of s.next.next).1 in
    let calls : All (λ (c : CompletedCall). c.number ≤ d.number) d.calls = subst
    (λ (z : LocalState). All (λ (c : CompletedCall). c.number ≤ z.number) z.calls) (sym own) (calls_low s.before s.is_log s.follows seat) in
    record {
      gives = enlisted words_after IsNextOfProtocol seat n v w s legal_steps;
      shown = ap versions_by (local_is seat (CountRaised n) v w s) ∙ none_shown (n + 1) d.calls (λ k c at. let l = calls k c at in omega arith);
    }
  where
    none_shown : (k : ℕ) (cs : List CompletedCall) → All (λ (c : CompletedCall). c.number < k) cs → flat_map (shown_of k) cs ≡ []
    none_shown k [] low = refl
    none_shown k (c ∷ cs) low =
        let less = All-head (λ (a : CompletedCall). a.number < k) c cs low in
        ap (λ (b : Bool). cond b (version_in c.reply) [] ++ flat_map (shown_of k) cs) (ne_eqb c.number k (λ same. omega (arith, same, less)))
        ∙ none_shown k cs (All-tail (λ (a : CompletedCall). a.number < k) c cs low)

-- if accesses follow a history s, and others a longer history h from the length of s on, the first and then the others follow h
pub trail_on : (s h : List Entry) (old new : List Access) → IsPrefix s h → Follows s 0 old (length s) → Follows h (length s) new (length h) → Follows h 0 (old ++ new) (length h)
trail_on s h old new p was more = follows_append h 0 (length s) (length h) old new (follows_longer s h 0 (length s) old p (le_refl (length s)) was) more

-- a trail that follows a history follows it also when it is longer
pub trail_longer : (s h : List Entry) (trail : List Access) → IsPrefix s h → Follows s 0 trail (length s) → Follows h 0 trail (length h)
trail_longer s h trail p was = follows_wider h 0 0 (length s) (length h) trail (le_refl 0) (begins_length s h p) (follows_longer s h 0 (length s) trail p (le_refl (length s)) was)

-- the steps that a pass takes add their accesses at the end of its trail
pub takes_trail : (v w : View) (steps : List TakenStep) → Takes v steps w → trail_of w ≡ trail_of v ++ accesses_in steps
takes_trail v w steps t = search (arith, append_assoc, accesses_append)

-- the step that this access is, if it adds no entry
abbrev plain : Access → TakenStep
plain m = step_taken (Match m.kind m.game m.found) m.index m.length None

-- the steps of accesses that add no entry are one for each access
all_plain : (ms : List Access) → steps_with None ms ≡ map plain ms
all_plain [] = refl
all_plain (m ∷ []) = refl
all_plain (m ∷ n ∷ ms) = ap (λ (l : List TakenStep). plain m ∷ l) (all_plain (n ∷ ms))

-- the steps of two lists of accesses, which add no entry, are, one after the other, the steps of both together
pub plain_append : (ms ns : List Access) → steps_with None (ms ++ ns) ≡ steps_with None ms ++ steps_with None ns
plain_append ms ns = all_plain (ms ++ ns) ∙ (map-append plain ms ns ∙ sym (λ i. all_plain ms i ++ all_plain ns i))

-- the empty list of accesses leads a consistent pass from its view to the same view
pub walks_none : (v : View) → IsConsistent v → Walks v [] v
walks_none v consistent = record {
  consistent = consistent;
  on = record { seen = begins_same (history_of v.log); listed = le_refl (enlisted_by v.log); share = refl };
  mine = refl;
  number = refl;
  leaves = record {
    takes = takes_none v;
    trail = sym (append-nil (trail_of v));
    taken = omega arith;
    follows = le_refl (length (history_of v.log));
    whole_trail = consistent.trail;
  };
}

-- a pass that walks by accesses from u to v, and by others from v to w, walks by both from u to w
pub walks_on : (u v w : View) (ms ns : List Access) → Walks u ms v → Walks v ns w → Walks u (ms ++ ns) w
walks_on u v w ms ns a b =
    let listed = a.on.listed in
    let more = b.on.listed in
    let count = a.leaves.taken in
    let then = b.leaves.taken in
    let long = length-append ms ns in
    record {
      consistent = b.consistent;
      on = record { seen = begins_through (history_of u.log) (history_of v.log) (history_of w.log) a.on.seen b.on.seen; listed = omega arith; share = b.on.share ∙ a.on.share };
      mine = b.mine ∙ a.mine;
      number = b.number ∙ a.number;
      leaves = record {
        takes = subst (λ (l : List TakenStep). Takes u l w) (sym (plain_append ms ns)) (takes_on u v w (steps_with None ms) (steps_with None ns) a.leaves.takes b.leaves.takes);
        trail = b.leaves.trail ∙ (ap (λ (l : List Access). l ++ ns) a.leaves.trail ∙ append_assoc (trail_of u) ms ns);
        taken = omega arith;
        follows = follows_append (history_of w.log) (length (history_of u.log)) (length (history_of v.log)) (length (history_of w.log)) ms ns
            (follows_longer (history_of v.log) (history_of w.log) (length (history_of u.log)) (length (history_of v.log)) ms b.on.seen (le_refl (length (history_of v.log))) a.leaves.follows)
            b.leaves.follows;
        whole_trail = b.leaves.whole_trail;
      };
    }

-- a consistent pass loads one match word, from the view v to the view w
module _ (kind : AccessKind) (game n : ℕ) (v w : View) (consistent : IsConsistent v) (l : LoadsMatch kind game v n w) where
  abbrev loaded : Access
  loaded = access kind game n l.index (length (history_of w.log))

  load_trail : trail_of w ≡ trail_of v ++ loaded ∷ []
  load_trail = takes_trail v w (step_taken (Match kind game n) l.index (length (history_of w.log)) None ∷ []) l.takes

  follows : Follows (history_of w.log) (length (history_of v.log)) (loaded ∷ []) (length (history_of w.log))
  follows = follows_one (history_of w.log) (length (history_of v.log)) loaded (begins_length (history_of v.log) (history_of w.log) l.goes.seen) refl l.there.1

  whole_trail : HasTrail w
  whole_trail = subst (λ (t : List Access). Follows (history_of w.log) 0 t (length (history_of w.log))) (sym load_trail)
      (trail_on (history_of v.log) (history_of w.log) (trail_of v) (loaded ∷ []) l.goes.seen consistent.trail follows)

  pub walks_load : Walks v (access kind game n l.index (length (history_of w.log)) ∷ []) w
  walks_load = record {
    consistent = record { sound = sound versions_shown v w l.goes; told = l.goes.told; trail = whole_trail };
    on = record { seen = l.goes.seen; listed = l.goes.listed; share = l.goes.share };
    mine = l.mine;
    number = l.number;
    leaves = record {
      takes = l.takes;
      trail = load_trail;
      taken = takes_count v w (step_taken (Match kind game n) l.index (length (history_of w.log)) None ∷ []) l.takes;
      follows = follows;
      whole_trail = whole_trail;
    };
  }

-- after accesses that stored nothing a pass is sound, has seen no less, and keeps its share and number
pub walks_continue : (v w : View) (ms : List Access) → Walks v ms w → Continues (pass_view_of v) (pass_view_of w)
walks_continue v w ms walk = record { sound = walk.consistent.sound; on = walk.on; number = walk.number }
