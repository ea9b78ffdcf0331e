-- What a split, a meeting and an enlistment say of their passes; and what the invariant of the table says of every board, and of later
-- states of one.
use Rattle.ucl_words.proofs.Common.{Access, Bool, CountsReporters, DoneAsBefore, EnlistStep, EnlistTries, CountRead, EnlistedStep, Enlisting}
use Rattle.ucl_words.proofs.Common.{CountRaised, FindsEnlisted, Follows, FoundEnlisted, Goes, HasTrail, IsConsistent, IsConsistentLog, IsNextOfProtocol}
use Rattle.ucl_words.proofs.Common.{IsPrefix, IsSound, ReadsCurrent, JoinIsMonotone, LaterBoardsExtend, LaterState, LaterStatesCompose, List, []}
use Rattle.ucl_words.proofs.Common.{Log, LoggedStep, Match, MayBeTaken, None, NumbersRiseInTime, Occurs, Sees, Some, ap, subst, SplitIsMonotone}
use Rattle.ucl_words.proofs.Common.{Stays, Steps, TakenStep, Takes, Action, View, Whole, WordEnlisted, WordFull, WordMet, WordPass, WordSplit}
use Rattle.ucl_words.proofs.Common.{accesses_in, acts_some, append-nil, append_assoc, arith, at_longer, begins_same, begins_through}
use Rattle.ucl_words.proofs.Common.{by_seat, cases_eq, cond, count_of, enlisted_by, enlisted_on, false, get_elem?, half_acts, hears}
use Rattle.ucl_words.proofs.Common.{history_of, inl, inr, left_pass, length, log_begins, logs_facts, ltb-true, may_begin, may_last, meets}
use Rattle.ucl_words.proofs.Common.{nat_lt, new_pass, note_pass, number_by, number_more, number_of, pass_view_of, place_below, refl}
use Rattle.ucl_words.proofs.Common.{seat_there, second_pass, set, set_else, set_here, shorter, since, slice_index, some, some-injective}
use Rattle.ucl_words.proofs.Common.{some_acts, sound, sound_left, sound_second, stays_more, stays_none, step, step_taken, steps_of, sym}
use Rattle.ucl_words.proofs.Common.{taken_by, taken_on, takes_count, takes_none, takes_on, told_pass, trail_of, true, versions_shown}
use Rattle.ucl_words.proofs.Common.{words_after, ◌++◌, ◌+◌, ◌<◌, ◌==◌, ◌∙◌, ◌∷◌, ◌≡◌, ◌≢◌, ◌≤◌, ◌⊎◌, ℕ}
use Rattle.ucl_words.proofs.Steps.{EnlistWon, Position, count_there, enlist_won, loads_enlisted, takes_trail, trail_longer}
use Rattle.ucl_words.proofs.LocalStates.{counted_does, done_shown}
use Rattle.ucl_live_board.proofs.CallsBySteps.{enlists, stays_on as stays_seen}
use Rattle.ucl_live_board.proofs.InvariantIsKept.{split_occurs}

-- a step that is no access (none on a match word) leaves the trail of its pass as it was
no_access : (v w : View) (x : TakenStep) → accesses_in (x ∷ []) ≡ [] → Takes v (x ∷ []) w → trail_of w ≡ trail_of v
no_access v w x none t = takes_trail v w (x ∷ []) t ∙ (ap (λ (l : List Access). trail_of v ++ l) none ∙ append-nil (trail_of v))

-- if the trail of a pass agreed with the history, the pass is consistent after a step on no match word
after_count : (v w : View) (x : TakenStep) → HasTrail v → Goes v w → accesses_in (x ∷ []) ≡ [] → Takes v (x ∷ []) w → IsConsistent w
after_count v w x was goes none takes = record {
  sound = sound versions_shown v w goes;
  told = goes.told;
  trail = subst (λ (t : List Access). Follows (history_of w.log) 0 t (length (history_of w.log))) (sym (no_access v w x none takes))
      (trail_longer (history_of v.log) (history_of w.log) (trail_of v) goes.seen was);
}

-- exchanges of the number of reporters, all missed: the first expected `known`, each later one what the last had found, n at the end
abbrev pub MissedTries : ℕ → List TakenStep → ℕ → Type 0
MissedTries known [] n = known ≡ n
MissedTries known (x ∷ steps) n = (found : ℕ) × FoundEnlisted found x × (known < 255) × (found ≢ known) × MissedTries found steps n

-- an exchange that expected n and found another number is one missed try more
tries_more : (known n found place at : ℕ) (steps : List TakenStep) → MissedTries known steps n → n < 255 → found ≢ n
    → MissedTries known (steps ++ step_taken (CountRead found) place at None ∷ []) found
tries_more known n found place at [] same less other = (found, (inl refl, refl), (let e = same in omega arith), (λ z. other (z ∙ same)), refl)
tries_more known n found place at (x ∷ steps) t less other = (t.0, t.1, t.2, t.3, tries_more t.0 n found place at steps t.4 less other)

-- an exchange that expected n and found it is won: the tries give the number n + 1
tries_won : (known n found place at : ℕ) (steps : List TakenStep) → MissedTries known steps n → n < 255 → found ≡ n
    → Enlisting known (steps ++ step_taken (CountRaised found) place at None ∷ []) (Some (n + 1))
tries_won known n found place at [] same less won =
    (found, (inr refl, refl), (let e = same in omega arith), inl (won ∙ sym same, refl, ap (λ (k : ℕ). Some (k + 1)) (sym same)))
tries_won known n found place at (x ∷ steps) t less won = (t.0, t.1, t.2, inr (t.3, tries_won t.0 n found place at steps t.4 less won))

-- if 255 or more were found, no number is given
tries_full : (known n : ℕ) (steps : List TakenStep) → MissedTries known steps n → 255 ≤ n → Enlisting known steps None
tries_full known n [] same high = ((let e = same in omega arith), refl)
tries_full known n (x ∷ steps) t high = (t.0, t.1, t.2, inr (t.3, tries_full t.0 n steps t.4 high))

-- from v to x a pass made only exchanges of the number of reporters that were missed: the last found n, which is 0 if there was none
pub record Missed (v x : View) (n : ℕ) : Type 0 where
  pub consistent : IsConsistent x
  pub stays : Stays v x
  pub known : n ≤ enlisted_by x.log
  pub steps : List TakenStep
  pub takes : Takes v steps x
  pub tries : MissedTries 0 steps n
  pub trail : trail_of x ≡ trail_of v
  pub taken : count_of x ≤ count_of v + n

-- before the first try nothing was missed
pub missed_none : (v : View) → IsConsistent v → Missed v v 0
missed_none v consistent = record {
  consistent = consistent;
  stays = stays_none v;
  known = omega arith;
  steps = [];
  takes = takes_none v;
  tries = refl;
  trail = refl;
  taken = omega arith;
}

-- one exchange more that was missed, since it found another number than n
module _ (v x w : View) (n found : ℕ) (was : Missed v x n) (other : found ≢ n) (missed : Sees (CountRead found) x w) where
  pub missed_higher : (n < found) × (found ≤ 255)
  missed_higher = let a = was.known in let b = missed.goes.listed in let c = missed.there in let d = missed.goes.few in (omega arith, omega arith)

  -- an exchange that was missed is one missed try more, of which the last found that number
  pub missed_more : n < 255 → Missed v w found
  missed_more below =
      let there = missed.there in
      let taken = was.taken in
      let above = missed_higher.0 in
      let next : TakenStep = step_taken (CountRead found) missed.index (length (history_of w.log)) None in
      let one = takes_count x w (next ∷ []) missed.takes in
      record {
        consistent = after_count x w next was.consistent.trail missed.goes refl missed.takes;
        stays = stays_more v x w (CountRead found) was.stays missed;
        known = omega arith;
        steps = was.steps ++ next ∷ [];
        takes = takes_on v x w was.steps (next ∷ []) was.takes missed.takes;
        tries = tries_more 0 n found missed.index (length (history_of w.log)) was.steps was.tries below other;
        trail = no_access x w next refl missed.takes ∙ was.trail;
        taken = omega arith;
      }

-- an exchange that was won, since it found n
module _ (v x w : View) (n found : ℕ) (was : Missed v x n) (same : found ≡ n) (won : EnlistWon x found w) where
  abbrev last : TakenStep
  last = step_taken (CountRaised found) won.gives.index (length (history_of w.log)) None

  pub won_consistent : IsConsistent w
  won_consistent = after_count x w last was.consistent.trail won.gives.goes refl won.gives.takes

  pub won_number : number_of w.own ≡ n + 1
  won_number = won.gives.number ∙ ap (λ (k : ℕ). k + 1) same

  -- the tries gave the pass this number, by the exchanges that were missed and this one
  won_tries : n < 255 → EnlistTries v (Some (number_of w.own)) w
  won_tries below = record {
    steps = was.steps ++ last ∷ [];
    takes = takes_on v x w was.steps (last ∷ []) was.takes won.gives.takes;
    tries = subst (λ (k : ℕ). Enlisting 0 (was.steps ++ last ∷ []) (Some k)) (sym won_number)
        (tries_won 0 n found won.gives.index (length (history_of w.log)) was.steps was.tries below same);
  }

-- the pass that is split off a consistent pass is consistent
pub second_consistent : (v : View) → IsConsistent v → IsConsistent (second_pass v)
second_consistent v consistent = record {
  sound = sound_second versions_shown v consistent.sound;
  told = refl;
  trail = subst (λ (l : List TakenStep). Follows (history_of v.log) 0 (accesses_in l) (length (history_of v.log))) (sym (append-nil (steps_of v))) consistent.trail;
}

-- a consistent pass is consistent after another was split off it
pub left_consistent : (v : View) → IsConsistent v → IsConsistent (left_pass v)
left_consistent v consistent = record { sound = sound_left versions_shown v consistent.sound; told = consistent.told; trail = consistent.trail }

-- if m is what a split leaves of a pass k, and n the pass that it splits off, all that a split of a word board promises holds
pub was_split : (k m n : WordPass) → IsSound (pass_view_of k.pass) → m.board ≡ k.board → n.board ≡ k.board → m.seat ≡ k.seat
    → m.pass ≡ left_pass k.pass → n.pass ≡ second_pass k.pass → WordSplit k m n
was_split k m n sound own other seat left given = record {
  own = (own, other);
  seat = seat;
  says = record { sound = sound; kept = ap (λ (u : View). pass_view_of u) left; given = ap (λ (u : View). pass_view_of u) given };
  kept = left;
  given = given;
  occurs = split_occurs words_after IsNextOfProtocol k.pass m.pass n.pass left given;
}

-- a note of the pass a was taken in by k, which then loaded the number of reporters, and is m
module _ (a b k m : WordPass) (n : ℕ) (consistent : IsConsistent k.pass) (s : Steps m.seat (CountRead n) (told_pass k.pass (note_pass a.pass)) m.pass) where
  abbrev told : View
  told = told_pass k.pass (note_pass a.pass)

  loads : Sees (CountRead n) told m.pass
  loads = loads_enlisted m.seat n told m.pass s

  stays : Stays k.pass m.pass
  stays = hears versions_shown a.pass k.pass m.pass (CountRead n) loads

  abbrev counted : TakenStep
  counted = step_taken (CountRead n) loads.index (length (history_of m.pass.log)) None

  met_takes : Takes k.pass (counted ∷ []) m.pass
  met_takes = record { own = loads.takes.own; copied = loads.takes.copied }

  met_trail : trail_of m.pass ≡ trail_of k.pass
  met_trail = no_access k.pass m.pass counted refl met_takes

  -- the pass is consistent after that
  pub met_consistent : IsConsistent m.pass
  met_consistent = record {
    sound = sound versions_shown told m.pass loads.goes;
    told = loads.goes.told;
    trail = subst (λ (t : List Access). Follows (history_of m.pass.log) 0 t (length (history_of m.pass.log))) (sym met_trail)
        (trail_longer (history_of k.pass.log) (history_of m.pass.log) (trail_of k.pass) stays.seen consistent.trail);
  }

  -- two passes that met have done so as a word board promises
  pub was_met : b ≡ a → m.board ≡ k.board → m.seat ≡ k.seat → IsSound (pass_view_of a.pass) → WordMet a b k m
  was_met same own seat first_sound =
      let done = counted_does m.seat n told m.pass s in
      record {
        own = (ap (λ (p : WordPass). p.board) same, own);
        seat = seat;
        says = meets versions_shown a.pass k.pass m.pass (CountRead n) loads b.pass (ap (λ (p : WordPass). p.pass) same) first_sound
            (done_shown told m.pass done.calls loads.number);
        unchanged = same;
        trail = record { trail = met_trail; whole_trail = met_consistent.trail };
        does = record { calls = done.calls; held = done.held };
        steps = record { found = n; index = loads.index; takes = met_takes; listed = sym loads.there };
        taken = takes_count k.pass m.pass (counted ∷ []) met_takes;
        occurs = s.occurs;
      }

-- exchanges of the number of reporters were missed, the last of which found n, and what the pass k did before stays
module _ (k m : WordPass) (own : m.board ≡ k.board) (seat : m.seat ≡ k.seat) (does : DoneAsBefore k.pass m.pass) (occurs : Occurs m.seat m.pass) where
  -- if the next one was won, the pass is enlisted as promised
  pub was_enlisted : (x : View) (n found : ℕ) → Missed k.pass x n → n < 255 → found ≡ n → EnlistWon x found m.pass → WordEnlisted k m
  was_enlisted x n found was less same won =
      let one = takes_count x m.pass _ won.gives.takes in
      let taken = was.taken in
      let trail = no_access x m.pass (last k.pass x m.pass n found was same won) refl won.gives.takes ∙ was.trail in
      record {
        own = own;
        seat = seat;
        enlisted = enlists versions_shown k.pass x m.pass found was.stays won.gives won.shown;
        trail = record { trail = trail; whole_trail = (won_consistent k.pass x m.pass n found was same won).trail };
        tries = won_tries k.pass x m.pass n found was same won less;
        does = does;
        most = omega arith;
        occurs = occurs;
      }

  -- if n is 255 or more, there is no number left, and the pass comes back as promised
  pub was_full : (n : ℕ) → Missed k.pass m.pass n → n ≤ 255 → 255 ≤ n → WordFull k m
  was_full n was few many =
      let low = was.known in
      let room = was.consistent.sound.few in
      let taken = was.taken in
      record {
        own = own;
        seat = seat;
        says = record {
          always = record { sound = was.consistent.sound; on = stays_seen versions_shown k.pass m.pass was.stays; number = was.stays.number };
          full = record { listed = omega arith; mine = was.stays.mine; shown = done_shown k.pass m.pass does.calls was.stays.number };
        };
        trail = record { trail = was.trail; whole_trail = was.consistent.trail };
        tries = record { steps = was.steps; takes = was.takes; tries = tries_full 0 n was.steps was.tries many };
        does = does;
        most = omega arith;
        occurs = occurs;
      }

-- the log of a later state begins with that of an earlier one
pub later_go_on : LaterBoardsExtend
later_go_on s t r q later = log_begins r.log q.log r.is_log q.is_log (λ j. by j (taken_by j r.log) refl)
  where
    by : (j : ℕ) (steps : List TakenStep) → taken_by j r.log ≡ steps → IsPrefix (taken_by j r.log) (taken_by j q.log)
    by j [] is = subst (λ (l : List TakenStep). IsPrefix l (taken_by j q.log)) (sym is) (taken_by j q.log, refl)
    by j (t ∷ steps) is =
        let u = seat_there words_after IsNextOfProtocol s.words s.views r j (λ none. let l = ap length (sym none ∙ is) in omega arith) in
        let f = r.fits j u.0 u.1 in
        let w = later j u.0 u.1 (acts_some u.0.share u.2) in
        let g = q.fits j w.0 w.1 in
        subst (λ (l : List TakenStep). IsPrefix l (taken_by j q.log)) (sym f.own.0 ∙ f.own.1) (subst (IsPrefix (taken_by j u.0.log)) (sym g.own.0 ∙ g.own.1) (taken_on j u.0.log w.0.log w.3))

-- a state that is later than a later one is later than the first
pub compose : LaterStatesCompose
compose s t u first second seat v here acts =
    let w = first seat v here acts in
    let x = second seat w.0 w.1 w.2 in
    (x.0, x.1, x.2, begins_through v.log w.0.log x.0.log w.3 x.3)

-- a state in which one pass knows more, and keeps its share if it had one, is later
later_set : (s : Position) (seat : ℕ) (v u : View) (words : List ℕ) → get_elem? s.views seat ≡ some v → IsPrefix v.log u.log → (v.share ≢ None → u.share ≢ None)
    → LaterState s (record s { words = words; views = set s.views seat u })
later_set s seat v u words here p still j w at acts = elim (cases_eq j seat) [
  | inl is ↦
      let same : v ≡ w = some-injective v w (sym here ∙ (ap (get_elem? s.views) (sym is) ∙ at)) in (
        u,
        ap (get_elem? (set s.views seat u)) is ∙ set_here s.views seat u (place_below s.views seat v here),
        still (λ none. acts (ap (λ (z : View). z.share) (sym same) ∙ none)),
        subst (λ (z : View). IsPrefix z.log u.log) same p,
      )
  | inr not ↦ (w, set_else s.views seat j u not ∙ at, acts, begins_same w.log)
]

-- a step of any kind leads to a later state
pub steps_on : (seat : ℕ) (action : Action) (s : Position) (place : ℕ) (v w : View) (words : List ℕ) → get_elem? s.views place ≡ some v → Steps seat action v w
    → LaterState s (record s { words = words; views = set s.views place w })
steps_on seat action s place v w words here t =
    later_set s place v w words here (since words_after IsNextOfProtocol seat action v w t) (λ acts none. acts (sym (ap (λ (z : View). z.share) t.is) ∙ none))

-- a pass with a share has one after a split
pub left_acts : (v : View) → v.share ≢ None → (left_pass v).share ≢ None
left_acts v acts = acts_some (left_pass v).share (half_acts false v.share (some_acts v.share acts))

-- a split leads to a later state, if the pass that is left knows as much and keeps a share
pub splits_on : (left right : View → View) → ((v : View) → (left v).log ≡ v.log) → ((v : View) → v.share ≢ None → (left v).share ≢ None) → SplitIsMonotone left right
splits_on left right log still s seat v here j w at acts =
    let t = later_set s seat v (left v) s.words here (subst (IsPrefix v.log) (sym (log v)) (begins_same v.log)) (still v) j w at acts in
    (t.0, at_longer (set s.views seat (left v)) (right v ∷ []) j t.0 t.1, t.2, t.3)

-- the taking in of a note leads to a later state
pub hears_on : JoinIsMonotone told_pass new_pass
hears_on s r seat other v note here there apart none j w at acts =
    let f = r.fits seat v here in
    let g = r.fits other note there in
    let not : j ≢ other = (λ is. acts (ap (λ (z : View). z.share) (some-injective w note (sym at ∙ (ap (get_elem? s.views) is ∙ there))) ∙ none)) in
    let longer : IsPrefix v.log (told_pass v note).log = told_longer (nat_lt (length v.log) (length note.log)) refl in
    let t = later_set s seat v (told_pass v note) s.words here longer (λ some. some) j w at acts in
    (t.0, set_else (set s.views seat (told_pass v note)) other j new_pass not ∙ t.1, t.2, t.3)
  where
    told_longer : (b : Bool) → nat_lt (length v.log) (length note.log) ≡ b → IsPrefix v.log (cond b note.log v.log)
    told_longer true is = let less = ltb-true (length v.log) (length note.log) is in shorter v.log note.log r.log (r.fits seat v here).knows (r.fits other note there).knows (omega (arith, less))
    told_longer false is = begins_same v.log

-- by one step a seat keeps its number, or is given the next one
one_number : (log : Log) (x : LoggedStep) → MayBeTaken log x → (seat : ℕ)
    → (number_of (taken_by seat (log ++ x ∷ [])) ≡ number_of (taken_by seat log)) ⊎ (number_of (taken_by seat (log ++ x ∷ [])) ≡ enlisted_by log + 1)
one_number log x may = by_seat log x (λ k steps. (number_of steps ≡ number_of (taken_by k log)) ⊎ (number_of steps ≡ enlisted_by log + 1))
    (by_target x.step.action may.there (number_more (taken_by x.seat log) x.step)) (λ seat not. inl refl)
  where
    by_target : (t : Action) → ReadsCurrent log t → number_of (taken_by x.seat log ++ x.step ∷ []) ≡ number_by t (number_of (taken_by x.seat log))
        → (number_of (taken_by x.seat log ++ x.step ∷ []) ≡ number_of (taken_by x.seat log)) ⊎ (number_of (taken_by x.seat log ++ x.step ∷ []) ≡ enlisted_by log + 1)
    by_target (CountRaised found) there is = inr (is ∙ ap (λ (k : ℕ). k + 1) there.0)
    by_target (Match kind game found) there is = inl is
    by_target (CountRead found) there is = inl is
    by_target (Whole shown) there is = inl is

-- over more steps of a log a seat keeps its number, or is given one above all numbers given before
number_given : (since log : Log) (seat : ℕ) → IsConsistentLog (log ++ since)
    → (number_of (taken_by seat (log ++ since)) ≡ number_of (taken_by seat log)) ⊎ (enlisted_by log < number_of (taken_by seat (log ++ since)))
number_given [] log seat is = inl (ap (λ (l : Log). number_of (taken_by seat l)) (append-nil log))
number_given (x ∷ since) log seat is =
    let one = append_assoc log (x ∷ []) since in
    let is' = subst IsConsistentLog (sym one) is in
    let whole = ap (λ (l : Log). number_of (taken_by seat l)) one in
    let low = enlisted_on log (log ++ x ∷ []) (x ∷ [], refl) in
    elim (number_given since (log ++ x ∷ []) seat is') [
      | inl kept ↦ elim (one_number log x (may_last MayBeTaken log x (may_begin MayBeTaken (log ++ x ∷ []) since is')) seat) [
        | inl was ↦ inl (sym whole ∙ (kept ∙ was))
        | inr given ↦ inr (omega arith)
      ]
      | inr more ↦ inr (omega arith)
    ]

-- the number that a pass is given between two states is above all that were given by the first
pub numbers_rise : NumbersRiseInTime
numbers_rise s t r q later seat v w here none there some_number =
    let on = later_go_on s t r q later in
    let was : number_of (taken_by seat r.log) ≡ 0 = ap number_of (sym (r.fits seat v here).own.1) ∙ none in
    let is : number_of w.own ≡ number_of (taken_by seat (r.log ++ on.0)) =
    ap number_of (q.fits seat w there).own.1 ∙ ap (λ (l : Log). number_of (taken_by seat l)) (sym on.1) in
    let above : enlisted_by r.log < number_of w.own = elim (number_given on.0 r.log seat (subst IsConsistentLog (sym on.1) q.is_log)) [
      | inl kept ↦ absurd (omega arith)
      | inr more ↦ omega arith
    ] in
    record {
      above = above;
      others = λ j u at. let low = (logs_facts r.log r.is_log r.follows).low j in let number = ap number_of (r.fits j u at).own.1 in omega arith;
    }

-- a step on the number of reporters that found k counts k reporters
counts_reporters : (k n : ℕ) (v w : View) → n ≡ k → Sees (CountRead n) v w → CountsReporters k v w
counts_reporters k n v w is l = subst (λ (j : ℕ). CountsReporters j v w) is (record { step = _; takes = l.takes; found_is = (inl refl, refl) })

-- a load of the number of reporters finds as many as the log has
pub counts_find : (place : ℕ) → FindsEnlisted (EnlistedStep place)
counts_find place s r st m m' l =
    let n = slice_index s.words st.word in
    counts_reporters (enlisted_by r.log) n m.0 m'.0 (ap (slice_index s.words) l.0 ∙ count_there s r) (loads_enlisted place n m.0 m'.0 l.1)

-- a step that finds n reporters enlisted, and enlists one or only looks, counts n
enlists_by : (place k n : ℕ) (v w : View) → n ≡ k → (b : Bool) → Steps place (cond b (CountRaised n) (CountRead n)) v w → CountsReporters k v w
enlists_by place k n v w is true step =
    subst (λ (j : ℕ). CountsReporters j v w) is (record { step = _; takes = (enlist_won place n v w step).gives.takes; found_is = (inr refl, refl) })
enlists_by place k n v w is false step = counts_reporters k n v w is (loads_enlisted place n v w step)

-- an exchange of the number of reporters finds as many as the log has
pub enlists_find : (place : ℕ) → FindsEnlisted (EnlistStep place)
enlists_find place s r st m m' l =
    let n = slice_index s.words st.word in
    enlists_by place (enlisted_by r.log) n m.0 m'.0 (ap (slice_index s.words) l.0 ∙ count_there s r) (n == st.first) l.1
