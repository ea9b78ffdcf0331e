-- Each kind of step on the cell keeps the invariant, and tells its pass what it says.
use Rattle.ucl_pass.proofs.Common.{Err, Ok, ◌≡◌, ◌≢◌, inl, inr, ℕ, ◌+◌, ◌<◌, Bool, true, false, List, ◌∷◌, ◌++◌, length, set, take, nat_eq, [], Option, Some}
use Rattle.ucl_pass.proofs.Common.{None, refl, sym, ap, ◌∙◌, subst, arith, true≢false, slice_index, Result, IsSome, some, get_elem?}
use Rattle.ucl_pass.proofs.Common.{Turns, Forks, Merges, EventCall, Entry, IsLegal, followed_by, one_word, View, new_pass, first_pass, left_pass, second_pass}
use Rattle.ucl_pass.proofs.Common.{note_pass, told_pass, words_after, CellInvariant, IsNextBoard, with_one_more, entry_at, CellStep, LooksOnly, LooksAndShows}
use Rattle.ucl_pass.proofs.Common.{StoresEvent, StoresReporter, MayStore, Exchanges, TakenStep, Action, history_of, enlisted_by, number_of, taken_by, IsLegalStep}
use lib.Pointwise.{pointwise, bytes_decides}
use Rattle.ucl_word.proofs.Sequences.{may_last}
use Rattle.ucl_board.specs.History.{board_of, MayFollow}
use Rattle.ucl_log.specs.Log.{CountRaised, Whole, step_taken, logged_by, ReadsCurrent, MayAdd, MayEnlist}
use Rattle.ucl_log.proofs.Logs.{legal_history}
use Rattle.ucl_live_board.proofs.InvariantIsKept.{takes_step, words_stay, words_entered, words_enlisted, seconds_keep, notes_keep, joins_keep}
use Rattle.ucl_live_board.proofs.InvariantIsKept.{opens_keep}
use Rattle.ucl_pass.specs.CellInvariants.{CellOccurs}
use Rattle.ucl_pass.specs.CellSteps.{Answers, exchanged}

-- the first twelve of the thirteen words of a cell board are its match words
pub match_words : (h : List Entry) (n : ℕ) → take 12 (words_after h n) ≡ board_of h
unfolding board_of
match_words h n = refl

-- the last of the thirteen words of a board is the number of its reporters
pub last_word : (h : List Entry) (n : ℕ) → slice_index (words_after h n) 12 ≡ n
unfolding board_of
last_word h n = refl

-- the words of a board with one reporter more are the words after the same history with n + 1 reporters
more_words : (h : List Entry) (n : ℕ) → with_one_more (words_after h n) ≡ words_after h (n + 1)
unfolding board_of
more_words h n = refl

-- the words of a board before and after an entry differ
entry_differs : (h : List Entry) (n : ℕ) (e : Entry) → IsLegal (followed_by h e) → words_after h n ≢ words_after (followed_by h e) n
entry_differs h n e legal same = search (arith, match_words h n, match_words (followed_by h e) n, one_word h e legal)

-- the words of a board with n and with n + 1 reporters differ
reporter_differs : (h : List Entry) (n : ℕ) → words_after h n ≢ words_after h (n + 1)
reporter_differs h n same = let e : n ≡ n + 1 = sym (last_word h n) ∙ (ap (λ (l : List ℕ). slice_index l 12) same ∙ last_word h (n + 1)) in omega arith

-- P holds after an exchange if it holds where the words were those that were expected, and where they were others
by_exchange : (current next : List ℕ) (P : List ℕ → List ℕ → Type 0) (x : List ℕ) → (x ≡ current → P x next) → (x ≢ current → P x x) → P x (exchanged current next x)
by_exchange current next P x hit miss = search (arith, pointwise, nat_eq, bytes_decides, true≢false)

-- one pass takes one step, at its seat in a state that satisfies the invariant
module _ (x : List ℕ) (views : List View) (r : CellInvariant x views) (seat : ℕ) (v : View) (here : get_elem? views seat ≡ some v) (acts : IsSome v.share) where
  number_is : number_of v.own ≡ number_of (taken_by seat r.log)
  number_is = ap number_of (r.fits seat v here).own.1

  abbrev taken : Action → Option Entry → TakenStep
  taken action entry = step_taken action (length r.log) (length (history_of r.log)) entry

  -- a step that may come next, after which the words fit the log, keeps the invariant
  one_step : (action : Action) (entry : Option Entry) (y : List ℕ) → ReadsCurrent r.log action → MayAdd (history_of r.log) (number_of (taken_by seat r.log)) entry
      → MayEnlist (number_of (taken_by seat r.log)) action entry
      → y ≡ words_after (history_of (r.log ++ logged_by seat (taken action entry) ∷ [])) (enlisted_by (r.log ++ logged_by seat (taken action entry) ∷ []))
      → (w : View) × CellInvariant y (set views seat w) × CellStep action entry v x y w
  one_step action entry y there adds enlists are =
      let t = takes_step words_after IsLegalStep x views r seat v here y (taken action entry) acts (record { index = refl; length = refl; there = there })
      (record { adds = adds; enlists = enlists }) are in
      (t.0, t.1, record { seat = seat; steps = t.2; entry_is = refl; found = r.words_are; left = are })

  -- a load, and an exchange that stores nothing, keep it
  load : (shown : Bool) → (w : View) × CellInvariant x (set views seat w) × CellStep (Whole shown) None v x x w
  load shown = one_step (Whole shown) None x tt tt tt (words_stay words_after IsLegalStep x views r seat v here (taken (Whole shown) None) refl refl)

  -- an exchange that stores an event keeps it, if the words that it puts are those after the entry
  store : (next : List ℕ) (e : EventCall) → IsNextBoard (entry_at v e) x next → (w : View) × CellInvariant next (set views seat w) × MayStore (StoresEvent e) v x next w
  store next e is =
      let h = history_of r.log in
      let entry = entry_at v e in
      let next_is = is (enlisted_by r.log) h (legal_history r.log r.follows) (sym r.words_are) in
      let t = one_step (Whole false) (Some entry) next tt (may_last MayFollow h entry next_is.1, number_is) tt
      (next_is.0 ∙ words_entered words_after IsLegalStep x views r seat v here (taken (Whole false) (Some entry)) entry refl refl) in
      (t.0, t.1, inr (λ same. entry_differs h (enlisted_by r.log) entry next_is.1 (sym r.words_are ∙ (same ∙ next_is.0)), t.2))

  -- an exchange that stores one reporter more keeps it, for a pass with no number and if fewer than 255 are enlisted
  enlisting : number_of v.own ≡ 0 → slice_index x 12 < 255 → (w : View) × CellInvariant (with_one_more x) (set views seat w) × MayStore StoresReporter v x (with_one_more x) w
  enlisting reader room =
      let h = history_of r.log in
      let found : slice_index x 12 ≡ enlisted_by r.log = ap (λ (ws : List ℕ). slice_index ws 12) r.words_are ∙ last_word h (enlisted_by r.log) in
      let more : with_one_more x ≡ words_after h (enlisted_by r.log + 1) = ap with_one_more r.words_are ∙ more_words h (enlisted_by r.log) in
      let action = CountRaised (slice_index x 12) in
      let t = one_step action None (with_one_more x) (found, room) tt (sym number_is ∙ reader, refl)
      (more ∙ words_enlisted words_after IsLegalStep x views r seat v here (taken action None) refl refl) in
      (t.0, t.1, inr (λ same. reporter_differs h (enlisted_by r.log) (sym r.words_are ∙ (same ∙ more)), t.2))

-- the cell allows a pass with a share a load of all words that is no reading
pub looks : (seat : ℕ) (v : View) → IsSome v.share → Turns CellInvariant seat v (λ x. x) LooksOnly
looks seat v acts x views r here = load x views r seat v here acts false

-- the cell allows a pass with a share a load of all words that is a reading
pub reads : (seat : ℕ) (v : View) → IsSome v.share → Turns CellInvariant seat v (λ x. x) LooksAndShows
reads seat v acts x views r here = load x views r seat v here acts true

-- the cell allows an exchange of the words before an entry for those after it
pub adds : (seat : ℕ) (v : View) (e : EventCall) (current next : List ℕ) → IsSome v.share → IsNextBoard (entry_at v e) current next
    → Turns CellInvariant seat v (exchanged current next) (MayStore (StoresEvent e))
adds seat v e current next acts is x views r here =
    by_exchange current next (λ x' y. (w : View) × CellInvariant y (set views seat w) × MayStore (StoresEvent e) v x' y w) x
    (λ same. store x views r seat v here acts next e (subst (λ (ws : List ℕ). IsNextBoard (entry_at v e) ws next) (sym same) is))
    (λ _. let l = load x views r seat v here acts false in (l.0, l.1, inl (refl, l.2)))

-- the cell allows an exchange for the words with one reporter more, for a pass with no number
pub enlists : (seat : ℕ) (v : View) (current next : List ℕ) → IsSome v.share → number_of v.own ≡ 0 → slice_index current 12 < 255 → next ≡ with_one_more current
    → Turns CellInvariant seat v (exchanged current next) (MayStore StoresReporter)
enlists seat v current next acts reader room is x views r here =
    by_exchange current next (λ x' y. (w : View) × CellInvariant y (set views seat w) × MayStore StoresReporter v x' y w) x
    (λ same. subst (λ (y : List ℕ). (w : View) × CellInvariant y (set views seat w) × MayStore StoresReporter v x y w) (ap with_one_more same ∙ sym is)
    (enlisting x views r seat v here acts reader (subst (λ (ws : List ℕ). slice_index ws 12 < 255) (sym same) room)))
    (λ _. let l = load x views r seat v here acts false in (l.0, l.1, inl (refl, l.2)))

-- a board may open with the words of no event and no reporter
pub begins : (words : List ℕ) → words ≡ words_after [] 0 → CellInvariant words (first_pass ∷ [])
begins words are = opens_keep words_after IsLegalStep words are

-- the first pass of a board that opens without events and reporters occurs
pub opened_occurs : CellOccurs first_pass
opened_occurs = (0, record { words = words_after [] 0; views = first_pass ∷ []; rule = begins (words_after [] 0) refl; here = refl })

-- a split of a pass keeps the invariant
pub seconds : (seat : ℕ) (v : View) → Forks CellInvariant seat v (left_pass v) (second_pass v)
seconds seat v x views r here = seconds_keep words_after IsLegalStep x views r seat v here

-- the making of a note of a pass keeps the invariant
pub notes : (seat : ℕ) (v : View) → Forks CellInvariant seat v v (note_pass v)
notes seat v x views r here = notes_keep words_after IsLegalStep x views r seat v here

-- the taking in of a note by a pass keeps the invariant
pub joins : (seat : ℕ) (v : View) (other : ℕ) (a : View) → Merges CellInvariant seat v other (note_pass a) (told_pass v (note_pass a)) new_pass
joins seat v other a x views r here apart there = joins_keep words_after IsLegalStep x views r seat v here other (note_pass a) apart there refl

-- words that differ by the test differ
other_words : (x current : List ℕ) → pointwise nat_eq x current ≡ false → x ≢ current
other_words x current not is = true≢false (sym ((bytes_decides x current).1 is) ∙ not)

-- an exchange that left the words as it found them stored nothing
missed_by : (Stores : View → List ℕ → List ℕ → View → Type 0) (v w : View) (x : List ℕ) → MayStore Stores v x x w → LooksOnly v x x w
missed_by Stores v w x (inl t) = t.1
missed_by Stores v w x (inr t) = absurd (t.0 refl)

-- an exchange that is to enter an event entered it if it answers Ok, and else stored nothing
pub add_says : (e : EventCall) (v w : View) (current next : List ℕ) (r : Result (List ℕ) (List ℕ)) → IsNextBoard (entry_at v e) current next → Answers (MayStore (StoresEvent e)) v current next r w
    → Exchanges (StoresEvent e) v current next r w
add_says e v w current next (Ok x) is said = by ((bytes_decides x current).0 said.0) said.1
  where
    by : x ≡ current → MayStore (StoresEvent e) v x next w → (x ≡ current) × StoresEvent e v current next w
    by same (inl t) =
        let s = t.1 in
        let words = sym (sym same ∙ s.found) in
        let next_is = is (enlisted_by s.steps.before) (history_of s.steps.before) (legal_history s.steps.before s.steps.follows) words in
        absurd (entry_differs (history_of s.steps.before) (enlisted_by s.steps.before) (entry_at v e) next_is.1 (words ∙ (sym same ∙ (t.0 ∙ next_is.0))))
    by same (inr t) = (same, subst (λ (y : List ℕ). StoresEvent e v y next w) same t.1)
add_says e v w current next (Err x) is said = (other_words x current said.0, missed_by (StoresEvent e) v w x said.1)

-- an exchange that is to enlist its pass enlisted it if it answers Ok, and else stored nothing
pub enlist_says : (v w : View) (current next : List ℕ) (r : Result (List ℕ) (List ℕ)) → next ≡ with_one_more current → Answers (MayStore StoresReporter) v current next r w
    → Exchanges StoresReporter v current next r w
enlist_says v w current next (Ok x) is said = by ((bytes_decides x current).0 said.0) said.1
  where
    by : x ≡ current → MayStore StoresReporter v x next w → (x ≡ current) × StoresReporter v current next w
    by same (inl t) =
        let s = t.1 in
        let h = history_of s.steps.before in
        let n = enlisted_by s.steps.before in
        let words : current ≡ words_after h n = sym same ∙ s.found in
        absurd (reporter_differs h n (sym words ∙ (sym same ∙ (t.0 ∙ (is ∙ (ap with_one_more words ∙ more_words h n))))))
    by same (inr t) = (same, subst (λ (y : List ℕ). StoresReporter v y next w) same t.1)
enlist_says v w current next (Err x) is said = (other_words x current said.0, missed_by StoresReporter v w x said.1)
