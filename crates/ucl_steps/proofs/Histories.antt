-- Lists with one element changed, what each caller holds then; histories with one entry more, their prefixes, and the words of their boards.
use Rattle.ucl_steps.proofs.Common.{◌≡◌, ℕ, zero, suc, ◌<◌, ◌≤◌, List, ◌∷◌, ◌++◌, take, drop, length, Some, refl, sym, ap, ◌∙◌, arith, [], slice_get}
use Rattle.ucl_steps.proofs.Common.{take-append-drop, take-take, none-some, same_Some, ◌≢◌, map, ◌⊎◌, inl, inr, change_at, slice_set, cases_eq}
use Rattle.ucl_steps.proofs.Common.{Caller, CallerState, Callers, held_by, set_held, ◌+◌, ◌-◌, ◌==◌, None, length-append, get_or, set, eqb-true, not-false}
use Rattle.ucl_steps.proofs.Common.{ext_get_or, MatchRecord, after, word_of, record_at, may_next, Entry, entries_of, match_after, board_of, MayFollow}
use Rattle.ucl_steps.proofs.Common.{IsLegal, entries-append, entries_same, legal_match, match_valid, word_after, board_length, same_number, same_word}
use Rattle.ucl_word.specs.declared.event.Kind.{Kind}
use Rattle.ucl_word.specs.Rules.{refusal_of}
use Rattle.ucl_word.proofs.AcceptedEvents.{accepts, after_number}
use Rattle.ucl_word.proofs.EntryCounts.{legal_balanced, legal_case, record_next, number_of_count}
pub use Rattle.ucl_word.proofs.Sequences.{get_some, take_one}
use Rattle.ucl_word.proofs.Words.{record_back}
use Rattle.ucl_board.proofs.HistoryTheorems as low

module _ {A : Type 0} where
  pub take_split : (xs : List A) (a b : ℕ) → a ≤ b → take b xs ≡ take a xs ++ drop a (take b xs)
  take_split xs a b l = sym (take-append-drop a (take b xs)) ∙ ap (λ (z : List A). z ++ drop a (take b xs)) (take-take a b xs l)

module _ {X : Type 0} where
  -- an element of a list with one changed is the changed one, or was there before
  pub get-change_at : (k : ℕ) (f : X → X) (xs : List X) (i : ℕ) (y : X) → slice_get (change_at k f xs) i ≡ Some y
      → ((i ≡ k) × (x : X) × (slice_get xs k ≡ Some x) × (f x ≡ y)) ⊎ ((i ≢ k) × (slice_get xs i ≡ Some y))
  get-change_at k f [] i y e = absurd (none-some y e)
  get-change_at zero f (x ∷ xs) zero y e = inl (refl, x, refl, same_Some (f x) y e)
  get-change_at zero f (x ∷ xs) (suc i) y e = inr (λ is. omega arith, e)
  get-change_at (suc k) f (x ∷ xs) zero y e = inr (λ is. omega arith, e)
  get-change_at (suc k) f (x ∷ xs) (suc i) y e = elim (get-change_at k f xs i y e) [ inl t ↦ inl (ap suc t.0, t.1, t.2, t.3) | inr t ↦ inr (λ is. t.0 (omega arith), t.1) ]

  pub change_at_here : (k : ℕ) (f : X → X) (xs : List X) (x : X) → slice_get xs k ≡ Some x → slice_get (change_at k f xs) k ≡ Some (f x)
  change_at_here k f [] x e = absurd (none-some x e)
  change_at_here zero f (y ∷ xs) x e = ap (λ (z : X). Some (f z)) (same_Some y x e)
  change_at_here (suc k) f (y ∷ xs) x e = change_at_here k f xs x e

  pub change_at_else : (k : ℕ) (f : X → X) (xs : List X) (i : ℕ) (y : X) → i ≢ k → slice_get xs i ≡ Some y → slice_get (change_at k f xs) i ≡ Some y
  change_at_else k f [] i y not e = e
  change_at_else zero f (x ∷ xs) zero y not e = absurd (not refl)
  change_at_else zero f (x ∷ xs) (suc i) y not e = e
  change_at_else (suc k) f (x ∷ xs) zero y not e = e
  change_at_else (suc k) f (x ∷ xs) (suc i) y not e = change_at_else k f xs i y (λ is. not (ap suc is)) e

module _ {X Y : Type 0} where
  -- a function that does not see the change of an element
  pub map_unseen : (g : X → Y) (k : ℕ) (f : X → X) → ((x : X) → g (f x) ≡ g x) → (xs : List X) → map g (change_at k f xs) ≡ map g xs
  map_unseen g k f each [] = refl
  map_unseen g zero f each (x ∷ xs) = ap (λ (z : Y). z ∷ map g xs) (each x)
  map_unseen g (suc k) f each (x ∷ xs) = ap (λ (z : List Y). g x ∷ z) (map_unseen g k f each xs)

-- an element of a list that is set to y is y then
get_set_here : {X : Type 0} (xs : List X) (k : ℕ) (x y : X) → slice_get xs k ≡ Some x → slice_get (slice_set xs k y) k ≡ Some y
get_set_here (z ∷ xs) (suc k) x y e = get_set_here xs k x y e
get_set_here xs k x y e = search arith

-- to set one element of a list leaves the others
get_set_else : {X : Type 0} (xs : List X) (k i : ℕ) (y : X) → i ≢ k → slice_get (slice_set xs k y) i ≡ slice_get xs i
get_set_else (z ∷ xs) (suc k) (suc i) y not = get_set_else xs k i y (λ is. not (ap suc is))
get_set_else xs k i y not = search arith

-- two callers are the same, or they are not
pub same_caller : (c d : Caller) → (c ≡ d) ⊎ (c ≢ d)
same_caller c d = search (arith, cases_eq)

-- a caller that was set to hold y holds y
pub held_here : (cs : Callers) (c : Caller) (x y : CallerState) → held_by cs c ≡ Some x → held_by (set_held y c cs) c ≡ Some y
held_here cs c x y e = search (arith, none-some, get_set_here)

-- a caller that was set to hold something leaves what each other caller holds
pub held_else : (cs : Callers) (c d : Caller) (y x : CallerState) → held_by cs c ≡ Some x → d ≢ c → held_by (set_held y c cs) d ≡ held_by cs d
held_else cs c d y x e not = search (arith, none-some, get_set_else)

-- if the rules accept an event, the event number that it expects is the one that its match has
pub number_expected : (m : MatchRecord) (expected : ℕ) (kind : Kind) → refusal_of m expected kind ≡ None → expected ≡ m.number
number_expected m expected kind e = eqb-true expected m.number (not-false (expected == m.number) (accepts m expected kind e).current)

-- a legal history with an entry that may follow is legal
pub legal_snoc : (h : List Entry) (e : Entry) → IsLegal h → MayFollow h e → IsLegal (h ++ e ∷ [])
legal_snoc h e legal may = may_next MayFollow h e legal may

-- the event number of a match is how many entries it has
pub number_is : (h : List Entry) (g : ℕ) → (match_after h g).number ≡ length (entries_of g h)
number_is h g = number_of_count (entries_of g h)

-- an entry that may come next in a legal history changes the record of its match as the rules say
pub match_next : (h : List Entry) (e : Entry) → IsLegal h → MayFollow h e → match_after (h ++ e ∷ []) e.game ≡ after (match_after h e.game) e.reporter e.kind
match_next h e legal may = search (arith, entries_same, record_next, legal_balanced, legal_match, legal_case, accepts)

-- the word of a match after a legal history holds the record of the match
pub read_back : (h : List Entry) (g : ℕ) → IsLegal h → record_at (word_of (match_after h g)) ≡ match_after h g
read_back h g legal = record_back (match_after h g) (match_valid g h legal)

-- after an entry that may come next in a legal history the word of its match has an event number one greater than before
pub number_next : (h : List Entry) (e : Entry) → IsLegal h → MayFollow h e → (record_at (word_of (after (match_after h e.game) e.reporter e.kind))).number ≡ (match_after h e.game).number + 1
number_next h e legal may = search (arith, match_next h e legal may, read_back, legal_snoc, after_number, e.game, e.reporter, e.kind)

-- event numbers never fall along a history
numbers_rise : (g : ℕ) (h : List Entry) (a b : ℕ) → a ≤ b → length (entries_of g (take a h)) ≤ length (entries_of g (take b h))
numbers_rise g h a b l = search (arith, take_split h a b l, entries-append, length-append)

-- a word that a match has before and after a place, it has there too
pub squeezed : (g x : ℕ) (h : List Entry) (a p b : ℕ) → IsLegal h → a ≤ p → p ≤ b → x ≡ word_of (match_after (take a h) g) → x ≡ word_of (match_after (take b h) g)
    → x ≡ word_of (match_after (take p h) g)
squeezed g x h a p b legal low high is_a is_b = search (arith, same_word, numbers_rise, number_is, same_number)

-- the words of the board of a history are those of its matches
pub board_get : (h : List Entry) (k : ℕ) → k < 12 → get_or (board_of h) k 0 ≡ word_of (match_after h (k + 1))
board_get h k l = let e : k ≡ k + 1 - 1 = omega arith in ap (λ (z : ℕ). get_or (board_of h) z 0) e ∙ word_after h (k + 1) (omega arith, omega arith)

-- an entry that may come next in a legal history sets, on the board, the word of its match to the next one by the rules
pub board_next : (h : List Entry) (e : Entry) → IsLegal h → MayFollow h e → board_of (h ++ e ∷ []) ≡ slice_set (board_of h) (e.game - 1) (word_of (after (match_after h e.game) e.reporter e.kind))
board_next h e legal may = low.board_next h e may.game ∙ ap (λ (m : MatchRecord). set (board_of h) (e.game - 1) (word_of m)) (match_next h e legal may)

-- twelve words that are, one by one, those of the matches after a history are the board of the history
pub board_from : (h : List Entry) (words : List ℕ) → length words ≡ 12 → ((k : ℕ) → k < 12 → get_or words k 0 ≡ word_of (match_after h (k + 1))) → words ≡ board_of h
board_from h words twelve each = ext_get_or 0 words (board_of h) (twelve ∙ sym (board_length h)) (λ k l. each k (omega arith) ∙ sym (board_get h k (omega arith)))
