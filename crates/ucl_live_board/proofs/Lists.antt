-- The entries of one reporter; two passes that met, and a reading by the second: the counts decide whether there was a third reporter.
use Rattle.ucl_live_board.proofs.Common.{◌≡◌, ◌≢◌, ℕ, ◌≤◌, Bool, cond, ◌==◌, List, ◌∷◌, ◌++◌, length, refl, sym, ap, ◌∙◌, subst, arith, append-nil, eq-eqb}
use Rattle.ucl_live_board.proofs.Common.{ne_eqb, le_refl, [], not, filter-append, IsPrefix, may_induction, Entry, max_version, MayFollow, IsLegal}
use Rattle.ucl_live_board.proofs.Common.{followed_by, begins_same, begins_through, PassView, IsSound, Continues, entries_by, ◌⊎◌, suc, ◌+◌}
use Rattle.ucl_live_board.proofs.Common.{◌<◌, true, false, take, length-append, length-take-le, true≢false, All, filter, ◌&&◌, eqb-true, nil_from_length}
use Rattle.ucl_live_board.proofs.Common.{All-cons, All-nil, begins_length, begins_take, SharedReading, Meeting}
use Rattle.std.proofs.lemmas.List.Filters.{length-filter_both}
use Rattle.ucl_board.proofs.HistoryTheorems.{versions}
use Rattle.std.proofs.lemmas.Bool.Decides.{eqb_tells, nat_tests}
use Rattle.ucl_board.specs.declared.reading.Reading.{Reading}
use Rattle.ucl_live_board.specs.Settling.{AreAlone, both_accepted, Settled, IsOfBoth}

-- the entries of one reporter in a history are those in a prefix of it, and then those in the rest
pub by_more : (n : ℕ) (s h : List Entry) (p : IsPrefix s h) → entries_by n h ≡ entries_by n s ++ entries_by n p.0
by_more n s h p = ap (entries_by n) (sym p.1) ∙ filter-append (λ (e : Entry). e.reporter == n) s p.0

-- an entry of a reporter at the end of a history is at the end of this reporter's entries
pub by_own : (n : ℕ) (h : List Entry) (e : Entry) → e.reporter ≡ n → entries_by n (followed_by h e) ≡ followed_by (entries_by n h) e
by_own n h e is = filter-append (λ (x : Entry). x.reporter == n) h (e ∷ []) ∙ ap (λ (b : Bool). entries_by n h ++ cond b (e ∷ []) []) (eq-eqb e.reporter n is)

-- an entry of another reporter at the end of a history leaves the entries of a reporter as they are
pub by_other : (n : ℕ) (h : List Entry) (e : Entry) → e.reporter ≢ n → entries_by n (followed_by h e) ≡ entries_by n h
by_other n h e ne = filter-append (λ (x : Entry). x.reporter == n) h (e ∷ []) ∙ (ap (λ (b : Bool). entries_by n h ++ cond b (e ∷ []) []) (ne_eqb e.reporter n ne) ∙ append-nil (entries_by n h))

-- no entry of a legal history has the number of a reader
pub none_by_zero : (h : List Entry) → IsLegal h → entries_by 0 h ≡ []
none_by_zero = may_induction MayFollow (λ h. entries_by 0 h ≡ []) refl (λ h e legal may was. by_other 0 h e (λ z. let r = may.accepted.reporter.0 in omega arith) ∙ was)

-- a pass has no more entries than a history can have
pub few_mine : (k : PassView) → IsSound k → length k.mine ≤ max_version
few_mine k s =
    let v = versions k.seen s.legal in
    let d = length-filter_both (λ (e : Entry). e.reporter == k.number) (λ (e : Entry). not (e.reporter == k.number)) (λ _. refl) k.seen in
    let o = ap length s.own in
    omega arith

-- a sound pass that is unchanged has seen no less, and has its share and number, as after each call (`Continues`)
pub unchanged : (k m : PassView) → IsSound k → m ≡ k → Continues k m
unchanged k m sound same = subst (Continues k) (sym same) (record { sound = sound; on = record { seen = begins_same k.seen; listed = le_refl k.listed; share = refl }; number = refl })

-- if after each of two calls a pass is sound, has seen no less, and has its share and number, so it is over both (`Continues`)
pub goes_on : (k m z : PassView) → Continues k m → Continues m z → Continues k z
goes_on k m z a b = search (arith, begins_through)

-- if the test says that two numbers differ, they do
pub differ : (a b : ℕ) (r : Bool) → r ≡ not (a == b) → r ≡ true → a ≢ b
differ a b r is said same = true≢false (sym said ∙ (is ∙ ap not (eq-eqb a b same)))

-- if the test says that two numbers do not differ, they are the same
pub one_number : (a b : ℕ) (r : Bool) → r ≡ not (a == b) → r ≡ false → a ≡ b
one_number a b r is said = grind (arith, nat_tests)

-- the entries that are of neither of two reporters
abbrev others : ℕ → ℕ → List Entry → List Entry
others a b t = filter (λ (e : Entry). not (e.reporter == a) && not (e.reporter == b)) t

-- an element that goes to one of three lists makes all three together longer by one
one_of_three : {X : Type 0} (p q : Bool) (x : X) (A B C : List X) → (p ≡ true → q ≡ true → ⊥)
    → length (cond p (x ∷ A) A) + length (cond q (x ∷ B) B) + length (cond (not p && not q) (x ∷ C) C) ≡ suc (length A + length B + length C)
one_of_three p q x A B C apart = search arith

-- the entries of two reporters and those of all others are together as many as there are
three_counts : (a b : ℕ) → a ≢ b → (t : List Entry) → length (entries_by a t) + length (entries_by b t) + length (others a b t) ≡ length t
three_counts a b ne [] = refl
three_counts a b ne (x ∷ t) = search (arith, one_of_three, eqb-true, three_counts a b ne t)

-- an entry is of one of two reporters
abbrev OfTwo : ℕ → ℕ → Entry → Type 0
OfTwo a b e = (e.reporter ≡ a) ⊎ (e.reporter ≡ b)

-- if no entry is of a reporter other than two, each entry is of one of these two
no_others : (a b : ℕ) (t : List Entry) → length (others a b t) ≡ 0 → All (OfTwo a b) t
no_others a b [] none = All-nil (OfTwo a b)
no_others a b (x ∷ t) none = search (arith, All-cons, no_others a b t, eqb_tells x.reporter a, eqb_tells x.reporter b)

-- the passes a and b met, after which they are a1 and b1, and the second read, after which it is d
module _ (a b a1 b1 d : PassView) (reading : Reading) (same : a1 ≡ a) (met : Meeting a b b1) (on : Continues b b1) (later : Continues b1 d) (read : SharedReading b1 reading d) where
  pub settled : Settled a b a1 d reading.version
  settled = search (
    arith,
    begins_through a.seen b1.seen d.seen met.met later.on.seen,
    begins_through b.seen b1.seen d.seen on.on.seen later.on.seen,
    begins_length a.seen b1.seen met.met,
    begins_length b.seen b1.seen on.on.seen,
  )

  pub through : Continues b d
  through = search (arith, begins_through)

  -- what the entries that were read have of each of the two, and of others
  record Counts : Type 0 where
    more_a : List Entry
    more_b : List Entry
    first : entries_by a.number (take reading.version d.seen) ≡ a.mine ++ more_a
    second : entries_by b.number (take reading.version d.seen) ≡ b.mine ++ more_b
    all : length a.mine + length more_a + (length b.mine + length more_b) + length (others a.number b.number (take reading.version d.seen)) ≡ reading.version

  counts : IsSound a → a.number ≢ b.number → Counts
  counts sound ne =
      let t : List Entry = take reading.version d.seen in
      let p : IsPrefix b1.seen t = begins_take b1.seen d.seen reading.version later.on.seen read.low in
      let q : IsPrefix a.seen t = begins_through a.seen b1.seen t met.met p in
      let first : entries_by a.number t ≡ a.mine ++ entries_by a.number q.0 = by_more a.number a.seen t q ∙ ap (λ l. l ++ entries_by a.number q.0) (sym sound.own) in
      let own_b : entries_by b.number b1.seen ≡ b.mine = ap (λ n. entries_by n b1.seen) (sym on.number) ∙ (sym on.sound.own ∙ met.mine) in
      let second : entries_by b.number t ≡ b.mine ++ entries_by b.number p.0 = by_more b.number b1.seen t p ∙ ap (λ l. l ++ entries_by b.number p.0) own_b in
      let la = ap length first ∙ length-append a.mine (entries_by a.number q.0) in
      let lb = ap length second ∙ length-append b.mine (entries_by b.number p.0) in
      let three = three_counts a.number b.number ne t in
      let len : length t ≡ reading.version = length-take-le reading.version d.seen read.high in
      record { more_a = entries_by a.number q.0; more_b = entries_by b.number p.0; first = first; second = second; all = omega arith }

  -- if the version is the sum of their accepted events, each entry that was read is of one of the two
  all_theirs : IsSound a → a.number ≢ b.number → reading.version ≡ both_accepted a b → IsOfBoth a b (take reading.version d.seen)
  all_theirs sound ne sum = search (arith, counts, nil_from_length, append-nil, no_others)

  -- if it is another number, it is greater than the sum
  above : IsSound a → a.number ≢ b.number → reading.version ≢ both_accepted a b → both_accepted a b < reading.version
  above sound ne other = let c = counts sound ne in let all = c.all in omega arith

  -- by the numbers n and m of both afterwards, and how many events of each were accepted
  module _ (sound : IsSound a) (n m i j : ℕ) (n_is : n ≡ a1.number) (m_is : m ≡ d.number) (i_is : i ≡ length a1.mine) (j_is : j ≡ length d.mine) where
    numbers : (n ≡ m → a.number ≡ b.number) × (a.number ≡ b.number → n ≡ m)
    numbers = search arith

    sum_is : i + j ≡ both_accepted a b
    sum_is = let first = i_is ∙ ap (λ (k : PassView). length k.mine) same in let second = j_is ∙ ap length (read.mine ∙ met.mine) in omega arith

    pub of_both : n ≢ m → reading.version ≡ i + j → IsOfBoth a b (take reading.version d.seen)
    of_both apart sum = all_theirs sound (λ is. apart (numbers.1 is)) (sum ∙ sum_is)

    pub alone : n ≢ m → reading.version ≡ i + j → AreAlone a b reading.version
    alone apart sum = (λ is. apart (numbers.1 is), sum ∙ sum_is)

    pub strangers : (n ≡ m) ⊎ (reading.version ≢ i + j) → a.number ≢ b.number → both_accepted a b < reading.version
    strangers is other = search (arith, numbers, above, sum_is)
