-- What the members of a value tell.
use Rattle.ucl_json.proofs.Common.{Data, Err, IfOk, IsOk, IsUtf8-from_is_utf8, List, NamedClub, Ok, Result, Value, [], ap, append_assoc}
use Rattle.ucl_json.proofs.Common.{arith, bad_slot, cases_Bool, cond, drop, drop_all, drop_more, eq-eqb, false, get_or, if_read, inl, inr}
use Rattle.ucl_json.proofs.Common.{is_utf8, is_utf8-from_IsUtf8, items_view, just, le-leb, length, length-map, listed, lt-leb, map, nat_le}
use Rattle.ucl_json.proofs.Common.{option_and_then, parse_board_line, parse_board_state, parse_each, read, read_words, refl, rules, true}
use Rattle.ucl_json.proofs.Common.{unless_bad, view, ℕ, ◌&&◌, ◌++◌, ◌+◌, ◌<◌, ◌∷◌, ◌≡◌, ◌≤◌}
use Rattle.std.proofs.Common.{Bool, None, Option, Some}
use Rattle.std.specs.Result.{result_ok}
use Rattle.std.specs.Prelude.{IsUtf8}
use Rattle.ucl_json.specs.declared.board_state.BoardState.{BoardState}
use Rattle.std.proofs.lemmas.List.{append-nil}
use Rattle.ucl_screen.specs.Events.{◌>>=◌}

-- the elements of an array of JSON, as a list, are the values that it was made of
pub listed_view : (values : List Value) → listed (items_view values) ≡ map view values
listed_view [] = refl
listed_view (v ∷ values) = ap (λ (ds : List Data). view v ∷ ds) (listed_view values)

module _ {T : Type 0} (parsed : Data → Option T) where
  -- what was read so far and what the rest of the values gives
  abbrev pub read_with : List T → List Value → Option (List T)
  read_with so_far rest = parse_each parsed (map view rest) >>= λ more. Some (so_far ++ more)

  -- before any value was read what is read of all is that of all
  pub read-none : (values : List Value) (so_far : List T) → so_far ≡ [] → read_with so_far values ≡ parse_each parsed (map view values)
  read-none values so_far e = rw e (same (parse_each parsed (map view values)))
    where
      same : (p : Option (List T)) → (p >>= λ more. Some more) ≡ p
      same None = refl
      same (Some all) = refl

  -- one value more that was read stands behind those before it
  pub read-next : (values : List Value) (i : ℕ) (x : Value) (so_far new : List T) (one : T) → i < length values → x ≡ get_or values i x → Some one ≡ parsed (view x)
      → new ≡ so_far ++ one ∷ [] → read_with new (drop (i + 1) values) ≡ read_with so_far (drop i values)
  unfolding parse_each
  read-next values i x so_far new one h is k e = rw (drop_more values i x h, ← is, ← k, e) (joined (parse_each parsed (map view (drop (i + 1) values))))
    where
      joined : (p : Option (List T)) → (p >>= λ more. Some ((so_far ++ one ∷ []) ++ more)) ≡ ((p >>= λ more. Some (one ∷ more)) >>= λ more. Some (so_far ++ more))
      joined None = refl
      joined (Some all) = ap (λ (l : List T). Some l) (append_assoc so_far (one ∷ []) all)

  -- if nothing is read of one value, nothing is read of all
  pub read-not : (values : List Value) (i : ℕ) (x : Value) (so_far : List T) → i < length values → x ≡ get_or values i x → None ≡ parsed (view x)
      → read_with so_far (drop i values) ≡ None
  unfolding parse_each
  read-not values i x so_far h is k = rw (drop_more values i x h, ← is, ← k) refl

  -- once all values were read, what was read of them is what is read of all
  pub read-all : (values : List Value) (i : ℕ) (so_far : List T) → length values ≤ i → read_with so_far (drop i values) ≡ Some so_far
  unfolding parse_each
  read-all values i so_far h = rw (drop_all i values h) (ap (λ (l : List T). Some l) (append-nil so_far))

  -- of as many values as asked for what is read is that of each
  pub just-each : (n : ℕ) (values : List Value) → length values ≡ n → just n parsed (map view values) ≡ parse_each parsed (map view values)
  just-each n values long = rw (length-map values view, long, eq-eqb n n refl) refl

-- a result that is `Ok` with the value x is `Some x` as an option
pub inner-ok : {A E : Type 0} (r : Result A E) (x : A) → IsOk r → IfOk r (λ a. a ≡ x) → result_ok r ≡ Some x
inner-ok {A} (Ok a) x ok e = ap (λ (y : A). Some y) e
inner-ok (Err f) x ok e = absurd (search rules)

-- clubs of which none is bad are read as a roster
pub roster_good : (roster clubs : List NamedClub) → roster ≡ clubs → bad_slot clubs ≡ None → Some roster ≡ unless_bad clubs (bad_slot clubs)
roster_good roster clubs e h = rw (e, h) refl

-- clubs of which one is bad are not read as a roster
pub roster_bad : (clubs : List NamedClub) (slot : ℕ) → bad_slot clubs ≡ Some slot → None ≡ unless_bad clubs (bad_slot clubs)
roster_bad clubs slot h = rw h refl

-- a list of four values is its elements at places 0 to 3
pub just-four : (values : List Value) (w x y z : Value) → 4 ≤ length values → length values < 5 → w ≡ get_or values 0 w → x ≡ get_or values 1 x → y ≡ get_or values 2 y
    → z ≡ get_or values 3 z → w ∷ x ∷ y ∷ z ∷ [] ≡ values
just-four (a ∷ b ∷ c ∷ d ∷ []) w x y z some few i j k l = cc
just-four _ w x y z some few i j k l = absurd (omega arith)

-- words that are those of a board are read as that board
pub words_read : (words board : List ℕ) → read_words 1 words ≡ Ok board → Some board ≡ if_read (read_words 1 words)
words_read words board is = rw is refl

-- words of which one is bad are not read as a board
pub words_bad : (words : List ℕ) (index : ℕ) → read_words 1 words ≡ Err index → None ≡ if_read (read_words 1 words)
words_bad words index is = rw is refl

-- a line of more than 4,096 bytes tells no board state
pub too-long : (line : List ℕ) → 4096 < length line → None ≡ parse_board_line line
unfolding parse_board_line
too-long line h = rw (lt-leb (length line) 4096 h) refl

-- a line of at most 4,096 bytes in UTF-8 tells the board state, if any, of the value that is read of it
pub was-read : (line : List ℕ) (d : Data) → length line ≤ 4096 → IsUtf8 line → read line ≡ Some d → parse_board_state d ≡ parse_board_line line
unfolding parse_board_line
was-read line d h u e = rw (le-leb (length line) 4096 h, is_utf8-from_IsUtf8 line u, e) refl

-- a line of which no value is read tells no board state
pub not-read : (line : List ℕ) → (IsUtf8 line → read line ≡ None) → None ≡ parse_board_line line
unfolding parse_board_line
not-read line h = elim (cases_Bool (is_utf8 line)) [
  | inl y ↦ rw (y, h (IsUtf8-from_is_utf8 line y)) (none (nat_le (length line) 4096))
  | inr n ↦ rw n (none-there (nat_le (length line) 4096))
]
  where
    none : (b : Bool) → ◌≡◌ {A = Option BoardState} None (cond (b && true) None None)
    none true = refl
    none false = refl

    none-there : (b : Bool) → ◌≡◌ {A = Option BoardState} None (cond (b && false) (option_and_then parse_board_state (read line)) None)
    none-there true = refl
    none-there false = refl
