-- The lines of bytes that come one after the other.
use Rattle.std.proofs.Common.{◌≡◌, ℕ, zero, suc, ◌+◌, ◌-◌, ◌≤◌, ◌<◌, ◌==◌, List, [], ◌∷◌, ◌++◌, length, take, drop, get_or, refl, sym, ap, ◌∙◌, inl}
use Rattle.std.proofs.Common.{inr, subst, append_assoc, append-nil, arith, ne_eqb, length-append}
use Rattle.std.specs.Prelude.{nat_le}
use Rattle.std.proofs.Math.Seq.{take-add, take-append_seam, take-length}
use Rattle.std.proofs.lemmas.Bool.{cases_Bool}
use Rattle.std.proofs.lemmas.Bool.Decides.{nat_tests}
use Rattle.std.proofs.lemmas.List.{length-drop, take-append-drop, take-append-le, take_all, take_more}
use Rattle.ucl_io.specs.Lines.{HasNoFeed, BeginsWithLine, begun_line, ended_lines, longer}

-- no bytes end no line
pub ended_none : (cap : ℕ) (line : List ℕ) → ended_lines cap line [] ≡ []
unfolding ended_lines
ended_none cap line = refl

-- after no bytes the unfinished line is what it was before
pub begun_none : (cap : ℕ) (line : List ℕ) → begun_line cap line [] ≡ line
unfolding begun_line
begun_none cap line = refl

-- the lines that end in `xs ++ ys` are those that end in `xs`, and then those that end in `ys`, which goes on from the line left unfinished
pub ended_append : (cap : ℕ) (line xs ys : List ℕ) → ended_lines cap line (xs ++ ys) ≡ ended_lines cap line xs ++ ended_lines cap (begun_line cap line xs) ys
unfolding ended_lines begun_line
ended_append cap line [] ys = refl
ended_append cap line (b ∷ xs) ys = elim (cases_Bool (b == 10)) [
  | inl y ↦ rw y (ap (λ (l : List (List ℕ)). line ∷ l) (ended_append cap [] xs ys))
  | inr n ↦ rw n (ended_append cap (longer cap line b) xs ys)
]

-- the unfinished line after `xs ++ ys` is the one after `ys`, if `ys` goes on from the unfinished line after `xs`
pub begun_append : (cap : ℕ) (line xs ys : List ℕ) → begun_line cap line (xs ++ ys) ≡ begun_line cap (begun_line cap line xs) ys
unfolding begun_line
begun_append cap line [] ys = refl
begun_append cap line (b ∷ xs) ys = elim (cases_Bool (b == 10)) [
  | inl y ↦ rw y (begun_append cap [] xs ys)
  | inr n ↦ rw n (begun_append cap (longer cap line b) xs ys)
]

-- no more lines end than there are bytes
pub few_lines : (cap : ℕ) (line bytes : List ℕ) → length (ended_lines cap line bytes) ≤ length bytes
unfolding ended_lines
few_lines cap line [] = omega arith
few_lines cap line (b ∷ bytes) = elim (cases_Bool (b == 10)) [
  | inl y ↦ rw y (let k = few_lines cap [] bytes in omega arith)
  | inr n ↦ rw n (let k = few_lines cap (longer cap line b) bytes in omega arith)
]

-- a line feed ends the line that has begun, and no other
pub ended_ten : (cap : ℕ) (line : List ℕ) (b : ℕ) → b ≡ 10 → ended_lines cap line (b ∷ []) ≡ line ∷ []
unfolding ended_lines
ended_ten cap line b e = rw e refl

-- after a line feed nothing is kept of a line that has begun
pub begun_ten : (cap : ℕ) (line : List ℕ) (b : ℕ) → b ≡ 10 → begun_line cap line (b ∷ []) ≡ []
unfolding begun_line
begun_ten cap line b e = rw e refl

-- the lines that end among bytes are those among the first i, and then those in the rest, which goes on from the line left unfinished
pub ended_all : (cap : ℕ) (line bytes : List ℕ) (i : ℕ) → ended_lines cap line bytes ≡ ended_lines cap line (take i bytes) ++ ended_lines cap (begun_line cap line (take i bytes)) (drop i bytes)
ended_all cap line bytes i = ap (ended_lines cap line) (sym (take-append-drop i bytes)) ∙ ended_append cap line (take i bytes) (drop i bytes)

-- none of the first so many bytes is a line feed
abbrev pub NoFeedIn : List ℕ → ℕ → Type 0
NoFeedIn text n = (k : ℕ) → k < n → get_or text k 0 ≡ 10 → ⊥

-- a text none of whose first n bytes is a line feed has none in these
no_feed_front : (text : List ℕ) (n : ℕ) → NoFeedIn text n → HasNoFeed (take n text)
no_feed_front [] zero h = tt
no_feed_front [] (suc n) h = tt
no_feed_front (b ∷ text) zero h = tt
no_feed_front (b ∷ text) (suc n) h = (h 0 (omega arith), no_feed_front text n (λ k l e. h (suc k) (omega arith) e))

-- a text none of whose bytes is a line feed has no line feed
pub no_feed_all : (text : List ℕ) → NoFeedIn text (length text) → HasNoFeed text
no_feed_all text h = subst HasNoFeed (take-length text) (no_feed_front text (length text) h)

-- no line ends where there is no line feed
pub no_ended : (cap : ℕ) (line bytes : List ℕ) → HasNoFeed bytes → ended_lines cap line bytes ≡ []
unfolding ended_lines
no_ended cap line [] h = refl
no_ended cap line (b ∷ bytes) h = rw (ne_eqb b 10 h.0) (no_ended cap (longer cap line b) bytes h.1)

-- to drop the byte `b` if `cap` bytes of the line are kept already, as `longer` does, does not change the first `cap` bytes of the whole
take_longer : (cap : ℕ) (line bytes : List ℕ) (b : ℕ) → take cap (longer cap line b ++ bytes) ≡ take cap (line ++ b ∷ bytes)
take_longer cap line bytes b = elim (cases_Bool (nat_le cap (length line))) [
  | inl y ↦ rw y (let h : cap ≤ length line = grind (arith, nat_tests) in take-append-le cap line bytes h ∙ sym (take-append-le cap line (b ∷ bytes) h))
  | inr n ↦ rw n (ap (take cap) (append_assoc line (b ∷ []) bytes))
]

-- if at most `cap` bytes are kept of a line, at most `cap` are kept of it after one byte more
pub longer_short : (cap : ℕ) (line : List ℕ) (b : ℕ) → length line ≤ cap → length (longer cap line b) ≤ cap
longer_short cap line b h = elim (cases_Bool (nat_le cap (length line))) [
  | inl y ↦ rw y h
  | inr n ↦ rw n (let k = length-append line (b ∷ []) in grind (arith, nat_tests))
]

-- after bytes without a line feed, the unfinished line is `line` and these bytes, cut to `cap` bytes
pub begun_all : (cap : ℕ) (line bytes : List ℕ) → HasNoFeed bytes → length line ≤ cap → begun_line cap line bytes ≡ take cap (line ++ bytes)
unfolding begun_line
begun_all cap line [] h short = sym (ap (take cap) (append-nil line) ∙ take_all cap line short)
begun_all cap line (b ∷ bytes) h short = rw (ne_eqb b 10 h.0) (begun_all cap (longer cap line b) bytes h.1 (longer_short cap line b short) ∙ take_longer cap line bytes b)

-- of a line that has begun no more than `cap` bytes are kept
pub begun_short : (cap : ℕ) (line bytes : List ℕ) → length line ≤ cap → length (begun_line cap line bytes) ≤ cap
unfolding begun_line
begun_short cap line [] h = h
begun_short cap line (b ∷ bytes) h = elim (cases_Bool (b == 10)) [
  | inl y ↦ rw y (begun_short cap [] bytes (omega arith))
  | inr n ↦ rw n (begun_short cap (longer cap line b) bytes (longer_short cap line b h))
]

-- bytes without a line feed, and then a line feed, end one line: `line` and these bytes, cut to `cap` bytes
pub ended_line : (cap : ℕ) (line end : List ℕ) → HasNoFeed end → length line ≤ cap → ended_lines cap line (end ++ 10 ∷ []) ≡ take cap (line ++ end) ∷ []
ended_line cap line end clean short =
    ended_append cap line end (10 ∷ []) ∙ rw (no_ended cap line end clean, begun_all cap line end clean short) (ended_ten cap (take cap (line ++ end)) 10 refl)

-- after bytes that end with a line feed nothing is kept of a line that has begun
pub begun_ended : (cap : ℕ) (line end : List ℕ) → begun_line cap line (end ++ 10 ∷ []) ≡ []
begun_ended cap line end = begun_append cap line end (10 ∷ []) ∙ begun_ten cap (begun_line cap line end) 10 refl

-- a text begins with a line that ends at its first line feed
pub first_line : (text : List ℕ) (at : ℕ) → at < length text → NoFeedIn text at → get_or text at 0 ≡ 10 → BeginsWithLine text (take at text)
first_line text at h clean is = record {
  rest = drop (at + 1) text;
  parts = sym (take-append-drop (at + 1) text) ∙ ap (λ (l : List ℕ). l ++ drop (at + 1) text) (take_more text at 0 h ∙ ap (λ (b : ℕ). take at text ++ b ∷ []) is)
      ∙ append_assoc (take at text) (10 ∷ []) (drop (at + 1) text);
  clean = no_feed_front text at clean;
}

-- the first `length xs - i` of the bytes from place i on are all of them
pub rest_of : (i : ℕ) (xs : List ℕ) → take (length xs - i) (drop i xs) ≡ drop i xs
rest_of i xs = take_all (length xs - i) (drop i xs) (omega (arith, length-drop i xs))

-- a line that begins at place i, with its line feed, lies within the bytes
pub line_within : (bytes : List ℕ) (i : ℕ) (line : List ℕ) → BeginsWithLine (drop i bytes) line → i ≤ length bytes → i + (length line + 1) ≤ length bytes
line_within bytes i line l h =
    let long : length (drop i bytes) ≡ length line + length (10 ∷ l.rest) = ap (λ (k : List ℕ). length k) l.parts ∙ length-append line (10 ∷ l.rest) in
    omega (arith, long, length-drop i bytes)

-- if a line begins at place i, the bytes up to its end are those before place i, the line and its line feed
pub line_taken : (bytes : List ℕ) (i : ℕ) (line : List ℕ) → BeginsWithLine (drop i bytes) line → take (i + (length line + 1)) bytes ≡ take i bytes ++ (line ++ 10 ∷ [])
line_taken bytes i line l =
    let long : length (line ++ 10 ∷ []) ≡ length line + 1 = length-append line (10 ∷ []) in
    let parts : drop i bytes ≡ (line ++ 10 ∷ []) ++ l.rest = l.parts ∙ sym (append_assoc line (10 ∷ []) l.rest) in
    take-add i (length line + 1) bytes
    ∙ ap (λ (k : List ℕ). take i bytes ++ k)
    (ap (take (length line + 1)) parts ∙ ap (λ (n : ℕ). take n ((line ++ 10 ∷ []) ++ l.rest)) (sym long) ∙ take-append_seam (line ++ 10 ∷ []) l.rest)

-- if there is no line feed from place i on, the unfinished line after all bytes is the one at i and all later bytes, cut to `cap` bytes
pub rest_begun : (cap : ℕ) (line bytes : List ℕ) (i : ℕ) → HasNoFeed (drop i bytes) → length line ≤ cap
    → take cap (begun_line cap line (take i bytes) ++ drop i bytes) ≡ begun_line cap line bytes
rest_begun cap line bytes i clean short =
    sym (begun_all cap (begun_line cap line (take i bytes)) (drop i bytes) clean (begun_short cap line (take i bytes) short)) ∙ sym (begun_append cap line (take i bytes) (drop i bytes))
    ∙ ap (begun_line cap line) (take-append-drop i bytes)

-- if there is no line feed from place i on, all lines that end among the bytes end before place i
pub rest_ended : (cap : ℕ) (line bytes : List ℕ) (i : ℕ) → HasNoFeed (drop i bytes) → ended_lines cap line (take i bytes) ≡ ended_lines cap line bytes
rest_ended cap line bytes i clean =
    sym (append-nil (ended_lines cap line (take i bytes))) ∙ ap (λ (l : List (List ℕ)). ended_lines cap line (take i bytes) ++ l)
    (sym (no_ended cap (begun_line cap line (take i bytes)) (drop i bytes) clean))
    ∙ sym (ended_all cap line bytes i)

-- the line `last` ends at a line feed among these bytes, and the lines that end in the bytes before that line feed are `lines`
pub record IsCutAt (cap : ℕ) (line bytes : List ℕ) (lines : List (List ℕ)) (last : List ℕ) : Type 0 where
  pub front : List ℕ
  pub more : List ℕ
  pub parts : bytes ≡ front ++ 10 ∷ more
  pub before : ended_lines cap line front ≡ lines
  pub begun : begun_line cap line front ≡ last

-- if the line `last` ends at a line feed among bytes, it also does so among these bytes with one byte more before them
more_cut : (cap : ℕ) (line line2 bytes : List ℕ) (b : ℕ) (lines lines2 : List (List ℕ)) (last : List ℕ) (q : IsCutAt cap line2 bytes lines2 last)
    → ended_lines cap line (b ∷ q.front) ≡ lines → begun_line cap line (b ∷ q.front) ≡ last → IsCutAt cap line (b ∷ bytes) lines last
more_cut cap line line2 bytes b lines lines2 last q before begun =
    record { front = b ∷ q.front; more = q.more; parts = ap (λ (l : List ℕ). b ∷ l) q.parts; before = before; begun = begun }

-- each of the lines that end among bytes ends at a line feed there, and those before it in the list are the lines that end before that
pub cut_at : (cap : ℕ) (line bytes : List ℕ) (lines : List (List ℕ)) (last : List ℕ) (rest : List (List ℕ)) → ended_lines cap line bytes ≡ lines ++ last ∷ rest → IsCutAt cap line bytes lines last
unfolding ended_lines begun_line
cut_at cap line [] [] last rest e = cc
cut_at cap line [] (l ∷ lines) last rest e = cc
cut_at cap line (b ∷ bytes) [] last rest e = elim (cases_Bool (b == 10)) [
  | inl y ↦ let h = rw y at e in record { front = []; more = bytes; parts = ap (λ (x : ℕ). x ∷ bytes) (grind (arith, nat_tests)); before = refl; begun = cc }
  | inr n ↦ let q = cut_at cap (longer cap line b) bytes [] last rest (rw n at e) in more_cut cap line (longer cap line b) bytes b [] [] last q (rw n q.before) (rw n q.begun)
]
cut_at cap line (b ∷ bytes) (l ∷ lines) last rest e = elim (cases_Bool (b == 10)) [
  | inl y ↦ let h = rw y at e in let q = cut_at cap [] bytes lines last rest (cc h) in
      more_cut cap line [] bytes b (l ∷ lines) lines last q (let same = q.before in rw y (cc)) (rw y q.begun)
  | inr n ↦ let q = cut_at cap (longer cap line b) bytes (l ∷ lines) last rest (rw n at e) in
      more_cut cap line (longer cap line b) bytes b (l ∷ lines) (l ∷ lines) last q (rw n q.before) (rw n q.begun)
]
