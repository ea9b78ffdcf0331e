-- How rows are shown.
use Rattle.ucl_rows.proofs.Common.{List, [], and_parts, ap, arith, false, get_or, inl, inr, is_printed, length, list_all, refl}
use Rattle.ucl_rows.proofs.Common.{shown_text, suc, sym, take, take_all, true, zero, ℕ, ◌∙◌, ◌∷◌, ◌≡◌, ◌≤◌, ◌⊎◌}
use Rattle.ucl_rows.specs.BadRows.{printed}

-- the first `at` bytes of a text are its printable start within n bytes, if all are printable ASCII, and `at` is n or the byte there is not
ends-at : (n at : ℕ) (text : List ℕ) → at ≤ n → list_all is_printed (take at text) ≡ true → (at ≡ n) ⊎ (is_printed (get_or text at 0) ≡ false) → take at text ≡ printed (take n text)
unfolding printed
ends-at zero (suc at) text h all e = absurd (omega (arith, h))
ends-at (suc n) zero (b ∷ text) h all (inl e) = absurd (omega (arith, e))
ends-at (suc n) zero (b ∷ text) h all (inr e) = rw e refl
ends-at (suc n) (suc at) (b ∷ text) h all e =
    let p = and_parts (is_printed b) (list_all is_printed (take at text)) all in
    rw p.0 (ap (λ (l : List ℕ). b ∷ l) (ends-at n at text (omega (arith, h)) p.1 (further e)))
  where
    further : (suc at ≡ suc n) ⊎ (is_printed (get_or text at 0) ≡ false) → (at ≡ n) ⊎ (is_printed (get_or text at 0) ≡ false)
    further (inl e) = inl (omega (arith, e))
    further (inr e) = inr e
ends-at _ _ _ _ _ _ = refl

-- the first `at` bytes of a text are what an answer shows of it, if all are printable ASCII, and `at` is 64 or the byte there is not
pub shown_at : (at : ℕ) (text : List ℕ) → at ≤ 64 → list_all is_printed (take at text) ≡ true → (at ≡ 64) ⊎ (is_printed (get_or text at 0) ≡ false) → take at text ≡ shown_text text
shown_at at text h all e = ends-at 64 at text h all e

-- if all bytes of a text are printable ASCII, the bytes before the first that is not are the whole text
printed-all : (text : List ℕ) → list_all is_printed text ≡ true → printed text ≡ text
unfolding printed
printed-all [] h = refl
printed-all (b ∷ text) h =
    let p = and_parts (is_printed b) (list_all is_printed text) h in rw p.0 (ap (λ (l : List ℕ). b ∷ l) (printed-all text p.1))

-- a text of at most 64 bytes, all of them printable ASCII, is shown whole by an answer
pub shown_all : (at : ℕ) (text : List ℕ) → length text ≤ at → at ≤ 64 → list_all is_printed (take at text) ≡ true → take (length text) text ≡ shown_text text
shown_all at text h few all =
    let whole = rw (take_all at text h) at all in
    take_all (length text) text (omega arith) ∙ sym (ap printed (take_all 64 text (omega (arith, h, few))) ∙ printed-all text whole)
