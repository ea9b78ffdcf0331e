-- Letters of groups.
use Rattle.ucl_screen.proofs.Common.{Bool, IsGroup, List, None, Some, [], and_parts, arith, cond, false, length, letter_in, nat_le, refl}
use Rattle.ucl_screen.proofs.Common.{slice_index_or, true, ℕ, ◌&&◌, ◌<◌, ◌∷◌, ◌≡◌, ◌≤◌}
use Rattle.std.proofs.Common.{le-leb, leb-true}

-- a text of one byte from A to H gives this letter
pub is_letter : (text : List ℕ) → 1 ≤ length text → length text < 2 → IsGroup (slice_index_or text 0 0) → Some (slice_index_or text 0 0) ≡ letter_in text
is_letter (x ∷ []) some one group = rw (le-leb 65 x group.0, le-leb x 72 group.1) refl
is_letter text some one group = absurd (omega arith)

-- an empty text gives no letter of a group
pub no_letter : (text : List ℕ) → length text < 1 → None ≡ letter_in text
no_letter [] none = refl
no_letter (x ∷ xs) none = absurd (omega arith)

-- a text of two bytes or more gives no letter of a group
pub many_letters : (text : List ℕ) → 2 ≤ length text → None ≡ letter_in text
many_letters (x ∷ y ∷ ys) many = refl
many_letters text many = absurd (omega arith)

-- a text of one byte that is no letter of a group gives none
pub other_letter : (text : List ℕ) → 1 ≤ length text → length text < 2 → (IsGroup (slice_index_or text 0 0) → ⊥) → None ≡ letter_in text
other_letter [] some one other = absurd (omega arith)
other_letter (x ∷ y ∷ ys) some one other = absurd (omega arith)
other_letter (x ∷ []) some one other = go (nat_le 65 x && nat_le x 72) refl
  where
    go : (b : Bool) → (nat_le 65 x && nat_le x 72) ≡ b → None ≡ cond b (Some x) None
    go false e = refl
    go true e = let parts = and_parts _ _ e in absurd (other (leb-true _ _ parts.0, leb-true _ _ parts.1))
