-- What a split does to a share: its halves overlap with nothing that it did not overlap with, and not with one another.
use Rattle.ucl_live_board.proofs.Common.{◌≡◌, ◌⊎◌, inl, inr, ⊎_elim, Bool, true, false, List, ◌∷◌, ◌++◌, refl, sym, ap, ◌∙◌, subst, true≢false, append-nil}
use Rattle.ucl_live_board.proofs.Common.{append_assoc, length, length-append, arith, [], Some, None, IsSome, IsPrefix, begins_none, begins_more}
use Rattle.ucl_live_board.proofs.Common.{begins_through, Share, whole, half_of, first_half, second_half, Overlap}

-- if one share overlaps with another, the other overlaps with it
pub overlap_swap : (s t : Share) → Overlap s t → Overlap t s
overlap_swap s t o = search arith

-- if b is a prefix of a path (a list of halves) with one half more at its end, one of b and the path is a prefix of the other
comparable : (b rest path : List Bool) (side : Bool) → b ++ rest ≡ path ++ side ∷ [] → IsPrefix path b ⊎ IsPrefix b path
comparable [] rest path side is = inr (begins_none path)
comparable (x ∷ b) rest [] side is = inl (begins_none (x ∷ b))
comparable (x ∷ b) rest (y ∷ path) side is =
    let same : x ≡ y = cc in let tail : b ++ rest ≡ path ++ side ∷ [] = cc in search (arith, comparable b rest path side tail)

-- what a half of a share overlaps with, the share overlaps with
pub half_overlaps : (side : Bool) (s t : Share) → Overlap (half_of side s) t → Overlap s t
half_overlaps side (Some path) (Some b) o = ⊎_elim
    (λ (p : IsPrefix (path ++ side ∷ []) b). inl (begins_through path (path ++ side ∷ []) b (side ∷ [], refl) p))
    (λ (p : IsPrefix b (path ++ side ∷ [])). comparable b p.0 path side p.1)
    o
half_overlaps side (Some path) None o = absurd o
half_overlaps side None t o = absurd o

-- if a path (a list of halves), then the half a, then more, is equal to the same path and then the half b, then a is b
one_turn : (path rest : List Bool) (a b : Bool) → (path ++ a ∷ []) ++ rest ≡ path ++ b ∷ [] → a ≡ b
one_turn [] rest a b is = cc
one_turn (x ∷ path) rest a b is = one_turn path rest a b (cc)

-- the halves of a share do not overlap
pub halves_apart : (s : Share) → Overlap (second_half s) (first_half s) → ⊥
halves_apart s o = search (arith, true≢false, one_turn)

-- a path with a half at its end is not empty
no_end : (path : List Bool) (side : Bool) → path ++ side ∷ [] ≡ [] → ⊥
no_end path side is = let l = ap length is in omega (arith, length-append path (side ∷ []))

-- if two shares `Some a` and `Some b` are equal, so are their paths
some_same : (a b : List Bool) → Some a ≡ Some b → a ≡ b
some_same a b is = cc

-- half of a share is a share
pub half_acts : (side : Bool) (s : Share) → IsSome s → IsSome (half_of side s)
half_acts side s acts = search arith

-- a share that is some share is not None, no share
pub acts_some : (s : Share) → IsSome s → s ≡ None → ⊥
acts_some s acts none = true≢false (sym (subst IsSome none acts))

-- a half is never the share of the whole board
pub half_not_whole : (side : Bool) (s : Share) → half_of side s ≡ whole → ⊥
half_not_whole side s is = search (arith, no_end, some_same, acts_some)

-- if a half of a share is None, no share, the share is None too
pub half_none : (side : Bool) (s : Share) → half_of side s ≡ None → s ≡ None
half_none side s none = search (arith, acts_some)

-- every share overlaps with the whole
pub in_whole : (s : Share) → IsSome s → Overlap s whole
in_whole s acts = search (arith, begins_none, true≢false)

-- what overlaps with a share overlaps with its first half or its second
pub on_a_side : (s : Share) (path : List Bool) → Overlap s (Some path) → Overlap s (Some (path ++ false ∷ [])) ⊎ Overlap s (Some (path ++ true ∷ []))
on_a_side (Some a) path o = ⊎_elim
    (λ (p : IsPrefix a path). inl (inl (begins_more a path false p)))
    (λ (p : IsPrefix path a). turns p.0 p.1)
    o
  where
    turns : (rest : List Bool) → path ++ rest ≡ a → Overlap (Some a) (Some (path ++ false ∷ [])) ⊎ Overlap (Some a) (Some (path ++ true ∷ []))
    turns [] is = inl (inl (subst (λ (w : List Bool). IsPrefix w (path ++ false ∷ [])) (sym (append-nil path) ∙ is) (false ∷ [], refl)))
    turns (false ∷ rest) is = inl (inr (subst (IsPrefix (path ++ false ∷ [])) is (rest, append_assoc path (false ∷ []) rest)))
    turns (true ∷ rest) is = inr (inr (subst (IsPrefix (path ++ true ∷ [])) is (rest, append_assoc path (true ∷ []) rest)))
on_a_side None path o = absurd o
