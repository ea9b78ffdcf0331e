-- The table goes by the coefficients of the clubs.
use Rattle.ucl_order.proofs.Common.{Bool, List, Match, NamedClub, Profile, Ranking, Row, TableGoesByCoefficients, [], all_clubs, ap}
use Rattle.ucl_order.proofs.Common.{by_points, coefficient_of, coefficients_in, flat_map, fun_ext, get_or, head_to_head, if◌then◌else◌}
use Rattle.ucl_order.proofs.Common.{is_one_class, length, map, mark_by, mark_of, matches_of, order_of, overall, refl, row_of, row_with}
use Rattle.ucl_order.proofs.Common.{settled_within, slice_index, split, started_of, suc, sym, zero, ℕ, ◌-◌, ◌∙◌, ◌∷◌, ◌≡◌}
use Rattle.std.proofs.Math.ListN.{get_or-map}

-- the coefficient of the club in a slot is the one at place `slot - 1` of the list of coefficients, 0 if there is none
coefficient-is : (clubs : List NamedClub) (slot : ℕ) → coefficient_of clubs slot ≡ get_or (coefficients_in clubs) (slot - 1) 0
coefficient-is clubs slot = sym (get_or-map (λ (club : NamedClub). club.coefficient) clubs (slot - 1) (record { name = []; coefficient = 0 }))

-- a tied set is ordered alike by equal comparisons f and g and by equal functions p and q on classes: by f if it is one class, else by p,
-- class by class
either : (one_class : Bool) (f g : Ranking) (p q : List ℕ → List ℕ) (tied : List ℕ) (classes : List (List ℕ)) → f ≡ g → p ≡ q
    → (if one_class then flat_map (λ class. class) (split f tied) else flat_map p classes) ≡ (if one_class then flat_map (λ class. class) (split g tied) else flat_map q classes)
either one_class f g p q tied classes e d =
    ap (λ (h : Ranking). if one_class then flat_map (λ class. class) (split h tied) else flat_map p classes) e
    ∙ ap (λ (r : List ℕ → List ℕ). if one_class then flat_map (λ class. class) (split g tied) else flat_map r classes) d

module _ (one other : List NamedClub) (same : coefficients_in one ≡ coefficients_in other) where
  coefficient-same : (slot : ℕ) → coefficient_of one slot ≡ coefficient_of other slot
  coefficient-same slot = coefficient-is one slot ∙ (ap (λ (cs : List ℕ). get_or cs (slot - 1) 0) same ∙ sym (coefficient-is other slot))

  overall_same : (ms : List Match) → overall ms one ≡ overall ms other
  overall_same ms = fun_ext (λ a. fun_ext (λ b. rw (coefficient-same a, coefficient-same b)))

  settled-same : (profile : Profile) (most : ℕ) (ms : List Match) (tied : List ℕ) → settled_within profile most ms one tied ≡ settled_within profile most ms other tied
  settled-same profile most ms [] = refl
  settled-same profile most ms (club ∷ []) = refl
  settled-same profile zero ms (a ∷ b ∷ clubs) = refl
  settled-same profile (suc most) ms (a ∷ b ∷ clubs) =
      let tied : List ℕ = a ∷ b ∷ clubs in
      either (is_one_class (head_to_head profile ms tied) tied) (overall ms one) (overall ms other) (settled_within profile most ms one) (settled_within profile most ms other)
      tied (split (head_to_head profile ms tied) tied) (overall_same ms) (fun_ext (settled-same profile most ms))

  order-same : (profile : Profile) (board : List ℕ) → order_of profile (started_of board) one ≡ order_of profile (started_of board) other
  unfolding order_of
  order-same profile board =
      ap (λ (settle : List ℕ → List ℕ). flat_map settle (split (by_points (started_of board)) all_clubs))
      (fun_ext (λ tied. settled-same profile (length tied) (started_of board) tied))

  row-same : (profile : Profile) (board : List ℕ) (place : ℕ) → row_of profile board one place ≡ row_of profile board other place
  unfolding row_of mark_of
  row-same profile board place =
      ap (λ (order : List ℕ). let slot : ℕ = slice_index order (place - 1) in row_with place slot (mark_by (matches_of board) order slot) (started_of board))
      (order-same profile board)

-- two rosters with the same coefficients, slot by slot, give the same table of a board
pub table-same : TableGoesByCoefficients
table-same profile board one other same = ap (λ (row : ℕ → Row). map row (1 ∷ 2 ∷ 3 ∷ 4 ∷ [])) (fun_ext (row-same one other same profile board))
