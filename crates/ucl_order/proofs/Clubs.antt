-- What the clubs of a roster are known to be.
use Rattle.ucl_order.proofs.Common.{All, All-cons, All-get_or, All-nil, IsClub, IsRoster, LentClub, List, Member, NamedClub, None, [], and_parts, arith, bad_slot}
use Rattle.ucl_order.proofs.Common.{bad_slot_from, club_lent, is_club, is_name, length, length-map, map, member_seen, members_seen, nat_le}
use Rattle.ucl_order.proofs.Common.{cases_Bool, inl, inr, nat_tests, slice_index_or, subst, true, ℕ, ◌+◌, ◌<◌, ◌∷◌, ◌≡◌, ◌≤◌}
use Rattle.std.proofs.lemmas.List.{get_or-map}
use Rattle.ucl_order.proofs.Slots.{by_four}

-- each of the four members of a roster, which are its clubs as the code keeps them, has a valid name and a valid coefficient
pub member_good : (members : List Member) (i : ℕ) (m : Member) → IsRoster (members_seen members) → i < 4 → IsClub (member_seen (slice_index_or members i m))
member_good members i m roster within =
    let same = get_or-map member_seen members i m (member_seen m) in
    let four = roster.four in
    let inside : i < length members = omega (arith, length-map members member_seen) in
    let inside_too : i < length (members_seen members) = omega arith in
    subst IsClub (same inside) (All-get_or IsClub (members_seen members) i (member_seen m) inside_too roster.each)

-- each of the four members of a roster has a valid name: 1 to 20 bytes of printed ASCII
pub name_good : (members : List Member) (i : ℕ) (m : Member) → IsRoster (members_seen members) → i < 4 → is_name (slice_index_or members i m).name.items ≡ true
unfolding is_club
name_good members i m roster within = (and_parts _ _ (member_good members i m roster within)).0

-- each of the four members of a roster has a coefficient of at most 999,999
pub coefficient_good : (members : List Member) (i : ℕ) (m : Member) → IsRoster (members_seen members) → i < 4 → (slice_index_or members i m).coefficient ≤ 999999
unfolding is_club
coefficient_good members i m roster within =
    let h : nat_le (slice_index_or members i m).coefficient 999999 ≡ true =
    (and_parts (is_name (slice_index_or members i m).name.items) _ (member_good members i m roster within)).1 in
    grind (arith, nat_tests)

-- if four clubs are valid, and four members of a roster have the same names and coefficients, the members are these clubs, and no slot is
-- bad; `seen` gives the name and the coefficient of a club, as the code has it
pub four_taken : {X : Type 0} (seen : X → NamedClub) (clubs : List X) (p q r s : X) (w x y z : Member) → length clubs ≡ 4
    → IsClub (seen (slice_index_or clubs 0 p)) × (member_seen w ≡ seen (slice_index_or clubs 0 p))
    → IsClub (seen (slice_index_or clubs 1 q)) × (member_seen x ≡ seen (slice_index_or clubs 1 q))
    → IsClub (seen (slice_index_or clubs 2 r)) × (member_seen y ≡ seen (slice_index_or clubs 2 r))
    → IsClub (seen (slice_index_or clubs 3 s)) × (member_seen z ≡ seen (slice_index_or clubs 3 s))
    → (members_seen (w ∷ x ∷ y ∷ z ∷ []) ≡ map seen clubs) × (bad_slot (map seen clubs) ≡ None)
unfolding bad_slot_from
four_taken seen (e ∷ f ∷ g ∷ h ∷ []) p q r s w x y z n a b c d = (rw (a.1, b.1, c.1, d.1), rw (a.0, b.0, c.0, d.0))
four_taken seen clubs p q r s w x y z n a b c d = absurd (omega arith)

-- if no slot of a list of clubs is bad, each club has a valid name and a valid coefficient
clubs-good : (slot : ℕ) (clubs : List NamedClub) → bad_slot_from slot clubs ≡ None → All IsClub clubs
unfolding bad_slot_from
clubs-good slot [] none = All-nil IsClub
clubs-good slot (club ∷ clubs) none = elim (cases_Bool (is_club club)) [
  | inl good ↦ All-cons IsClub club clubs good (clubs-good (slot + 1) clubs (rw good at none))
  | inr bad ↦ cc (rw bad at none)
]

-- four clubs, none with a bad name or a bad coefficient, are a roster
pub good_four : (clubs : List NamedClub) → length clubs ≡ 4 → bad_slot clubs ≡ None → IsRoster clubs
good_four clubs four none = record { four = four; each = clubs-good 1 clubs none }
