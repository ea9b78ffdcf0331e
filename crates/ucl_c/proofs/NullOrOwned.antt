-- Steps of walks: a pointer that is null, or owns a box that `Global` frees.
use Rattle.ucl_c.proofs.Common.{◌≡◌, ℕ, false, List, ◌∷◌, refl, sym, subst, T, Ura, ftrue, ent, via, guard, snd∗, guard_i, fact, fact_use, fact_mono, Logic, sem}
use Rattle.ucl_c.proofs.Common.{Item, Goal, Seq, ‵, given, use1, learn, ◌$◌, RattleType, lone, full_share, Ptr, block_ptr, null_ptr, count_of, lies_at, Testable}
use Rattle.ucl_c.proofs.Common.{box_owns, freed, heap, owned_at, is_null}
use lib.Dec.{lit<}
use Prim.Native.Nat.{zero, ◌<◌, ◌^◌}
use mir.Raw.{raw as bare}
use Rattle.std.proofs.GlobalToken.{dealloc_token_start}

-- what `Global` frees is the start of its block, so it may be compared with null
module _ {M : Type 1} {𝓤 : Ura M} (𝓛 : Logic 𝓤) (R : RattleType) (p : Ptr) (x : R.Denot) where
  starts : ent 𝓤 (sem 𝓛 (freed (bare (lone R.mir)) p)) (fact 𝓤 (Testable p))
  starts = via 𝓤 (fact 𝓤 (count_of p ≡ zero)) (dealloc_token_start 𝓛 heap (bare (lone R.mir)) p) (fact_mono 𝓤 (count_of p ≡ zero) (Testable p) (λ e. subst (λ (k : ℕ). k < 2 ^ 63) (sym e) (lit< tt)))

  pub tested : ent 𝓤 (sem 𝓛 (box_owns freed R p x)) (guard 𝓤 (Testable p) (sem 𝓛 (box_owns freed R p x)))
  tested = fact_use 𝓤 (Testable p) (via 𝓤 _ (snd∗ 𝓤 (sem 𝓛 (lies_at R full_share p x)) (sem 𝓛 (freed (bare (lone R.mir)) p))) starts) (guard_i 𝓤 (Testable p) (sem 𝓛 (box_owns freed R p x)))

module _ (R : RattleType) {M : Type 1} {𝓤 : Ura M} {𝓛 : Logic 𝓤} {K : Type 0} {Γ : List (Item 𝓤)} {G : Goal 𝓤 𝓛.H} where
  -- it is null, or it may be compared with null
  pub null_or_owned : K → (p : Ptr) (x : R.Denot) → (p ≡ null_ptr → Seq K 𝓛 (‵ ftrue ∷ Γ) G)
      → ((b o : ℕ) → p ≡ block_ptr b o → Testable (block_ptr b o) → Seq K 𝓛 (‵ (box_owns freed R (block_ptr b o) x) ∷ Γ) G)
      → Seq K 𝓛 (‵ (owned_at (λ q. box_owns freed R q x) p) ∷ Γ) G
  null_or_owned t null_ptr x none one = none refl
  null_or_owned t (block_ptr b o) x none one = use1 𝓛 (given (Testable (block_ptr b o)) (‵ (box_owns freed R (block_ptr b o) x))) (tested 𝓛 R (block_ptr b o) x) $ learn t (λ e. one b o refl e)

  -- it is not null
  pub owned_in_block : K → (p : Ptr) (x : R.Denot) → is_null p ≡ false
      → ((b o : ℕ) → p ≡ block_ptr b o → Seq K 𝓛 (‵ (box_owns freed R (block_ptr b o) x) ∷ Γ) G)
      → Seq K 𝓛 (‵ (owned_at (λ q. box_owns freed R q x) p) ∷ Γ) G
  owned_in_block t null_ptr x not one = absurd (subst T not tt)
  owned_in_block t (block_ptr b o) x not one = one b o refl
