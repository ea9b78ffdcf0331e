-- Bytes that move in several calls, and texts that are put one after the other.
use Rattle.std.proofs.Common.{◌≡◌, ℕ, ◌+◌, ◌-◌, ◌≤◌, Bool, true, false, List, [], ◌++◌, length, take, drop, Option, refl, sym, ap, ◌∙◌}
use Rattle.std.proofs.Common.{append_assoc, arith, true≢false, suc, ◌^◌, min, ◌∷◌, subst, append-nil, length-append}
use Rattle.std.proofs.KnownBytes.{Appends-nil, Appends-trans}
use Rattle.std.proofs.lemmas.Bool.{false_from_ne_true}
use Rattle.std.proofs.lemmas.Grind.{common_steps}
use Rattle.std.proofs.Math.Seq.{take-add}
use Rattle.std.proofs.lemmas.List.{take-append-le}
use Rattle.std.specs.Io.KnownBytes.{Appends}
use Rattle.std.specs.Prelude.{⊤, Err}
use Rattle.ucl_io.specs.declared.fault.ServeFault.{ServeFault}
use Rattle.ucl_io.specs.declared.fault.ServeFault.TheVariants.{WriteFailed}
use Rattle.ucl_io.specs.Output.{HasPut, Outlet, PutsOrStops, StopsIn, StoppedShort, WritesOn}

-- if a sink took the first `at` bytes of a text, and then n bytes of the rest, it took the first `at + n` bytes of the text
pub gives-more : (a b c : Option (List ℕ)) (at n : ℕ) (text : List ℕ) → at + n ≤ length text → Appends a b (take at text)
    → Appends b c (take n (take (length text - at) (drop at text))) → Appends a c (take (at + n) text)
gives-more a b c at n text le p q =
    let part : take n (take (length text - at) (drop at text)) ≡ take n (drop at text) = grind (arith, common_steps) in
    rw (take-add at n text) (Appends-trans a b c (take at text) (take n (drop at text)) p (rw part at q))

-- two Booleans, whether a sink has failed at two times, are equal if neither can be true
pub same_failed : (a b : Bool) → (a ≡ true → true ≡ false) → (b ≡ true → true ≡ false) → a ≡ b
same_failed a b p q = false_from_ne_true a (λ e. true≢false (p e)) ∙ sym (false_from_ne_true b (λ e. true≢false (q e)))

-- the first bytes of two parts, as many as the first has and n more, are the first part and n bytes of the second
pub take_past : (a b : List ℕ) (n : ℕ) → take (length a + n) (a ++ b) ≡ a ++ take n b
take_past [] b n = let none : length {A = ℕ} [] + n ≡ n = omega arith in ap (λ k. take k b) none
take_past (x ∷ a) b n = let one : length (x ∷ a) + n ≡ suc (length a + n) = omega arith in ap (λ k. take k (x ∷ a ++ b)) one ∙ ap (λ (l : List ℕ). x ∷ l) (take_past a b n)

-- a count up to 2^64 - 1 that grew by a and then by b grew by a + b
count_then : (before mid after a b : ℕ) → mid ≡ min (before + a) (2 ^ 64 - 1) → after ≡ min (mid + b) (2 ^ 64 - 1) → after ≡ min (before + (a + b)) (2 ^ 64 - 1)
count_then before mid after a b p q = omega arith

-- a sink that failed in the first of two parts failed in the two
pub stopped_first : (before : ℕ) (failed : Bool) (old new : Option (List ℕ)) (a b : List ℕ) (written : ℕ) → StoppedShort before failed old new a written
    → StoppedShort before failed old new (a ++ b) written
stopped_first before failed old new a b written s = let cut = s.first.cut in let long = length-append a b in record {
  failed_is = s.failed_is;
  count = s.count;
  first = record { cut = omega arith; out = subst (Appends old new) (sym (take-append-le s.count a b (omega arith))) s.first.out };
  told = s.told;
}

-- a sink that failed in the second of two parts, after the first went out, failed in the two
pub stopped_second : (before total : ℕ) (failed : Bool) (old mid new : Option (List ℕ)) (a b : List ℕ) (written : ℕ) → Appends old mid a → total ≡ min (before + length a) (2 ^ 64 - 1)
    → StoppedShort total failed mid new b written → StoppedShort before failed old new (a ++ b) written
stopped_second before total failed old mid new a b written out total_is s = let cut = s.first.cut in let long = length-append a b in record {
  failed_is = s.failed_is;
  count = length a + s.count;
  first = record {
    cut = omega arith;
    out = subst (Appends old new) (sym (take_past a b s.count)) (Appends-trans old mid new a (take s.count b) out s.first.out);
  };
  told = count_then before total written (length a) s.count total_is s.told;
}

-- where nothing is done, the empty text has been put
pub put_nothing : (a : Outlet) → a.out ≤ 2 ^ 64 - 1 → HasPut a a []
put_nothing a h = record { given = []; went = Appends-nil a.taken; rest = sym (append-nil a.held); told = omega arith; sound = refl }

-- what went out when t was put, what waits then, and u are together what waited before, t and u
all_put : (a b : Outlet) (t u : List ℕ) (p : HasPut a b t) → p.given ++ (b.held ++ u) ≡ a.held ++ (t ++ u)
all_put a b t u p = sym (append_assoc p.given b.held u) ∙ ap (λ (l : List ℕ). l ++ u) p.rest ∙ append_assoc a.held t u

-- two texts that were put one after the other are put as one
pub put_then : (a b c : Outlet) (t u : List ℕ) → HasPut a b t → HasPut b c u → HasPut a c (t ++ u)
put_then a b c t u p q =
    let long = length-append p.given q.given in record {
      given = p.given ++ q.given;
      went = Appends-trans a.taken b.taken c.taken p.given q.given p.went q.went;
      rest = append_assoc p.given q.given c.held ∙ ap (λ (l : List ℕ). p.given ++ l) q.rest ∙ all_put a b t u p;
      told = rw long (count_then a.out b.out c.out (length p.given) (length q.given) p.told q.told);
      sound = q.sound ∙ p.sound;
    }

-- if the sink fails in the second of two texts, it fails in both as one text
pub put_stops : (a b c : Outlet) (t u : List ℕ) (n : ℕ) → HasPut a b t → StopsIn b c u n → StopsIn a c (t ++ u) n
put_stops a b c t u n p s =
    subst (λ (l : List ℕ). StoppedShort a.out c.failed a.taken c.taken l n) (all_put a b t u p)
    (stopped_second a.out b.out c.failed a.taken b.taken c.taken p.given (b.held ++ u) n p.went p.told s)

-- if a text was put, and then the empty text, as when what waits is given to the sink, this is as if just the text was put
pub put_flushed : (a b c : Outlet) (t : List ℕ) → HasPut a b t → HasPut b c [] → HasPut a c t
put_flushed a b c t p q = subst (HasPut a c) (append-nil t) (put_then a b c t [] p q)

-- if a text was put, and the sink then fails in what waits, it fails in what waited before and this text
pub put_cut : (a b c : Outlet) (t : List ℕ) (n : ℕ) → HasPut a b t → StopsIn b c [] n → StopsIn a c t n
put_cut a b c t n p s = subst (λ (l : List ℕ). StopsIn a c l n) (append-nil t) (put_stops a b c t [] n p s)

-- if nothing waited before a text was put and nothing waits after it, the sink took the whole text
pub all_out : (a b : Outlet) (t : List ℕ) → HasPut a b t → a.held ≡ [] → b.held ≡ [] → Appends a.taken b.taken t
all_out a b t p none none2 =
    let e : p.given ≡ t = sym (append-nil p.given) ∙ ap (λ (l : List ℕ). p.given ++ l) (sym none2) ∙ p.rest ∙ ap (λ (l : List ℕ). l ++ t) none in
    subst (Appends a.taken b.taken) e p.went

-- if a sink took a text and did not fail, and nothing waited before and nothing waits after it, the text has been put
pub given_after : (a b : Outlet) (text : List ℕ) → a.held ≡ [] → b.held ≡ [] → Appends a.taken b.taken text → b.out ≡ min (a.out + length text) (2 ^ 64 - 1) → b.failed ≡ a.failed → HasPut a b text
given_after a b text none none2 went told sound = record { given = text; went = went; rest = rw (none, none2) (append-nil text); told = told; sound = sound }

module _ (F : Type 0) where
  -- a sink that failed in a text failed in what waited and this text
  pub short_within : (a b c : Outlet) (text : List ℕ) (f : ServeFault F) → HasPut a b [] → b.held ≡ [] → WritesOn b c text (Err f)
      → PutsOrStops {V = ⊤} a c text (Err f)
  short_within a b c text (WriteFailed n) put none s = put_stops a b c [] text n put (rw none s)
  short_within _ _ _ _ _ _ _ s = absurd s
