-- A source that is called once more.
use Rattle.std.proofs.Common.{◌≡◌, ℕ, ◌+◌, List, [], ◌∷◌, ◌++◌, length, Option, Some, None, sym, ap, ◌∙◌, subst, append_assoc, append-nil}
use Rattle.std.proofs.Common.{arith, length-append, suc, ◌≤◌}
use Rattle.std.specs.Prelude.{IfSome}
use Rattle.std.specs.Io.KnownBytes.{Consumes, IsAtEnd}
use Rattle.ucl_io.specs.Calls.{HasEnded, InTurn, LogsCalls, call, none}

-- without a call of a source, its log and its number of calls stay as they are
abbrev pub logs-none : {T : Type 0} (count : T → ℕ) (old : List T) (calls : ℕ) (P : T → List ℕ → Type 0) → LogsCalls count old old calls calls P
logs-none count old calls P = record { times = []; more = sym (append-nil old); each = omega arith; least = 0; in_turn = none }

-- if a source is called once more, when more bytes have come than at the call before, its log grows by the time just before this call
abbrev pub logs-then : {T : Type 0} (count : T → ℕ) (old mid new : List T) (calls calls2 calls3 : ℕ) (P : T → List ℕ → Type 0) (time : T) (bytes : List ℕ) (p : LogsCalls count old mid calls calls2 P)
    → new ≡ mid ++ time ∷ [] → calls3 ≡ calls2 + 1 → count time ≡ calls2 → p.least ≤ length bytes → P time bytes → LogsCalls count old new calls calls3 P
logs-then count old mid new calls calls2 calls3 P time bytes p e k is least h =
    let long = length-append p.times (time ∷ []) in
    let each = p.each in record {
      times = p.times ++ time ∷ [];
      more = e ∙ ap (λ l. l ++ time ∷ []) p.more ∙ append_assoc old p.times (time ∷ []);
      each = omega arith;
      least = suc (length bytes);
      in_turn = call time bytes p.in_turn (is ∙ each) least h;
    }

-- if P implies Q, and a source was called at these moments, each with P of the moment and the bytes by then, so it was with Q (`InTurn`)
pub turns-as : {T : Type 0} (count : T → ℕ) (calls : ℕ) (P Q : T → List ℕ → Type 0) → ((time : T) (bytes : List ℕ) → P time bytes → Q time bytes) → {times : List T} {least : ℕ}
    → InTurn count calls P times least → InTurn count calls Q times least
turns-as count calls P Q gives none = none
turns-as count calls P Q gives (call time bytes p is more h) = call time bytes (turns-as count calls P Q gives p) is more (gives time bytes h)

-- if P implies Q, a log of calls at each of which P holds is a log of calls at each of which Q holds
abbrev pub logs-as : {T : Type 0} (count : T → ℕ) (old new : List T) (calls calls2 : ℕ) (P Q : T → List ℕ → Type 0) → ((time : T) (bytes : List ℕ) → P time bytes → Q time bytes)
    → LogsCalls count old new calls calls2 P → LogsCalls count old new calls calls2 Q
logs-as count old new calls calls2 P Q gives p = record {
  times = p.times;
  more = p.more;
  each = p.each;
  least = p.least;
  in_turn = turns-as count calls P Q gives p.in_turn;
}

-- a source that is at its end, and then gives no bytes, has no bytes left afterwards
pub ended : (left left2 : Option (List ℕ)) → IsAtEnd left → Consumes left left2 [] → HasEnded left left2
ended None left2 e moved = tt
ended (Some xs) None e moved = absurd moved
ended (Some xs) (Some ys) e moved = ap (λ (l : List ℕ). Some l) (sym moved ∙ e)

-- if a source gave some bytes, and of those left then none is left in the end, none is left of those that it had at first
pub ended-since : (first left left2 : Option (List ℕ)) (bytes : List ℕ) → Consumes first left bytes → HasEnded left left2 → HasEnded first left2
ended-since None left left2 bytes took h = tt
ended-since (Some xs) None left2 bytes took h = absurd took
ended-since (Some xs) (Some ys) left2 bytes took h = h

-- if a source gave these bytes and has none left, and P holds of them, P holds of all bytes that it had left at first, if these are known
pub holds_of_all : (P : List ℕ → Type 0) (left left2 : Option (List ℕ)) (bytes : List ℕ) → HasEnded left left2 → Consumes left left2 bytes → P bytes → IfSome left P
holds_of_all P None left2 bytes over took p = tt
holds_of_all P (Some xs) None bytes over took p = absurd took
holds_of_all P (Some xs) (Some ys) bytes over took p =
    let no_byte : ys ≡ [] = ap (elim [ None ↦ ys | Some l ↦ l ]) over in
    subst P (sym (took ∙ ap (λ (l : List ℕ). bytes ++ l) no_byte ∙ append-nil bytes)) p
