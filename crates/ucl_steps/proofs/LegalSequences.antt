-- Runs of the board of one thread: which entries there are after the first operations, what it replies then, and that entries stay; and calls
-- in their places (Placed.antt) as such a run.
use Rattle.ucl_steps.proofs.Common.{inl, inr, ◌+◌, ◌<◌, cases_order, length, map, length-take-le, slice_get-map, option_map, board_of, Copied}
use Rattle.ucl_steps.proofs.Points.{IsExplained, sequential_answer}
use Rattle.ucl_word.proofs.Sequences.{take_one}
use Rattle.ucl_steps.proofs.EventLists.{IsOperationAt, one_answer}
use Rattle.ucl_steps.proofs.Placed.{Done, Each, Pairs, PointsFrom, operation_with, pair_at, size, size_cases, sizes}
use Rattle.ucl_steps.proofs.Common.{◌≡◌, ℕ, zero, suc, ◌≤◌, Bool, true, false, cond, List, [], ◌∷◌, take, Some, slice_get, refl, sym, ap, ◌∙◌, subst, arith}
use Rattle.ucl_steps.proofs.Common.{none-some, same_Some, Entry, EventCall, entry_of, sequential_reply, IsPrefix, Call, Event, Reading, Reply, accepts}
use Rattle.std.specs.Prelude.{Ok, Err, Result}
use Rattle.std.specs.Result.{is_ok}
use Rattle.ucl_word.specs.declared.event.Accepted as event
use Rattle.ucl_word.specs.declared.refusal.Refusal.{Refusal}
use Rattle.ucl_board.specs.History.{followed_by}
use Rattle.ucl_board.proofs.HistoryTheorems.{begins_more, begins_same, begins_through}
use Rattle.ucl_steps.specs.BoardObject.{BoardEvent, board_object, object_entries, object_reply}
use Rattle.ucl_steps.specs.Linearizability.{IsLinearization, IsLegalSequence, IsOperation, Operation, state_after}
use Rattle.ucl_steps.specs.Protocol.{report_reply}

-- a report is accepted if the rules say so
pub accepts_is : (r : Result event.Accepted Refusal) → accepts (report_reply r) ≡ is_ok r
accepts_is (Ok accepted) = refl
accepts_is (Err refusal) = refl

-- a call of which the reply does not accept leaves the board of one thread, and an accepted report adds its entry
pub left_by : (h : List Entry) (number : ℕ) (call : Call) → accepts (object_reply h call) ≡ false → object_entries h number call ≡ h
left_by h number (Event e) not = ap (λ (b : Bool). cond b (followed_by h (entry_of number e)) h) (sym (accepts_is (sequential_reply h e)) ∙ not)
left_by h number Reading not = refl

pub added_to : (h : List Entry) (number : ℕ) (e : EventCall) → accepts (object_reply h (Event e)) ≡ true → object_entries h number (Event e) ≡ followed_by h (entry_of number e)
added_to h number e made = ap (λ (b : Bool). cond b (followed_by h (entry_of number e)) h) (sym (accepts_is (sequential_reply h e)) ∙ made)

-- entries stay
stay : (h : List Entry) (number : ℕ) (call : Call) → IsPrefix h (object_entries h number call)
stay h number Reading = begins_same h
stay h number (Event e) = by (is_ok (sequential_reply h e))
  where
    by : (b : Bool) → IsPrefix h (cond b (followed_by h (entry_of number e)) h)
    by true = begins_more h h (entry_of number e) (begins_same h)
    by false = begins_same h

-- the entries after these operations on a board with some
abbrev pub entries_by : List Entry → List (Operation (ℕ × Call) Reply) → List Entry
entries_by h run = state_after board_object h run

-- each reply is that of the board after the operations before it
pub reply_at : (h : List Entry) (run : List (Operation (ℕ × Call) Reply)) → IsLegalSequence board_object h run → (i : ℕ) (o : Operation (ℕ × Call) Reply)
    → slice_get run i ≡ Some o → o.reply ≡ object_reply (entries_by h (take i run)) o.call.1
reply_at h [] legal i o at = absurd (none-some o at)
reply_at h (x ∷ run) legal zero o at = subst (λ (y : Operation (ℕ × Call) Reply). y.reply ≡ object_reply h y.call.1) (same_Some x o at) legal.0
reply_at h (x ∷ run) legal (suc i) o at = reply_at (object_entries h x.call.0 x.call.1) run legal.1 i o at

-- more operations leave the entries, and add theirs after them
pub entries_grow : (h : List Entry) (run : List (Operation (ℕ × Call) Reply)) (i j : ℕ) → i ≤ j → IsPrefix (entries_by h (take i run)) (entries_by h (take j run))
entries_grow h [] zero j le = begins_none_by j
  where
    begins_none_by : (n : ℕ) → IsPrefix h (entries_by h (take n []))
    begins_none_by zero = begins_same h
    begins_none_by (suc n) = begins_same h
entries_grow h [] (suc i) zero le = absurd (omega arith)
entries_grow h [] (suc i) (suc j) le = begins_same h
entries_grow h (x ∷ run) zero zero le = begins_same h
entries_grow h (x ∷ run) zero (suc j) le =
    let next = object_entries h x.call.0 x.call.1 in
    begins_through h next (entries_by next (take j run)) (stay h x.call.0 x.call.1) (entries_grow next run 0 j (omega arith))
entries_grow h (x ∷ run) (suc i) zero le = absurd (omega arith)
entries_grow h (x ∷ run) (suc i) (suc j) le = entries_grow (object_entries h x.call.0 x.call.1) run i j (omega arith)

-- an accepted report adds its entry to those of the operations before it
pub adds_at : (h : List Entry) (run : List (Operation (ℕ × Call) Reply)) → IsLegalSequence board_object h run → (i : ℕ) (o : Operation (ℕ × Call) Reply) (e : EventCall)
    → slice_get run i ≡ Some o → o.call.1 ≡ Event e → accepts o.reply ≡ true
    → entries_by h (take (suc i) run) ≡ followed_by (entries_by h (take i run)) (entry_of o.call.0 e)
adds_at h [] legal i o e at asked made = absurd (none-some o at)
adds_at h (x ∷ run) legal zero o e at asked made =
    let same = same_Some x o at in
    let asks : x.call.1 ≡ Event e = ap (λ (y : Operation (ℕ × Call) Reply). y.call.1) same ∙ asked in
    let reply = ap accepts (sym legal.0 ∙ ap (λ (y : Operation (ℕ × Call) Reply). y.reply) same) ∙ made in
    ap (object_entries h x.call.0) asks
    ∙ (added_to h x.call.0 e (ap (λ (c : Call). accepts (object_reply h c)) (sym asks) ∙ reply)
    ∙ ap (λ (y : Operation (ℕ × Call) Reply). followed_by h (entry_of y.call.0 e)) same)
adds_at h (x ∷ run) legal (suc i) o e at asked made = adds_at (object_entries h x.call.0 x.call.1) run legal.1 i o e at asked made

-- what the board of one thread replies to a call after the first entries of a history
reply_is : (h : List Entry) (k : ℕ) (call : Call) → k ≤ length h → sequential_answer h k call ≡ object_reply (take k h) call
reply_is h k (Event event) low = refl
reply_is h k Reading low = ap (λ (n : ℕ). Copied (record { board = board_of (take k h); version = n })) (sym (length-take-le k h low))

module _ (h : List Entry) where
  -- the entries after a call that a history explains, made when there were as many as its point
  entries_then : (d : Done) → IsExplained h d.call → object_entries (take d.call.point h) d.call.number d.call.call ≡ take (d.call.point + size d) h
  entries_then d s =
      let c = d.call in
      let low = s.within in
      let answer : c.reply ≡ object_reply (take c.point h) c.call = s.answer ∙ reply_is h c.point c.call (omega arith) in
      elim (size_cases d) [
        | inr t ↦
            let none = t.1 in
            let same : c.point ≡ c.point + size d = omega arith in
            left_by (take c.point h) c.number c.call (ap accepts (sym answer) ∙ t.0) ∙ ap (λ (k : ℕ). take k h) same
        | inl t ↦
            let m = s.makes t.0 in
            let one = t.1 in
            let more : suc c.point ≡ c.point + size d = omega arith in
            let asked = ap (λ (call : Call). accepts (object_reply (take c.point h) call)) (sym m.entered) in
            ap (object_entries (take c.point h) c.number) m.entered
            ∙ (added_to (take c.point h) c.number m.event (asked ∙ (ap accepts (sym answer) ∙ t.0))
            ∙ (sym (take_one h c.point (entry_of c.number m.event) m.entry) ∙ ap (λ (k : ℕ). take k h) more))
      ]

  -- calls with points from n on are a run of the board of one thread from the first n entries on
  sequential : (place : Done → ℕ) (list : List Done) (n : ℕ) → PointsFrom n list → Each (λ e. IsExplained h e.call) list
      → IsLegalSequence board_object (take n h) (map (operation_with place) list)
  sequential place [] n points each = tt
  sequential place (d ∷ list) n points each =
      let c = d.call in
      let s = each 0 d refl in
      let low = s.within in
      let reply = subst (λ (m : ℕ). c.reply ≡ object_reply (take m h) c.call) points.0 (s.answer ∙ reply_is h c.point c.call (omega arith)) in
      let left = subst (λ (m : ℕ). object_entries (take m h) c.number c.call ≡ take (m + size d) h) points.0 (entries_then d s) in
      let rest = sequential place list (n + size d) points.1 (λ q. each (suc q)) in
      (reply, subst (λ (entries : List Entry). IsLegalSequence board_object entries (map (operation_with place) list)) (sym left) rest)

  -- and they leave as many entries more as they made
  pub leaves : (place : Done → ℕ) (list : List Done) (n : ℕ) → PointsFrom n list → Each (λ e. IsExplained h e.call) list
      → state_after board_object (take n h) (map (operation_with place) list) ≡ take (n + sizes list) h
  leaves place [] n points each = let same : n ≡ n + 0 = omega arith in ap (λ (k : ℕ). take k h) same
  leaves place (d ∷ list) n points each =
      let c = d.call in
      let left = subst (λ (m : ℕ). object_entries (take m h) c.number c.call ≡ take (m + size d) h) points.0 (entries_then d (each 0 d refl)) in
      let sum : (n + size d) + sizes list ≡ n + (size d + sizes list) = omega arith in
      ap (λ (entries : List Entry). state_after board_object entries (map (operation_with place) list)) left
      ∙ (leaves place list (n + size d) points.1 (λ q. each (suc q)) ∙ ap (λ (k : ℕ). take k h) sum)

-- each element of the image of a list is the image of an element
from_map : {X Y : Type 0} (f : X → Y) (xs : List X) (k : ℕ) (y : Y) → slice_get (map f xs) k ≡ Some y → (x : X) × (slice_get xs k ≡ Some x) × (f x ≡ y)
from_map f [] k y at = absurd (none-some y at)
from_map f (x ∷ xs) zero y at = (x, refl, same_Some (f x) y at)
from_map f (x ∷ xs) (suc k) y at = from_map f xs k y at

pub to_map : {X Y : Type 0} (f : X → Y) (xs : List X) (k : ℕ) (x : X) → slice_get xs k ≡ Some x → slice_get (map f xs) k ≡ Some (f x)
to_map f xs k x at = slice_get-map f xs k ∙ ap (option_map f) at

-- calls in their places, that a history explains, are a linearization of some events: each is an operation of them, with its invocation at
-- this place, and there are no others; one is no other; and if one got its response before another was invoked, it ended before that began
module _ (h : List Entry) (es : List BoardEvent) (list : List Done) (place : Done → ℕ) (pairs : Pairs list) (points : PointsFrom 0 list)
    (explained : Each (λ e. IsExplained h e.call) list)
    (made : (q : ℕ) (d : Done) → slice_get list q ≡ Some d → (n : ℕ) × IsOperationAt es n (operation_with place d)
    × ((p : ℕ) (e : Done) → slice_get list p ≡ Some e → n < place e → d.call.last_index < e.call.first_index))
    (all : (o : Operation (ℕ × Call) Reply) → IsOperation es o → (q : ℕ) × (d : Done) × (slice_get list q ≡ Some d) × (operation_with place d ≡ o))
    (one : (i j : ℕ) (x y : Done) → slice_get list i ≡ Some x → slice_get list j ≡ Some y → operation_with place x ≡ operation_with place y → (x.seat ≡ y.seat) × (x.turn ≡ y.turn)) where
  -- a call has one place
  one_place : (i j : ℕ) (x y : Done) → slice_get list i ≡ Some x → slice_get list j ≡ Some y → operation_with place x ≡ operation_with place y → i ≡ j
  one_place i j x y at bt same =
      let is = one i j x y at bt same in
      elim (cases_order i j) [
        | inl same ↦ same
        | inr not ↦ elim not [
          | inl less ↦ absurd ((pair_at list pairs i j x y less at bt).apart is.0 is.1)
          | inr more ↦ absurd ((pair_at list pairs j i y x more bt at).apart (sym is.0) (sym is.1))
        ]
      ]

  pub linearization : IsLinearization board_object es (map (operation_with place) list)
  linearization = record {
    legal = sequential h place list 0 points explained;
    operations = λ i o at. let x = from_map (operation_with place) list i o at in subst (IsOperation es) x.2 (made i x.0 x.1).1.0;
    each_once = λ o is.
        let n = all o is in (
          n.0,
          to_map (operation_with place) list n.0 n.1 n.2 ∙ ap (λ (u : Operation (ℕ × Call) Reply). Some u) n.3,
          λ j at. let y = from_map (operation_with place) list j o at in one_place j n.0 y.0 n.1 y.1 n.2 (y.2 ∙ sym n.3),
        );
    order = λ i j a b at bt of_a less.
        let x = from_map (operation_with place) list i a at in
        let y = from_map (operation_with place) list j b bt in
        let m = made i x.0 x.1 in
        let u = subst (IsOperationAt es m.0) x.2 m.1 in
        let answered : of_a.answered ≡ m.0 = one_answer es a of_a u.0 ∙ u.1 in
        let invoked = ap (λ (o : Operation (ℕ × Call) Reply). o.invoked) y.2 in
        let steps = m.2 j y.0 y.1 (omega arith) in
        elim (cases_order i j) [
          | inl same ↦
              let firsts = ap (λ (z : Done). z.call.first_index) (same_Some x.0 y.0 (sym x.1 ∙ (ap (slice_get list) same ∙ y.1))) in
              let turn = (explained i x.0 x.1).turn in
              absurd (omega arith)
          | inr not ↦ elim not [
            | inl before ↦ before
            | inr more ↦ let low = (pair_at list pairs j i y.0 x.0 more y.1 x.1).first in absurd (omega arith)
          ]
        ];
  }
