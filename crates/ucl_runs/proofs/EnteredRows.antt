-- The points of rows in one history: each row of two reporters, who report theirs in turn, each on a pass, a thread's permission, of its own.
use Rattle.ucl_runs.proofs.Common.{Accepted, All, All-get_or, Attempt, Bool, ComesFirst, Continues, Entry, EventCall, HasEnteredAll}
use Rattle.ucl_runs.proofs.Common.{HaveEntered}
use Rattle.ucl_runs.proofs.Common.{HasLinearizationPoint, HasReported, IsEnteredAt, IsFresh, IsFreshOn, IsInterleaving, IsLegal, IsOfRow}
use Rattle.ucl_runs.proofs.Common.{IsOnDuty, IsOneOfTwo, IsPrefix, IsSound, List, NightEvent, PassView, Refusal, Some, [], ap, arith}
use Rattle.ucl_runs.proofs.Common.{at_beginning, at_below, at_either, at_end, at_within, attempt_by, attempted, begins_length, begins_take}
use Rattle.ucl_runs.proofs.Common.{begins_through, calls_of, cases_eq, cases_lt, cases_order, cond, entries_by, entry_of, eq-eqb, false}
use Rattle.ucl_runs.proofs.Common.{false≢true, followed_by, get_or_from_slice_get, get_some, if◌then◌else◌, inl, inr, is_ok, le_refl}
use Rattle.ucl_runs.proofs.Common.{legal_take, length, length-append, ne_eqb, nil_from_length, none-some, number_of_two, refl, same_Some}
use Rattle.ucl_runs.proofs.Common.{same_from_push, sequential_reply, slice_get, subst, suc, sym, take, take-append_seam, take-length}
use Rattle.ucl_runs.proofs.Common.{take_beginning, true, zero, ℕ, ◌++◌, ◌<◌, ◌==◌, ◌∙◌, ◌∷◌, ◌≡◌, ◌≢◌, ◌≤◌, ◌⊎◌}
use Rattle.ucl_live_board.proofs.Lists.{by_more, by_own, goes_on, unchanged}
use Rattle.std.proofs.Common.{Result, Ok, Err}
use Rattle.ucl_live_board.specs.LiveRecords.{LiveReported}
use Rattle.ucl_live_board.specs.declared.live_board.LiveBoard as boards
use Rattle.ucl_live_board.specs.Settling.{Settled, IsOfBoth}

-- a history, and one that begins with it
module _ (s h : List Entry) (on : IsPrefix s h) where
  -- the reply to an event after entries that both have is of one kind
  reply_on : (call : EventCall) (p : ℕ) → p ≤ length s → is_ok (sequential_reply (take p h) call) ≡ is_ok (sequential_reply (take p s) call)
  reply_on call p within = rw (take_beginning s h p on within)

  -- an attempt that was entered, or has its point, in the first has it in the longer one too
  pub entered_on : {a : Attempt} {p : ℕ} → IsEnteredAt s a p → IsEnteredAt h a p
  entered_on {a} {p} e = record {
    entry = at_beginning s h p _ on e.entry;
    reply = (let x = at_below s p _ e.entry in reply_on a.call p (omega arith) ∙ e.reply);
  }

  pub place_on : {a : Attempt} {p : ℕ} → HasLinearizationPoint s a p → HasLinearizationPoint h a p
  place_on {a} {p} (inl r) =
      let x = r.within in
      let y = begins_length s h on in inl (record { within = omega arith; reply = reply_on a.call p x ∙ r.reply })
  place_on (inr e) = inr (entered_on e)

  -- what was refused is not entered later at the same point
  pub entered_before : {a : Attempt} {p : ℕ} → HasLinearizationPoint s a p → IsEnteredAt h a p → IsEnteredAt s a p
  entered_before {a} {p} (inl r) is = absurd (false≢true (sym (reply_on a.call p r.within ∙ r.reply) ∙ is.reply))
  entered_before (inr e) is = e

-- an attempt that is entered at place p of a history is the entry there, so p is below the length of the history
pub entered_within : {h : List Entry} {a : Attempt} {p : ℕ} → IsEnteredAt h a p → p < length h
entered_within {h} {p = p} is = at_below h p _ is.entry

-- the linearization point of an attempt is at most the length of the history
pub place_within : {h : List Entry} {a : Attempt} {p : ℕ} → HasLinearizationPoint h a p → p ≤ length h
place_within (inl r) = r.within
place_within (inr e) = let x = entered_within e in omega arith

-- if a list, with x before it if b holds, is empty, then b does not hold, and the list is empty
one_by : (b : Bool) (x : Entry) (xs : List Entry) → cond b (x ∷ xs) xs ≡ [] → (b ≡ false) × (xs ≡ [])
one_by true x xs none = absurd cc
one_by false x xs none = (refl, none)

-- if the list of the entries of reporter n in a history is empty, an entry at any place p of the history is of another reporter
pub none_by : (n : ℕ) (h : List Entry) (p : ℕ) (e : Entry) → entries_by n h ≡ [] → slice_get h p ≡ Some e → e.reporter ≢ n
none_by n [] p e none at is = none-some e at
none_by n (x ∷ h) zero e none at is =
    let same : x.reporter ≡ n = ap (λ (y : Entry). y.reporter) (same_Some x e at) ∙ is in
    false≢true (sym (one_by (x.reporter == n) x (entries_by n h) none).0 ∙ eq-eqb x.reporter n same)
none_by n (x ∷ h) (suc p) e none at is = none_by n h p e (one_by (x.reporter == n) x (entries_by n h) none).1 at is

-- an entry of `xs ++ ys` at a place past all of xs is an entry of ys
at_rest : (xs ys : List Entry) (p : ℕ) (e : Entry) → length xs ≤ p → slice_get (xs ++ ys) p ≡ Some e → (q : ℕ) × (slice_get ys q ≡ Some e)
at_rest [] ys p e past at = (p, at)
at_rest (x ∷ xs) ys zero e past at = absurd (omega arith)
at_rest (x ∷ xs) ys (suc p) e past at = at_rest xs ys p e (omega arith) at

-- if h begins with s, and has no more entries of reporter n than s, each entry of n in h stands within s
pub stands_before : (n : ℕ) (s h : List Entry) (on : IsPrefix s h) → entries_by n h ≡ entries_by n s → {p : ℕ} {e : Entry}
    → slice_get h p ≡ Some e → e.reporter ≡ n → p < length s
stands_before n s h on same {p} {e} at is = elim (cases_lt p (length s)) [
  | inl below ↦ below
  | inr past ↦
      let cut = ap length (sym same ∙ by_more n s h on) ∙ length-append (entries_by n s) (entries_by n on.0) in
      let none : entries_by n on.0 ≡ [] = nil_from_length (entries_by n on.0) (omega arith) in
      let t = at_rest s on.0 p e past (rw on.1 at) in
      absurd (none_by n on.0 t.0 e none t.1 is)
]

-- all rows of a script are of reporters 1 and 2
abbrev pub AllOnDuty : List NightEvent → Type 0
AllOnDuty rows = (i : ℕ) (row : NightEvent) → slice_get rows i ≡ Some row → IsOnDuty row

-- if all rows are of reporters 1 and 2, so is the row at each place
pub each_on_duty : (rows : List NightEvent) → All IsOnDuty rows → AllOnDuty rows
each_on_duty rows all i row at = subst IsOnDuty (get_or_from_slice_get rows i row row at) (All-get_or IsOnDuty rows i row (at_below rows i row at) all)

-- a report, accepted or refused, does not change the versions that its pass has read (`shown`)
pub report_shown : (old new : PassView) (call : EventCall) (reply : Result Accepted Refusal) → LiveReported old call reply new → new.shown ≡ old.shown
report_shown old new call (Ok accepted) says = says.accepted.shown
report_shown old new call (Err refusal) says = says.refused.shown

-- a report by a pass, `old` and then `new`, has a linearization point in the history seen by then, past all that was seen before it; the
-- reporter has no other new entry there
record HasPoint (old new : PassView) (call : EventCall) : Type 0 where
  point : ℕ
  place : HasLinearizationPoint new.seen (attempted old.number call) point
  low : length old.seen ≤ point
  alone : (p : ℕ) (e : Entry) → slice_get new.seen p ≡ Some e → e.reporter ≡ old.number → length old.seen ≤ p
      → (p ≡ point) × IsEnteredAt new.seen (attempted old.number call) point

-- a report by a sound pass has a linearization point, at which its reply is the sequential one, in the history that the pass has then seen
point_of : (old new : PassView) (call : EventCall) (reply : Result Accepted Refusal) → IsSound old → LiveReported old call reply new → HasPoint old new call
point_of old new call (Ok accepted) sound says =
    let a = says.accepted in
    let entry : Entry = entry_of old.number call in
    let entered : IsEnteredAt new.seen (attempted old.number call) (length a.before) = record {
      entry = rw a.last (at_end a.before entry);
      reply = rw (ap (take (length a.before)) a.last ∙ take-append_seam a.before (entry ∷ []), a.answer);
    } in
    let all : followed_by (entries_by old.number a.before) entry ≡ followed_by old.mine entry =
    sym (by_own old.number a.before entry refl) ∙ (rw (← a.last, ← says.always.number) (sym says.always.sound.own) ∙ a.mine) in
    let none_more = (same_from_push (entries_by old.number a.before) old.mine entry entry all).0 ∙ sound.own in
    record {
      point = length a.before;
      place = inr entered;
      low = begins_length old.seen a.before a.since;
      alone = λ p e at is past. elim (at_either a.before entry p e (rw a.last at at)) [
        | inl before ↦ (let below = stands_before old.number old.seen a.before a.since none_more before.1 is in absurd (omega arith))
        | inr last ↦ (last.0, entered)
      ];
    }
point_of old new call (Err refusal) sound says =
    let r = says.refused in
    let on = says.always.on.seen in
    let none_more : entries_by old.number new.seen ≡ entries_by old.number old.seen =
    rw (← says.always.number) (sym says.always.sound.own) ∙ (r.mine ∙ sound.own) in
    record {
      point = length new.seen;
      place = inl (record { within = le_refl _; reply = rw (take-length new.seen, r.answer) });
      low = begins_length old.seen new.seen on;
      alone = λ p e at is past. (let below = stands_before old.number old.seen new.seen on none_more at is in absurd (omega arith));
    }

-- if the first row is of reporter r, the calls of r begin with the call of that row
pub own_calls : (r : ℕ) (row : NightEvent) (rows : List NightEvent) → row.reporter ≡ r → calls_of r (row ∷ rows) ≡ row.call ∷ calls_of r rows
own_calls r row rows is = rw (eq-eqb row.reporter r is) refl

-- if the first row is of another reporter than r, the calls of r are those of the other rows
pub other_calls : (r : ℕ) (row : NightEvent) (rows : List NightEvent) → row.reporter ≢ r → calls_of r (row ∷ rows) ≡ calls_of r rows
other_calls r row rows other = rw (ne_eqb row.reporter r other) refl

-- `one` for reporter 1, and `two` for any other, which is reporter 2
abbrev pub of_two : {A : Type 0} → A → A → ℕ → A
of_two one two reporter = if reporter == 1 then one else two

-- the function f, but with the value `new` for the reporter `who`
abbrev changed : {A : Type 0} → (ℕ → A) → ℕ → A → ℕ → A
changed f who new reporter = if reporter == who then new else f reporter

-- the linearization points of rows, by index, if a row with point q is put before rows with these points
abbrev point_more : ℕ → (ℕ → ℕ) → ℕ → ℕ
point_more q points zero = q
point_more q points (suc i) = points i

module _ {B R P : Type 0} (live : boards.Ghosts B R P) where
  -- calls that were reported, one after the other, leave what holds of a pass after each call, and the versions that it has shown
  pub reported_on : (calls : List EventCall) (old new : P) → HasReported live calls old new → IsSound (live.reporter old)
      → Continues (live.reporter old) (live.reporter new) × ((live.reporter new).shown ≡ (live.reporter old).shown)
  reported_on [] old new same sound = (unchanged _ _ sound (ap live.reporter same), ap (λ (pass : P). (live.reporter pass).shown) same)
  reported_on (call ∷ calls) old new reported sound =
      let says = reported.1.says in
      let rest = reported_on calls reported.0 new reported.2 says.always.sound in
      (goes_on _ _ _ says.always rest.0, rest.1 ∙ report_shown _ _ call reported.1.reply says)

  -- a history h in which all that the passes `new` of both reporters have seen is a beginning, with no more entries under their numbers
  module _ (h : List Entry) (number : ℕ → ℕ) (new : ℕ → P)
      (on : (r : ℕ) → IsOneOfTwo r → IsPrefix (live.reporter (new r)).seen h)
      (within : (r : ℕ) → IsOneOfTwo r → (p : ℕ) (e : Entry) → slice_get h p ≡ Some e → e.reporter ≡ number r → p < length (live.reporter (new r)).seen) where
    abbrev seen_of : P → List Entry
    seen_of pass = (live.reporter pass).seen

    -- the passes have still to report these rows
    record Reports (rows : List NightEvent) (old : ℕ → P) : Type 0 where
      reported : (r : ℕ) → IsOneOfTwo r → HasReported live (calls_of r rows) (old r) (new r)
      sound : (r : ℕ) → IsOneOfTwo r → IsSound (live.reporter (old r))
      number_is : (r : ℕ) → IsOneOfTwo r → (live.reporter (old r)).number ≡ number r

    -- the points of these rows in the history: each past what its reporter's pass had seen, which has no other entry there
    record ArePlaced (rows : List NightEvent) (old : ℕ → P) : Type 0 where
      point : ℕ → ℕ
      each : (i : ℕ) (row : NightEvent) → slice_get rows i ≡ Some row → HasLinearizationPoint h (attempt_by number row) (point i)
      low : (i : ℕ) (row : NightEvent) → slice_get rows i ≡ Some row → length (seen_of (old row.reporter)) ≤ point i
      in_order : (i j : ℕ) (row next : NightEvent) → slice_get rows i ≡ Some row → slice_get rows j ≡ Some next → i < j → row.reporter ≡ next.reporter
          → ComesFirst h (attempt_by number row) (point i) (point j)
      some_row : (r : ℕ) → IsOneOfTwo r → (p : ℕ) (e : Entry) → slice_get h p ≡ Some e → e.reporter ≡ number r → length (seen_of (old r)) ≤ p
          → (i : ℕ) × IsOfRow number rows point h p i

    -- the first of the rows, which its reporter's pass reported, and is then `next`
    module _ (row : NightEvent) (rows : List NightEvent) (old : ℕ → P) (duty : IsOnDuty row) (reports : Reports (row ∷ rows) old) where
      -- the pass reported this row and then its others
      step : HasReported live (row.call ∷ calls_of row.reporter rows) (old row.reporter) (new row.reporter)
      step = subst (λ (calls : List EventCall). HasReported live calls (old row.reporter) (new row.reporter)) (own_calls row.reporter row rows refl)
          (reports.reported row.reporter duty)

      says : LiveReported (live.reporter (old row.reporter)) row.call step.1.reply (live.reporter step.0)
      says = step.1.says

      abbrev later : ℕ → P
      later = changed old row.reporter step.0

      later_next : (r : ℕ) → r ≡ row.reporter → later r ≡ step.0
      later_next r is = rw (eq-eqb r row.reporter is) refl

      later_old : (r : ℕ) → r ≢ row.reporter → later r ≡ old r
      later_old r other = rw (ne_eqb r row.reporter other) refl

      -- the rest of the rows is still to be reported, after this one
      rest : Reports rows later
      rest = record {
        reported = λ r duty_r. elim (cases_eq r row.reporter) [
          | inl is ↦ rw (later_next r is, is) step.2
          | inr other ↦ rw (later_old r other, ← other_calls r row rows (λ same. other (sym same))) (reports.reported r duty_r)
        ];
        sound = λ r duty_r. elim (cases_eq r row.reporter) [
          | inl is ↦ rw (later_next r is) says.always.sound
          | inr other ↦ rw (later_old r other) (reports.sound r duty_r)
        ];
        number_is = λ r duty_r. elim (cases_eq r row.reporter) [
          | inl is ↦ rw (later_next r is, is) (says.always.number ∙ reports.number_is row.reporter duty)
          | inr other ↦ rw (later_old r other) (reports.number_is r duty_r)
        ];
      }

      -- the point of the row, in what its pass has then seen
      spot : HasPoint (live.reporter (old row.reporter)) (live.reporter step.0) row.call
      spot = point_of _ _ row.call step.1.reply (reports.sound row.reporter duty) says

      seen_on : IsPrefix (seen_of step.0) h
      seen_on = begins_through _ _ h (reported_on (calls_of row.reporter rows) step.0 (new row.reporter) step.2 says.always.sound).0.on.seen (on row.reporter duty)

      number_was : (live.reporter (old row.reporter)).number ≡ number row.reporter
      number_was = reports.number_is row.reporter duty

      place_here : HasLinearizationPoint h (attempt_by number row) spot.point
      place_here = rw (← number_was) (place_on (seen_of step.0) h seen_on spot.place)

      -- what a reporter's pass had seen before the row is no longer than what it has seen afterwards
      longer : (r : ℕ) → length (seen_of (old r)) ≤ length (seen_of (later r))
      longer r = elim (cases_eq r row.reporter) [
        | inl is ↦ rw (later_next r is, is) (begins_length _ _ says.always.on.seen)
        | inr other ↦ rw (later_old r other) (le_refl _)
      ]

      module _ (tail : ArePlaced rows later) where
        abbrev points : ℕ → ℕ
        points = point_more spot.point tail.point

        -- a later row of the same reporter
        comes_first : (j : ℕ) (x : NightEvent) → slice_get rows j ≡ Some x → row.reporter ≡ x.reporter
            → ComesFirst h (attempt_by number row) spot.point (tail.point j)
        comes_first j x at same =
            let low = subst (λ (pass : P). length (seen_of pass) ≤ tail.point j) (later_next x.reporter (sym same)) (tail.low j x at) in
            let within = place_within spot.place in
            record {
              never_falls = omega arith;
              rises = λ entered.
                  (let below = entered_within (entered_before (seen_of step.0) h seen_on spot.place (rw number_was entered)) in omega arith);
            }

        -- a row with one more in front is one place later
        shifted : (p i : ℕ) → IsOfRow number rows tail.point h p i → IsOfRow number (row ∷ rows) points h p (suc i)
        shifted p i is = record { row = is.row; here = is.here; point_is = is.point_is; entered = is.entered }

        -- an entry of the row's reporter
        own_row : (p : ℕ) (e : Entry) → slice_get h p ≡ Some e → e.reporter ≡ number row.reporter → length (seen_of (old row.reporter)) ≤ p
            → (i : ℕ) × IsOfRow number (row ∷ rows) points h p i
        own_row p e at is past = elim (cases_lt p (length (seen_of step.0))) [
          | inl below ↦
              let it = spot.alone p e (at_within (seen_of step.0) h p e seen_on below at) (is ∙ sym number_was) past in
              (0, record { row = row; here = refl; point_is = sym it.0; entered = rw (← number_was, it.0) (entered_on (seen_of step.0) h seen_on it.1) })
          | inr after ↦
              let there = tail.some_row row.reporter duty p e at is (rw (later_next row.reporter refl) after) in
              (suc there.0, shifted p there.0 there.1)
        ]

        -- with one row more in front each row still has its point, in the order of rows
        first_placed : ArePlaced (row ∷ rows) old
        first_placed = record {
          point = points;
          each = each_place;
          low = each_low;
          in_order = each_order;
          some_row = λ r duty_r p e at is past. elim (cases_eq r row.reporter) [
            | inl same ↦ own_row p e at (rw same at is) (rw same at past)
            | inr other ↦ (let there = tail.some_row r duty_r p e at is (rw (later_old r other) past) in (suc there.0, shifted p there.0 there.1))
          ];
        }
          where
            each_place : (i : ℕ) (x : NightEvent) → slice_get (row ∷ rows) i ≡ Some x → HasLinearizationPoint h (attempt_by number x) (points i)
            each_place zero x at = subst (λ (y : NightEvent). HasLinearizationPoint h (attempt_by number y) spot.point) (same_Some row x at) place_here
            each_place (suc i) x at = tail.each i x at

            each_low : (i : ℕ) (x : NightEvent) → slice_get (row ∷ rows) i ≡ Some x → length (seen_of (old x.reporter)) ≤ points i
            each_low zero x at = subst (λ (y : NightEvent). length (seen_of (old y.reporter)) ≤ spot.point) (same_Some row x at) spot.low
            each_low (suc i) x at = let a = longer x.reporter in let b = tail.low i x at in omega arith

            each_order : (i j : ℕ) (x y : NightEvent) → slice_get (row ∷ rows) i ≡ Some x → slice_get (row ∷ rows) j ≡ Some y → i < j
                → x.reporter ≡ y.reporter → ComesFirst h (attempt_by number x) (points i) (points j)
            each_order i zero x y at_x at_y below same = absurd (omega arith)
            each_order zero (suc j) x y at_x at_y below same =
                subst (λ (z : NightEvent). ComesFirst h (attempt_by number z) spot.point (tail.point j)) (same_Some row x at_x)
                (comes_first j y at_y (ap (λ (z : NightEvent). z.reporter) (same_Some row x at_x) ∙ same))
            each_order (suc i) (suc j) x y at_x at_y below same = tail.in_order i j x y at_x at_y (omega arith) same

    -- rows that both passes reported have their points in the history
    placed : (rows : List NightEvent) (old : ℕ → P) → AllOnDuty rows → Reports rows old → ArePlaced rows old
    placed [] old duty reports = record {
      point = λ i. 0;
      each = λ i row at. absurd (none-some row at);
      low = λ i row at. absurd (none-some row at);
      in_order = λ i j row next at. absurd (none-some row at);
      some_row = λ r duty_r p e at is past.
          (let below = within r duty_r p e at is in let same = ap (λ (pass : P). length (seen_of pass)) (reports.reported r duty_r) in absurd (omega arith));
    }
    placed (row ∷ rows) old duty reports =
        first_placed row rows old (duty 0 row refl) reports
        (placed rows (later row rows old (duty 0 row refl) reports) (λ i x at. duty (suc i) x at) (rest row rows old (duty 0 row refl) reports))

-- if a new pass has reported its reporter's rows, and later, as `end`, has entered no more, `end` has entered these rows and no others
pub entered_all : {B R P : Type 0} (live : boards.Ghosts B R P) (board : B) (rows : List NightEvent) (reporter : ℕ) {before : P} (pass : P) (end : PassView)
    → live.is_reporter board pass → IsFreshOn live board before → HasReported live (calls_of reporter rows) before pass
    → Continues (live.reporter pass) end → end.mine ≡ (live.reporter pass).mine → HasEnteredAll live board rows reporter end
entered_all live board rows reporter {before} pass end own fresh reported always mine = record {
  pass = pass;
  rows_entered = record { own = own; before = before; fresh = fresh; entered = reported };
  always = always;
  mine = mine;
}

-- if the new passes of two reporters have reported their rows, both have entered them
abbrev pub have_entered : {B R P : Type 0} (live : boards.Ghosts B R P) (board : B) (rows : List NightEvent) {old_1 old_2 new_1 new_2 : P} → IsFreshOn live board old_1
    → IsFreshOn live board old_2 → live.is_reporter board new_1 × HasReported live (calls_of 1 rows) old_1 new_1
    → live.is_reporter board new_2 × HasReported live (calls_of 2 rows) old_2 new_2 → HaveEntered live board rows
have_entered live board rows {old_1} {old_2} {new_1} {new_2} fresh_1 fresh_2 one two = record {
  first = new_1;
  second = new_2;
  entered_1 = record { own = one.0; before = old_1; fresh = fresh_1; entered = one.1 };
  entered_2 = record { own = two.0; before = old_2; fresh = fresh_2; entered = two.1 };
}

-- the passes k and l of two reporters, which are m and n after they have reported their rows, and a history that goes on from both
module _ {B R P : Type 0} (live : boards.Ghosts B R P) (k l m n : P) (rows : List NightEvent) (h : List Entry)
    (first : HasReported live (calls_of 1 rows) k m) (second : HasReported live (calls_of 2 rows) l n)
    (fresh_1 : IsFresh (live.reporter k)) (fresh_2 : IsFresh (live.reporter l))
    (apart : (live.reporter m).number ≢ (live.reporter n).number) (duty : AllOnDuty rows) (legal : IsLegal h)
    (on_first : IsPrefix (live.reporter m).seen h) (on_second : IsPrefix (live.reporter n).seen h)
    (both : IsOfBoth (live.reporter m) (live.reporter n) h) where
  abbrev number : ℕ → ℕ
  number = number_of_two (live.reporter k).number (live.reporter l).number

  abbrev old : ℕ → P
  old = of_two k l

  abbrev new : ℕ → P
  new = of_two m n

  went_1 : Continues (live.reporter k) (live.reporter m)
  went_1 = (reported_on live (calls_of 1 rows) k m first fresh_1.0).0

  went_2 : Continues (live.reporter l) (live.reporter n)
  went_2 = (reported_on live (calls_of 2 rows) l n second fresh_2.0).0

  -- what holds of both reporters
  each_of_two : (Q : ℕ → Type 0) → Q 1 → Q 2 → (r : ℕ) → IsOneOfTwo r → Q r
  each_of_two Q one two r (inl is) = subst Q (sym is) one
  each_of_two Q one two r (inr is) = subst Q (sym is) two

  -- all entries of a reporter stand in what its pass has seen, and none in what it had seen at first
  stands : (a b : P) → entries_by (live.reporter b).number h ≡ (live.reporter b).mine → IsPrefix (live.reporter b).seen h
      → Continues (live.reporter a) (live.reporter b) → (p : ℕ) (e : Entry) → slice_get h p ≡ Some e → e.reporter ≡ (live.reporter a).number
      → p < length (live.reporter b).seen
  stands a b all on always p e at is =
      stands_before (live.reporter b).number (live.reporter b).seen h on (all ∙ always.sound.own) at (is ∙ sym always.number)

  -- the entries of a reporter come after all that its pass had seen at first
  comes_later : (a b : P) → IsFresh (live.reporter a) → IsPrefix (live.reporter b).seen h → Continues (live.reporter a) (live.reporter b)
      → (p : ℕ) (e : Entry) → slice_get h p ≡ Some e → e.reporter ≡ (live.reporter a).number → length (live.reporter a).seen ≤ p
  comes_later a b fresh on always p e at is = elim (cases_lt p (length (live.reporter a).seen)) [
    | inl below ↦ absurd (none_by (live.reporter a).number (live.reporter a).seen p e (sym fresh.0.own ∙ fresh.1)
        (at_within _ h p e (begins_through _ _ h always.on.seen on) below at) is)
    | inr after ↦ after
  ]

  on_each : (r : ℕ) → IsOneOfTwo r → IsPrefix (live.reporter (new r)).seen h
  on_each = each_of_two (λ r. IsPrefix (live.reporter (new r)).seen h) on_first on_second

  within_each : (r : ℕ) → IsOneOfTwo r → (p : ℕ) (e : Entry) → slice_get h p ≡ Some e → e.reporter ≡ number r → p < length (live.reporter (new r)).seen
  within_each = each_of_two (λ r. (p : ℕ) (e : Entry) → slice_get h p ≡ Some e → e.reporter ≡ number r → p < length (live.reporter (new r)).seen)
      (stands k m both.first on_first went_1) (stands l n both.second on_second went_2)

  later_each : (r : ℕ) → IsOneOfTwo r → (p : ℕ) (e : Entry) → slice_get h p ≡ Some e → e.reporter ≡ number r → length (live.reporter (old r)).seen ≤ p
  later_each = each_of_two (λ r. (p : ℕ) (e : Entry) → slice_get h p ≡ Some e → e.reporter ≡ number r → length (live.reporter (old r)).seen ≤ p)
      (comes_later k m fresh_1 on_first went_1) (comes_later l n fresh_2 on_second went_2)

  -- the rows of both reporters have their points in this history
  placing : ArePlaced live h number new on_each within_each rows old
  placing = placed live h number new on_each within_each rows old duty (record {
    reported = each_of_two (λ r. HasReported live (calls_of r rows) (old r) (new r)) first second;
    sound = each_of_two (λ r. IsSound (live.reporter (old r))) fresh_1.0 fresh_2.0;
    number_is = each_of_two (λ r. (live.reporter (old r)).number ≡ number r) refl refl;
  })

  numbers_apart : (live.reporter k).number ≢ (live.reporter l).number
  numbers_apart same = apart (went_1.number ∙ (same ∙ sym went_2.number))

  -- reporters on duty with one number are one
  one_reporter : (a b : ℕ) → IsOneOfTwo a → IsOneOfTwo b → number a ≡ number b → a ≡ b
  one_reporter a b (inl x) (inl y) same = x ∙ sym y
  one_reporter a b (inl x) (inr y) same = absurd (numbers_apart (sym (ap number x) ∙ (same ∙ ap number y)))
  one_reporter a b (inr x) (inl y) same = absurd (numbers_apart (sym (ap number y) ∙ (sym same ∙ ap number x)))
  one_reporter a b (inr x) (inr y) same = x ∙ sym y

  -- the entry at place p is that of row i
  abbrev IsRowAt : ℕ → ℕ → Type 0
  IsRowAt p i = IsOfRow number rows placing.point h p i

  -- an entry is not that of an earlier row and of a later one
  not_both : (p i j : ℕ) → IsRowAt p i → IsRowAt p j → i < j → ⊥
  not_both p i j a b below =
      let here = entry_of (number a.row.reporter) a.row.call in
      let there = entry_of (number b.row.reporter) b.row.call in
      let same : number a.row.reporter ≡ number b.row.reporter =
      ap (λ (e : Entry). e.reporter) (same_Some here there (sym a.entered.entry ∙ b.entered.entry)) in
      let one : a.row.reporter ≡ b.row.reporter = one_reporter _ _ (duty i a.row a.here) (duty j b.row b.here) same in
      let rises = (placing.in_order i j a.row b.row a.here b.here below one).rises (rw a.point_is a.entered) in
      let x = a.point_is in
      let y = b.point_is in
      omega arith

  -- an entry is that of one row alone
  alone : (p i j : ℕ) → IsRowAt p i → IsRowAt p j → j ≡ i
  alone p i j a b = elim (cases_order j i) [
    | inl same ↦ same
    | inr other ↦ elim other [ inl below ↦ absurd (not_both p j i b a below) | inr above ↦ absurd (not_both p i j a b above) ]
  ]

  of_either : (p : ℕ) → p < length h → (e : Entry) → slice_get h p ≡ Some e → (e.reporter ≡ (live.reporter m).number) ⊎ (e.reporter ≡ (live.reporter n).number)
  of_either p below e at = subst (λ (x : Entry). (x.reporter ≡ (live.reporter m).number) ⊎ (x.reporter ≡ (live.reporter n).number)) (get_or_from_slice_get h p e e at)
      (All-get_or (λ (x : Entry). (x.reporter ≡ (live.reporter m).number) ⊎ (x.reporter ≡ (live.reporter n).number)) h p e below both.no_other)

  -- each entry is that of some row
  some_row : (p : ℕ) → p < length h → (i : ℕ) × IsRowAt p i
  some_row p below =
      let t = get_some h p below in
      elim (of_either p below t.0 t.1) [
        | inl is ↦ (let it = is ∙ went_1.number in placing.some_row 1 (inl refl) p t.0 t.1 it (later_each 1 (inl refl) p t.0 t.1 it))
        | inr is ↦ (let it = is ∙ went_2.number in placing.some_row 2 (inr refl) p t.0 t.1 it (later_each 2 (inr refl) p t.0 t.1 it))
      ]

  -- the history is a merge of the rows
  pub merged : IsInterleaving number rows h
  merged = record {
    legal = legal;
    point = placing.point;
    each = placing.each;
    in_order = placing.in_order;
    one_row = λ p below. (let r = some_row p below in record { index = r.0; is = r.1; alone = λ other o. alone p r.0 other r.1 o });
  }

-- if the new passes k and l of two reporters, then m and n, have reported their rows, and settling, which leaves c and d, has found only
-- their entries up to this version, these entries are an interleaving of the rows
pub merged_by_settlers : {B R P : Type 0} (live : boards.Ghosts B R P) {k l m n : P} {c d : PassView} {rows : List NightEvent} {version : ℕ}
    → HasReported live (calls_of 1 rows) k m → HasReported live (calls_of 2 rows) l n → IsFresh (live.reporter k) → IsFresh (live.reporter l)
    → Continues (live.reporter m) c → Continues (live.reporter n) d → (live.reporter m).number ≢ (live.reporter n).number → AllOnDuty rows
    → Settled (live.reporter m) (live.reporter n) c d version → IsOfBoth (live.reporter m) (live.reporter n) (take version d.seen)
    → IsInterleaving (number_of_two c.number d.number) rows (take version d.seen)
merged_by_settlers live {k} {l} {m} {n} {c} {d} {rows} {version} first second fresh_1 fresh_2 on_c on_d apart duty s both =
    let went_1 = (reported_on live (calls_of 1 rows) k m first fresh_1.0).0 in
    let went_2 = (reported_on live (calls_of 2 rows) l n second fresh_2.0).0 in
    rw (on_c.number, went_1.number, on_d.number, went_2.number)
    (merged live k l m n rows (take version d.seen) first second fresh_1 fresh_2 apart duty (legal_take d.seen version s.legal)
    (begins_take (live.reporter m).seen d.seen version s.first s.low_first) (begins_take (live.reporter n).seen d.seen version s.second s.low_second) both)
