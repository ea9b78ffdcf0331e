-- All merges of the rows of a script have one board, where each match has one reporter.
use Rattle.ucl_runs.proofs.Common.{EachMatchHasOneReporter, Entry, EventCall, IsEnteredAt, IsInterleaving, IsRefusedAt, List, MatchEntry}
use Rattle.ucl_runs.proofs.Common.{NightEvent, Reading, ScheduleDoesNotMatter, Some, accepted_of, add-zero, after_attempt, ap, arith}
use Rattle.ucl_runs.proofs.Common.{at_below, attempt_by, board_of, cases_eq, cases_lt, cond_both, counted_match, entries_else, entries_of}
use Rattle.ucl_runs.proofs.Common.{entries_same, entry_of, false, false≢true, get_some, inl, inr, is_ok, length, map, map_push}
use Rattle.ucl_runs.proofs.Common.{match_numbers, night_board, refl, reply_of, same_Some, sequential_reply, slice_get, snapshot_at, suc}
use Rattle.ucl_runs.proofs.Common.{sym, take, take-length, take_one, true, word_of, zero, ℕ, ◌+◌, ◌-◌, ◌<◌, ◌∙◌, ◌≡◌, ◌≢◌, ◌≤◌}
use Rattle.std.proofs.lemmas.List.Sums.{fold_push}
use Rattle.ucl_word.proofs.EntryCounts.{entered}
use Rattle.ucl_runs.proofs.EnteredRows.{entered_within, place_within}

-- a merge of the rows, and a match
module _ (number : ℕ → ℕ) (rows : List NightEvent) (h : List Entry) (merge : IsInterleaving number rows h) (one : EachMatchHasOneReporter rows) (g : ℕ) where
  -- the entries of the match among the first p entries of the history, and among those that the first i rows come to in script order
  abbrev entries_at : ℕ → List MatchEntry
  entries_at p = entries_of g (take p h)

  abbrev night_at : ℕ → List Entry
  night_at i = accepted_of (map (attempt_by number) (take i rows))

  -- the rows of the match that were entered before a point are those before row i
  record Fits (i p : ℕ) : Type 0 where
    below : (j : ℕ) (row : NightEvent) → slice_get rows j ≡ Some row → row.call.game ≡ g → IsEnteredAt h (attempt_by number row) (merge.point j) → j < i → merge.point j < p
    above : (j : ℕ) (row : NightEvent) → slice_get rows j ≡ Some row → row.call.game ≡ g → IsEnteredAt h (attempt_by number row) (merge.point j) → i ≤ j → p ≤ merge.point j

  -- an entry of the match is that of a row of the match
  record RowThere (r : ℕ) : Type 0 where
    index : ℕ
    row : NightEvent
    here : slice_get rows index ≡ Some row
    game : row.call.game ≡ g
    entered : IsEnteredAt h (attempt_by number row) (merge.point index)
    point_is : merge.point index ≡ r

  row_there : (r : ℕ) (e : Entry) → slice_get h r ≡ Some e → e.game ≡ g → RowThere r
  row_there r e at is =
      let o = (merge.one_row r (at_below h r e at)).is in
      let i = (merge.one_row r (at_below h r e at)).index in
      record {
        index = i;
        row = o.row;
        here = o.here;
        game = ap (λ (x : Entry). x.game) (same_Some _ e (sym o.entered.entry ∙ at)) ∙ is;
        entered = rw o.point_is o.entered;
        point_is = o.point_is;
      }

  -- where no entry of the match stands, its entries stay the same
  same_until : (a d : ℕ) → a + d ≤ length h → ((r : ℕ) → RowThere r → a ≤ r → r < a + d → ⊥) → entries_at (a + d) ≡ entries_at a
  same_until a zero within none = ap entries_at (add-zero a)
  same_until a (suc d) within none =
      let t = get_some h (a + d) (omega arith) in
      let further : a + suc d ≡ suc (a + d) = omega arith in
      let other : t.0.game ≢ g = (λ is. none (a + d) (row_there (a + d) t.0 t.1 is) (omega arith) (omega arith)) in
      rw (further, take_one h (a + d) t.0 t.1, entries_else (take (a + d) h) t.0 g other)
      (same_until a d (omega arith) (λ r row low high. none r row low (omega arith)))

  same_between : (a p : ℕ) → a ≤ p → p ≤ length h → ((r : ℕ) → RowThere r → a ≤ r → r < p → ⊥) → entries_at p ≡ entries_at a
  same_between a p low within none =
      let e : a + (p - a) ≡ p = omega arith in
      ap entries_at (sym e) ∙ same_until a (p - a) (omega arith) (λ r row least most. none r row least (omega arith))

  -- after one row more, that row was entered or refused
  night_next : (i : ℕ) (row : NightEvent) → slice_get rows i ≡ Some row → night_at (suc i) ≡ after_attempt (night_at i) (attempt_by number row)
  night_next i row at = rw (take_one rows i row at, map_push, fold_push)

  -- a row of another match
  night_else : (i : ℕ) (row : NightEvent) → slice_get rows i ≡ Some row → row.call.game ≢ g → entries_of g (night_at (suc i)) ≡ entries_of g (night_at i)
  night_else i row at other = rw (night_next i row at)
      (cond_both (is_ok (sequential_reply (night_at i) row.call)) _ (night_at i) (λ l. entries_of g l ≡ entries_of g (night_at i))
      (λ _. entries_else (night_at i) _ g other) (λ _. refl))

  -- the reply to an event of the match goes by the entries of the match
  same_reply : (x y : List Entry) (call : EventCall) → call.game ≡ g → entries_of g x ≡ entries_of g y → sequential_reply x call ≡ sequential_reply y call
  same_reply x y call is same = ap (λ (es : List MatchEntry). reply_of (counted_match es) call) (rw is same)

  -- a row that was not entered, or is of another match, fits no less
  fits_skipped : (i p : ℕ) (row : NightEvent) → slice_get rows i ≡ Some row → (row.call.game ≡ g → IsEnteredAt h (attempt_by number row) (merge.point i) → ⊥) → Fits (suc i) p → Fits i p
  fits_skipped i p row at not_there fits = record {
    below = λ j x at_j is entered less. fits.below j x at_j is entered (omega arith);
    above = λ j x at_j is entered least. elim (cases_eq i j) [
      | inl same ↦ (let row_is : row ≡ x = same_Some row x (sym at ∙ (ap (slice_get rows) same ∙ at_j)) in
          absurd (not_there (rw row_is is) (rw (row_is, same) entered)))
      | inr other ↦ fits.above j x at_j is entered (omega arith)
    ];
  }

  -- the point of a row of the match fits it
  fits_point : (i : ℕ) (row : NightEvent) → slice_get rows i ≡ Some row → row.call.game ≡ g → Fits i (merge.point i)
  fits_point i row at is = record {
    below = λ j x at_j is_j entered less. (merge.in_order j i x row at_j at less (one j i x row at_j at (is_j ∙ sym is))).rises entered;
    above = λ j x at_j is_j entered least. elim (cases_eq i j) [
      | inl same ↦ (let e = ap merge.point same in omega arith)
      | inr other ↦ (merge.in_order i j row x at at_j (omega arith) (one i j row x at at_j (is ∙ sym is_j))).never_falls
    ];
  }

  -- between the entry of row i and a point that fits row i + 1 no entry of the match stands
  none_between : (i p : ℕ) (row : NightEvent) → slice_get rows i ≡ Some row → row.call.game ≡ g → Fits (suc i) p → (r : ℕ) → RowThere r → suc (merge.point i) ≤ r → r < p → ⊥
  none_between i p row at is fits r there low high =
      let where_is = there.point_is in
      elim (cases_lt there.index (suc i)) [
        | inl before ↦ elim (cases_eq there.index i) [
          | inl same ↦ (let e = ap merge.point same in omega arith)
          | inr other ↦ (let rises = (fits_point i row at is).below there.index there.row there.here there.game there.entered (omega arith) in omega arith)
        ]
        | inr after ↦ (let past = fits.above there.index there.row there.here there.game there.entered after in omega arith)
      ]

  -- at points that fit row i the match has the entries that it has after the first i rows of the script
  abbrev Agrees : ℕ → Type 0
  Agrees i = (p : ℕ) → p ≤ length h → Fits i p → entries_at p ≡ entries_of g (night_at i)

  -- a row of the match that was entered
  entered_agrees : (i : ℕ) (row : NightEvent) → slice_get rows i ≡ Some row → row.call.game ≡ g → entries_at (merge.point i) ≡ entries_of g (night_at i)
      → IsEnteredAt h (attempt_by number row) (merge.point i)
      → Agrees (suc i)
  entered_agrees i row at is same there p within fits =
      let q : ℕ = merge.point i in
      let new : Entry = entry_of (number row.reporter) row.call in
      let past = fits.below i row at is there (omega arith) in
      let ok : is_ok (sequential_reply (night_at i) row.call) ≡ true = rw
      (← same_reply (take q h) (night_at i) row.call is same) there.reply in
      let more : entries_at (suc q) ≡ entered (entries_at q) new.reporter new.kind =
      rw (take_one h q new there.entry) (entries_same (take q h) new g is) in
      same_between (suc q) p past within (none_between i p row at is fits)
      ∙ rw (more, same, night_next i row at, ok) (sym (entries_same (night_at i) new g is))

  -- a row of the match that was refused
  refused_agrees : (i : ℕ) (row : NightEvent) → slice_get rows i ≡ Some row → row.call.game ≡ g → entries_at (merge.point i) ≡ entries_of g (night_at i)
      → IsRefusedAt h (attempt_by number row) (merge.point i)
      → Agrees i → Agrees (suc i)
  refused_agrees i row at is same there agrees p within fits =
      let not_ok : is_ok (sequential_reply (night_at i) row.call) ≡ false =
      rw (← same_reply (take (merge.point i) h) (night_at i) row.call is same) there.reply in
      rw (night_next i row at, not_ok) (agrees p within (fits_skipped i p row at
      (λ game entered. false≢true (sym there.reply ∙ entered.reply)) fits))

  -- if the match has, at points that fit row i, the entries of the first i rows, so it has for one row more
  next_agrees : (i : ℕ) (row : NightEvent) → slice_get rows i ≡ Some row → Agrees i → Agrees (suc i)
  next_agrees i row at agrees = elim (cases_eq row.call.game g) [
    | inl is ↦
        (let same = agrees (merge.point i) (place_within (merge.each i row at)) (fits_point i row at is) in
        elim (merge.each i row at) [ inl refused ↦ refused_agrees i row at is same refused agrees | inr there ↦ entered_agrees i row at is same there ])
    | inr other ↦ (λ p within fits. agrees p within (fits_skipped i p row at (λ game entered. other game) fits) ∙ sym (night_else i row at other))
  ]

  start_agrees : Agrees 0
  start_agrees p within fits = same_between 0 p (omega arith) within (λ r there low high.
      (let past = fits.above there.index there.row there.here there.game there.entered (omega arith) in let where_is = there.point_is in omega arith))

  all_agree : (i : ℕ) → i ≤ length rows → Agrees i
  all_agree zero low = start_agrees
  all_agree (suc i) low = let t = get_some rows i (omega arith) in next_agrees i t.0 t.1 (all_agree i (omega arith))

  -- the match has the entries that it has after all rows of the script
  pub entries_agree : entries_of g h ≡ entries_of g (accepted_of (map (attempt_by number) rows))
  entries_agree =
      let fits : Fits (length rows) (length h) = record {
        below = λ j x at is entered less. entered_within entered;
        above = λ j x at is entered least. (let below = at_below rows j x at in absurd (omega arith));
      } in
      simp take-length at (all_agree (length rows) (omega arith) (length h) (omega arith) fits)

-- two histories in which each match has the same entries come to the same board
same_board : (x y : List Entry) → ((g : ℕ) → entries_of g x ≡ entries_of g y) → board_of x ≡ board_of y
unfolding board_of
same_board x y same = λ i. map (λ game. word_of (counted_match (same game i))) match_numbers

-- if each match has one reporter, all interleavings of the rows of a script come to the same board
pub all_merges_agree : ScheduleDoesNotMatter
all_merges_agree number rows h merge one = same_board h (accepted_of (map (attempt_by number) rows)) (λ g. entries_agree number rows h merge one g)

-- if a history up to a version is an interleaving of the rows, and each match has one reporter, a reading of this version is the board
-- after the rows in script order
pub night_board_read : (number : ℕ → ℕ) (rows : List NightEvent) (seen : List Entry) (version : ℕ) (reading : Reading) → IsInterleaving number rows (take version seen) →
    EachMatchHasOneReporter rows
    → reading ≡ snapshot_at seen version → reading.board ≡ night_board number rows
night_board_read number rows seen version reading merge one is = cc (is, all_merges_agree number rows (take version seen) merge one)
