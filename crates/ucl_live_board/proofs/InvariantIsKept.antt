-- The invariant of a shared board is kept, whatever its words and its rule are: by opening, a step, a split, a note and a hearing.
use Rattle.ucl_live_board.proofs.Common.{◌≡◌, ◌≢◌, ◌⊎◌, inl, inr, ℕ, zero, suc, ◌+◌, ◌<◌, Bool, true, false, cond, List, ◌∷◌, ◌++◌, length, set, None, refl}
use Rattle.ucl_live_board.proofs.Common.{sym, ap, ◌∙◌, subst, arith, [], length-append, length-set, All, All-cons, All-nil, All-append, IsSome, IsPrefix}
use Rattle.ucl_live_board.proofs.Common.{nat_lt, ltb-true, begins_same, begins_through, some, some-injective, some-ne-none, get_elem?, at_set, set_here}
use Rattle.ucl_live_board.proofs.Common.{may_none, Entry, TakenStep, LoggedStep, logged_by, Log, taken_by, entry_list, history_of, enlists, enlisted_by}
use Rattle.ucl_live_board.proofs.Common.{MayBeTaken, View, Share, Overlap, new_pass, first_pass, left_pass, second_pass, note_pass, told_pass, ViewInvariant}
use Rattle.ucl_live_board.proofs.Common.{BoardInvariant, BoardStep, stepped_to}
use Rattle.atomic_table.proofs.Lists as lists
use Rattle.ucl_word.proofs.Sequences.{may_next}
use Rattle.ucl_log.proofs.Logs.{history_more, history_same, enlisted_more, taken_append, taken_own, taken_other, taken_none, below_more, nil_front, between}
use Rattle.ucl_log.proofs.Logs.{shorter}
use Rattle.ucl_live_board.specs.PossibleViews.{OccursSomewhere, BothOccur}
use Rattle.ucl_live_board.proofs.Halves.{overlap_swap, half_overlaps, halves_apart, half_none, acts_some}

-- where a list has an element, the place is below its length
pub place_below : {X : Type 0} (xs : List X) (at : ℕ) (x : X) → get_elem? xs at ≡ some x → at < length xs
place_below (y ∷ xs) (suc at) x e = let r = place_below xs at x e in omega arith
place_below xs at x e = search (arith, some-ne-none)

-- an element of a list with one more at its end is one of the list, or it is that last one
at_last : (views : List View) (w u : View) (j : ℕ) → get_elem? (views ++ w ∷ []) j ≡ some u → (get_elem? views j ≡ some u) ⊎ ((j ≡ length views) × (w ≡ u))
at_last (x ∷ views) w u (suc j) e = search (arith, at_last views w u j)
at_last views w u j e = search (arith, some-injective, some-ne-none)

-- no two passes have a part of the board in common
abbrev ApartShares : List View → Type 0
ApartShares views = (i j : ℕ) (v w : View) → get_elem? views i ≡ some v → get_elem? views j ≡ some w → Overlap v.share w.share → i ≡ j

-- shares of views stay apart if one view is set to one whose share overlaps with no other's
apart_set : (views : List View) (seat : ℕ) (w : View) → ((j : ℕ) (u : View) → j ≢ seat → get_elem? views j ≡ some u → Overlap w.share u.share → ⊥)
    → ApartShares views → ApartShares (set views seat w)
apart_set views seat w lone apart i j a b at bt over = elim (at_set views seat i w a at) [
  | inl s ↦ elim (at_set views seat j w b bt) [
    | inl t ↦ s.0 ∙ sym t.0
    | inr t ↦ absurd (lone j b t.0 t.1 (subst (λ (z : View). Overlap z.share b.share) (sym s.1) over))
  ]
  | inr s ↦ elim (at_set views seat j w b bt) [
    | inl t ↦ absurd (lone i a s.0 s.1 (overlap_swap a.share w.share (subst (λ (z : View). Overlap a.share z.share) (sym t.1) over)))
    | inr t ↦ apart i j a b s.1 t.1 over
  ]
]

-- shares of views stay apart if a view is added whose share overlaps with none
apart_last : (views : List View) (w : View) → ((j : ℕ) (u : View) → get_elem? views j ≡ some u → Overlap w.share u.share → ⊥)
    → ApartShares views → ApartShares (views ++ w ∷ [])
apart_last views w lone apart i j a b at bt over = elim (at_last views w a i at) [
  | inl s ↦ elim (at_last views w b j bt) [
    | inl t ↦ apart i j a b s t over
    | inr t ↦ absurd (lone i a s (overlap_swap a.share w.share (subst (λ (z : View). Overlap a.share z.share) (sym t.1) over)))
  ]
  | inr s ↦ elim (at_last views w b j bt) [
    | inl t ↦ absurd (lone j b t (subst (λ (z : View). Overlap z.share b.share) (sym s.1) over))
    | inr t ↦ s.0 ∙ sym t.0
  ]
]

-- a view among views whose shares are apart
module _ (views : List View) (seat : ℕ) (v : View) (here : get_elem? views seat ≡ some v) (apart : ApartShares views) where
  -- a share that overlaps with no more than the share of v overlaps with that of no other view
  lone_by : (w : View) → ((t : Share) → Overlap w.share t → Overlap v.share t) → (j : ℕ) (u : View) → j ≢ seat → get_elem? views j ≡ some u → Overlap w.share u.share → ⊥
  lone_by w less j u not at over = not (sym (apart seat j v u here at (less u.share over)))

  -- the shares stay apart if the view is set to one with the same share
  apart_kept : (w : View) → w.share ≡ v.share → ApartShares (set views seat w)
  apart_kept w same = apart_set views seat w (lone_by w (λ t over. subst (λ (s : Share). Overlap s t) same over)) apart

  -- the shares stay apart after a split
  apart_split : ApartShares (set views seat (left_pass v) ++ second_pass v ∷ [])
  apart_split = apart_last (set views seat (left_pass v)) (second_pass v)
      (λ j u at over. elim (at_set views seat j (left_pass v) u at) [
        | inl t ↦ halves_apart v.share (subst (λ (z : View). Overlap (second_pass v).share z.share) (sym t.1) over)
        | inr t ↦ lone_by (second_pass v) (half_overlaps true v.share) j u t.0 t.1 over
      ])
      (apart_set views seat (left_pass v) (lone_by (left_pass v) (half_overlaps false v.share)) apart)

-- a view that fits a log fits it after a step of another seat
fits_more : (log : Log) (x : LoggedStep) (seat : ℕ) (v : View) → x.seat ≢ seat → ViewInvariant log seat v → ViewInvariant (log ++ x ∷ []) seat v
fits_more log x seat v not f = record {
  knows = begins_through v.log log (log ++ x ∷ []) f.knows (x ∷ [], refl);
  told = λ k d l. begins_through _ log (log ++ x ∷ []) (f.told k d l) (x ∷ [], refl);
  own = (f.own.0, f.own.1 ∙ sym (taken_other seat log x not));
  idle = f.idle;
}

-- the view after a step fits the log with that step
fits_stepped : (log : Log) (seat : ℕ) (x : TakenStep) (v : View) → v.share ≢ None → ViewInvariant log seat v → ViewInvariant (log ++ logged_by seat x ∷ []) seat (stepped_to log seat x v)
fits_stepped log seat x v acts f =
    let own : v.own ++ x ∷ [] ≡ taken_by seat (log ++ logged_by seat x ∷ []) = ap (λ (l : List TakenStep). l ++ x ∷ []) f.own.1 ∙ sym (taken_own seat log x) in
    record {
      knows = begins_same (log ++ logged_by seat x ∷ []);
      told = All-nil (λ (l : Log). IsPrefix l (log ++ logged_by seat x ∷ []));
      own = (own, own);
      idle = λ none. absurd (acts none);
    }

-- the view of one pass more, which took no step and knows the log that a fitting view knows, fits at the next seat
fits_last : (log : Log) (n : ℕ) (v w : View) (seat : ℕ) → All (λ (x : LoggedStep). x.seat < n) log → ViewInvariant log seat v → w.log ≡ v.log → w.told ≡ [] → w.own ≡ []
    → ViewInvariant log n w
fits_last log n v w seat all f same told own =
    let knows : IsPrefix w.log log = subst (λ (l : Log). IsPrefix l log) (sym same) f.knows in
    let none : taken_by n log ≡ [] = taken_none n log all in
    let front : taken_by n w.log ++ taken_by n knows.0 ≡ [] = sym (taken_append n w.log knows.0) ∙ (ap (taken_by n) knows.1 ∙ none) in
    record {
      knows = knows;
      told = subst (All (λ (l : Log). IsPrefix l log)) (sym told) (All-nil (λ (l : Log). IsPrefix l log));
      own = (own ∙ sym (nil_front (taken_by n w.log) (taken_by n knows.0) front), own ∙ sym none);
      idle = λ _. own;
    }

-- a view with the log and the steps of a fitting view fits too, unless it alone has no share
fits_kept : (log : Log) (seat : ℕ) (v u : View) → u.log ≡ v.log → u.told ≡ v.told → u.own ≡ v.own → (u.share ≡ None → v.share ≡ None) → ViewInvariant log seat v
    → ViewInvariant log seat u
fits_kept log seat v u log_is told own share f = record {
  knows = subst (λ (l : Log). IsPrefix l log) (sym log_is) f.knows;
  told = subst (All (λ (l : Log). IsPrefix l log)) (sym told) f.told;
  own = (own ∙ (f.own.0 ∙ ap (taken_by seat) (sym log_is)), own ∙ f.own.1);
  idle = λ none. own ∙ f.idle (share none);
}

-- if a view fits a log, it fits after it took in a note whose log is a prefix of this log: it then knows the longer of two prefixes
fits_told : (log : Log) (seat : ℕ) (v note : View) → ViewInvariant log seat v → IsPrefix note.log log → ViewInvariant log seat (told_pass v note)
fits_told log seat v note f theirs = record {
  knows = by_length (nat_lt (length v.log) (length note.log));
  told = All-cons (λ (l : Log). IsPrefix l log) v.log (note.log ∷ v.told) f.knows (All-cons (λ (l : Log). IsPrefix l log) note.log v.told theirs f.told);
  own = (own_by (nat_lt (length v.log) (length note.log)) refl, f.own.1);
  idle = f.idle;
}
  where
    by_length : (b : Bool) → IsPrefix (cond b note.log v.log) log
    by_length true = theirs
    by_length false = f.knows

    own_by : (b : Bool) → nat_lt (length v.log) (length note.log) ≡ b → v.own ≡ taken_by seat (cond b note.log v.log)
    own_by true is =
        let less = ltb-true (length v.log) (length note.log) is in
        f.own.1 ∙ sym (between seat v.log note.log log (shorter v.log note.log log f.knows theirs (omega (arith, less))) theirs (sym f.own.0 ∙ f.own.1))
    own_by false is = f.own.0

-- a view that knows nothing fits at a seat that took no step
fits_spent : (log : Log) (seat : ℕ) → taken_by seat log ≡ [] → ViewInvariant log seat new_pass
fits_spent log seat none = record { knows = (log, refl); told = All-nil (λ (l : Log). IsPrefix l log); own = (refl, sym none); idle = λ _. refl }

module _ (words_after : List Entry → ℕ → List ℕ) (May : Log → LoggedStep → Type 0) where
  module _ (words : List ℕ) (views : List View) (r : BoardInvariant words_after May words views) (seat : ℕ) (v : View) (here : get_elem? views seat ≡ some v) where
    -- a step that may come next, of a pass with a share, keeps the invariant if the words are then those after the log with it
    pub step_keeps : (after : List ℕ) (x : TakenStep) → IsSome v.share → MayBeTaken r.log (logged_by seat x) → May r.log (logged_by seat x)
        → after ≡ words_after (history_of (r.log ++ logged_by seat x ∷ [])) (enlisted_by (r.log ++ logged_by seat x ∷ []))
        → BoardInvariant words_after May after (set views seat (stepped_to r.log seat x v))
    step_keeps after x acts may next are =
        let w = stepped_to r.log seat x v in
        let below = place_below views seat v here in
        let long = length-set views seat w in
        record {
          log = r.log ++ logged_by seat x ∷ [];
          is_log = may_next MayBeTaken r.log (logged_by seat x) r.is_log may;
          follows = may_next May r.log (logged_by seat x) r.follows next;
          words_are = are;
          seated = below_more (length views) (length (set views seat w)) (r.log ++ logged_by seat x ∷ []) (omega arith)
              (All-append (λ (y : LoggedStep). y.seat < length views) r.log (logged_by seat x ∷ []) r.seated
              (All-cons (λ (y : LoggedStep). y.seat < length views) (logged_by seat x) [] below (All-nil (λ (y : LoggedStep). y.seat < length views))));
          fits = λ j u at. elim (at_set views seat j w u at) [
            | inl t ↦ subst (λ (k : ℕ). ViewInvariant (r.log ++ logged_by seat x ∷ []) k u) (sym t.0)
                (subst (ViewInvariant (r.log ++ logged_by seat x ∷ []) seat) t.1 (fits_stepped r.log seat x v (acts_some v.share acts) (r.fits seat v here)))
            | inr t ↦ fits_more r.log (logged_by seat x) j u (λ e. t.0 (sym e)) (r.fits j u t.1)
          ];
          shared = apart_kept views seat v here r.shared w refl;
        }

    -- the view after a step, which keeps the invariant, and what the step tells its pass
    abbrev pub takes_step : (after : List ℕ) (x : TakenStep) → IsSome v.share → MayBeTaken r.log (logged_by seat x) → May r.log (logged_by seat x)
        → after ≡ words_after (history_of (r.log ++ logged_by seat x ∷ [])) (enlisted_by (r.log ++ logged_by seat x ∷ []))
        → (w : View) × BoardInvariant words_after May after (set views seat w) × BoardStep words_after May seat x.action v w
    takes_step after x acts may next are =
        let f = r.fits seat v here in
        let w = stepped_to r.log seat x v in
        let rule = step_keeps after x acts may next are in (
          w,
          rule,
          record {
            before = r.log;
            is_log = r.is_log;
            follows = r.follows;
            since = f.knows;
            heard = f.told;
            own = f.own.1;
            step = x;
            of = refl;
            may = may;
            next = next;
            is = refl;
            acts = acts;
            occurs = record { words = after; views = set views seat w; rule = rule; here = set_here views seat w (place_below views seat v here) };
          },
        )

    -- the words after a step: they stay, or are those of one entry or one reporter more
    pub words_stay : (x : TakenStep) → x.entry ≡ None → length (enlists x.action) ≡ 0
        → words ≡ words_after (history_of (r.log ++ logged_by seat x ∷ [])) (enlisted_by (r.log ++ logged_by seat x ∷ []))
    words_stay x none few =
        let count : enlisted_by (r.log ++ logged_by seat x ∷ []) ≡ enlisted_by r.log = let e = enlisted_more r.log (logged_by seat x) in omega arith in
        r.words_are ∙ (λ i. words_after (sym (history_same r.log (logged_by seat x) none) i) (sym count i))

    pub words_entered : (x : TakenStep) (e : Entry) → entry_list x.entry ≡ e ∷ [] → length (enlists x.action) ≡ 0
        → words_after (history_of r.log ++ e ∷ []) (enlisted_by r.log) ≡ words_after (history_of (r.log ++ logged_by seat x ∷ [])) (enlisted_by (r.log ++ logged_by seat x ∷ []))
    words_entered x e is few =
        let count : enlisted_by (r.log ++ logged_by seat x ∷ []) ≡ enlisted_by r.log = let e = enlisted_more r.log (logged_by seat x) in omega arith in
        λ i. words_after (sym (history_more r.log (logged_by seat x) ∙ ap (λ (l : List Entry). history_of r.log ++ l) is) i) (sym count i)

    pub words_enlisted : (x : TakenStep) → x.entry ≡ None → length (enlists x.action) ≡ 1
        → words_after (history_of r.log) (enlisted_by r.log + 1) ≡ words_after (history_of (r.log ++ logged_by seat x ∷ [])) (enlisted_by (r.log ++ logged_by seat x ∷ []))
    words_enlisted x none one =
        let count : enlisted_by (r.log ++ logged_by seat x ∷ []) ≡ enlisted_by r.log + 1 = let e = enlisted_more r.log (logged_by seat x) in omega arith in
        λ i. words_after (sym (history_same r.log (logged_by seat x) none) i) (sym count i)

    -- one pass more, which knows what v knows and took no step, keeps the invariant, if the shares are then apart
    split_keeps : (u w : View) → u.log ≡ v.log → u.told ≡ v.told → u.own ≡ v.own → (u.share ≡ None → v.share ≡ None) → w.log ≡ v.log → w.told ≡ [] → w.own ≡ []
        → ApartShares (set views seat u ++ w ∷ []) → BoardInvariant words_after May words (set views seat u ++ w ∷ [])
    split_keeps u w log_is told own share log_w told_w own_w apart =
        let long = length-append (set views seat u) (w ∷ []) in
        let same = length-set views seat u in
        record {
          log = r.log;
          is_log = r.is_log;
          follows = r.follows;
          words_are = r.words_are;
          seated = below_more (length views) (length (set views seat u ++ w ∷ [])) r.log (omega arith) r.seated;
          fits = λ j y at. elim (at_last (set views seat u) w y j at) [
            | inl t ↦ elim (at_set views seat j u y t) [
              | inl e ↦ subst (λ (k : ℕ). ViewInvariant r.log k y) (sym e.0)
                  (subst (ViewInvariant r.log seat) e.1 (fits_kept r.log seat v u log_is told own share (r.fits seat v here)))
              | inr e ↦ r.fits j y e.1
            ]
            | inr t ↦ subst (λ (k : ℕ). ViewInvariant r.log k y) (sym (t.0 ∙ same))
                (subst (ViewInvariant r.log (length views)) t.1 (fits_last r.log (length views) v w seat r.seated (r.fits seat v here) log_w told_w own_w))
          ];
          shared = apart;
        }

    -- a split of a pass keeps the invariant
    pub seconds_keep : BoardInvariant words_after May words (set views seat (left_pass v) ++ second_pass v ∷ [])
    seconds_keep = split_keeps (left_pass v) (second_pass v) refl refl refl (half_none false v.share) refl refl refl (apart_split views seat v here r.shared)

    -- making a note of what a pass knows keeps the invariant
    pub notes_keep : BoardInvariant words_after May words (set views seat v ++ note_pass v ∷ [])
    notes_keep = split_keeps v (note_pass v) refl refl refl (λ e. e) refl refl refl
        (apart_last (set views seat v) (note_pass v) (λ j u at over. over) (apart_kept views seat v here r.shared v refl))

    -- a pass takes in a note from another seat, of which nothing is left there: this keeps the invariant
    pub hears_keep : (other : ℕ) (note : View) → get_elem? views other ≡ some note → other ≢ seat → note.share ≡ None
        → BoardInvariant words_after May words (set (set views seat (told_pass v note)) other new_pass)
    hears_keep other note there apart none =
        let f = r.fits other note there in
        let empty : taken_by other r.log ≡ [] = sym f.own.1 ∙ f.idle none in
        let told = told_pass v note in
        let long = length-set (set views seat told) other new_pass in
        let same = length-set views seat told in
        record {
          log = r.log;
          is_log = r.is_log;
          follows = r.follows;
          words_are = r.words_are;
          seated = below_more (length views) (length (set (set views seat told) other new_pass)) r.log (omega arith) r.seated;
          fits = λ j y at. elim (at_set (set views seat told) other j new_pass y at) [
            | inl e ↦ subst (λ (k : ℕ). ViewInvariant r.log k y) (sym e.0) (subst (ViewInvariant r.log other) e.1 (fits_spent r.log other empty))
            | inr e ↦ elim (at_set views seat j told y e.1) [
              | inl t ↦ subst (λ (k : ℕ). ViewInvariant r.log k y) (sym t.0) (subst (ViewInvariant r.log seat) t.1 (fits_told r.log seat v note (r.fits seat v here) f.knows))
              | inr t ↦ r.fits j y t.1
            ]
          ];
          shared = apart_set (set views seat told) other new_pass (λ j u not at over. over) (apart_kept views seat v here r.shared told refl);
        }

    -- the same, where the note is at its seat after the pass took it in
    pub joins_keep : (other : ℕ) (note : View) → other ≢ seat → get_elem? (set views seat (told_pass v note)) other ≡ some note → note.share ≡ None
        → BoardInvariant words_after May words (set (set views seat (told_pass v note)) other new_pass)
    joins_keep other note apart there none = elim (at_set views seat other (told_pass v note) note there) [
      | inl t ↦ absurd (apart t.0)
      | inr t ↦ hears_keep other note t.1 apart none
    ]

  -- the invariant holds of a board that opens with the words of no event and no reporter and with one pass, which has the whole
  pub opens_keep : (words : List ℕ) → words ≡ words_after [] 0 → BoardInvariant words_after May words (first_pass ∷ [])
  opens_keep words are = record {
    log = [];
    is_log = may_none MayBeTaken;
    follows = may_none May;
    words_are = are;
    seated = All-nil (λ (x : LoggedStep). x.seat < 1);
    fits = fits;
    shared = λ i j v w at bt over. only i v at ∙ sym (only j w bt);
  }
    where
      fits : (seat : ℕ) (v : View) → get_elem? (first_pass ∷ []) seat ≡ some v → ViewInvariant [] seat v
      fits zero v e = subst (ViewInvariant [] 0) (some-injective first_pass v e)
          (record { knows = ([], refl); told = All-nil (λ (l : Log). IsPrefix l []); own = (refl, refl); idle = λ _. refl })
      fits (suc seat) v e = absurd (some-ne-none v (sym e))

      only : (i : ℕ) (v : View) → get_elem? (first_pass ∷ []) i ≡ some v → i ≡ 0
      only zero v e = refl
      only (suc i) v e = absurd (some-ne-none v (sym e))

-- if a pass with a view occurs, the two passes that a split makes of it occur together
both_there : (words_after : List Entry → ℕ → List ℕ) (May : Log → LoggedStep → Type 0) (v : View) → BothOccur words_after May v (left_pass v) (second_pass v)
both_there words_after May v seat was =
    let left = set was.views seat (left_pass v) in
    let here = set_here was.views seat (left_pass v) (place_below was.views seat v was.here) in
    let below = place_below left seat (left_pass v) here in
    record {
      words = was.words;
      views = left ++ second_pass v ∷ [];
      rule = seconds_keep words_after May was.words was.views was.rule seat v was.here;
      here = lists.at_longer left (second_pass v ∷ []) seat (left_pass v) here;
      other = length left;
      apart = λ e. omega arith;
      there = lists.at_last left (second_pass v) (length left) refl;
    }

-- if a pass occurs, the passes that a split leaves and splits off occur together
pub split_occurs : (words_after : List Entry → ℕ → List ℕ) (May : Log → LoggedStep → Type 0) (v left second : View) → left ≡ left_pass v → second ≡ second_pass v
    → BothOccur words_after May v left second
split_occurs words_after May v left second kept given = subst (λ (u : View). BothOccur words_after May v u second) (sym kept)
    (subst (λ (u : View). BothOccur words_after May v (left_pass v) u) (sym given) (both_there words_after May v))

-- if a pass occurs, each of the two passes that a split makes of it occurs
pub both_occur : (words_after : List Entry → ℕ → List ℕ) (May : Log → LoggedStep → Type 0) (v left second : View) → BothOccur words_after May v left second
    → OccursSomewhere words_after May v → OccursSomewhere words_after May left × OccursSomewhere words_after May second
both_occur words_after May v left second split was =
    let both = split was.0 was.1 in (
      (was.0, record { words = both.words; views = both.views; rule = both.rule; here = both.here }),
      (both.other, record { words = both.words; views = both.views; rule = both.rule; here = both.there }),
    )
