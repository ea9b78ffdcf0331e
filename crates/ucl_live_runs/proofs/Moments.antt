-- Board states that are those of moments of a record, and what a follower shows of its answers, after each line.
use Rattle.ucl_live_runs.proofs.Common.{All, All-cons, All-contains, All-head, All-nil, All-tail, All-weaker}
use Rattle.ucl_live_runs.proofs.Common.{BoardState, Contains, Contains-append_left, Contains-append_right, EveryTableIsOneMoment, FollowArgs, FollowState}
use Rattle.ucl_live_runs.proofs.Common.{IsCarriedIn, IsLatest, IsNoNewer, ShowsTheNewest, LatestIsShownLast, List, LiveArgs, None, Option}
use Rattle.ucl_live_runs.proofs.Common.{OthersDoNotMatter, RiseAbove, RunsShowMoments, ShownVersionsRise, Showing, Some, [], after_shown}
use Rattle.ucl_live_runs.proofs.Common.{answer_lines, ap, ap₂, append_cancel_left, arith, board_state_of_moment, board_states_shown, cases_Bool}
use Rattle.ucl_live_runs.proofs.Common.{cases_lt, follow_outputs, get_or, inl, inr, is_asked, is_later, length, lines_of, map, map-append, moment}
use Rattle.ucl_live_runs.proofs.Common.{option_to_list, parse_board_line, refl, session_due, shown_output, start_of, subst, suc, sym, tables_text, take}
use Rattle.ucl_live_runs.proofs.Common.{take-append-drop, text_if, true, false, unseen, ℕ, ⊤, ◌++◌, ◌+◌, ◌<◌, ◌∙◌, ◌∷◌, ◌≡◌, ◌≤◌, ◌⊎◌}
use Rattle.std.proofs.Common.{drop, zero}
use Rattle.std.specs.List.Sorted.{IsStrictlyIncreasing}
use Rattle.ucl_command.specs.declared.follow.FollowShape.{FollowShape}
use Rattle.ucl_io.specs.declared.logged_io.LoggedIo.{LoggedIo}
use Rattle.ucl_io.specs.declared.stream.Sink as writes
use Rattle.ucl_io.specs.declared.stream.Source as reads
use Rattle.ucl_live_runs.proofs.Boards.{legal-at}
use Rattle.ucl_live_runs.proofs.FollowShown.{among, by-shown, latest, not-itself, one-way, others, rise, versions}
use Rattle.ucl_live_runs.proofs.RecordEnds.{Carried, IsReady, IsUpTo, Lines, WasTold, beyond, climbs, is-latest, older, ready, sound-after, was-told}
use Rattle.ucl_live_runs.proofs.Told.{start-sound}
use Rattle.ucl_live_runs.specs.Driven.{Due}
use Rattle.ucl_live_runs.specs.Follow.{CarryNoOther, one_more, whole_lines}
use Rattle.ucl_live_runs.specs.FollowerRuns.{follow_due}
use Rattle.ucl_live_runs.specs.Moments.{EndedWell}

-- numbers that rise still do so behind one that is less than their first
rises-more : (i j : ℕ) (places : List ℕ) → i < j → IsStrictlyIncreasing (j ∷ places) → IsStrictlyIncreasing (i ∷ j ∷ places)
rises-more i j places less more zero few = less
rises-more i j places less more (suc k) few =
    let e : suc (k + 1) ≡ suc k + 1 = omega arith in subst (λ n. get_or (j ∷ places) k 0 < get_or (i ∷ j ∷ places) n 0) e (more k (omega arith))

-- the places of the moments of what is shown
abbrev places_of : List Showing → List ℕ
places_of showings = map (λ (showing : Showing). showing.place) showings

-- what is shown of a line of this number, as at this moment
abbrev showing_of : ℕ → ℕ → Showing
showing_of line place = record { line = line; place = place }

-- board states, and what is written of them, are those of moments of a record, at places that rise
record Rise (options : LiveArgs) (rows : List ℕ) (ms : List BoardState) (out : FollowShape → List ℕ) : Type 0 where
  showings : List Showing
  rising : IsStrictlyIncreasing (places_of showings)
  within : All (λ place. place ≤ length (lines_of rows)) (places_of showings)
  same : map Some ms ≡ map (board_state_of_moment options rows) (places_of showings)
  text : (shape : FollowShape) → out shape ≡ tables_text shape options rows showings

-- the board states that a record had at some of its moments
module _ (options : LiveArgs) (rows : List ℕ) (is : IsReady (start_of options) (lines_of rows)) where
  abbrev state_at : ℕ → Option BoardState
  state_at = board_state_of_moment options rows

  abbrev Stood : BoardState → Type 0
  Stood = WasTold (start_of options) (lines_of rows)

  -- of two moments the board state of the one that is not later is the same, or behind
  pub rises : (i j : ℕ) (a b : BoardState) → i ≤ j → state_at i ≡ Some a → state_at j ≡ Some b → IsUpTo a b
  rises i j a b few h k = climbs (start_of options) (lines_of rows) i j a b is few h k

  -- if the second of two board states is newer, the record had it later
  later-place : (a b : BoardState) (i j : ℕ) → state_at i ≡ Some a → state_at j ≡ Some b → is_later b a ≡ true → i < j
  later-place a b i j h k newer = elim (cases_lt i j) [ inl less ↦ less | inr few ↦ absurd (no (rises j i b a few k h)) ]
    where
      no : IsUpTo b a → ⊥
      no (inl same) = cc (not-itself a)
      no (inr behind) = cc (newer, one-way a b (older a b behind).1)

  -- places of board states rise, with one more at their front, if the board state of this is older than the first of theirs
  rising-more : (m : BoardState) (ms : List BoardState) (i : ℕ) (places : List ℕ) → state_at i ≡ Some m → RiseAbove (Some m) ms → map Some ms ≡ map state_at places
      → IsStrictlyIncreasing places → IsStrictlyIncreasing (i ∷ places)
  rising-more m ms i [] h up same rising = λ k few. absurd (omega (arith, few))
  rising-more m [] i (j ∷ places) h up same rising = cc
  rising-more m (n ∷ ms) i (j ∷ places) h up same rising =
      let k : state_at j ≡ Some n = cc in rises-more i j places (later-place m n i j h k up.0) rising

  -- with one board state more at the front, which is older than the next, what is shown still rises
  one-more : (f : FollowState) (lines : Lines) (m : BoardState) → All Stood (m ∷ board_states_shown (after_shown f (Some m)) lines)
      → Rise options rows (board_states_shown (after_shown f (Some m)) lines) (λ shape. follow_outputs shape (after_shown f (Some m)) lines)
      → Rise options rows (m ∷ board_states_shown (after_shown f (Some m)) lines)
      (λ shape. shown_output shape f (Some m) ++ follow_outputs shape (after_shown f (Some m)) lines)
  one-more f lines m these r =
      let then = after_shown f (Some m) in
      let at = All-head Stood m (board_states_shown then lines) these in
      let n = one_more f.lines in record {
        showings = showing_of n at.place ∷ r.showings;
        rising = rising-more m (board_states_shown then lines) at.place (places_of r.showings) at.stands (rise then lines) r.same r.rising;
        within = All-cons (λ place. place ≤ length (lines_of rows)) at.place (places_of r.showings) at.within r.within;
        same = ap₂ (λ (o : Option BoardState) (os : Carried). o ∷ os) (sym at.stands) r.same;
        text = λ shape. ap₂ (λ (a b : List ℕ). a ++ b) (ap (text_if shape n) (sym at.stands)) (r.text shape);
      }

  -- what is shown of lines rises, and is written, if each board state of it was that of the record at some moment
  shows-all : (f : FollowState) (lines : Lines) → All Stood (board_states_shown f lines) → Rise options rows (board_states_shown f lines) (λ shape. follow_outputs shape f lines)
  unfolding board_states_shown follow_outputs
  shows-all f [] all = record {
    showings = [];
    rising = λ k few. absurd (omega (arith, few));
    within = All-nil (λ place. place ≤ length (lines_of rows));
    same = refl;
    text = λ shape. refl;
  }
  shows-all f (line ∷ lines) all = by-shown (λ o. All Stood (option_to_list o ++ board_states_shown (after_shown f o) lines)
      → Rise options rows (option_to_list o ++ board_states_shown (after_shown f o) lines) (λ shape. shown_output shape f o ++ follow_outputs shape (after_shown f o) lines)) f line
      (λ _ rest. shows-all (after_shown f None) lines rest)
      (λ m s these. one-more f lines m these (shows-all (after_shown f (Some m)) lines (All-tail Stood m (board_states_shown (after_shown f (Some m)) lines) these)))
      all

  -- of what lines carry, as far as it is asked for, there is a newest, as all was that of the record at some moment
  module _ (args : FollowArgs) where
    abbrev IsAsked : BoardState → Type 0
    IsAsked m = is_asked args.group args.profile m.header ≡ true

    -- a line carries nothing that is asked for, or this board state, or one that is behind it
    abbrev Fits : BoardState → Option BoardState → Type 0
    Fits m None = ⊤
    Fits m (Some other) = (is_asked args.group args.profile other.header ≡ false) ⊎ IsUpTo other m

    -- the newest of a board state and what lines carry
    record Newest (m : BoardState) (os : Carried) : Type 0 where
      now : BoardState
      from : (now ≡ m) ⊎ Contains os (Some now)
      asked : IsAsked now
      upto : IsUpTo m now
      fits : All (Fits now) os

    further : (a b c : BoardState) → IsUpTo a b → IsUpTo b c → IsUpTo a c
    further a b c (inl same) q = subst (λ (x : BoardState). IsUpTo x c) (sym same) q
    further a b c (inr p) q = inr (beyond a b c p q)

    fits-on : (m n : BoardState) (o : Option BoardState) → IsUpTo m n → Fits m o → Fits n o
    fits-on m n None up fits = tt
    fits-on m n (Some x) up (inl out) = inl out
    fits-on m n (Some x) up (inr is) = inr (further x m n is up)

    -- a board state and what a line carries: the newer of the two
    record Newer (m : BoardState) (o : Option BoardState) : Type 0 where
      now : BoardState
      from : (now ≡ m) ⊎ (o ≡ Some now)
      asked : IsAsked now
      stood : Stood now
      upto : IsUpTo m now
      fits : Fits now o

    newer-of : (m : BoardState) (o : Option BoardState) → IsAsked m → Stood m → ((x : BoardState) → o ≡ Some x → IsAsked x → Stood x) → Newer m o
    newer-of m None asked s all = record { now = m; from = inl refl; asked = asked; stood = s; upto = inl refl; fits = tt }
    newer-of m (Some x) asked s all = elim (cases_Bool (is_asked args.group args.profile x.header)) [
      | inr out ↦ record { now = m; from = inl refl; asked = asked; stood = s; upto = inl refl; fits = inl out }
      | inl in_asked ↦ let t = all x refl in_asked in elim (cases_lt s.place t.place) [
        | inl less ↦
            record { now = x; from = inr refl; asked = in_asked; stood = t; upto = rises s.place t.place m x (omega (arith, less)) s.stands t.stands; fits = inr (inl refl) }
        | inr few ↦ record { now = m; from = inl refl; asked = asked; stood = s; upto = inl refl; fits = inr (rises t.place s.place x m few t.stands s.stands) }
      ]
    ]

    newest-of : (m : BoardState) (os : Carried) → IsAsked m → Stood m → ((x : BoardState) → Contains os (Some x) → IsAsked x → Stood x) → Newest m os
    newest-of m [] asked s all = record { now = m; from = inl refl; asked = asked; upto = inl refl; fits = All-nil (Fits m) }
    newest-of m (o ∷ os) asked s all =
        let one = newer-of m o asked s (λ x is. all x (0, omega arith, is)) in
        let more = newest-of one.now os one.asked one.stood (λ x t. all x (Contains-append_right (o ∷ []) os (Some x) t)) in record {
          now = more.now;
          from = elim more.from [
            | inr later ↦ inr (Contains-append_right (o ∷ []) os (Some more.now) later)
            | inl same ↦ elim one.from [ inl still ↦ inl (same ∙ still) | inr this ↦ inr (0, omega arith, this ∙ ap Some (sym same)) ]
          ];
          asked = more.asked;
          upto = further m one.now more.now one.upto more.upto;
          fits = All-cons (Fits more.now) o os (fits-on one.now more.now o more.upto one.fits) more.fits;
        }

    -- a follower of lines that carry no other board states than the record's answers has shown the newest of them
    shows-newest : (lines : Lines) (m : BoardState) → CarryNoOther args (answer_lines options rows) lines → IsCarriedIn lines m → IsAsked m → ShowsTheNewest args lines
    unfolding LatestIsShownLast
    shows-newest lines m none told asked =
        let os = map parse_board_line lines in
        let stood = λ (x : BoardState) (t : Contains os (Some x)) (a : IsAsked x). was-told (start_of options) (lines_of rows) x is (none x t a) in
        let n = newest-of m os asked (stood m told asked) stood in
        let most : IsLatest args n.now lines = record {
          carried = elim n.from [ inl same ↦ subst (IsCarriedIn lines) (sym same) told | inr this ↦ this ];
          asked = n.asked;
          newest = All-weaker (Fits n.now) (IsNoNewer args n.now) (no-newer n.now) os n.fits;
        } in record { newest = n.now; latest = most; shown = latest args n.now lines most }
      where
        no-newer : (m : BoardState) (o : Option BoardState) → Fits m o → IsNoNewer args m o
        no-newer m None fits = tt
        no-newer m (Some x) (inl out) = inl out
        no-newer m (Some x) (inr (inl same)) = inr (inl same)
        no-newer m (Some x) (inr (inr behind)) = inr (inr (older m x behind))

-- what the first lines carry is carried by all of them
carried-first : (lines : Lines) (count : ℕ) (m : BoardState) → IsCarriedIn (take count lines) m → IsCarriedIn lines m
carried-first lines count m t = subst (λ (ls : Lines). IsCarriedIn ls m) (take-append-drop count lines)
    (rw (map-append parse_board_line (take count lines) (drop count lines))
    (Contains-append_left (map parse_board_line (take count lines)) (map parse_board_line (drop count lines)) (Some m) t))

-- of answers to a record, in any order and number, each table that is shown is that of one moment of the record, in rising order
pub one-moment : EveryTableIsOneMoment
unfolding EveryTableIsOneMoment OthersDoNotMatter ShownVersionsRise
one-moment options rows args lines json short none =
    let is = ready options rows json short in
    let ms = board_states_shown (unseen args) lines in
    let v = versions (unseen args) lines in
    let r = shows-all options rows is (unseen args) lines
    (λ k d few. was-told (start_of options) (lines_of rows) (get_or ms k d) is (none (get_or ms k d) (v.carried k d few) (v.asked k d few))) in record {
      showings = r.showings;
      moments = record {
        rising = r.rising;
        within = r.within;
        legal = λ k d few.
            let at = moment options rows (get_or (places_of r.showings) k d) in
            legal-at at.phase (sound-after (start_of options) (take (get_or (places_of r.showings) k d) (lines_of rows)) (start-sound options)).phase;
        same = r.same;
      };
      text = r.text;
      never_behind = λ count m told asked.
          shows-newest options rows is args (take count lines) m (λ x t. none x (carried-first lines count x t)) told asked;
      last = λ m is told. others args m (answer_lines options rows) lines (is-latest options rows args m is m (none m told is.asked) (inr refl)) none told;
    }

-- what a run that ended well put out is the text that it owed
output-is : {Value Fault S W State : Type 0} (due : Due Value Fault) (source : reads.Ghosts S) (sink : writes.Ghosts W) (before after : LoggedIo S W State) (input output : List ℕ)
    → EndedWell due source sink before after input output → output ≡ due.whole input
output-is due source sink before after input output well =
    append_cancel_left well.taken output (due.whole input) (rw (well.left, well.taken_before, well.taken_after) at well.driven.text)

-- if the lines that a follower read are among those that a session wrote, what it wrote are tables of moments of the session's record
pub runs-show : {S W F O T : Type 0} (rows_from : reads.Ghosts S) (answers_to : writes.Ghosts W) (lines_from : reads.Ghosts F) (tables_to : writes.Ghosts O) (passed_to : writes.Ghosts T)
    → RunsShowMoments rows_from answers_to lines_from tables_to passed_to
unfolding RunsShowMoments EveryTableIsOneMoment
runs-show rows_from answers_to lines_from tables_to passed_to options args rows answers lines tables live live_after follow follow_after json short wrote read these =
    let told = output-is (session_due (start_of options)) rows_from answers_to live live_after rows answers wrote in
    let out = answer_lines options rows in
    let those = whole_lines lines in
    let carried = among out those (subst (λ (l : List ℕ). All (Contains (whole_lines l)) those) told these) in
    let shows = one-moment options rows args those json short (λ m t _. All-contains (Contains (map parse_board_line out)) (map parse_board_line those) (Some m) carried t) in record {
      shows = shows;
      text = output-is (follow_due args) lines_from tables_to follow follow_after lines tables read ∙ shows.text args.shape;
    }
