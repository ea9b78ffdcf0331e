-- What is shown of lines.
use Rattle.ucl_live_runs.proofs.Common.{All, All-cons, All-contains, All-contains_itself, All-head, All-map, All-nil, All-tail, All-weaker}
use Rattle.ucl_live_runs.proofs.Common.{AwayInTie, BoardHeader, BoardState, Contains, Contains-append_cases, Contains-append_right}
use Rattle.ucl_live_runs.proofs.Common.{FollowArgs, FollowState, IsCarriedIn, IsFollowed, IsNoNewer, IsOlder, IsShownLast}
use Rattle.ucl_live_runs.proofs.Common.{LatestIsShownLast, List, None, Option, OthersDoNotMatter, Profile, RiseAbove, ShownVersionsRise}
use Rattle.ucl_live_runs.proofs.Common.{Some, Uefa, [], after_shown, and_parts, ap, arith, board_states_shown, cases_Bool, cond_some}
use Rattle.ucl_live_runs.proofs.Common.{eqb-true, false, flat_map, follow_outputs, followed, inl, inr, is_asked, is_later, is_newer}
use Rattle.ucl_live_runs.proofs.Common.{is_same_order, is_shown, map, nat_tests, option_to_list, parse_board_line, refl, same_Some}
use Rattle.ucl_live_runs.proofs.Common.{shown_if, shown_of, shown_output, subst, sym, table_text, true, unseen, ℕ, ⊤, ◌++◌, ◌==◌, ◌∙◌, ◌∷◌}
use Rattle.ucl_live_runs.proofs.Common.{◌≡◌, ◌⊎◌}
use Rattle.ucl_command.specs.declared.follow.FollowShape.TheVariants.{Text}

-- lines, each as its bytes
abbrev Lines : Type 0
Lines = List (List ℕ)

-- a follower shows this board state of a line, which carries it, and it is as asked for and newer than all before
pub record Shows (f : FollowState) (line : List ℕ) (m : BoardState) : Type 0 where
  pub carried : parse_board_line line ≡ Some m
  pub asked : IsFollowed f m
  pub newer : is_newer f.newest m ≡ true

-- if what is shown of a line is a board state, the line carries it, and it is as asked for and newer than all before
shows : (f : FollowState) (line : List ℕ) (o : Option BoardState) (m : BoardState) → parse_board_line line ≡ o → shown_if f o ≡ Some m → Shows f line m
shows f line None m is h = cc
shows f line (Some n) m is h =
    let p = cond_some (is_shown f n) n m h in
    let q = and_parts (is_asked f.group f.profile m.header) (is_newer f.newest m) (subst (λ (x : BoardState). is_shown f x ≡ true) p.1 p.0) in
    record { carried = is ∙ ap Some p.1; asked = q.0; newer = q.1 }

-- a property `P` holds for what is shown of a line if it holds for nothing and for each board state that may be shown of the line
pub by-shown : (P : Option BoardState → Type 0) (f : FollowState) (line : List ℕ) → (shown_of f line ≡ None → P None) → ((m : BoardState) → Shows f line m → P (Some m))
    → P (shown_of f line)
by-shown P f line none some = by (shown_of f line) refl
  where
    by : (o : Option BoardState) → shown_of f line ≡ o → P o
    by None is = none is
    by (Some m) is = some m (shows f line (parse_board_line line) m refl is)

-- each board state that is shown is newer than those before
pub rise : (f : FollowState) (lines : Lines) → RiseAbove f.newest (board_states_shown f lines)
unfolding board_states_shown
rise f [] = tt
rise f (line ∷ lines) = by-shown (λ o. RiseAbove f.newest (option_to_list o ++ board_states_shown (after_shown f o) lines)) f line
    (λ _. rise (after_shown f None) lines) (λ m s. (s.newer, rise (after_shown f (Some m)) lines))

-- as text the screens of what is shown are written, one after the other
text : (f : FollowState) (lines : Lines) → follow_outputs Text f lines ≡ flat_map table_text (board_states_shown f lines)
unfolding follow_outputs board_states_shown
text f [] = refl
text f (line ∷ lines) = by-shown (λ o. shown_output Text f o ++ follow_outputs Text (after_shown f o) lines
    ≡ flat_map table_text (option_to_list o ++ board_states_shown (after_shown f o) lines)) f line
    (λ _. text (after_shown f None) lines) (λ m s. ap (λ (l : List ℕ). table_text m ++ l) (text (after_shown f (Some m)) lines))

-- what lines carry is carried with one line more too
carried-later : (line : List ℕ) (lines : Lines) (m : BoardState) → IsCarriedIn lines m → IsCarriedIn (line ∷ lines) m
carried-later line lines m h = Contains-append_right (parse_board_line line ∷ []) (map parse_board_line lines) (Some m) h

-- what each of these lines carries is among what all of them carry
mapped : (lines : Lines) → All (λ line. Contains (map parse_board_line lines) (parse_board_line line)) lines
mapped [] = All-nil (λ line. Contains [] (parse_board_line line))
mapped (line ∷ lines) =
    let os = map parse_board_line lines in
    let P = λ (l : List ℕ). Contains (map parse_board_line (line ∷ lines)) (parse_board_line l) in
    All-cons P line lines (0, omega arith, refl)
    (All-weaker (λ l. Contains os (parse_board_line l)) P (λ l. Contains-append_right (parse_board_line line ∷ []) os (parse_board_line l)) lines (mapped lines))

-- what lines carry that are all among others is among what the others carry
pub among : (lines others : Lines) → All (Contains lines) others → All (Contains (map parse_board_line lines)) (map parse_board_line others)
among lines others h =
    let P = λ (l : List ℕ). Contains (map parse_board_line lines) (parse_board_line l) in
    All-map (Contains (map parse_board_line lines)) parse_board_line others (All-weaker (Contains lines) P (λ l. All-contains P lines l (mapped lines)) others h)

-- what is shown is carried by one of the lines
carried : (f : FollowState) (lines : Lines) → All (IsCarriedIn lines) (board_states_shown f lines)
unfolding board_states_shown
carried f [] = All-nil (IsCarriedIn [])
carried f (line ∷ lines) =
    let P = IsCarriedIn (line ∷ lines) in
    let later = λ (o : Option BoardState). All-weaker (IsCarriedIn lines) P (carried-later line lines) (board_states_shown (after_shown f o) lines) (carried (after_shown f o) lines) in
    by-shown (λ o. All P (option_to_list o ++ board_states_shown (after_shown f o) lines)) f line (λ _. later None)
    (λ m s. All-cons P m (board_states_shown (after_shown f (Some m)) lines) (0, omega arith, s.carried) (later (Some m)))

-- two headers are of one group and one order
abbrev pub IsOfSame : BoardHeader → BoardHeader → Type 0
IsOfSame a b = (a.group ≡ b.group) × (a.profile ≡ b.profile)

-- two tie-break orders that compare as the same are equal
same-order : (one other : Profile) → is_same_order one other ≡ true → one ≡ other
same-order Uefa AwayInTie h = cc
same-order AwayInTie Uefa h = cc
same-order _ _ _ = refl

-- a tie-break order compares as the same as itself
itself : (order : Profile) → is_same_order order order ≡ true
itself Uefa = refl
itself AwayInTie = refl

-- if a request for the group and the order of one header lets another header through, both are of one group and one order
pub asked-same : (a b : BoardHeader) → is_asked (Some a.group) (Some a.profile) b ≡ true → IsOfSame a b
asked-same a b h =
    let p = and_parts (a.group == b.group) (is_same_order a.profile b.profile) h in (eqb-true a.group b.group p.0, same-order a.profile b.profile p.1)

-- if two headers are of one group and one order, a follower that asks for those of the first asks for the second
pub same-asked : (a b : BoardHeader) → IsOfSame a b → is_asked (Some a.group) (Some a.profile) b ≡ true
same-asked a b h = let order = itself b.profile in rw (h.0, h.1, order) (grind (arith, nat_tests))

-- of two headers of one group and one order, a request for a group and an order lets both through, or none
alike : (a b : BoardHeader) → IsOfSame a b → (group : Option ℕ) (profile : Option Profile) → is_asked group profile a ≡ is_asked group profile b
alike a b h group profile = rw (h.0, h.1) refl

-- a follower follows the group and the order of this board state
abbrev Follows : FollowState → BoardState → Type 0
Follows f m = (f.group ≡ Some m.header.group) × (f.profile ≡ Some m.header.profile)

-- a board state is as a follower asks for, if the follower follows its group and its order
own : (f : FollowState) (m : BoardState) → Follows f m → IsFollowed f m
own f m h = rw (h.0, h.1) (same-asked m.header m.header (refl, refl))

-- a follower follows the group and the order of a board state after more lines too
keeps : (f : FollowState) (lines : Lines) (m : BoardState) → Follows f m → Follows (followed f lines) m
unfolding followed
keeps f [] m h = h
keeps f (line ∷ lines) m h = by-shown (λ o. Follows (followed (after_shown f o) lines) m) f line (λ _. keeps (after_shown f None) lines m h)
    (λ n s. let same = asked-same m.header n.header (rw (h.0, h.1) at s.asked) in keeps (after_shown f (Some n)) lines m (ap Some (sym same.0), ap Some (sym same.1)))

-- if a board state is of the group and order that a follower follows after these lines, it is of those that it followed before, if any
narrows : (f : FollowState) (lines : Lines) (m : BoardState) → IsFollowed (followed f lines) m → IsFollowed f m
unfolding followed
narrows f [] m h = h
narrows f (line ∷ lines) m h = by-shown (λ o. IsFollowed (followed (after_shown f o) lines) m → IsFollowed f m) f line (λ _. narrows (after_shown f None) lines m)
    (λ n s k. sym (alike n.header m.header (asked-same n.header m.header (narrows (after_shown f (Some n)) lines m k)) f.group f.profile) ∙ s.asked) h

-- all that is shown is of the group and the order that are followed in the end
has_header : (f : FollowState) (lines : Lines) → All (IsFollowed (followed f lines)) (board_states_shown f lines)
unfolding followed board_states_shown
has_header f [] = All-nil (IsFollowed f)
has_header f (line ∷ lines) = by-shown (λ o. All (IsFollowed (followed (after_shown f o) lines)) (option_to_list o ++ board_states_shown (after_shown f o) lines)) f line
    (λ _. has_header (after_shown f None) lines)
    (λ m s. let g = after_shown f (Some m) in
    All-cons (IsFollowed (followed g lines)) m (board_states_shown g lines) (own (followed g lines) m (keeps g lines m (refl, refl))) (has_header g lines))

-- of any lines a follower shows board states that they carry, of the group and order that it follows, each newer than all before
pub versions : ShownVersionsRise
unfolding ShownVersionsRise
versions f lines = record {
  rise = rise f lines;
  text = text f lines;
  carried = carried f lines;
  asked = All-weaker _ (IsFollowed f) (narrows f lines) (board_states_shown f lines) (has_header f lines);
  has_header = has_header f lines;
}

-- no board state is later than itself
pub not-itself : (m : BoardState) → is_later m m ≡ false
not-itself m = grind (arith, nat_tests)

-- if one board state is later than another, the other is not later than it
pub one-way : (m other : BoardState) → is_later m other ≡ true → is_later other m ≡ false
one-way m other h = grind (arith, nat_tests)

-- a board state that is as asked for
module _ (args : FollowArgs) (m : BoardState) (asked : is_asked args.group args.profile m.header ≡ true) where
  -- a line carries no newer one that is as asked for
  abbrev Fits : Option BoardState → Type 0
  Fits = IsNoNewer args m

  abbrev AllFit : Lines → Type 0
  AllFit lines = All Fits (map parse_board_line lines)

  -- the newest so far is older
  abbrev IsBelow : Option BoardState → Type 0
  IsBelow None = ⊤
  IsBelow (Some other) = is_later m other ≡ true

  -- what is followed is what was asked for, or the group and the order of the board state
  abbrev IsOpenTo : FollowState → Type 0
  IsOpenTo f = ((f.group ≡ args.group) × (f.profile ≡ args.profile)) ⊎ Follows f m

  -- such a follower follows it
  takes : (f : FollowState) → IsOpenTo f → IsFollowed f m
  takes f (inl h) = rw (h.0, h.1) asked
  takes f (inr h) = own f m h

  -- it follows nothing that is not as asked
  foreign : (f : FollowState) (header : BoardHeader) → IsOpenTo f → is_asked args.group args.profile header ≡ false → is_asked f.group f.profile header ≡ true → ⊥
  foreign f header (inl h) out is = cc (rw (h.0, h.1) at is, out)
  foreign f header (inr h) out is = cc (alike m.header header (asked-same m.header header (rw (h.0, h.1) at is)) args.group args.profile, asked, out)

  -- what a line shows is the board state, or older
  known : (f : FollowState) (line : List ℕ) (n : BoardState) → IsOpenTo f → Shows f line n → Fits (parse_board_line line) → (n ≡ m) ⊎ IsOlder m n
  known f line n h s fits = by (rw s.carried at fits)
    where
      by : IsNoNewer args m (Some n) → (n ≡ m) ⊎ IsOlder m n
      by (inl out) = absurd (foreign f n.header h out s.asked)
      by (inr kind) = kind

  -- once it was shown, nothing is
  rest : (f : FollowState) (lines : Lines) → IsOpenTo f → f.newest ≡ Some m → AllFit lines → ((followed f lines).newest ≡ Some m) × (board_states_shown f lines ≡ [])
  unfolding followed board_states_shown
  rest f [] h e all = (e, refl)
  rest f (line ∷ lines) h e all =
      by-shown (λ o. ((followed (after_shown f o) lines).newest ≡ Some m) × (option_to_list o ++ board_states_shown (after_shown f o) lines ≡ [])) f line
      (λ _. rest (after_shown f None) lines h e (All-tail Fits (parse_board_line line) (map parse_board_line lines) all))
      (λ n s. absurd (elim (known f line n h s (All-head Fits (parse_board_line line) (map parse_board_line lines) all)) [
        | inl same ↦ cc (rw (e, same) at s.newer, not-itself m)
        | inr older ↦ cc (rw e at s.newer, one-way m n older.1)
      ]))

  -- a follower shows the board state, if the newest that it has shown is older
  newer : (f : FollowState) → IsOpenTo f → IsBelow f.newest → is_shown f m ≡ true
  newer f h below = rw (takes f h) (than f.newest below)
    where
      than : (o : Option BoardState) → IsBelow o → is_newer o m ≡ true
      than None h = refl
      than (Some other) h = h

  -- the board state is the newest in the end, and was shown last
  abbrev EndsWith : FollowState → List BoardState → Type 0
  EndsWith end ms = (end.newest ≡ Some m) × ((before : List BoardState) × (ms ≡ before ++ m ∷ []))

  -- a follower to which the newest board state came ends with it, and shows it last
  ends : (f : FollowState) (lines : Lines) → IsOpenTo f → IsBelow f.newest → IsCarriedIn lines m → AllFit lines → EndsWith (followed f lines) (board_states_shown f lines)
  unfolding followed board_states_shown
  ends f [] h below is all = absurd (omega (arith, is.1))
  ends f (line ∷ lines) h below is all = by-shown (λ o. EndsWith (followed (after_shown f o) lines) (option_to_list o ++ board_states_shown (after_shown f o) lines)) f line
      (λ none. elim (Contains-append_cases (parse_board_line line ∷ []) (map parse_board_line lines) (Some m) is) [
        | inl now ↦ cc (rw (this now, newer f h below) at none)
        | inr more ↦ ends (after_shown f None) lines h below more later
      ])
      (λ n s. elim (Contains-append_cases (parse_board_line line ∷ []) (map parse_board_line lines) (Some m) is) [
        | inl now ↦ here n (same_Some n m (sym s.carried ∙ this now))
        | inr more ↦ elim (known f line n h s (All-head Fits (parse_board_line line) (map parse_board_line lines) all)) [
          | inl same ↦ here n same
          | inr older ↦
              let e = ends (after_shown f (Some n)) lines (follow n (asked-same m.header n.header older.0)) older.1 more later in
              (e.0, (n ∷ e.1.0, ap (λ (ms : List BoardState). n ∷ ms) e.1.1))
        ]
      ])
    where
      later : AllFit lines
      later = All-tail Fits (parse_board_line line) (map parse_board_line lines) all

      this : Contains (parse_board_line line ∷ []) (Some m) → parse_board_line line ≡ Some m
      this at = let z : at.0 ≡ 0 = omega (arith, at.1) in rw z at at.2

      follow : (n : BoardState) → IsOfSame m.header n.header → IsOpenTo (after_shown f (Some n))
      follow n same = inr (ap Some (sym same.0), ap Some (sym same.1))

      here : (n : BoardState) → n ≡ m → EndsWith (followed (after_shown f (Some n)) lines) (n ∷ board_states_shown (after_shown f (Some n)) lines)
      here n same =
          let r = rest (after_shown f (Some n)) lines (follow n (ap (λ (x : BoardState). x.header.group) (sym same), ap (λ (x : BoardState). x.header.profile) (sym same)))
          (ap Some same) later in
          (r.0, ([], ap (λ (ms : List BoardState). n ∷ ms) r.1 ∙ ap (λ (x : BoardState). x ∷ []) same))

  -- the latest board state of some lines is shown last of them
  last : (lines : Lines) → AllFit lines → IsCarriedIn lines m → IsShownLast args m lines
  last lines all is = let p = ends (unseen args) lines (inl (refl, refl)) tt is all in record { before = p.1.0; shown = p.1.1; newest = p.0 }

-- the latest board state that lines carry, of those asked for, is the last that a follower shows of them
pub latest : LatestIsShownLast
unfolding LatestIsShownLast
latest args m lines h = last args m h.asked lines h.newest h.carried

-- the latest board state of `lines` is shown last of others that carry no other board states, if one of these carries it
pub others : OthersDoNotMatter
unfolding OthersDoNotMatter
others args m lines those h none told =
    let os = map parse_board_line those in
    last args m h.asked those (All-weaker (Contains os) (IsNoNewer args m) each os (All-contains_itself os)) told
  where
    each : (o : Option BoardState) → Contains (map parse_board_line those) o → IsNoNewer args m o
    each None t = tt
    each (Some other) t = elim (cases_Bool (is_asked args.group args.profile other.header)) [
      | inl asked ↦ All-contains (IsNoNewer args m) (map parse_board_line lines) (Some other) h.newest (none other t asked)
      | inr out ↦ inl out
    ]
