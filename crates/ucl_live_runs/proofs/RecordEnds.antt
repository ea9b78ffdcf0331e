-- The board states that the answers to a record carry: each is that of one moment of the record, and the last is its board.
use Rattle.ucl_live_runs.proofs.Common.{All, All-contains, All-contains_itself, All-nil, All-weaker, AnswersFitTheirLines, AnswersNeverFall}
use Rattle.ucl_live_runs.proofs.Common.{BoardState, Contains, Contains-append_cases, Contains-append_left, Contains-append_right}
use Rattle.ucl_live_runs.proofs.Common.{FollowArgs, FollowersEndWithTheBoard, IsCarriedIn, IsLatest, IsNoFall, IsNoNewer, IsOlder, IsRecord}
use Rattle.ucl_live_runs.proofs.Common.{Json, List, LiveArgs, NamedClub, NeverFall, None, Ok, Open, Option, Reached, Session, Some}
use Rattle.ucl_live_runs.proofs.Common.{StandingEvent, [], after_lines, answer_lines, answer_said, answers, arith, begun_line, board_in}
use Rattle.ucl_live_runs.proofs.Common.{board_state_at, board_state_now, board_state_with, ended_lines, ended_none, few_lines, inl, inr}
use Rattle.ucl_live_runs.proofs.Common.{is_later, last_lines, length, length-append, length-take, lines_of, map, nat_tests, next, open_at}
use Rattle.ucl_live_runs.proofs.Common.{parse_board_line, refl, said_on, same_Some, shown_text, start_of, subst, suc, sym, take, true}
use Rattle.ucl_live_runs.proofs.Common.{version_of, ℕ, ◌++◌, ◌+◌, ◌<◌, ◌^◌, ◌∙◌, ◌∷◌, ◌≡◌, ◌≤◌, ◌⊎◌}
use Rattle.std.proofs.Common.{zero}
use Rattle.ucl_live_runs.proofs.AnswerLines.{CarriesAtMost, IsAtMost, IsShort, carried-none, carried-then, carried_in, short-then}
use Rattle.ucl_live_runs.proofs.AnswerLines.{shown-text}
use Rattle.ucl_live_runs.proofs.FollowShown.{same-asked}
use Rattle.ucl_live_runs.proofs.Told.{IsBehind, IsSound, Tells, board-tells, line-tells, sound-next, start-sound}

-- a board state that is behind another, that is, of its group and order and of an earlier edition or version, is older
pub older : (m o : BoardState) → IsBehind o m → IsOlder m o
older m o b = (same-asked m.header o.header (sym b.same.0, sym b.same.1), later m o b.less)
  where
    later : (m o : BoardState) → (o.header.edition < m.header.edition) ⊎ ((o.header.edition ≡ m.header.edition) × (version_of o.board < version_of m.board)) → is_later m o ≡ true
    later m o (inl less) = grind (arith, nat_tests)
    later m o (inr less) = grind (arith, nat_tests)

-- the first board state is the second, or behind it
abbrev pub IsUpTo : BoardState → BoardState → Type 0
IsUpTo a b = (a ≡ b) ⊎ IsBehind a b

-- a board state that is behind a second is behind each that the second is or is behind
pub beyond : (a b c : BoardState) → IsBehind a b → IsUpTo b c → IsBehind a c
beyond a b c p (inl same) = subst (IsBehind a) same p
beyond a b c p (inr q) = record {
  same = (p.same.0 ∙ q.same.0, p.same.1 ∙ q.same.1);
  less = elim p.less [
    | inl less ↦ elim q.less [ inl more ↦ inl (omega arith) | inr more ↦ inl (omega arith) ]
    | inr less ↦ elim q.less [ inl more ↦ inl (omega arith) | inr more ↦ inr (omega arith) ]
  ];
}

-- lines, each as its bytes
abbrev pub Lines : Type 0
Lines = List (List ℕ)

-- what the lines of answers carry, one after the other
abbrev pub Carried : Type 0
Carried = List (Option BoardState)

-- the session has a board state, which is `m` or of which `m` is an earlier one, and this holds of it
pub record Reaches (m : BoardState) (e : Session) (Told : BoardState → Type 0) : Type 0 where
  pub now : BoardState
  pub stands : board_state_now e ≡ Some now
  pub upto : IsUpTo m now
  pub told : Told now

-- the board state of the session after the first lines, as many as `place` says, is `m`; in the end it is this or a newer one, and carried, if
-- screens are asked for
pub record WasTold (e : Session) (lines : Lines) (m : BoardState) : Type 0 where
  pub place : ℕ
  pub within : place ≤ length lines
  pub stands : board_state_now (after_lines e (take place lines)) ≡ Some m
  pub last : Reaches m (after_lines e lines) (λ (n : BoardState). e.options.screens ≡ true → Contains (carried_in (answers e lines)) (Some n))

-- a sound session that answers in JSON, and that has row numbers of 64 bits for these lines
pub record IsReady (e : Session) (lines : Lines) : Type 0 where
  pub json : e.options.format ≡ Json
  pub fits : e.row + length lines ≤ 2 ^ 64
  pub sound : IsSound e

-- a session that is ready for lines is ready for the first of them
ready-take : (e : Session) (lines : Lines) (place : ℕ) → IsReady e lines → IsReady e (take place lines)
ready-take e lines place is = record { json = is.json; fits = let few = length-take place lines in omega (arith, is.fits, few); sound = is.sound }

-- the session has an open board, which is this board state
record IsAtBoard (e : Session) (m : BoardState) : Type 0 where
  clubs : List NamedClub
  events : List StandingEvent
  phase : e.phase ≡ open_at clubs events
  same : board_state_with e.header clubs (board_in events) ≡ m

-- a session whose phase has a board state has an open board, which is this board state
at-board : (e : Session) (s : Reached) (m : BoardState) → e.phase ≡ s → board_state_at e.header s ≡ Some m → IsAtBoard e m
at-board e (Ok (Open table)) m h k =
    record { clubs = table.roster; events = table.events; phase = h; same = same_Some (board_state_with e.header table.roster (board_in table.events)) m k }
at-board e s m h k = cc

-- board states that never fall (none is older than one before it) do not with others before them, if none falls from one of the others
fall-front : (a b : Carried) → ((o p : Option BoardState) → Contains a o → Contains (a ++ b) p → IsNoFall o p) → NeverFall b
    → NeverFall (a ++ b)
unfolding NeverFall
fall-front [] b h q = q
fall-front (o ∷ a) b h q = (
  All-weaker (Contains (a ++ b)) (IsNoFall o) (λ p t. h o p (0, omega arith, refl) (Contains-append_right (o ∷ []) (a ++ b) p t)) (a ++ b)
      (All-contains_itself (a ++ b)),
  fall-front a b (λ x p t k. h x p (Contains-append_right (o ∷ []) a x t) (Contains-append_right (o ∷ []) (a ++ b) p k)) q,
)

-- what a session answers to a line
abbrev answer_to : Session → List ℕ → List ℕ
answer_to e line = answer_said e (said_on e.row line) (shown_text line)

-- a session after a line
abbrev after : Session → List ℕ → Session
after e line = next e (said_on e.row line)

-- a session that is ready for a line and more
module _ (e : Session) (line : List ℕ) (lines : Lines) (is : IsReady e (line ∷ lines)) where
  abbrev here : Carried
  here = carried_in (answer_to e line)

  abbrev later : Carried
  later = carried_in (answers (after e line) lines)

  abbrev all : Carried
  all = carried_in (answers e (line ∷ lines))

  ready-next : IsReady (after e line) lines
  ready-next = record { json = is.json; fits = omega (arith, is.fits); sound = sound-next e (said_on e.row line) is.sound }

  tells : CarriesAtMost (board_state_now (after e line)) (answer_to e line)
  tells = line-tells e (said_on e.row line) (shown_text line) is.json (omega (arith, is.fits)) is.sound (shown-text line)

  moves : (m : BoardState) → board_state_now e ≡ Some m → Tells e.options.screens m (board_state_now (after e line)) (answer_to e line)
  moves m stands =
      let at = at-board e e.phase m refl stands in
      subst (λ (x : BoardState). Tells e.options.screens x (board_state_now (after e line)) (answer_to e line)) at.same
      (board-tells e (said_on e.row line) (shown_text line) is.json (omega (arith, is.fits)) is.sound (shown-text line) at.clubs at.events at.phase)

  -- what the line carries is the board state after it
  stands-now : (o : BoardState) → Contains here (Some o) → board_state_now (after e line) ≡ Some o
  stands-now o t = most (All-contains (IsAtMost (board_state_now (after e line))) here (Some o) tells.each t)
    where
      most : {p : Option BoardState} → IsAtMost p (Some o) → p ≡ Some o
      most (inl none) = cc
      most (inr same) = sym same

  parts : all ≡ here ++ later
  unfolding answers
  parts = carried-then (answer_to e line) (answers (after e line) lines) tells.begun

  now-or-later : (o : Option BoardState) → Contains all o → Contains here o ⊎ Contains later o
  now-or-later o t = Contains-append_cases here later o (subst (λ (os : Carried). Contains os o) parts t)

  told-now : (o : Option BoardState) → Contains here o → Contains all o
  told-now o t = subst (λ (os : Carried). Contains os o) (sym parts) (Contains-append_left here later o t)

  told-later : (o : Option BoardState) → Contains later o → Contains all o
  told-later o t = subst (λ (os : Carried). Contains os o) (sym parts) (Contains-append_right here later o t)

  -- if the line carries a board state, and this is a second one or the second is carried later, the second is carried
  told-either : (o n : BoardState) → Contains here (Some o) → (o ≡ n) ⊎ Contains later (Some n) → Contains all (Some n)
  told-either o n t (inl same) = told-now (Some n) (subst (λ (x : BoardState). Contains here (Some x)) same t)
  told-either o n t (inr more) = told-later (Some n) more

-- an empty text carries no board state
nothing : (o : BoardState) → Contains (carried_in []) (Some o) → ⊥
nothing o t = none (subst (λ (os : Carried). Contains os (Some o)) carried-none t)
  where
    none : Contains [] (Some o) → ⊥
    none h = omega (arith, h.1)

-- from a session with a board state lines lead to one with the same, or with a newer one, which an answer carries if screens are asked for
onwards : (e : Session) (lines : Lines) (m : BoardState) → IsReady e lines → board_state_now e ≡ Some m
    → Reaches m (after_lines e lines) (λ (n : BoardState). e.options.screens ≡ true → (m ≡ n) ⊎ Contains (carried_in (answers e lines)) (Some n))
unfolding after_lines
onwards e [] m is h = record { now = m; stands = h; upto = inl refl; told = λ on. inl refl }
onwards e (line ∷ lines) m is h = elim (moves e line lines is m h).moves [
  | inl same ↦
      let w = onwards (after e line) lines m (ready-next e line lines is) same in
      record {
        now = w.now;
        stands = w.stands;
        upto = w.upto;
        told = λ on. elim (w.told on) [ inl still ↦ inl still | inr more ↦ inr (told-later e line lines is (Some w.now) more) ];
      }
  | inr (n, stands, behind, is_told) ↦
      let w = onwards (after e line) lines n (ready-next e line lines is) stands in
      record { now = w.now; stands = w.stands; upto = inr (beyond m n w.now behind w.upto); told = λ on. inr (told-either e line lines is n w.now (is_told on) (w.told on)) }
]

-- each board state that answers carry is that of the session after some of the lines, and is the last one, or older than that
pub was-told : (e : Session) (lines : Lines) (o : BoardState) → IsReady e lines → Contains (carried_in (answers e lines)) (Some o) → WasTold e lines o
unfolding after_lines answers
was-told e [] o is t = absurd (nothing o t)
was-told e (line ∷ lines) o is t = elim (now-or-later e line lines is (Some o) t) [
  | inl now ↦
      let stands = stands-now e line lines is o now in
      let w = onwards (after e line) lines o (ready-next e line lines is) stands in
      record {
        place = 1;
        within = omega arith;
        stands = stands;
        last = record { now = w.now; stands = w.stands; upto = w.upto; told = λ on. told-either e line lines is o w.now now (w.told on) };
      }
  | inr more ↦
      let w = was-told (after e line) lines o (ready-next e line lines is) more in
      let last = w.last in record {
        place = suc w.place;
        within = omega (arith, w.within);
        stands = w.stands;
        last = record { now = last.now; stands = last.stands; upto = last.upto; told = λ on. told-later e line lines is (Some last.now) (last.told on) };
      }
]

-- the board state after some of the lines is that after as many or more of them, or behind it
pub climbs : (e : Session) (lines : Lines) (i j : ℕ) (a b : BoardState) → IsReady e lines → i ≤ j → board_state_now (after_lines e (take i lines)) ≡ Some a
    → board_state_now (after_lines e (take j lines)) ≡ Some b → IsUpTo a b
unfolding after_lines
climbs e lines zero j a b is few h k =
    let w = onwards e (take j lines) a (ready-take e lines j is) h in
    subst (IsUpTo a) (same_Some w.now b (sym w.stands ∙ k)) w.upto
climbs e lines (suc i) zero a b is few h k = absurd (omega arith)
climbs e [] (suc i) (suc j) a b is few h k = inl (same_Some a b (sym h ∙ k))
climbs e (line ∷ lines) (suc i) (suc j) a b is few h k = climbs (after e line) lines i j a b (ready-next e line lines is) (omega arith) h k

-- the board states that answers carry never fall
falls : (e : Session) (lines : Lines) → IsReady e lines → NeverFall (carried_in (answers e lines))
unfolding NeverFall answers after_lines
falls e [] is = subst NeverFall (sym carried-none) tt
falls e (line ∷ lines) is =
    subst NeverFall (sym (parts e line lines is)) (fall-front now more no-fall (falls (after e line) lines ready_next))
  where
    now : Carried
    now = here e line lines is

    more : Carried
    more = later e line lines is

    ready_next : IsReady (after e line) lines
    ready_next = ready-next e line lines is

    no-fall : (o p : Option BoardState) → Contains now o → Contains (now ++ more) p → IsNoFall o p
    no-fall None p t k = tt
    no-fall (Some x) None t k = tt
    no-fall (Some x) (Some y) t k = let stands = stands-now e line lines is x t in elim (Contains-append_cases now more (Some y) k) [
      | inl here ↦ inl (same_Some x y (sym stands ∙ stands-now e line lines is y here))
      | inr there ↦
          let at = was-told (after e line) lines y ready_next there in
          elim (climbs (after e line) lines zero at.place x y ready_next (omega arith) stands at.stands) [
            | inl same ↦ inl same
            | inr behind ↦ inr (older y x behind)
          ]
    ]

-- the last line of an input is at most one line
last-few : (line : List ℕ) → length (last_lines line) ≤ 1
last-few [] = omega arith
last-few (b ∷ line) = omega arith

-- an input has at most one line more than it has bytes
lines-few : (bytes : List ℕ) → length (lines_of bytes) ≤ length bytes + 1
lines-few bytes =
    let ended = ended_lines 258 [] bytes in
    let begun = begun_line 258 [] bytes in
    let one = last-few begun in
    let few = few_lines 258 [] bytes in
    omega (arith, length-append ended (last_lines begun), one, few)

-- a record is ready to be answered
pub ready : (options : LiveArgs) (rows : List ℕ) → options.format ≡ Json → length rows ≤ 2 ^ 62 → IsReady (start_of options) (lines_of rows)
ready options rows json short = record { json = json; fits = omega (arith, lines-few rows, short); sound = start-sound options }

-- each line of answers has at most 4,096 bytes
all-short : (e : Session) (lines : Lines) → IsReady e lines → All IsShort (ended_lines 4097 [] (answers e lines))
unfolding answers
all-short e [] is = rw (ended_none 4097 []) (All-nil IsShort)
all-short e (line ∷ lines) is =
    let one = tells e line lines is in
    short-then (answer_to e line) (answers (after e line) lines) one.begun one.short (all-short (after e line) lines (ready-next e line lines is))

-- each line of the answers to a record in JSON has at most 4,096 bytes
pub lines-fit : AnswersFitTheirLines
unfolding AnswersFitTheirLines
lines-fit options rows json short = all-short (start_of options) (lines_of rows) (ready options rows json short)

-- the board states that the JSON answers to a record carry, one after the other, never fall
pub never-fall : AnswersNeverFall
unfolding AnswersNeverFall
never-fall options rows json short = falls (start_of options) (lines_of rows) (ready options rows json short)

-- a record, which ends with this board state
module _ (options : LiveArgs) (rows : List ℕ) (args : FollowArgs) (m : BoardState) (is : IsRecord options rows args m) where
  abbrev lines : Lines
  lines = answer_lines options rows

  -- if its answers carry a board state, the one at its end is the same or newer, and they carry it, if screens are asked for
  up-to : (other : BoardState) → IsCarriedIn lines other → IsUpTo other m × (options.screens ≡ true → IsCarriedIn lines m)
  up-to other t =
      let w = (was-told (start_of options) (lines_of rows) other (ready options rows is.json is.short) t).last in
      subst (λ (x : BoardState). IsUpTo other x × (options.screens ≡ true → IsCarriedIn lines x)) (same_Some w.now m (sym w.stands ∙ is.ends)) (w.upto, w.told)

  -- the board state at the end of a record is the latest that its answers carry, if they carry it, or, with screens, any
  pub is-latest : (other : BoardState) → IsCarriedIn lines other → (options.screens ≡ true) ⊎ (other ≡ m) → IsLatest args m lines
  is-latest other t which = record {
    carried = elim which [ inl on ↦ (up-to other t).1 on | inr this ↦ subst (λ (x : BoardState). IsCarriedIn lines x) this t ];
    asked = is.asked;
    newest = All-weaker (Contains os) (IsNoNewer args m) each os (All-contains_itself os);
  }
    where
      os : Carried
      os = map parse_board_line lines

      each : (o : Option BoardState) → Contains os o → IsNoNewer args m o
      each None t = tt
      each (Some other) t = elim (up-to other t).0 [ inl this ↦ inr (inl this) | inr behind ↦ inr (inr (older m other behind)) ]

-- the board state at the end of a record is the latest that its answers carry, if they carry it, or, with screens, any
pub ends-with-the-board : FollowersEndWithTheBoard
unfolding FollowersEndWithTheBoard
ends-with-the-board options rows args m other is told which = is-latest options rows args m is other told which

-- a sound session is sound after any lines
pub sound-after : (e : Session) (lines : Lines) → IsSound e → IsSound (after_lines e lines)
unfolding after_lines
sound-after e [] g = g
sound-after e (line ∷ lines) g = sound-after (after e line) lines (sound-next e (said_on e.row line) g)
