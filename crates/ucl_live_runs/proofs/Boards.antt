-- The events that stand on the board of a session, and what it answers to its lines.
use Rattle.ucl_live_runs.proofs.Common.{Accepted, All, All-append, All-cons, All-nil, All-set, AreWords, As, AwaitingClubs, AwaitingHeader}
use Rattle.ucl_live_runs.proofs.Common.{Bad, BoardHeader, BoardsTakeEvents, Club, Entry, Err, Event, Format, FourFields, IfSome, IsAttempt}
use Rattle.ucl_live_runs.proofs.Common.{IsClub, IsLegal, IsLegalAt, IsMatch, IsReporter, IsRoster, Json, Kind, List, LiveArgs, MatchRecord}
use Rattle.ucl_live_runs.proofs.Common.{Matches, MayFollow, Mend, Mends, NamedClub, NightEvent, None, NoneMends, Nothing, Ok, Open, Option}
use Rattle.ucl_live_runs.proofs.Common.{OtherGroup, Reached, Refusal, RefusedSessionsAreSilent, RepliesAreThoseOfFeed, Request, Result, Row}
use Rattle.ucl_live_runs.proofs.Common.{Said, Screen, Session, SessionsAreSequential, Some, StandingEvent, Without, Words, [], after}
use Rattle.ucl_live_runs.proofs.Common.{after_attempt, after_beginning, after_club, after_header, after_lines, and_parts, answer, answer_at}
use Rattle.ucl_live_runs.proofs.Common.{answer_by_history, answer_of, answer_said, answers, answers_by_history, ap, ap₂, arith, asked_by}
use Rattle.ucl_live_runs.proofs.Common.{attempt_of, attempts_from, attempts_in, attempts_of, bad_field, bad_slot, bad_slot_from, board_in}
use Rattle.ucl_live_runs.proofs.Common.{board_of, board_words, cases_Bool, club_said, clubs_after, codes, cond_both, edition_after}
use Rattle.ucl_live_runs.proofs.Common.{edition_by, edition_reply, entered, eqb-true, event_of, event_or_mend, events_after, events_in}
use Rattle.ucl_live_runs.proofs.Common.{false, fold, fold-append, game_after, game_at, has_row, header_said, history_in, if◌then◌else◌}
use Rattle.ucl_live_runs.proofs.Common.{in_range, inl, inr, is_asked, is_club, is_group_row, is_mend, is_ok, kind_named, leb-true, length}
use Rattle.ucl_live_runs.proofs.Common.{length-append, length-map, length-set, line_by_history, may_none, mend_by, mend_or_bad, moved}
use Rattle.ucl_live_runs.proofs.Common.{nat_le, nat_tests, next, open_at, refl, refusal_of, reply_answer, reply_by_history, request_of}
use Rattle.ucl_live_runs.proofs.Common.{request_stage, said_on, screen_after, sequential_reply, shown_by, shown_text, slot_in, stage}
use Rattle.ucl_live_runs.proofs.Common.{standing_of, subst, sym, version_of, with_roster, ℕ, ⊤, ◌&&◌, ◌++◌, ◌+◌, ◌-◌, ◌<◌, ◌==◌, ◌>>=◌, ◌∙◌}
use Rattle.ucl_live_runs.proofs.Common.{◌∷◌, ◌≡◌, ◌≤◌}
use Rattle.std.specs.Prelude.{IfErr, IfOk, nat_lt, not, option_map, true}
use Rattle.std.specs.Str.{bytes_eq}
use Rattle.ucl_command.specs.declared.options.Format.TheVariants.{Text}
use Rattle.ucl_order.proofs.Clubs.{good_four}
use Rattle.ucl_rows.specs.Lines.{reply_line}
use Rattle.ucl_screen.specs.Numbers.{number}
use Rattle.ucl_screen.specs.Script.{club_of}
use Rattle.ucl_live_runs.specs.LiveTheorems.{entered_by}
use Rattle.ucl_live_runs.specs.NewClubs.{ClubInSlot, club_for}
use Rattle.ucl_live_runs.specs.Requests.{if_club, named_mend, named_row, new_club}
unfoldable use Rattle.ucl_mends.specs.MendTheorems.{MendsAreLegal}
use Rattle.ucl_live_runs.proofs.Lines.{is_open, on-board, silent}
use Rattle.ucl_mends.proofs.Mends.{few, history-more, mends_legal}
use Rattle.ucl_board.specs.History.{match_after}
use Rattle.ucl_word.specs.declared.event.EventCall.{EventCall}

-- four times the same club are a roster only if it is one that a roster takes
four-good : (club : NamedClub) → bad_slot (club ∷ club ∷ club ∷ club ∷ []) ≡ None → is_club club ≡ true
unfolding bad_slot_from
four-good club h = elim (cases_Bool (is_club club)) [ inl y ↦ y | inr n ↦ cc (rw n at h) ]

-- if four times the same club has a bad slot, it is no club that a roster takes
four-bad : (club : NamedClub) (slot : ℕ) → bad_slot (club ∷ club ∷ club ∷ club ∷ []) ≡ Some slot → is_club club ≡ false
unfolding bad_slot_from
four-bad club slot h = elim (cases_Bool (is_club club)) [ inl y ↦ cc (rw y at h) | inr n ↦ n ]

-- four times this club
abbrev four : NamedClub → List NamedClub
four club = club ∷ club ∷ club ∷ club ∷ []

-- if `r` is the result of making a roster of four times this club, it is Ok exactly if the club is one that a roster takes
pub by-four : {B : Type 0} (r : Result (List NamedClub) B) (club : NamedClub) (slot_of : B → ℕ) → IfOk r (λ roster. (roster ≡ four club) × (bad_slot (four club) ≡ None))
    → IfErr r (λ bad. bad_slot (four club) ≡ Some (slot_of bad)) → is_ok r ≡ is_club club
by-four (Ok roster) club slot_of good bad = sym (four-good club good.1)
by-four (Err b) club slot_of good bad = sym (four-bad club (slot_of b) bad)

-- after an event is entered, the history of the events that stand is that of before, after the attempt to enter it
pub entered-history : (row : ℕ) (events : List StandingEvent) (event : NightEvent) → history_in (entered row events event) ≡ after_attempt (history_in events) (attempt_of event)
entered-history row events event = elim (cases_Bool (is_ok (sequential_reply (history_in events) event.call))) [
  | inl y ↦ rw y (history-more events (standing_of row event ∷ []))
  | inr n ↦ rw n refl
]

-- the history of the events that stand stays legal when an event is entered, if its reporter and match exist
pub entered-legal : (row : ℕ) (events : List StandingEvent) (event : NightEvent) → IsLegal (history_in events) → IsAttempt (attempt_of event)
    → IsLegal (history_in (entered row events event))
entered-legal row events event legal is =
    subst IsLegal (sym (entered-history row events event)) (attempts_from (history_in events) (attempt_of event ∷ []) legal (All-cons IsAttempt (attempt_of event) [] is (All-nil IsAttempt))).0

-- what holds of the reply to an event, and of the board of the events that stand after it, if it holds where the event is accepted, and the
-- version is one more, and where it is refused
module _ (P : Result Accepted Refusal → List ℕ → Type 0) (row : ℕ) (events : List StandingEvent) (event : NightEvent)
    (legal : IsLegal (history_in events)) (is : IsAttempt (attempt_of event)) where
  abbrev game : MatchRecord
  game = game_at (board_in events) event.call.game

  abbrev here : MatchRecord
  here = match_after (history_in events) event.call.game

  abbrev more : List StandingEvent
  more = events ++ standing_of row event ∷ []

  pub by-reply : (AreWords (board_in more) → version_of (board_in more) ≡ version_of (board_in events) + 1
      → P (answer game.number None) (board_in more))
      → ((refusal : Refusal) → refusal_of game event.call.expected event.call.kind ≡ Some refusal → P (Err refusal) (board_in events))
      → P (sequential_reply (history_in events) event.call) (board_in (entered row events event))
  by-reply accepted refused = by (refusal_of here event.call.expected event.call.kind) refl
    where
      same : game ≡ here
      same = game_after (history_in events) event.call.game legal is.1

      by : (o : Option Refusal) → refusal_of here event.call.expected event.call.kind ≡ o
          → P (sequential_reply (history_in events) event.call) (board_in (entered row events event))
      by None none =
          let legal_more : IsLegal (history_in more) = rw none at (entered-legal row events event legal is) in
          let new = few more legal_more in
          let old = few events legal in
          let long = length-append events (standing_of row event ∷ []) in
          rw none (subst (λ (m : MatchRecord). P (answer m.number None) (board_in more)) same
          (accepted (board_words (history_in more) legal_more) (omega (arith, new.0, old.0, long))))
      by (Some refusal) some =
          rw some (refused refusal (ap (λ (m : MatchRecord). refusal_of m event.call.expected event.call.kind) same ∙ some))

-- a number that is read within limits, if any, is within them
pub in-limits : (low high : ℕ) (o : Option ℕ) → IfSome (in_range low high o) (λ n. (low ≤ n) × (n ≤ high))
in-limits low high None = tt
in-limits low high (Some n) =
    cond_both (nat_le low n && nat_le n high) (Some n) None (λ (x : Option ℕ). IfSome x (λ k. (low ≤ k) × (k ≤ high)))
    (λ y. let p = and_parts (nat_le low n) (nat_le n high) y in (leb-true low n p.0, leb-true n high p.1)) (λ _. tt)

-- a request whose numbers are in range: its reporter and its match exist, an event number or an edition has 16 bits, a row 32
abbrev pub IsPossible : Request → Type 0
IsPossible (Event e) = IsAttempt (attempt_of e) × (e.call.expected ≤ 65535)
IsPossible (Mends (As edition)) = edition ≤ 65535
IsPossible (Mends (Without row)) = row ≤ 4294967295
IsPossible (Mends (Club new)) = IsClub new.club
IsPossible _ = ⊤

-- what holds of each request that a row can ask for
module _ (P : Request → Type 0) where
  pub asked-by : (f : FourFields) → P Screen → P Words → P Matches → P (Bad (bad_field f)) → P (event_or_mend f (event_of f)) → P (asked_by f)
  unfolding asked_by
  asked-by f screen words matches bad event =
      let or_bad = if bytes_eq f.first (codes "matches") then Matches else Bad (bad_field f) in
      let others = if bytes_eq f.first (codes "words") then Words else or_bad in
      cond_both ((length f.second == 0) && (length f.third == 0) && (length f.fourth == 0)) (shown_by f) (event_or_mend f (event_of f)) P
      (λ _. cond_both (bytes_eq f.first (codes "screen")) Screen others P (λ _. screen)
      (λ _. cond_both (bytes_eq f.first (codes "words")) Words or_bad P (λ _. words)
      (λ _. cond_both (bytes_eq f.first (codes "matches")) Matches (Bad (bad_field f)) P (λ _. matches) (λ _. bad)))) (λ _. event)

-- the event that these fields of a row make, if each was read
abbrev call_made : Option ℕ → Option ℕ → Option Kind → Option EventCall
call_made b c d = do
  game ← b
  expected ← c
  kind ← d
  Some (record { game = game; expected = expected; kind = kind })

-- the event and its reporter that these fields of a row make, if each was read
abbrev made : Option ℕ → Option ℕ → Option ℕ → Option Kind → Option NightEvent
made a b c d = do
  reporter ← a
  call ← call_made b c d
  Some (record { reporter = reporter; call = call })

-- the event that a row enters, if any, has its numbers in range, if those of its fields were read within these limits
made-of : (a b c : Option ℕ) (d : Option Kind) → IfSome a IsReporter → IfSome b IsMatch → IfSome c (λ n. (0 ≤ n) × (n ≤ 65535))
    → IfSome (made a b c d) (λ e. IsPossible (Event e))
made-of (Some a) (Some b) (Some c) (Some d) r m e = ((r, m), e.1)
made-of _ _ _ _ r m e = tt

-- no mend, or one whose numbers are in range
abbrev IsNamed : Option Mend → Type 0
IsNamed o = IfSome o (λ mend. IsPossible (Mends mend))

-- the mend that a number makes, if one was read within limits, has its numbers in range
mend-of : (make : ℕ → Mend) (low high : ℕ) (o : Option ℕ) → ((n : ℕ) → n ≤ high → IsPossible (Mends (make n)))
    → IsNamed (option_map make (in_range low high o))
mend-of make low high o is = by (in_range low high o) (in-limits low high o)
  where
    by : (x : Option ℕ) → IfSome x (λ n. (low ≤ n) × (n ≤ high)) → IsNamed (option_map make x)
    by None h = tt
    by (Some n) h = is n h.1

-- the mend that a row of the kind `mend` names, by a row or an edition, if any, has its numbers in range
named : (f : FourFields) → IsNamed (named_mend f)
named f =
    let to_edition = if length f.second == 0 then option_map As (edition_by f.third) else None in
    cond_both (length f.third == 0) (option_map Without (named_row f.second)) to_edition IsNamed
    (λ _. mend-of Without 1 4294967295 (number 10 f.second) (λ n h. h))
    (λ _. cond_both (length f.second == 0) (option_map As (edition_by f.third)) None IsNamed
    (λ _. mend-of As 0 65535 (number 5 f.third) (λ n h. h)) (λ _. tt))

-- a club that a row names for a slot, if any, is one that a roster takes
named-club : (slot : Option ℕ) (f : FourFields) → IsNamed (option_map Club (slot >>= λ slot. club_of slot f >>= λ club. if_club slot club))
named-club None f = tt
named-club (Some slot) f = by (club_of slot f)
  where
    by : (o : Option NamedClub) → IsNamed (option_map Club (o >>= λ club. if_club slot club))
    by None = tt
    by (Some club) = cond_both (is_club club) (Some (club_for slot club)) None (λ (new : Option ClubInSlot). IsNamed (option_map Club new)) (λ y. y) (λ _. tt)

-- the mend that a row of four fields makes, if any, has its numbers in range, and a club that a roster takes
named-by : (f : FourFields) → IsNamed (mend_by f)
named-by f =
    let mend = if bytes_eq f.first (codes "mend") && (length f.fourth == 0) then named_mend f else None in
    cond_both (bytes_eq f.first (codes "club")) (option_map Club (new_club f)) mend IsNamed (λ _. named-club (slot_in f.second) f)
    (λ _. cond_both (bytes_eq f.first (codes "mend") && (length f.fourth == 0)) (named_mend f) None IsNamed (λ _. named f) (λ _. tt))

-- the request of a row that names this mend, or else is bad, has its numbers in range, if the mend has
possible-mend : (f : FourFields) (o : Option Mend) → IsNamed o → IsPossible (mend_or_bad f o)
possible-mend f None h = tt
possible-mend f (Some mend) h = h

-- the request of a row that enters an event, or else mends or is bad, has its numbers in range, if the event has
possible-event : (f : FourFields) (o : Option NightEvent) → IfSome o (λ e. IsPossible (Event e)) → IsPossible (event_or_mend f o)
possible-event f None h = possible-mend f (mend_by f) (named-by f)
possible-event f (Some e) h = h

-- each request that a line makes has its numbers in range
pub possible : (r : Said) → IsPossible (request_of r)
possible (Row f) =
    let reporter = number 3 f.first in
    let game = number 2 f.second in
    let expected = number 5 f.third in
    asked-by IsPossible f tt tt tt tt (possible-event f (event_of f)
    (made-of (in_range 1 255 reporter) (in_range 1 12 game) (in_range 0 65535 expected) (kind_named f.fourth)
    (in-limits 1 255 reporter) (in-limits 1 12 game) (in-limits 0 65535 expected)))
possible _ = tt

-- what a line attempts is of a reporter and a match that there are
pub of-request : (r : Said) → All IsAttempt (attempts_of (request_of r))
of-request r = of (request_of r) (possible r)
  where
    of : (q : Request) → IsPossible q → All IsAttempt (attempts_of q)
    of (Event e) p = All-cons IsAttempt (attempt_of e) [] p.0 (All-nil IsAttempt)
    of _ p = All-nil IsAttempt

-- each attempt that these lines make is of a reporter and a match that there are
all-attempts : (row : ℕ) (lines : List (List ℕ)) → All IsAttempt (attempts_in row lines)
unfolding attempts_in
all-attempts row [] = All-nil IsAttempt
all-attempts row (line ∷ lines) = All-append IsAttempt (attempts_of (request_of (said_on row line))) (attempts_in (row + 1) lines) (of-request (said_on row line)) (all-attempts (row + 1) lines)

-- a request that is no mend leaves the board open, with the events that stand after it
no-mend : (header : BoardHeader) (row : ℕ) (clubs : List NamedClub) (events : List StandingEvent) (q : Request) → is_mend q ≡ false
    → request_stage header row clubs events q ≡ stage header (open_at clubs (entered_by row events q))
no-mend header row clubs events (Mends mend) h = cc
no-mend _ _ _ _ _ h = refl

-- a line that mends nothing leaves an open board open, with the same header and clubs, and the events that stand after its request
pub no-mend-on : (e : Session) (r : Said) (clubs : List NamedClub) (events : List StandingEvent) → e.phase ≡ open_at clubs events → is_mend (request_of r) ≡ false
    → next e r ≡ moved e (stage e.header (open_at clubs (entered_by e.row events (request_of r))))
no-mend-on e r clubs events h none = on-board e r clubs events h ∙ ap (moved e) (no-mend e.header e.row clubs events (request_of r) none)

-- the history of the events that stand after a request is that of before after the attempt in it, if any
pub entered-by-history : (row : ℕ) (events : List StandingEvent) (q : Request) → history_in (entered_by row events q) ≡ fold after_attempt (history_in events) (attempts_of q)
entered-by-history row events (Event event) = entered-history row events event
entered-by-history _ _ _ = refl

-- the history of the events that stand after these lines is that after the attempts in them, made one after the other
lines-history : (row : ℕ) (events : List StandingEvent) (lines : List (List ℕ)) → history_in (events_in row events lines) ≡ fold after_attempt (history_in events) (attempts_in row lines)
unfolding events_in attempts_in
lines-history row events [] = refl
lines-history row events (line ∷ lines) =
    let q = request_of (said_on row line) in
    lines-history (row + 1) (entered_by row events q) lines
    ∙ ap (λ (h : List Entry). fold after_attempt h (attempts_in (row + 1) lines)) (entered-by-history row events q)
    ∙ sym (fold-append after_attempt (history_in events) (attempts_of q) (attempts_in (row + 1) lines))

-- after lines of which none mends, the events that stand are those of before and those that the lines enter, in their order
pub boards : BoardsTakeEvents
unfolding after_lines events_in NoneMends BoardsTakeEvents
boards e [] clubs events h none = h
boards e (line ∷ lines) clubs events h none =
    let r = said_on e.row line in
    let step = no-mend-on e r clubs events h none.0 in
    boards (next e r) lines clubs (entered_by e.row events (request_of r)) (ap (λ (k : Session). k.phase) step) none.1

-- the reply to an event after a history, as text, is the line that `ucl_night feed` writes for it
pub replies : RepliesAreThoseOfFeed
unfolding reply_line RepliesAreThoseOfFeed
replies edition board history row event = refl

-- the text of the reply to an event, made from the reply and the board after it, is the one that is worked out from the history alone
reply-answer : (format : Format) (edition row : ℕ) (history : List Entry) (event : NightEvent)
    → reply_answer format edition row event (length history) (sequential_reply history event.call) (board_of (after_attempt history (attempt_of event)))
    ≡ reply_by_history format edition row history event
unfolding reply_line
reply-answer Text edition row history event = refl
reply-answer Json edition row history event = refl

-- the answer to an event is the one that the history of the events that stand gives
event-answer : (options : LiveArgs) (header : BoardHeader) (row : ℕ) (clubs : List NamedClub) (events : List StandingEvent) (event : NightEvent) (shown : List ℕ)
    → answer_of options header row clubs events (Event event) shown ≡ answer_by_history options header row clubs (history_in events) (Event event) shown
event-answer options header row clubs events event shown =
    let history = history_in events in
    let reply = sequential_reply history event.call in
    let after = ap board_of (entered-history row events event) in
    let long = sym (length-map events (λ (event : StandingEvent). event.entry)) in
    let line = ap₂ (λ (n : ℕ) (board : List ℕ). reply_answer options.format header.edition row event n reply board) long after
    ∙ reply-answer options.format header.edition row history event in
    ap₂ (λ (a b : List ℕ). a ++ b) line (ap (screen_after options header row clubs reply) after)

-- the answer to a request that mends nothing is the one that the history of the events that stand gives
request-answer : (options : LiveArgs) (header : BoardHeader) (row : ℕ) (clubs : List NamedClub) (events : List StandingEvent) (q : Request) (shown : List ℕ) → is_mend q ≡ false
    → answer_of options header row clubs events q shown ≡ answer_by_history options header row clubs (history_in events) q shown
request-answer options header row clubs events (Event event) shown h = event-answer options header row clubs events event shown
request-answer options header row clubs events (Mends mend) shown h = cc
request-answer _ _ _ _ _ _ _ h = refl

-- on an open board the answer to a line that mends nothing is the one that the history of the events that stand gives
said-answer : (e : Session) (clubs : List NamedClub) (events : List StandingEvent) (r : Said) (shown : List ℕ) → e.phase ≡ open_at clubs events → is_mend (request_of r) ≡ false
    → answer_said e r shown ≡ line_by_history e.options e.header e.row clubs (history_in events) r shown
said-answer e clubs events Nothing shown h none = refl
said-answer e clubs events r shown h none =
    ap (λ (s : Reached). answer_at e s r shown) h ∙ request-answer e.options e.header e.row clubs events (request_of r) shown none

-- the answers to lines that mend nothing are those which the history gives
text-by-history : (e : Session) (lines : List (List ℕ)) (clubs : List NamedClub) (events : List StandingEvent) → e.phase ≡ open_at clubs events → NoneMends e.row lines
    → answers e lines ≡ answers_by_history e.options e.header e.row clubs (history_in events) lines
unfolding answers answers_by_history NoneMends
text-by-history e [] clubs events h none = refl
text-by-history e (line ∷ lines) clubs events h none =
    let r = said_on e.row line in
    let q = request_of r in
    let later = entered_by e.row events q in
    let step = no-mend-on e r clubs events h none.0 in
    let rest = text-by-history (next e r) lines clubs later (ap (λ (k : Session). k.phase) step) none.1 in
    ap₂ (λ (a b : List ℕ). a ++ b) (said-answer e clubs events r (shown_text line) h none.0)
    (rest ∙ ap₂ (λ (t : BoardHeader) (h : List Entry). answers_by_history e.options t (e.row + 1) clubs h lines) (ap (λ (k : Session). k.header) step) (entered-by-history e.row events q))

-- a session in which the events that stand are a legal history is sequential, for any lines of which none mends
pub sequential : SessionsAreSequential
unfolding SessionsAreSequential BoardsTakeEvents
sequential e lines clubs events legal h none =
    let history = lines-history e.row events lines in record {
      legal = subst IsLegal (sym history) (attempts_from (history_in events) (attempts_in e.row lines) legal (all-attempts e.row lines)).0;
      history = history;
      phase = boards e lines clubs events h none;
      text = text-by-history e lines clubs events h none;
    }

-- a session that is refused after some lines has answered nothing to them
pub silence : RefusedSessionsAreSilent
unfolding RefusedSessionsAreSilent
silence e lines fault h = silent e lines (ap is_open h)

-- an event that stands has a row of 32 bits
abbrev pub IsSmall : StandingEvent → Type 0
IsSmall event = event.row ≤ 4294967295

-- what a session has reached is good: if its board is open, its clubs are a roster, and its events a legal history with rows of 32 bits
abbrev pub IsGood : Reached → Type 0
IsGood (Ok (Open table)) = IsRoster table.roster × IsLegal (history_in table.events) × All IsSmall table.events
IsGood _ = ⊤

-- what is good is legal
pub legal-at : (reached : Reached) → IsGood reached → IsLegalAt reached
legal-at (Ok (Open table)) g = (g.0, g.1)
legal-at (Ok AwaitingHeader) g = tt
legal-at (Ok (AwaitingClubs clubs)) g = tt
legal-at (Err fault) g = tt

-- four clubs open a board only if they are a roster, and then with no event, so its history is legal
good-roster : (clubs : List NamedClub) (slot : Option ℕ) → length clubs ≡ 4 → bad_slot clubs ≡ slot → IsGood (with_roster clubs slot)
good-roster clubs None four e = (good_four clubs four e, may_none MayFollow, All-nil IsSmall)
good-roster clubs (Some slot) four e = tt

-- if the board is open after a row in the place of a club, its clubs are a roster, and its history is legal
pub good-club : (row : ℕ) (clubs : List NamedClub) (club : Option NamedClub) → IsGood (after_club row clubs club)
good-club row clubs None = tt
good-club row clubs (Some club) =
    let all = clubs ++ club ∷ [] in
    cond_both (length all == 4) (with_roster all (bad_slot all)) (Ok (AwaitingClubs all)) IsGood
    (λ e. good-roster all (bad_slot all) (eqb-true (length all) 4 e) refl) (λ _. tt)

-- the clubs after each mend that a row can ask for are a roster
pub good-clubs : (clubs : List NamedClub) (mend : Mend) → IsPossible (Mends mend) → IsRoster clubs → IsRoster (clubs_after clubs mend)
good-clubs clubs (Club new) p roster = record { four = length-set clubs (new.slot - 1) new.club ∙ roster.four; each = All-set IsClub clubs (new.slot - 1) new.club p roster.each }
good-clubs _ _ _ roster = roster

-- the edition after one is later, and fits 16 bits
after-edition : (edition later : ℕ) → edition ≤ 65535 → edition_after edition ≡ Ok later → (edition < later) × (later ≤ 65535)
after-edition edition later most h = elim (cases_Bool (edition == 65535)) [
  | inl y ↦ cc (rw y at h)
  | inr n ↦
      let k = rw n at h in
      let same : edition + 1 ≡ later = cc k in
      let less : edition < 65535 = grind (arith, nat_tests) in (omega (arith, same), omega (arith, same, less))
]

-- the edition after a mend is later, and fits 16 bits
pub later-edition : (edition : ℕ) (events : List StandingEvent) (mend : Mend) (later : ℕ) → edition ≤ 65535 → IsPossible (Mends mend) → edition_reply edition events mend ≡ Ok later
    → (edition < later) × (later ≤ 65535)
later-edition edition events (Club new) later most p h = after-edition edition later most h
later-edition edition events (As named) later most p h = elim (cases_Bool (nat_lt edition named)) [
  | inl y ↦ let k = rw y at h in let same : named ≡ later = cc k in let less : edition < named = grind (arith, nat_tests) in (omega (arith, same, less), omega (arith, same, p))
  | inr n ↦ cc (rw n at h)
]
later-edition edition events (Without row) later most p h = elim (cases_Bool (edition == 65535)) [
  | inl y ↦ cc (rw y at h)
  | inr n ↦
      let k = rw n at h in
      let less : edition < 65535 = grind (arith, nat_tests) in elim (cases_Bool (not (row == 0) && has_row row events)) [
        | inl y ↦ let q = rw y at k in let same : edition + 1 ≡ later = cc q in (omega (arith, same), omega (arith, same, less))
        | inr m ↦ cc (rw m at k)
      ]
]

-- the events after a mend are a legal history again
pub good-mend : (events : List StandingEvent) (mend : Mend) → IsLegal (history_in events) → IsLegal (history_in (events_after events mend))
unfolding MendsAreLegal
good-mend events (Without row) legal = mends_legal row events legal
good-mend _ _ legal = legal

-- if the board is open after a row in the place of a group, its clubs are a roster, and its history is legal
good-header : (options : LiveArgs) (row : ℕ) (header : Option BoardHeader) → IsGood (after_header options row header)
good-header options row None = tt
good-header options row (Some header) = cond_both (is_asked options.group options.profile header) (Ok (AwaitingClubs [])) (Err OtherGroup) IsGood (λ _. tt) (λ _. tt)

-- if the board is open after the first row of a session, its clubs are a roster, and its history is legal
pub good-first : (options : LiveArgs) (row : ℕ) (r : Said) → IsGood (after_beginning options row r)
good-first options row r =
    cond_both (is_group_row r) (after_header options row (header_said r)) (after_club row [] (club_said 1 r)) IsGood
    (λ _. good-header options row (header_said r)) (λ _. good-club row [] (club_said 1 r))
