-- The lines of a session, one after the other.
use Rattle.ucl_live_runs.proofs.Common.{Accepted, AreLinesOfValues, Bad, BeginningsAreAnswered, BoardHeader, Bool, Err, Event, HasNoAnswer}
use Rattle.ucl_live_runs.proofs.Common.{HasNoEnd, Input, Json, JsonAnswersAreLines, LeftOut, LinesAreReadWhole, List, LiveArgs, LiveFault}
use Rattle.ucl_live_runs.proofs.Common.{Matches, Mend, MendRefusal, Mends, MendsAreDone, NamedClub, Nothing, Ok, Open, Other, Reached}
use Rattle.ucl_live_runs.proofs.Common.{Refusal, Request, Result, Row, Run, Said, Screen, Session, Some, StandingEvent, Words, []}
use Rattle.ucl_live_runs.proofs.Common.{after_bytes, after_lines, answer_at, answer_of, answer_said, answers, answers_to, ap, append-nil}
use Rattle.ucl_live_runs.proofs.Common.{append_assoc, ap₂, arith, bad_row_value, begun_append, begun_ended, begun_line, board_in, both_ways}
use Rattle.ucl_live_runs.proofs.Common.{cases_Bool, clubs_after, cond_both, edition_reply, edition_screen_value, end_of, ended}
use Rattle.ucl_live_runs.proofs.Common.{ended_append, ended_lines, entered, events_after, false, fault_row, field_name, fits, get_or}
use Rattle.ucl_live_runs.proofs.Common.{history_in, inl, inr, json_line, last_lines, left_out_by, left_out_lines, left_out_value, length}
use Rattle.ucl_live_runs.proofs.Common.{length-append, length-take, line_of_value, lines_of, lines_then, live_text, longer, lt-leb, map}
use Rattle.ucl_live_runs.proofs.Common.{matches_value, mend_answer, mend_refused_value, mended_answer, mended_stage, mended_value}
use Rattle.ucl_live_runs.proofs.Common.{min, missing, missing_after, missing_at, missing_now, moved, nat_le, nat_tests, next}
use Rattle.ucl_live_runs.proofs.Common.{next_at, no_lines, open_at, printed, refl, reply_answer, reply_value, request_of, request_stage}
use Rattle.ucl_live_runs.proofs.Common.{row_named, said_by_text, said_on, screen_after, screen_answer, screen_if, sequential_reply}
use Rattle.ucl_live_runs.proofs.Common.{shown_text, stage, subst, sym, take, take-append-drop, take-append-le, take_all, true, uncut_after}
use Rattle.ucl_live_runs.proofs.Common.{uncut_lines, words_value, ℕ, ◌++◌, ◌+◌, ◌-◌, ◌<◌, ◌==◌, ◌^◌, ◌∙◌, ◌∷◌, ◌≡◌, ◌≤◌}
use Rattle.std.proofs.Common.{drop}
use Rattle.ucl_live_runs.specs.LiveTheorems.{IsMended}
use Rattle.ucl_mends.specs.MendNames.{mend_refusal_code, mend_refusal_name}
use Rattle.ucl_screen.specs.declared.fault.InputFault.TheVariants.{BadRow}

-- a session has reached an open board
abbrev pub is_open : Reached → Bool
is_open (Ok (Open table)) = true
is_open _ = false

-- after a mend, accepted or refused, the board is open
open-reply : (header : BoardHeader) (clubs : List NamedClub) (events : List StandingEvent) (mend : Mend) (reply : Result ℕ MendRefusal)
    → is_open (mended_stage header clubs events mend reply).phase ≡ true
open-reply header clubs events mend (Ok edition) = refl
open-reply header clubs events mend (Err refusal) = refl

-- after any request on an open board the board is open
open-request : (header : BoardHeader) (row : ℕ) (clubs : List NamedClub) (events : List StandingEvent) (q : Request)
    → is_open (request_stage header row clubs events q).phase ≡ true
open-request header row clubs events (Mends mend) = open-reply header clubs events mend (edition_reply header.edition events mend)
open-request _ _ _ _ _ = refl

-- if the board is open, it is open after any row
open-at : (e : Session) (s : Reached) (r : Said) → is_open s ≡ true → is_open (next_at e s r).phase ≡ true
open-at e (Ok (Open table)) r h = open-request e.header e.row table.roster table.events (request_of r)
open-at e s r h = cc

-- a session with an open board has an open board after any line
open-next : (e : Session) (r : Said) → is_open e.phase ≡ true → is_open (next e r).phase ≡ true
open-next e Nothing h = h
open-next e r h = open-at e e.phase r h

-- a session with an open board has an open board after any lines
pub stays-open : (e : Session) (lines : List (List ℕ)) → is_open e.phase ≡ true → is_open (after_lines e lines).phase ≡ true
unfolding after_lines
stays-open e [] h = h
stays-open e (line ∷ lines) h = stays-open (next e (said_on e.row line)) lines (open-next e (said_on e.row line) h)

-- P holds of a session after a line and its answer if it holds of those without an answer, and of those of an open board
module _ (P : Session → List ℕ → Type 0) where
  pub by-line : (e : Session) (r : Said) (shown : List ℕ) → ((after : Session) → P after [])
      → ((clubs : List NamedClub) (events : List StandingEvent) → e.phase ≡ open_at clubs events
      → P (moved e (request_stage e.header e.row clubs events (request_of r))) (answer_of e.options e.header e.row clubs events (request_of r) shown))
      → P (next e r) (answer_said e r shown)
  by-line e Nothing shown silent answered = silent (next e Nothing)
  by-line e r shown silent answered = at e.phase refl
    where
      at : (s : Reached) → e.phase ≡ s → P (moved e (next_at e s r)) (answer_at e s r shown)
      at (Ok (Open table)) is = answered table.roster table.events is
      at s is = silent (moved e (next_at e s r))

-- the session after a line on an open board has the header and the phase that the request of the line leads to
pub on-board : (e : Session) (r : Said) (clubs : List NamedClub) (events : List StandingEvent) → e.phase ≡ open_at clubs events
    → next e r ≡ moved e (request_stage e.header e.row clubs events (request_of r))
on-board e Nothing clubs events h = ap (λ (s : Reached). moved e (stage e.header s)) h
on-board e r clubs events h = ap (λ (s : Reached). moved e (next_at e s r)) h

-- a line that asks for a mend brings an open board to a later edition, with clubs and events as the mend makes them; if it is
-- refused, nothing changes
pub mends-done : MendsAreDone
unfolding MendsAreDone
mends-done e r clubs events mend h q =
    let same = on-board e r clubs events h ∙ ap (λ (x : Request). moved e (request_stage e.header e.row clubs events x)) q in
    subst (λ (n : Session). IsMended e n clubs events mend (edition_reply e.header.edition events mend)) (sym same) (by (edition_reply e.header.edition events mend))
  where
    by : (reply : Result ℕ MendRefusal) → IsMended e (moved e (mended_stage e.header clubs events mend reply)) clubs events mend reply
    by (Ok edition) = (refl, refl)
    by (Err refusal) = (refl, refl)

-- a board that is not open after lines was not open before
pub shut-lines : (e : Session) (lines : List (List ℕ)) → is_open (after_lines e lines).phase ≡ false → is_open e.phase ≡ false
shut-lines e lines h = elim (cases_Bool (is_open e.phase)) [ inl y ↦ cc (stays-open e lines y) | inr n ↦ n ]

-- lines after which the board is not open have no answer
pub silent : (e : Session) (lines : List (List ℕ)) → is_open (after_lines e lines).phase ≡ false → answers e lines ≡ []
unfolding answers after_lines
silent e [] h = refl
silent e (line ∷ lines) h =
    let r = said_on e.row line in
    let a = by-line (λ after text. is_open after.phase ≡ false → text ≡ []) e r (shown_text line) (λ _ _. refl)
    (λ clubs events _ k. absurd (both_ways _ k (open-request e.header e.row clubs events (request_of r)))) (shut-lines (next e r) lines h) in
    let b = silent (next e r) lines h in rw (a, b) refl

-- a session that is refused stays refused, with the same fault
refused-next : (e : Session) (r : Said) (fault : LiveFault) → e.phase ≡ Err fault → (next e r).phase ≡ Err fault
refused-next e Nothing fault h = h
refused-next e Other fault h = rw h refl
refused-next e (Row f) fault h = rw h refl

-- a session that is refused stays refused after any lines, with the same fault
pub stays-refused : (e : Session) (lines : List (List ℕ)) (fault : LiveFault) → e.phase ≡ Err fault → (after_lines e lines).phase ≡ Err fault
unfolding after_lines
stays-refused e [] fault h = h
stays-refused e (line ∷ lines) fault h =
    let r = said_on e.row line in stays-refused (next e r) lines fault (refused-next e r fault h)

-- a session with a club missing, or refused, has no open board
pub missing-shut : (row : ℕ) (s : Reached) (fault : LiveFault) → missing row s ≡ Some fault → is_open s ≡ false
missing-shut row (Ok (Open table)) fault h = cc
missing-shut _ _ _ _ = refl

-- the answers to two lists of lines are those to the first, and then those to the second from the session after the first
pub answers-append : (e : Session) (a b : List (List ℕ)) → answers e (a ++ b) ≡ answers e a ++ answers (after_lines e a) b
unfolding answers after_lines
answers-append e [] b = refl
answers-append e (line ∷ a) b = rw (answers-append (next e (said_on e.row line)) a b, append_assoc)

-- the session after two lists of lines is the one after the second, from the session after the first
pub after-append : (e : Session) (a b : List (List ℕ)) → after_lines e (a ++ b) ≡ after_lines (after_lines e a) b
unfolding after_lines
after-append e [] b = refl
after-append e (line ∷ a) b = after-append (next e (said_on e.row line)) a b

-- the lines of two parts of an input, of which the first ends with a line feed, are those of the first and those of the second
lines-append : (xs ys : List ℕ) → begun_line 258 [] xs ≡ [] → lines_of (xs ++ ys) ≡ lines_of xs ++ lines_of ys
lines-append xs ys e =
    rw (ended_append 258 [] xs ys, begun_append 258 [] xs ys, e)
    (append_assoc (ended_lines 258 [] xs) (ended_lines 258 [] ys) (last_lines (begun_line 258 [] ys))
    ∙ ap (λ (l : List (List ℕ)). l ++ lines_of ys) (sym (append-nil (ended_lines 258 [] xs))))

-- the answers to an input cut after a line feed are those to its first part, then those to the rest from the session reached
pub beginnings : BeginningsAreAnswered
unfolding BeginningsAreAnswered
beginnings e bytes more =
    ap (answers e) (lines-append (ended bytes) more (begun_ended 258 [] bytes)) ∙ answers-append e (lines_of (ended bytes)) (lines_of more)

-- the answers to an input are those to its whole lines, and then to the last line, if it has begun
pub whole-text : (e : Session) (bytes : List ℕ) → live_text e bytes ≡ answers_to e bytes ++ answers (after_bytes e bytes) (last_lines (begun_line 258 [] bytes))
whole-text e bytes = answers-append e (ended_lines 258 [] bytes) (last_lines (begun_line 258 [] bytes))

-- the fault of a session at the end of an input, if any, is the one after its whole lines and then the last line, if it has begun
pub whole-missing : (e : Session) (bytes : List ℕ) → missing_after e bytes ≡ missing_at (after_bytes e bytes) (begun_line 258 [] bytes)
whole-missing e bytes = ap missing_now (after-append e (ended_lines 258 [] bytes) (last_lines (begun_line 258 [] bytes)))

-- a last line of no bytes has no answer
pub none-answers : (e : Session) (begun : List ℕ) → begun ≡ [] → answers e (last_lines begun) ≡ []
unfolding answers
none-answers e begun none = ap (λ (l : List ℕ). answers e (last_lines l)) none

-- a last line of no bytes changes nothing of the fault at the end of the input, if any
pub none-missing : (e : Session) (begun : List ℕ) → begun ≡ [] → missing_at e begun ≡ missing e.row e.phase
unfolding after_lines
none-missing e begun none = ap (λ (l : List ℕ). missing_at e l) none

-- a last line with a byte is answered as any other
pub some-answers : (e : Session) (begun : List ℕ) → (begun ≡ [] → ⊥) → answers e (last_lines begun) ≡ answer_said e (said_on e.row begun) (shown_text begun)
unfolding answers
some-answers e [] some = absurd (some refl)
some-answers e (b ∷ line) some = append-nil (answer_said e (said_on e.row (b ∷ line)) (shown_text (b ∷ line)))

-- a last line without a line feed is answered as if it had one, if it has a byte
some-end : (e : Session) (begun : List ℕ) → (begun ≡ [] → ⊥) → end_of e begun ≡ next e (said_on e.row begun)
unfolding after_lines
some-end e [] some = absurd (some refl)
some-end e (b ∷ line) some = refl

-- two line numbers that a fault reports alike, as those above 32 bits are, give the same fault, if any, at the end of an input
told-alike : (a b : ℕ) (s : Reached) → fault_row a ≡ fault_row b → missing a s ≡ missing b s
told-alike a b (Ok (Open table)) e = refl
told-alike a b (Err fault) e = refl
told-alike _ _ _ e = ap (λ (n : ℕ). Some (Run (Input (BadRow n)))) e

-- if the last line `begun` of an input is not empty, the fault for first rows that are missing at its end is that of the session after it
pub some-missing : (e f : Session) (begun : List ℕ) → (begun ≡ [] → ⊥) → f ≡ next e (said_on e.row begun) → missing_at e begun ≡ missing (min (e.row + 1) (2 ^ 64 - 1)) f.phase
some-missing e f begun some is =
    ap missing_now (some-end e begun some ∙ sym is) ∙ ap (λ (k : Session). missing k.row f.phase) is
    ∙ told-alike (e.row + 1) (min (e.row + 1) (2 ^ 64 - 1)) f.phase (omega arith)

-- if a session has no answer to a line, for some fault, it has none to it as the last line, for the same fault
pub some-stops : (e : Session) (begun : List ℕ) (fault : LiveFault) → (begun ≡ [] → ⊥) → HasNoAnswer e begun fault → HasNoEnd e begun fault
some-stops e begun fault some (inl none) = inl none
some-stops e begun fault some (inr refused) = inr (ap missing_now (some-end e begun some) ∙ ap (missing (e.row + 1)) refused)

-- in JSON the answers with a screen are lines of values, and so are those of a mend and of each request
module _ (options : LiveArgs) (header : BoardHeader) (row : ℕ) (clubs : List NamedClub) (json : options.format ≡ Json) where
  screen-lines : (board : List ℕ) → AreLinesOfValues (screen_answer options.format header row clubs board)
  screen-lines board = rw json (line_of_value (edition_screen_value row header board clubs))

  if-lines : (board : List ℕ) → AreLinesOfValues (screen_if options header row clubs board)
  if-lines board = cond_both options.screens (screen_answer options.format header row clubs board) [] AreLinesOfValues (λ _. screen-lines board) (λ _. no_lines)

  after-lines : (reply : Result Accepted Refusal) (board : List ℕ) → AreLinesOfValues (screen_after options header row clubs reply board)
  after-lines (Ok accepted) board = if-lines board
  after-lines (Err refusal) board = no_lines

-- the JSON lines of the events that a mend leaves out are values, each on a line of its own
left-lines : (left : List LeftOut) → AreLinesOfValues (left_out_lines left)
left-lines [] = no_lines
left-lines (out ∷ left) =
    lines_then (json_line (left_out_value out.event.row out.event.entry out.refusal)) (left_out_lines left) (line_of_value (left_out_value out.event.row out.event.entry out.refusal)) (left-lines left)

module _ (options : LiveArgs) (header : BoardHeader) (row : ℕ) (clubs : List NamedClub) (events : List StandingEvent) (json : options.format ≡ Json) where
  mend-lines : (mend : Mend) (reply : Result ℕ MendRefusal) → AreLinesOfValues (mend_answer options header row clubs events mend reply)
  mend-lines mend (Err refusal) = rw json (line_of_value (mend_refused_value row (mend_refusal_code refusal) (mend_refusal_name refusal)))
  mend-lines mend (Ok edition) =
      let later = record header { edition = edition } in
      let all = clubs_after clubs mend in
      let stand = events_after events mend in
      let left = left_out_by events mend in
      let value = mended_value row (row_named mend) (length left) edition (length stand) in
      lines_then (mended_answer options.format row edition left (row_named mend) stand) (screen_if options later row all (board_in stand))
      (rw json (lines_then (left_out_lines left) (json_line value) (left-lines left) (line_of_value value))) (if-lines options later row all json (board_in stand))

  request-lines : (request : Request) (shown : List ℕ) → AreLinesOfValues (answer_of options header row clubs events request shown)
  request-lines (Event event) shown =
      let reply = sequential_reply (history_in events) event.call in
      let after = board_in (entered row events event) in
      lines_then (reply_answer options.format header.edition row event (length events) reply after) (screen_after options header row clubs reply after)
      (rw json (line_of_value (reply_value row event reply header.edition after))) (after-lines options header row clubs json reply after)
  request-lines (Bad field) shown = rw json (line_of_value (bad_row_value row (field_name field) shown))
  request-lines Screen shown = screen-lines options header row clubs json (board_in events)
  request-lines Words shown = rw json (line_of_value (words_value row (board_in events)))
  request-lines Matches shown = rw json (line_of_value (matches_value row (board_in events) clubs))
  request-lines (Mends mend) shown = mend-lines mend (edition_reply header.edition events mend)

-- if the format is JSON, the answers to any lines are values, each on a line of its own
pub json-lines : JsonAnswersAreLines
unfolding answers JsonAnswersAreLines
json-lines e [] h = no_lines
json-lines e (line ∷ lines) h =
    let said = said_on e.row line in
    let shown = shown_text line in
    let one = by-line (λ _ text. AreLinesOfValues text) e said shown (λ _. no_lines)
    (λ clubs events _. request-lines e.options e.header e.row clubs events h (request_of said) shown) in
    lines_then (answer_said e said shown) (answers (next e said) lines) one (json-lines (next e said) lines h)

-- if the first 258 bytes of a line are kept, then after one byte more those of the longer line are
kept-one : (line : List ℕ) (b : ℕ) → longer 258 (take 258 line) b ≡ take 258 (line ++ b ∷ [])
kept-one line b = let kept = length-take 258 line in elim (cases_Bool (nat_le 258 (length (take 258 line)))) [
  | inl full ↦
      let h : 258 ≤ length (take 258 line) = grind (arith, nat_tests) in rw full (sym (take-append-le 258 line (b ∷ []) (omega (arith, h, kept))))
  | inr less ↦
      let h : length (take 258 line) < 258 = grind (arith, nat_tests) in
      let one = length-append line (b ∷ []) in
      rw less (ap (λ (l : List ℕ). l ++ b ∷ []) (take_all 258 line (omega (arith, h, kept))) ∙ sym (take_all 258 (line ++ b ∷ []) (omega (arith, h, kept, one))))
]

-- what is kept of lines is the first 258 bytes of each
lines-kept : (line bytes : List ℕ) → ended_lines 258 (take 258 line) bytes ++ last_lines (begun_line 258 (take 258 line) bytes) ≡ map (take 258) (uncut_after line bytes)
unfolding ended_lines begun_line uncut_after
lines-kept [] [] = refl
lines-kept (c ∷ line) [] = refl
lines-kept line (b ∷ bytes) = elim (cases_Bool (b == 10)) [
  | inl y ↦ rw y (ap (λ (ls : List (List ℕ)). take 258 line ∷ ls) (lines-kept [] bytes))
  | inr n ↦ rw (n, kept-one line b) (lines-kept (line ++ b ∷ []) bytes)
]

-- a line that has more than 258 bytes with its line feed is too long to be read
no-room : (text : List ℕ) → 258 < length text → fits text ≡ false
no-room text h = elim (cases_Bool (get_or text (length text - 2) 0 == 13)) [
  | inl y ↦ rw y (lt-leb (length text) 258 h)
  | inr n ↦ rw n (lt-leb (length text) 257 (omega (arith, h)))
]

-- a line of 258 bytes or more is neither a row of four fields nor empty
too-long : (row : ℕ) (line : List ℕ) → 258 ≤ length line → said_on row line ≡ Other
unfolding said_by_text
too-long row line h = rw (no-room (line ++ 10 ∷ []) (let m = length-append line (10 ∷ []) in omega (arith, h, m))) refl

-- a line says and shows the same as its first 258 bytes
same-line : (row : ℕ) (line : List ℕ) → (said_on row (take 258 line) ≡ said_on row line) × (shown_text (take 258 line) ≡ shown_text line)
same-line row line = elim (cases_Bool (nat_le 258 (length line))) [
  | inl long ↦
      let h : 258 ≤ length line = grind (arith, nat_tests) in
      let kept = length-take 258 line in (
        too-long row (take 258 line) (omega (arith, h, kept)) ∙ sym (too-long row line h),
        ap printed (sym (take-append-le 64 (take 258 line) (drop 258 line) (omega (arith, h, kept))) ∙ ap (take 64) (take-append-drop 258 line)),
      )
  | inr short ↦ let all = take_all 258 line (grind (arith, nat_tests)) in (ap (said_on row) all, ap shown_text all)
]

-- a session answers lines alike, and is the same after them, whether they are whole or cut to their first 258 bytes
same-lines : (e : Session) (lines : List (List ℕ)) → (answers e (map (take 258) lines) ≡ answers e lines) × (after_lines e (map (take 258) lines) ≡ after_lines e lines)
unfolding answers after_lines
same-lines e [] = (refl, refl)
same-lines e (line ∷ lines) =
    let same = same-line e.row line in
    let more = same-lines (next e (said_on e.row line)) lines in (
      ap₂ (λ (r : Said) (shown : List ℕ). answer_said e r shown ++ answers (next e r) (map (take 258) lines)) same.0 same.1
          ∙ ap (λ (l : List ℕ). answer_said e (said_on e.row line) (shown_text line) ++ l) more.0,
      ap (λ (r : Said). after_lines (next e r) (map (take 258) lines)) same.0 ∙ more.1,
    )

-- a session, which keeps 258 bytes of a line, answers an input as if its lines, of any length, were kept whole
pub read-whole : LinesAreReadWhole
unfolding LinesAreReadWhole
read-whole e bytes =
    let kept = lines-kept [] bytes in
    let same = same-lines e (uncut_lines bytes) in record { text = ap (answers e) kept ∙ same.0; after = ap (after_lines e) kept ∙ same.1 }
