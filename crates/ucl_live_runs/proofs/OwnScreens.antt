-- The tables that a session itself shows with `--screens`: those of the moments of its record.
use Rattle.ucl_live_runs.proofs.Common.{Accepted, AwaitingClubs, AwaitingHeader, Bad, BoardHeader, BoardState, Err, Event, Format, IsLegal}
use Rattle.ucl_live_runs.proofs.Common.{List, LiveArgs, Matches, Mend, MendRefusal, Mends, NamedClub, NightEvent, None, Nothing, Ok, Open}
use Rattle.ucl_live_runs.proofs.Common.{Option, Reached, Refusal, Request, Result, Said, Screen, Session, SessionsShowMoments, Some}
use Rattle.ucl_live_runs.proofs.Common.{StandingEvent, Words, [], after_lines, answer, answer_at, answer_of, answer_said, answers}
use Rattle.ucl_live_runs.proofs.Common.{answers_with_tables, ap, append-nil, append_assoc, ap₂, arith, board_in, board_state_at}
use Rattle.ucl_live_runs.proofs.Common.{board_state_now, board_state_with, clubs_after, edition_reply, entered, event_answer, events_after}
use Rattle.ucl_live_runs.proofs.Common.{false, game_at, history_in, inl, inr, is_later, left_out_by, length, length-append, lines_of}
use Rattle.ucl_live_runs.proofs.Common.{mend_answer, mended_answer, mended_stage, moment, next, next_at, refl, reply_answer, request_of}
use Rattle.ucl_live_runs.proofs.Common.{request_stage, row_named, said_on, screen_after, screen_answer, screen_if, shown_text, standing_of}
use Rattle.ucl_live_runs.proofs.Common.{start_of, subst, sym, take, true, ℕ, ◌++◌, ◌+◌, ◌∙◌, ◌∷◌, ◌≡◌, ◌≤◌}
use Rattle.std.proofs.Math.Seq.{take-append-add, take-append_seam}
use Rattle.ucl_command.specs.declared.follow.FollowShape.{FollowShape}
use Rattle.ucl_command.specs.declared.options.Format.TheVariants as format
use Rattle.ucl_live_runs.proofs.Boards.{IsPossible, by-reply, later-edition, legal-at, possible}
use Rattle.ucl_live_runs.proofs.FollowShown.{not-itself}
use Rattle.ucl_live_runs.proofs.Lines.{after-append}
use Rattle.ucl_live_runs.proofs.RecordEnds.{Lines, older, sound-after}
use Rattle.ucl_live_runs.proofs.Told.{AreSound, IsBehind, IsSound, start-sound}
use Rattle.ucl_live_runs.specs.Follow.{output_text}
use Rattle.ucl_live_runs.specs.Moments.{answer_with_table, newer_text, shape_of_format, without_screens}

-- a screen is the text that shows its board state
screen-text : (format : Format) (header : BoardHeader) (row : ℕ) (clubs : List NamedClub) (board : List ℕ)
    → screen_answer format header row clubs board ≡ output_text (shape_of_format format) row (board_state_with header clubs board)
screen-text format.Text header row clubs board = refl
screen-text format.Json header row clubs board = refl

-- no table comes if the board state has not changed
same-text : (shape : FollowShape) (line : ℕ) (o : Option BoardState) → newer_text shape line o o ≡ []
same-text shape line None = refl
same-text shape line (Some m) = rw (not-itself m) refl

-- answers with screens, on the board of such a header and such clubs, beside the answers without them
module _ (options : LiveArgs) (on : options.screens ≡ true) (header : BoardHeader) (row : ℕ) (clubs : List NamedClub) where
  abbrev Here : List ℕ → BoardState
  Here board = board_state_with header clubs board

  abbrev quiet : LiveArgs
  quiet = record options { screens = false }

  abbrev table : Option BoardState → Option BoardState → List ℕ
  table before after = newer_text (shape_of_format options.format) row before after

  -- an answer, and nothing behind it, if the board state is as before
  unchanged : (text : List ℕ) (before after : Option BoardState) → after ≡ before → text ≡ text ++ table before after
  unchanged text before after same =
      sym (append-nil text) ∙ ap (λ (l : List ℕ). text ++ l) (sym (ap (table before) same ∙ same-text (shape_of_format options.format) row before))

  -- an answer, and behind it the screen of a newer board state
  changed : (text : List ℕ) (new : BoardHeader) (all : List NamedClub) (board : List ℕ) (before : BoardState) → IsBehind before (board_state_with new all board)
      → text ++ screen_if options new row all board ≡ (text ++ screen_if quiet new row all board) ++ table (Some before) (Some (board_state_with new all board))
  changed text new all board before behind =
      let after = board_state_with new all board in
      let newer : is_later after before ≡ true = (older after before behind).1 in
      let shown : table (Some before) (Some after) ≡ screen_if options new row all board = rw (newer, on) (sym (screen-text options.format new row all board)) in
      ap₂ (λ (a b : List ℕ). a ++ b) (sym (append-nil text)) (sym shown)

  -- the board of the events that stand
  module _ (events : List StandingEvent) (legal : IsLegal (history_in events)) (edition : header.edition ≤ 65535) where
    abbrev stands : Option BoardState
    stands = Some (Here (board_in events))

    event-on : (event : NightEvent) → IsPossible (Event event)
        → event_answer options header row clubs events event
        ≡ event_answer quiet header row clubs events event ++ table stands (Some (Here (board_in (entered row events event))))
    event-on event p =
        let text = λ (args : LiveArgs) (reply : Result Accepted Refusal) (board : List ℕ). reply_answer args.format header.edition row event (length events) reply board
        ++ screen_after args header row clubs reply board in
        let now = board_in (events ++ standing_of row event ∷ []) in
        let reply = answer (game_at (board_in events) event.call.game).number None in
        let P = λ (reply : Result Accepted Refusal) (board : List ℕ). text options reply board ≡ text quiet reply board ++ table stands (Some (Here board)) in
        by-reply P row events event legal p.0
        (λ good-now more.
        changed (reply_answer options.format header.edition row event (length events) reply now) header clubs now (Here (board_in events))
        (record { same = (refl, refl); less = inr (refl, omega (arith, more)) }))
        (λ refusal some. unchanged (text options (Err refusal) (board_in events)) stands stands refl)

    mend-on : (mend : Mend) (reply : Result ℕ MendRefusal) → IsPossible (Mends mend) → edition_reply header.edition events mend ≡ reply
        → mend_answer options header row clubs events mend reply ≡ mend_answer quiet header row clubs events mend reply
        ++ table stands (board_state_at (mended_stage header clubs events mend reply).header (mended_stage header clubs events mend reply).phase)
    mend-on mend (Err refusal) p is = unchanged (mend_answer options header row clubs events mend (Err refusal)) stands stands refl
    mend-on mend (Ok later) p is =
        let more = later-edition header.edition events mend later edition p is in
        changed (mended_answer options.format row later (left_out_by events mend) (row_named mend) (events_after events mend)) (record header { edition = later }) (clubs_after clubs mend)
        (board_in (events_after events mend)) (Here (board_in events)) (record { same = (refl, refl); less = inl more.0 })

    request-on : (q : Request) (shown : List ℕ) → IsPossible q
        → answer_of options header row clubs events q shown ≡ answer_of quiet header row clubs events q shown
        ++ table stands (board_state_at (request_stage header row clubs events q).header (request_stage header row clubs events q).phase)
    request-on (Event event) shown p = event-on event p
    request-on (Mends mend) shown p = mend-on mend (edition_reply header.edition events mend) p refl
    request-on (Bad field) shown p = unchanged (answer_of options header row clubs events (Bad field) shown) stands stands refl
    request-on Screen shown p = unchanged (answer_of options header row clubs events Screen shown) stands stands refl
    request-on Words shown p = unchanged (answer_of options header row clubs events Words shown) stands stands refl
    request-on Matches shown p = unchanged (answer_of options header row clubs events Matches shown) stands stands refl

-- a session with screens answers a line as without them, and shows its table, if the line brought a newer one
line-on : (e : Session) (r : Said) (shown : List ℕ) → IsSound e → e.options.screens ≡ true
    → answer_said e r shown ≡ answer_said (without_screens e) r shown
    ++ newer_text (shape_of_format e.options.format) e.row (board_state_now e) (board_state_now (next e r))
line-on e Nothing shown g on = sym (same-text (shape_of_format e.options.format) e.row (board_state_now e))
line-on e r shown g on = at e.phase g
  where
    at : (s : Reached) → AreSound e.header s
        → answer_at e s r shown ≡ answer_at (without_screens e) s r shown
        ++ newer_text (shape_of_format e.options.format) e.row (board_state_at e.header s) (board_state_at (next_at e s r).header (next_at e s r).phase)
    at (Ok (Open table)) sound = request-on e.options on e.header e.row table.roster table.events sound.phase.1 sound.header_is.edition (request_of r) shown (possible r)
    at (Ok AwaitingHeader) sound = refl
    at (Ok (AwaitingClubs all)) sound = refl
    at (Err fault) sound = refl

-- lines change no options of a session, and count its rows
kept : (e : Session) (lines : Lines) → ((after_lines e lines).options ≡ e.options) × ((after_lines e lines).row ≡ e.row + length lines)
unfolding after_lines
kept e [] = (refl, omega arith)
kept e (line ∷ lines) = let more = kept (next e (said_on e.row line)) lines in (more.0, omega (arith, more.1))

-- a record that is answered with screens
module _ (options : LiveArgs) (rows : List ℕ) (on : options.screens ≡ true) where
  abbrev after : Lines → Session
  after before = after_lines (start_of options) before

  -- a line of it, after these
  one-line : (before : Lines) (line : List ℕ) (lines : Lines) → lines_of rows ≡ before ++ line ∷ lines
      → answer_said (after before) (said_on (after before).row line) (shown_text line) ≡ answer_with_table options rows (length before) line
  unfolding after_lines
  one-line before line lines parts =
      let e = after before in
      let is = kept (start_of options) before in
      let row : e.row ≡ length before + 1 = omega (arith, is.1) in
      let said = said_on e.row line in
      let text = λ (m n : Session) (at : ℕ). answer_said (without_screens m) (said_on at line) (shown_text line)
      ++ newer_text (shape_of_format options.format) at (board_state_now m) (board_state_now n) in
      let shown = line-on e said (shown_text line) (sound-after (start_of options) before (start-sound options)) (ap (λ (o : LiveArgs). o.screens) is.0 ∙ on) in
      let here : e ≡ moment options rows (length before) = sym (ap (λ (ls : Lines). after (take (length before) ls)) parts ∙ ap after (take-append_seam before (line ∷ lines))) in
      let then : next e said ≡ moment options rows (length before + 1) =
      sym (ap (λ (ls : Lines). after (take (length before + 1) ls)) parts ∙ ap after (take-append-add before (line ∷ lines) 1) ∙ after-append (start_of options) before (line ∷ [])) in
      subst (λ (o : LiveArgs). answer_said e said (shown_text line) ≡ answer_said (without_screens e) said (shown_text line)
      ++ newer_text (shape_of_format o.format) e.row (board_state_now e) (board_state_now (next e said))) is.0 shown
      ∙ ap (text e (next e said)) row ∙ ap₂ (λ (m n : Session). text m n (length before + 1)) here then

  all-lines : (before lines : Lines) → lines_of rows ≡ before ++ lines → answers (after before) lines ≡ answers_with_tables options rows (length before) lines
  unfolding answers answers_with_tables after_lines
  all-lines before [] parts = refl
  all-lines before (line ∷ lines) parts =
      let more = all-lines (before ++ line ∷ []) lines (parts ∙ sym (append_assoc before (line ∷ []) lines)) in
      let e = after before in
      let same : after (before ++ line ∷ []) ≡ next e (said_on e.row line) = after-append (start_of options) before (line ∷ []) in
      ap₂ (λ (a b : List ℕ). a ++ b) (one-line before line lines parts)
      (ap (λ (s : Session). answers s lines) (sym same) ∙ more ∙ ap (λ (n : ℕ). answers_with_tables options rows n lines) (length-append before (line ∷ [])))

-- a session with `--screens` shows the moments of its record
pub shows-own : SessionsShowMoments
unfolding SessionsShowMoments after_lines
shows-own options rows on = record {
  legal = λ place. legal-at (moment options rows place).phase (sound-after (start_of options) (take place (lines_of rows)) (start-sound options)).phase;
  text = all-lines options rows on [] (lines_of rows) refl;
}
