-- What a mend keeps of the events that stand, and what it leaves out.
use Rattle.ucl_mends.proofs.Common.{Accepted, All, All-cons, All-head, All-nil, All-tail, AreOnBoard, Bool, Entry, EventCall, Fate}
use Rattle.ucl_mends.proofs.Common.{IsAttempt, IsLegal, IsMatch, IsReporter, Kept, LeftOut, List, MatchRecord, MayFollow, MendsOneMore}
use Rattle.ucl_mends.proofs.Common.{Named, Option, Refusal, Refused, Result, StandingEvent, [], answer, ap, append-nil, append_assoc}
use Rattle.ucl_mends.proofs.Common.{append_cancel_left, arith, attempts_from, board_of, call_again, cases_Bool, cases_eq, drop_all}
use Rattle.ucl_mends.proofs.Common.{drop_more, false, fate_by, fate_of, filter-append, fold, fold-append, game_after, game_at, get_or}
use Rattle.ucl_mends.proofs.Common.{history_in, if◌then◌else◌, inl, inr, is_ok, kept_after, kept_by, left_by, left_out, length}
use Rattle.ucl_mends.proofs.Common.{length-append, length-map, map-append, may_begin, may_last, may_none, mended, ne_eqb, refl}
use Rattle.ucl_mends.proofs.Common.{sequential_reply, subst, sym, take, true, version_of, ℕ, ◌++◌, ◌+◌, ◌<◌, ◌==◌, ◌∙◌, ◌∷◌, ◌≡◌, ◌≤◌}
use Rattle.std.proofs.Common.{Err, Ok, ap₂, drop, map, ◌≢◌}
use mathlib.Core.List.{IsPrefix}
use Rattle.ucl_word.specs.Counts.{GainsOne, MatchEntry, counted_match}
use Rattle.ucl_word.specs.Rules.{refusal_of}
use Rattle.ucl_word.proofs.EntryCounts.{number_of_count}
use Rattle.ucl_board.specs.History.{attempted, entries_of, followed_by, match_after, of_match}
use Rattle.ucl_board.proofs.HistoryTheorems.{versions}
unfoldable pub use Rattle.ucl_mends.specs.Mended.{left_out_after}
use Rattle.ucl_mends.specs.Mended.{left_if}
use Rattle.ucl_mends.specs.MendTheorems.{events_of}
unfoldable pub use Rattle.ucl_mends.specs.MendTheorems.{LaterEventsGoOn, MendsAreLegal, OtherMatchesStay, WholeHistoriesAreKept}

-- the history of events with more behind them is the history of the first, then that of the others
pub history-more : (events more : List StandingEvent) → history_in (events ++ more) ≡ history_in events ++ history_in more
history-more events more = map-append (λ (event : StandingEvent). event.entry) events more

-- the reply to an event that is entered again after those that are kept
abbrev pub reply-again : List StandingEvent → StandingEvent → Result Accepted Refusal
reply-again kept event = sequential_reply (history_in kept) (call_again (history_in kept) event.entry)

-- if an event has another row than the one that a mend names, its fate is given by the reply to it when it is entered again
fate-other : (row : ℕ) (kept : List StandingEvent) (event : StandingEvent) → (event.row == row) ≡ false → fate_of row kept event ≡ fate_by (reply-again kept event)
fate-other row kept event n = ap (λ (b : Bool). if b then Named else fate_by (reply-again kept event)) n

-- an event of the row that a mend names has the fate `Named`
fate-named : (row : ℕ) (kept : List StandingEvent) (event : StandingEvent) → (event.row == row) ≡ true → fate_of row kept event ≡ Named
fate-named row kept event y = ap (λ (b : Bool). if b then Named else fate_by (reply-again kept event)) y

-- the history of the events kept, after one that is entered again and gets this reply: with its entry at the end if accepted, else the same
kept-history : (kept : List StandingEvent) (event : StandingEvent) (reply : Result Accepted Refusal)
    → history_in (kept_by kept event (fate_by reply)) ≡ (if is_ok reply then followed_by (history_in kept) event.entry else history_in kept)
kept-history kept event (Ok accepted) = history-more kept (event ∷ [])
kept-history kept event (Err refusal) = refl

-- an event of a reporter and a match that there are
abbrev pub IsRanged : StandingEvent → Type 0
IsRanged event = IsReporter event.entry.reporter × IsMatch event.entry.game

-- if those kept so far are a legal history, so is what is kept after one event more, of a reporter and a match that there are
step-legal : (row : ℕ) (kept : List StandingEvent) (event : StandingEvent) → IsLegal (history_in kept) → IsRanged event → IsLegal (history_in (kept_after row kept event))
step-legal row kept event legal is = elim (cases_Bool (event.row == row)) [
  | inl y ↦ subst (λ (f : Fate). IsLegal (history_in (kept_by kept event f))) (sym (fate-named row kept event y)) legal
  | inr n ↦
      let attempt = attempted event.entry.reporter (call_again (history_in kept) event.entry) in
      let made = (attempts_from (history_in kept) (attempt ∷ []) legal (All-cons IsAttempt attempt [] (is.0, is.1) (All-nil IsAttempt))).0 in
      subst IsLegal (sym (ap (λ (f : Fate). history_in (kept_by kept event f)) (fate-other row kept event n) ∙ kept-history kept event (reply-again kept event))) made
]

-- if those kept so far are a legal history, so is what is kept of more events, each of a reporter and a match that there are
all-legal : (row : ℕ) (kept events : List StandingEvent) → IsLegal (history_in kept) → All IsRanged events → IsLegal (history_in (fold (kept_after row) kept events))
all-legal row kept [] legal all = legal
all-legal row kept (event ∷ events) legal all =
    all-legal row (kept_after row kept event) events (step-legal row kept event legal (All-head IsRanged event events all)) (All-tail IsRanged event events all)

-- an event of a legal history may follow those before it
may-at : (before : List StandingEvent) (event : StandingEvent) (more : List StandingEvent) → IsLegal (history_in (before ++ event ∷ more)) → MayFollow (history_in before) event.entry
may-at before event more legal =
    let parts = history-more before (event ∷ more) ∙ sym (append_assoc (history_in before) (event.entry ∷ []) (history_in more)) in
    may_last MayFollow (history_in before) event.entry (may_begin MayFollow (followed_by (history_in before) event.entry) (history_in more) (subst IsLegal parts legal))

-- if a history cut before an event is legal, it is legal cut after this event
one-on : (before : List StandingEvent) (event : StandingEvent) (more : List StandingEvent) → IsLegal (history_in (before ++ event ∷ more))
    → IsLegal (history_in ((before ++ event ∷ []) ++ more))
one-on before event more legal = subst (λ (l : List StandingEvent). IsLegal (history_in l)) (sym (append_assoc before (event ∷ []) more)) legal

-- each event of a legal history is of a reporter and a match that there are
pub all-ranged : (before events : List StandingEvent) → IsLegal (history_in (before ++ events)) → All IsRanged events
all-ranged before [] legal = All-nil IsRanged
all-ranged before (event ∷ events) legal =
    let may = may-at before event events legal in
    All-cons IsRanged event events (may.accepted.reporter, may.game) (all-ranged (before ++ event ∷ []) events (one-on before event events legal))

-- what a mend of a legal history keeps is a legal history
pub mends_legal : MendsAreLegal
unfolding MendsAreLegal
mends_legal row events legal = all-legal row [] events (may_none MayFollow) (all-ranged [] events legal)

-- an event has another row than the named one
abbrev pub IsOtherRow : ℕ → StandingEvent → Type 0
IsOtherRow row event = event.row ≢ row

-- an event not of the named row that may follow `before` is kept after `kept`, if both have the same entries of its match
same-accepted : (row : ℕ) (kept before : List StandingEvent) (event : StandingEvent)
    → entries_of event.entry.game (history_in kept) ≡ entries_of event.entry.game (history_in before) → MayFollow (history_in before) event.entry
    → IsOtherRow row event → fate_of row kept event ≡ Kept
same-accepted row kept before event same may other =
    let number = number_of_count (entries_of event.entry.game (history_in before)) in
    let none = ap (λ (es : List MatchEntry). refusal_of (counted_match es) (counted_match es).number event.entry.kind) same
    ∙ ap (λ (n : ℕ). refusal_of (match_after (history_in before) event.entry.game) n event.entry.kind) number ∙ may.accepted.accepted in
    fate-other row kept event (ne_eqb event.row row other)
    ∙ ap (λ (o : Option Refusal). fate_by (answer (match_after (history_in kept) event.entry.game).number o)) none

-- where no event has the named row all are kept, and none is left out
keeps-all : (row : ℕ) (kept events : List StandingEvent) → IsLegal (history_in (kept ++ events)) → All (IsOtherRow row) events
    → (fold (kept_after row) kept events ≡ kept ++ events) × (left_out_after row kept events ≡ [])
unfolding left_out_after
keeps-all row kept [] legal all = (sym (append-nil kept), refl)
keeps-all row kept (event ∷ events) legal all =
    let fate = same-accepted row kept kept event refl (may-at kept event events legal) (All-head (IsOtherRow row) event events all) in
    let is = ap (kept_by kept event) fate in
    let rest = keeps-all row (kept ++ event ∷ []) events (one-on kept event events legal) (All-tail (IsOtherRow row) event events all) in (
      ap (λ (l : List StandingEvent). fold (kept_after row) l events) is ∙ rest.0 ∙ append_assoc kept (event ∷ []) events,
      ap (λ (f : Fate). left_by event f ++ left_out_after row (kept_after row kept event) events) fate
          ∙ ap (λ (l : List StandingEvent). left_out_after row l events) is ∙ rest.1,
    )

-- if no event has the row that is named, a mend of a legal history keeps all, and leaves out none
pub whole : WholeHistoriesAreKept
unfolding WholeHistoriesAreKept
whole row events legal all = keeps-all row [] events legal all

-- the entries of a match, by its events
entries-in : (game : ℕ) (events : List StandingEvent) → entries_of game (history_in events) ≡ map (λ (event : StandingEvent). of_match event.entry) (events_of game events)
entries-in game [] = refl
entries-in game (event ∷ events) = elim (cases_Bool (event.entry.game == game)) [
  | inl y ↦ rw y (ap (λ (es : List MatchEntry). of_match event.entry ∷ es) (entries-in game events))
  | inr n ↦ rw n (entries-in game events)
]

-- two lists with the same events of a match have the same entries of it
pub same-entries : (game : ℕ) (kept before : List StandingEvent) → events_of game kept ≡ events_of game before
    → entries_of game (history_in kept) ≡ entries_of game (history_in before)
same-entries game kept before same =
    entries-in game kept ∙ ap (map (λ (event : StandingEvent). of_match event.entry)) same ∙ sym (entries-in game before)

-- the events of a match among these and one more are those among these, and this one, if it is of the match
events-more : (game : ℕ) (kept : List StandingEvent) (event : StandingEvent) → events_of game (kept ++ event ∷ []) ≡ events_of game kept ++ events_of game (event ∷ [])
events-more game kept event = filter-append (λ (event : StandingEvent). event.entry.game == game) kept (event ∷ [])

-- one more event of another match adds none to the events of this match
events-else : (game : ℕ) (kept : List StandingEvent) (event : StandingEvent) → event.entry.game ≢ game → events_of game (kept ++ event ∷ []) ≡ events_of game kept
events-else game kept event not =
    events-more game kept event ∙ ap (λ (b : Bool). events_of game kept ++ (if b then event ∷ [] else [])) (ne_eqb event.entry.game game not) ∙ append-nil (events_of game kept)

-- an event of another match leaves the kept events of this match as they are, whatever its fate
fate-else : (game : ℕ) (kept : List StandingEvent) (event : StandingEvent) (fate : Fate) → event.entry.game ≢ game → events_of game (kept_by kept event fate) ≡ events_of game kept
fate-else game kept event Kept not = events-else game kept event not
fate-else game kept event Named not = refl
fate-else game kept event (Refused refusal) not = refl

-- an event does not both have the named row and belong to this match
abbrev IsOther : ℕ → ℕ → StandingEvent → Type 0
IsOther row game event = event.row ≡ row → event.entry.game ≢ game

-- if a mend has kept all events of a match so far, it still has after one event more that may follow, unless it is of the match and named
pub one-event : (row game : ℕ) (kept before : List StandingEvent) (event : StandingEvent) → events_of game kept ≡ events_of game before
    → MayFollow (history_in before) event.entry → IsOther row game event → events_of game (kept_after row kept event) ≡ events_of game (before ++ event ∷ [])
one-event row game kept before event same may other = elim (cases_eq event.entry.game game) [
  | inl e ↦
      let here = same-entries event.entry.game kept before (subst (λ (g : ℕ). events_of g kept ≡ events_of g before) (sym e) same) in
      let fate = same-accepted row kept before event here may (λ named. other named e) in
      ap (λ (f : Fate). events_of game (kept_by kept event f)) fate ∙ events-more game kept event
      ∙ ap (λ (l : List StandingEvent). l ++ events_of game (event ∷ [])) same ∙ sym (events-more game before event)
  | inr not ↦ fate-else game kept event (fate_of row kept event) not ∙ same ∙ sym (events-else game before event not)
]

-- if a mend has kept all events of a match so far, it keeps those among more events too, if none of them has the named row
all-events : (row game : ℕ) (kept before events : List StandingEvent) → events_of game kept ≡ events_of game before
    → IsLegal (history_in (before ++ events)) → All (IsOther row game) events
    → events_of game (fold (kept_after row) kept events) ≡ events_of game (before ++ events)
all-events row game kept before [] same legal all = same ∙ ap (events_of game) (sym (append-nil before))
all-events row game kept before (event ∷ events) same legal all =
    let one = one-event row game kept before event same (may-at before event events legal) (All-head (IsOther row game) event events all) in
    all-events row game (kept_after row kept event) (before ++ event ∷ []) events one (one-on before event events legal) (All-tail (IsOther row game) event events all)
    ∙ ap (events_of game) (append_assoc before (event ∷ []) events)

-- a mend of a legal history keeps all events of each match of which no event has the row that is named
pub other_matches : OtherMatchesStay
unfolding OtherMatchesStay
other_matches row game events legal all = all-events row game [] [] events refl legal all

-- of two lists of events, one after the other, a mend leaves out first those of the first, and then those of the second, after what it kept
pub left-more : (row : ℕ) (kept events more : List StandingEvent)
    → left_out_after row kept (events ++ more) ≡ left_out_after row kept events ++ left_out_after row (fold (kept_after row) kept events) more
unfolding left_out_after
left-more row kept [] more = refl
left-more row kept (event ∷ events) more =
    let here = left_by event (fate_of row kept event) in
    let next = kept_after row kept event in
    ap (λ (l : List LeftOut). here ++ l) (left-more row next events more)
    ∙ sym (append_assoc here (left_out_after row next events) (left_out_after row (fold (kept_after row) next events) more))

-- what was kept stays at the front after one event more, whatever the fate of the event
by-kept : (kept : List StandingEvent) (event : StandingEvent) (fate : Fate) → IsPrefix kept (kept_by kept event fate)
by-kept kept event Kept = (event ∷ [], refl)
by-kept kept event Named = ([], append-nil kept)
by-kept kept event (Refused refusal) = ([], append-nil kept)

-- what a mend has kept so far stays at the front of what it keeps after more events
kept-begins : (row : ℕ) (kept more : List StandingEvent) → IsPrefix kept (fold (kept_after row) kept more)
kept-begins row kept [] = ([], append-nil kept)
kept-begins row kept (event ∷ more) =
    let here = by-kept kept event (fate_of row kept event) in
    let rest = kept-begins row (kept_after row kept event) more in
    (here.0 ++ rest.0, sym (append_assoc kept here.0 rest.0) ∙ ap (λ (l : List StandingEvent). l ++ rest.0) here.1 ∙ rest.1)

-- if an event that is entered again is not left out, and none after it is (`rest`), the event is kept
by-none : (event : StandingEvent) (reply : Result Accepted Refusal) (rest : List LeftOut) → left_by event (fate_by reply) ++ rest ≡ [] → (fate_by reply ≡ Kept) × (rest ≡ [])
by-none event (Ok accepted) rest h = (refl, h)
by-none event (Err refusal) rest h = absurd cc

-- if none of more events is left out, and none has the named row, all of them are kept behind those kept before
none-left : (row : ℕ) (kept more : List StandingEvent) → left_out_after row kept more ≡ [] → All (IsOtherRow row) more → fold (kept_after row) kept more ≡ kept ++ more
unfolding left_out_after
none-left row kept [] none all = sym (append-nil kept)
none-left row kept (event ∷ more) none all =
    let other = fate-other row kept event (ne_eqb event.row row (All-head (IsOtherRow row) event more all)) in
    let by = by-none event (reply-again kept event) (left_out_after row (kept_after row kept event) more)
    (ap (λ (f : Fate). left_by event f ++ left_out_after row (kept_after row kept event) more) (sym other) ∙ none) in
    let is : kept_after row kept event ≡ kept ++ event ∷ [] = ap (kept_by kept event) (other ∙ by.0) in
    ap (λ (l : List StandingEvent). fold (kept_after row) l more) is
    ∙ none-left row (kept ++ event ∷ []) more (ap (λ (l : List StandingEvent). left_out_after row l more) (sym is) ∙ by.1) (All-tail (IsOtherRow row) event more all)
    ∙ append_assoc kept (event ∷ []) more

-- a mend does the same with a list of events whether more follow or not; it keeps all that follow if it leaves out and names none of them
pub later_events : LaterEventsGoOn
unfolding LaterEventsGoOn
later_events row events more =
    let parts = fold-append (kept_after row) [] events more in
    let begins = kept-begins row (mended row events) more in
    let outs = left-more row [] events more in record {
      kept = (begins.0, begins.1 ∙ sym parts);
      left = (left_out_after row (mended row events) more, sym outs);
      same = λ is all. parts
          ∙ none-left row (mended row events) more
          (append_cancel_left (left_out row events) (left_out_after row (mended row events) more) [] (sym outs ∙ is ∙ sym (append-nil (left_out row events)))) all;
    }

-- an event of another row is entered again on a board
module _ (row : ℕ) (event : StandingEvent) (board board2 : List ℕ) (other : event.row ≢ row) (game : IsMatch event.entry.game)
    (call : EventCall) (call_is : call ≡ record { game = event.entry.game; expected = (game_at board event.entry.game).number; kind = event.entry.kind }) where
  -- the reply on the board is that after the history that is kept
  fate-is : (kept : List StandingEvent) (reply : Result Accepted Refusal) → AreOnBoard kept board
      → ((history : List Entry) → IsLegal history → board_of history ≡ board → reply ≡ sequential_reply history call)
      → fate_by reply ≡ fate_of row kept event
  fate-is kept reply s sequential =
      let history = history_in kept in
      let now : game_at board event.entry.game ≡ match_after history event.entry.game =
      ap (λ (words : List ℕ). game_at words event.entry.game) (sym s.board_is) ∙ game_after history event.entry.game s.legal game in
      let same_call : call ≡ call_again history event.entry =
      call_is ∙ ap (λ (m : MatchRecord). record { game = event.entry.game; expected = m.number; kind = event.entry.kind }) now in
      ap fate_by (sequential history s.legal s.board_is ∙ ap (sequential_reply history) same_call)
      ∙ sym (fate-other row kept event (ne_eqb event.row row other))

  -- an event that is entered again is kept, if the board accepts it
  pub goes-kept : (accepted : Accepted)
      → ((history : List Entry) → IsLegal history → board_of history ≡ board → Ok accepted ≡ sequential_reply history call)
      → GainsOne IsLegal board_of event.entry board board2 → MendsOneMore row event Kept board board2
  goes-kept accepted sequential gains kept s =
      let g = gains (history_in kept) s.legal s.board_is in
      let more = history-more kept (event ∷ []) in
      (fate-is kept (Ok accepted) s sequential, record { legal = subst IsLegal (sym more) g.1; board_is = ap board_of more ∙ sym g.0 })

  -- an event that is entered again is left out, if the board refuses it
  pub goes-refused : (refusal : Refusal)
      → ((history : List Entry) → IsLegal history → board_of history ≡ board → Err refusal ≡ sequential_reply history call)
      → board2 ≡ board → MendsOneMore row event (Refused refusal) board board2
  goes-refused refusal sequential is kept s =
      (fate-is kept (Err refusal) s sequential, record { legal = s.legal; board_is = s.board_is ∙ sym is })

-- the events that a mend still leaves out after those that it has kept, if they are to be listed; else none
abbrev pub left_to_come : Bool → ℕ → List StandingEvent → List StandingEvent → List LeftOut
left_to_come listed row kept events = if listed then left_out_after row kept events else []

-- a mend in place: the first events of `now`, as many as `kept` says, are kept and make the board; with those from place `at` on they come
-- to the mend of `before`, and `left` are the events that were left out
pub record IsInPlace (row : ℕ) (listed : Bool) (before now : List StandingEvent) (kept at : ℕ) (board : List ℕ)
    (left : List LeftOut) : Type 0 where
  pub front : AreOnBoard (take kept now) board
  pub whole : fold (kept_after row) (take kept now) (drop at now) ≡ mended row before
  pub behind : kept ≤ at
  pub long : length now ≡ length before
  pub out : left ++ left_to_come listed row (take kept now) (drop at now) ≡ left_if listed row before
  pub few : length left ≤ at

-- a mend in place is at its beginning
pub in-place-begins : (row : ℕ) (listed : Bool) (events : List StandingEvent) (board : List ℕ) (left : List LeftOut)
    → board_of [] ≡ board → left ≡ [] → IsInPlace row listed events events 0 0 board left
in-place-begins row listed events board left fresh none = rw none (record {
  front = record { legal = may_none MayFollow; board_is = fresh };
  whole = refl;
  behind = omega arith;
  long = refl;
  out = refl;
  few = omega arith;
})

-- of one event, whatever its fate, at most one is left out
at-most-one : (listed : Bool) (event : StandingEvent) (fate : Fate) → length (if listed then left_by event fate else []) ≤ 1
at-most-one true event (Refused refusal) = omega arith
at-most-one _ event _ = omega arith

-- behind the events that were left out come those left out from an event on: this one, if it is refused, and those left out after it
out-next : (row : ℕ) (listed : Bool) (kept : List StandingEvent) (event : StandingEvent) (events : List StandingEvent) (left : List LeftOut)
    → (left ++ (if listed then left_by event (fate_of row kept event) else []))
    ++ left_to_come listed row (kept_after row kept event) events
    ≡ left ++ left_to_come listed row kept (event ∷ events)
unfolding left_out_after
out-next row true kept event events left =
    append_assoc left (left_by event (fate_of row kept event)) (left_out_after row (kept_after row kept event) events)
out-next row false kept event events left = append_assoc left [] []

-- a mend in place goes on by the event at place `at`: by its fate it is put behind those that are kept, or not, and listed, or not
pub in-place-next : (row : ℕ) (listed : Bool) (before now : List StandingEvent) (kept at : ℕ) (board : List ℕ) (left : List LeftOut)
    → IsInPlace row listed before now kept at board left → (event : StandingEvent) (fate : Fate) (board2 : List ℕ) → at < length now
    → event ≡ get_or now at event → MendsOneMore row event fate board board2 → (new : List StandingEvent) (many : ℕ) (more : List LeftOut)
    → take many new ≡ kept_by (take kept now) event fate → drop (at + 1) new ≡ drop (at + 1) now → length new ≡ length now → many ≤ at + 1
    → more ≡ left ++ (if listed then left_by event fate else []) → IsInPlace row listed before new many (at + 1) board2 more
in-place-next row listed before now kept at board left s event fate board2 below is goes new many more front rest long behind list =
    let fated = goes (take kept now) s.front in
    let here : drop at now ≡ event ∷ drop (at + 1) now =
    drop_more now at event below ∙ ap (λ (e : StandingEvent). e ∷ drop (at + 1) now) (sym is) in
    let after : take many new ≡ kept_after row (take kept now) event = front ∙ ap (kept_by (take kept now) event) fated.0 in
    let out = λ (f : Fate). if listed then left_by event f else [] in record {
      front = subst (λ (l : List StandingEvent). AreOnBoard l board2) (sym front) fated.1;
      whole = ap₂ (fold (kept_after row)) after rest ∙ ap (fold (kept_after row) (take kept now)) (sym here) ∙ s.whole;
      behind = behind;
      long = long ∙ s.long;
      out = ap₂ (λ (a b : List LeftOut). a ++ b) (list ∙ ap (λ (f : Fate). left ++ out f) fated.0)
          (ap₂ (left_to_come listed row) after rest) ∙ out-next row listed (take kept now) event (drop (at + 1) now) left
          ∙ ap (λ (l : List StandingEvent). left ++ left_to_come listed row (take kept now) l) (sym here) ∙ s.out;
      few = let one = at-most-one listed event fate in let both = length-append left (out fate) in let few = s.few in
          rw list (omega (arith, one, both, few));
    }

-- where an event is not left out, no list gets it
pub none-listed : (listed : Bool) (list : List LeftOut) (event : StandingEvent) (fate : Fate) → left_by event fate ≡ []
    → list ≡ list ++ (if listed then left_by event fate else [])
none-listed true list event fate none = sym (ap (λ (l : List LeftOut). list ++ l) none ∙ append-nil list)
none-listed false list event fate none = sym (append-nil list)

-- of no events none is left out
none-to-come : (listed : Bool) (row : ℕ) (kept : List StandingEvent) → left_to_come listed row kept [] ≡ []
unfolding left_out_after
none-to-come true row kept = refl
none-to-come false row kept = refl

-- a mend in place that has gone through all events has listed all that it leaves out
pub in-place-ends : (row : ℕ) (listed : Bool) (before now : List StandingEvent) (kept at : ℕ) (board : List ℕ) (left : List LeftOut)
    → IsInPlace row listed before now kept at board left → length now ≤ at → left ≡ left_if listed row before
in-place-ends row listed before now kept at board left s past =
    let none = ap (left_to_come listed row (take kept now)) (drop_all at now past) ∙ none-to-come listed row (take kept now) in
    sym (ap (λ (l : List LeftOut). left ++ l) none ∙ append-nil left) ∙ s.out

-- the version of the board is how many events stand, at most 49,140
pub few : (events : List StandingEvent) → IsLegal (history_in events) → (version_of (board_of (history_in events)) ≡ length events) × (length events ≤ 49140)
few events legal = let v = versions (history_in events) legal in let long = length-map events (λ (event : StandingEvent). event.entry) in (v.0 ∙ long, omega arith)

-- if an entry may follow the events that stand, as a legal history, they are fewer than 49,140
pub has-room : (events : List StandingEvent) (entry : Entry) → IsLegal (followed_by (history_in events) entry) → length events < 49140
has-room events entry legal =
    let v = versions (followed_by (history_in events) entry) legal in
    let long = length-map events (λ (event : StandingEvent). event.entry) in
    let more = length-append (history_in events) (entry ∷ []) in
    omega arith
