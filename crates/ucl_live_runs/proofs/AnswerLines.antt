-- The lines of answers, and what each carries.
use Rattle.ucl_live_runs.proofs.Common.{All, All-append, All-cons, All-head, All-nil, All-tail, All-weaker, AreWords, BoardState, Bool}
use Rattle.ucl_live_runs.proofs.Common.{Data, Entry, HasNoFeed, IfSome, IsRoster, IsValid, IsWord, Kind, LeftOut, List, MatchRecord}
use Rattle.ucl_live_runs.proofs.Common.{MendRefusal, NamedClub, NightEvent, None, Option, Refusal, Some, [], and_from, ap, append-nil}
use Rattle.ucl_live_runs.proofs.Common.{append_cancel_right, ap₂, arith, bad_row_value, begun_append, begun_ended, begun_line, begun_none}
use Rattle.ucl_live_runs.proofs.Common.{cases_Bool, compact_text, ended_append, ended_line, ended_lines, ended_none, escape_byte, false}
use Rattle.ucl_live_runs.proofs.Common.{field_name, fits, flat_map-append, found_of, get_or, if◌then◌else◌, inl, inr, is_printed, json_line}
use Rattle.ucl_live_runs.proofs.Common.{left_out_lines, left_out_value, length, length-take, list_all, map, map-append, matches_value}
use Rattle.ucl_live_runs.proofs.Common.{mend_refused_value, mended_value, number_valid, one_line, parse_board_line, parse_board_state}
use Rattle.ucl_live_runs.proofs.Common.{printed, quoted, record_at, refl, refusal_code, refusal_name, refusal_of, refused_by, refused_value}
use Rattle.ucl_live_runs.proofs.Common.{serde_json_on_literals, shown_text, subst, sym, take, take_all, take_more, true, word_high}
use Rattle.ucl_live_runs.proofs.Common.{word_valid, words_value, ℕ, ◌++◌, ◌+◌, ◌/◌, ◌<◌, ◌^◌, ◌∙◌, ◌∷◌, ◌≡◌, ◌≢◌, ◌≤◌, ◌⊎◌}
use Rattle.ucl_rows.specs.declared.bad_row.BadField.{BadField}
use Rattle.ucl_rows.specs.declared.bad_row.BadField.TheVariants.{Count}
use Rattle.ucl_word.specs.declared.refusal.Refusal.TheVariants.{AlreadyStarted, Finished, LimitReached, NoCaution, NoGoal, NotFinished}
use Rattle.ucl_word.specs.declared.refusal.Refusal.TheVariants.{NotStarted, NumberFull, Stale}
use Rattle.ucl_json.proofs.AnswerSizes.{clubs-plain, digits-20, kind-text, match-plain, matches-plain, refusal-text, words-plain}
use Rattle.ucl_json.proofs.PlainValues.{IsShortPlain, IsText, line-short, parsed-line, quoted-length}
use Rattle.ucl_json.specs.Values.{accepted_value}
use Rattle.ucl_mends.specs.MendNames.{mend_refusal_code, mend_refusal_name}
use Rattle.ucl_mends.specs.declared.mend_refusal.MendRefusal.TheVariants.{LastEdition, NoEvent}

-- the board states that the lines of a text carry, one for each line, None for a line that carries none
abbrev pub carried_in : List ℕ → List (Option BoardState)
carried_in text = map parse_board_line (ended_lines 4097 [] text)

-- `o`, what a line carries, is nothing, or just `most`
abbrev pub IsAtMost : Option BoardState → Option BoardState → Type 0
IsAtMost most o = (o ≡ None) ⊎ (o ≡ most)

-- a line has at most the 4,096 bytes that are read of one
abbrev pub IsShort : List ℕ → Type 0
IsShort line = length line ≤ 4096

-- a text consists of whole lines of at most 4,096 bytes, each of which carries nothing, or just `most`
pub record CarriesAtMost (most : Option BoardState) (text : List ℕ) : Type 0 where
  pub begun : begun_line 4097 [] text ≡ []
  pub short : All IsShort (ended_lines 4097 [] text)
  pub each : All (IsAtMost most) (carried_in text)

-- a text of whole lines, and another one behind it, have the lines of the first, and then those of the second
pub lines-then : (a b : List ℕ) → begun_line 4097 [] a ≡ [] → ended_lines 4097 [] (a ++ b) ≡ ended_lines 4097 [] a ++ ended_lines 4097 [] b
lines-then a b h = ended_append 4097 [] a b ∙ ap (λ (l : List ℕ). ended_lines 4097 [] a ++ ended_lines 4097 l b) h

-- they carry what the first carries, and then what the second carries
pub carried-then : (a b : List ℕ) → begun_line 4097 [] a ≡ [] → carried_in (a ++ b) ≡ carried_in a ++ carried_in b
carried-then a b h = ap (map parse_board_line) (lines-then a b h) ∙ map-append parse_board_line (ended_lines 4097 [] a) (ended_lines 4097 [] b)

-- if each of two texts is of whole lines, so are the two, one after the other
pub begun-then : (a b : List ℕ) → begun_line 4097 [] a ≡ [] → begun_line 4097 [] b ≡ [] → begun_line 4097 [] (a ++ b) ≡ []
begun-then a b h k = begun_append 4097 [] a b ∙ ap (λ (l : List ℕ). begun_line 4097 l b) h ∙ k

-- if the lines of two texts are short, so are those of the two, one after the other
pub short-then : (a b : List ℕ) → begun_line 4097 [] a ≡ [] → All IsShort (ended_lines 4097 [] a) → All IsShort (ended_lines 4097 [] b)
    → All IsShort (ended_lines 4097 [] (a ++ b))
short-then a b h p q = rw (lines-then a b h) (All-append IsShort (ended_lines 4097 [] a) (ended_lines 4097 [] b) p q)

-- if each line of two texts carries nothing or this board state, so does each line of the two, one after the other
pub most-then : (most : Option BoardState) (a b : List ℕ) → CarriesAtMost most a → CarriesAtMost most b → CarriesAtMost most (a ++ b)
most-then most a b p q = record {
  begun = begun-then a b p.begun q.begun;
  short = short-then a b p.begun p.short q.short;
  each = rw (carried-then a b p.begun) (All-append (IsAtMost most) (carried_in a) (carried_in b) p.each q.each);
}

-- an empty text has no lines, so it carries no board states
pub carried-none : carried_in [] ≡ []
carried-none = ap (map parse_board_line) (ended_none 4097 [])

-- an empty text has no line that is long or carries a board state
pub most-none : (most : Option BoardState) → CarriesAtMost most []
most-none most = record { begun = begun_none 4097 []; short = rw (ended_none 4097 []) (All-nil IsShort); each = rw carried-none (All-nil (IsAtMost most)) }

-- bytes that all differ from 10 have no line feed
no-feed : (bytes : List ℕ) → All (λ b. b ≢ 10) bytes → HasNoFeed bytes
no-feed [] h = tt
no-feed (b ∷ bytes) h = (All-head (λ x. x ≢ 10) b bytes h, no-feed bytes (All-tail (λ x. x ≢ 10) b bytes h))

-- the compact JSON text of a value has no line feed in it
text-clean : (v : Data) → HasNoFeed (compact_text v)
text-clean v =
    let whole = one_line v in
    subst HasNoFeed (sym (append_cancel_right (compact_text v) whole.body (10 ∷ []) whole.ends)) (no-feed whole.body whole.unbroken)

-- the JSON line of a plain, short value is one line, its text
one-line : (v : Data) → IsShortPlain v → ended_lines 4097 [] (json_line v) ≡ compact_text v ∷ []
one-line v short =
    let few = line-short v short in
    ended_line 4097 [] (compact_text v) (text-clean v) (omega arith) ∙ ap (λ (l : List ℕ). l ∷ []) (take_all 4097 (compact_text v) (omega arith))

-- the JSON line of a plain, short value carries what the value is read as: a board state, or nothing
pub carried-line : (v : Data) (o : Option BoardState) → IsShortPlain v → parse_board_state v ≡ o → carried_in (json_line v) ≡ o ∷ []
carried-line v o short is = ap (map parse_board_line) (one-line v short) ∙ ap (λ (p : Option BoardState). p ∷ []) (parsed-line v short ∙ is)

-- the JSON line of a plain, short value carries at most what the value is read as: a board state, or nothing
pub value-line : (v : Data) (most o : Option BoardState) → IsShortPlain v → parse_board_state v ≡ o → IsAtMost most o → CarriesAtMost most (json_line v)
value-line v most o short is at = record {
  begun = begun_ended 4097 [] (compact_text v);
  short = rw (one-line v short) (All-cons IsShort (compact_text v) [] (line-short v short) (All-nil IsShort));
  each = rw (carried-line v o short is) (All-cons (IsAtMost most) o [] at (All-nil (IsAtMost most)));
}

-- the JSON line of a plain, short value that is read as no board state carries none
pub silent-line : (v : Data) (most : Option BoardState) → IsShortPlain v → parse_board_state v ≡ None → CarriesAtMost most (json_line v)
silent-line v most short none = value-line v most None short none (inl refl)

-- the numbers of an event are in range: its match is one of twelve, the others have 64 bits
pub record HasNumbers (event : NightEvent) : Type 0 where
  pub reporter : event.reporter < 2 ^ 64
  pub game : event.call.game ≤ 12
  pub expected : event.call.expected < 2 ^ 64

-- the answer in JSON to an accepted event carries no board state, if all its numbers are in range
pub accepted-line : (o : Option BoardState) (row : ℕ) (event : NightEvent) (number edition version : ℕ) → row < 2 ^ 64 → HasNumbers event → number < 2 ^ 64
    → edition < 2 ^ 64 → version < 2 ^ 64 → CarriesAtMost o (json_line (accepted_value row event number edition version))
unfolding parse_board_state serde_json_on_literals
accepted-line o row event number edition version r fits n e v =
    let kind = kind-text event.call.kind in
    let game : event.call.game < 2 ^ 64 = let few = fits.game in omega arith in
    silent-line (accepted_value row event number edition version) o (record {
      plain = ((refl, refl), (e, (kind.0, (fits.expected, (game, (n, (refl, (fits.reporter, (r, (v, tt))))))))));
      size = omega (arith, digits-20, kind.1, fits.expected, game, fits.reporter);
    }) refl

-- the answer in JSON to an event that is refused carries no board state, if all its numbers are in range
refused-by-line : (o : Option BoardState) (row : ℕ) (event : NightEvent) (refusal : Refusal) (found : Option ℕ) (m : MatchRecord)
    → row < 2 ^ 64 → HasNumbers event → IfSome found (λ n. n < 2 ^ 64) → IsValid m
    → CarriesAtMost o (json_line (refused_by row event (refusal_code refusal) (refusal_name refusal) found m))
unfolding parse_board_state serde_json_on_literals
refused-by-line o row event refusal None m r fits f v =
    let kind = kind-text event.call.kind in
    let name = refusal-text refusal in
    let game : event.call.game < 2 ^ 64 = let few = fits.game in omega arith in
    silent-line (refused_by row event (refusal_code refusal) (refusal_name refusal) None m) o (record {
      plain = ((refl, refl), (name.2, (kind.0, (fits.expected, (game, (name.0, (refl, (fits.reporter, (r, tt)))))))));
      size = omega (arith, digits-20, kind.1, name.1, name.2, fits.expected, game, fits.reporter);
    }) refl
refused-by-line o row event refusal (Some n) m r fits f v =
    let kind = kind-text event.call.kind in
    let name = refusal-text refusal in
    let game : event.call.game < 2 ^ 64 = let few = fits.game in omega arith in
    let stands = match-plain 124 event.call.game m fits.game v in
    silent-line (refused_by row event (refusal_code refusal) (refusal_name refusal) (Some n) m) o (record {
      plain = ((refl, refl), (name.2, (kind.0, (fits.expected, (game, (name.0, (f, (refl, (fits.reporter, (r, (stands.0, tt)))))))))));
      size = omega (arith, digits-20, kind.1, name.1, name.2, fits.expected, game, fits.reporter, stands.1);
    }) refl

-- what an answer shows of a row is printable ASCII, and has at most 130 bytes when quoted
pub record IsShown (shown : List ℕ) : Type 0 where
  pub text : IsText shown
  pub short : length (quoted shown) ≤ 130

-- the bytes of a text before its first that is not printable ASCII are all printable, and no more than the text has
printed-text : (text : List ℕ) → IsText (printed text) × (length (printed text) ≤ length text)
unfolding printed
printed-text [] = (refl, omega arith)
printed-text (b ∷ text) =
    let more = printed-text text in elim (cases_Bool (is_printed b)) [
      | inl y ↦ rw y (and_from (is_printed b) (list_all is_printed (printed text)) y more.0, omega (arith, more.1))
      | inr n ↦ rw n (refl, omega arith)
    ]

-- what an answer shows of a line is printable ASCII, and has at most 130 bytes when quoted
pub shown-text : (line : List ℕ) → IsShown (shown_text line)
shown-text line =
    let p = printed-text (take 64 line) in record { text = p.0; short = omega (arith, p.1, length-take 64 line, quoted-length (shown_text line) p.0) }

-- the name of each bad field is printable ASCII, and has at most 10 bytes when quoted
field-text : (field : BadField) → IsText (field_name field) × (length (quoted (field_name field)) ≤ 10)
unfolding escape_byte
field-text Count = (refl, omega arith)
field-text _ = (refl, omega arith)

-- the JSON answer to a bad row carries no board state, if the row number fits 64 bits and what is shown of it is a short text
pub bad-line : (o : Option BoardState) (row : ℕ) (field : BadField) (shown : List ℕ) → row < 2 ^ 64 → IsShown shown → CarriesAtMost o (json_line (bad_row_value row (field_name field) shown))
unfolding parse_board_state serde_json_on_literals
bad-line o row field shown r is =
    let name = field-text field in
    let code : 20 < 2 ^ 64 = omega arith in
    silent-line (bad_row_value row (field_name field) shown) o
    (record { plain = ((refl, refl), (code, (name.0, (refl, (refl, (r, (is.text, tt))))))); size = omega (arith, digits-20, name.1, is.short) }) refl

-- the JSON answer to a request of words carries no board state, if the row fits 64 bits and the words are those of a board
pub words-line : (o : Option BoardState) (row : ℕ) (board : List ℕ) → row < 2 ^ 64 → AreWords board → CarriesAtMost o (json_line (words_value row board))
unfolding parse_board_state serde_json_on_literals
words-line o row board r are =
    let w = words-plain board are in
    silent-line (words_value row board) o (record { plain = ((refl, refl), (refl, (r, (w.0, tt)))); size = omega (arith, digits-20, w.1) }) refl

-- the JSON answer to a request of matches carries no board state, if the row fits 64 bits, the clubs are a roster and the words a board
pub matches-line : (o : Option BoardState) (row : ℕ) (board : List ℕ) (clubs : List NamedClub) → row < 2 ^ 64 → IsRoster clubs → AreWords board →
    CarriesAtMost o (json_line (matches_value row board clubs))
unfolding matches_value parse_board_state serde_json_on_literals
matches-line o row board clubs r is w =
    let c = clubs-plain clubs is in
    let games = matches-plain board w in
    silent-line (matches_value row board clubs) o (record { plain = ((refl, refl), (c.0, (games.0, (refl, (r, tt))))); size = omega (arith, digits-20 row r, c.1, games.1) }) refl

-- the JSON answer to a refused event carries no board state, if all its numbers are in range and its match record is valid
pub refused-line : (o : Option BoardState) (row : ℕ) (event : NightEvent) (refusal : Refusal) (m : MatchRecord)
    → row < 2 ^ 64 → HasNumbers event → IfSome (found_of refusal) (λ n. n < 2 ^ 64) → IsValid m → CarriesAtMost o (json_line (refused_value row event refusal m))
refused-line o row event refusal m r fits f v = refused-by-line o row event refusal (found_of refusal) m r fits f v

-- the answer to a mend carries no board state, if all its numbers fit 64 bits
pub mended-line : (o : Option BoardState) (without : Option ℕ) (row left_out edition version : ℕ) → row < 2 ^ 64 → IfSome without (λ n. n < 2 ^ 64) → left_out < 2 ^ 64
    → edition < 2 ^ 64 → version < 2 ^ 64 → CarriesAtMost o (json_line (mended_value row without left_out edition version))
unfolding parse_board_state serde_json_on_literals
mended-line o None row left_out edition version r w l e v =
    silent-line (mended_value row None left_out edition version) o (record { plain = ((refl, refl), (e, (l, (refl, (r, (v, tt)))))); size = omega (arith, digits-20) }) refl
mended-line o (Some n) row left_out edition version r w l e v =
    silent-line (mended_value row (Some n) left_out edition version) o
    (record { plain = ((refl, refl), (e, (l, (refl, (r, (v, (w, tt))))))); size = omega (arith, digits-20) }) refl

-- the JSON line of an event that is left out carries no board state, if its numbers fit 64 bits
pub left-out-line : (o : Option BoardState) (row : ℕ) (entry : Entry) (refusal : Refusal) → row < 2 ^ 64 → entry.game < 2 ^ 64 → entry.reporter < 2 ^ 64
    → CarriesAtMost o (json_line (left_out_value row entry refusal))
unfolding parse_board_state serde_json_on_literals
left-out-line o row entry refusal r game reporter =
    let kind = kind-text entry.kind in
    let name = refusal-text refusal in
    silent-line (left_out_value row entry refusal) o (record {
      plain = ((refl, refl), (name.2, (kind.0, (game, (name.0, (refl, (reporter, (r, tt))))))));
      size = omega (arith, digits-20, kind.1, name.1, name.2);
    }) refl

-- the name of the refusal of a mend is a text, of at most 22 bytes when quoted, and its code fits 64 bits
mend-name : (refusal : MendRefusal) → IsText (mend_refusal_name refusal) × (length (quoted (mend_refusal_name refusal)) ≤ 22) × (mend_refusal_code refusal < 2 ^ 64)
unfolding escape_byte
mend-name NoEvent = (refl, omega arith, omega arith)
mend-name LastEdition = (refl, omega arith, omega arith)

-- the JSON answer to a mend that is refused carries no board state, if its row fits 64 bits
pub mend-refused-line : (o : Option BoardState) (row : ℕ) (refusal : MendRefusal) → row < 2 ^ 64
    → CarriesAtMost o (json_line (mend_refused_value row (mend_refusal_code refusal) (mend_refusal_name refusal)))
unfolding parse_board_state serde_json_on_literals
mend-refused-line o row refusal r =
    let name = mend-name refusal in
    silent-line (mend_refused_value row (mend_refusal_code refusal) (mend_refusal_name refusal)) o (record {
      plain = ((refl, refl), (name.2, (name.0, (refl, (r, tt)))));
      size = omega (arith, digits-20, name.1, name.2);
    }) refl

-- the lines of one event more that is left out are those of before, and then its own
pub left-more : (left : List LeftOut) (i : ℕ) (out : LeftOut) (text old line : List ℕ) → i < length left → out ≡ get_or left i out → text ≡ old ++ line
    → old ≡ left_out_lines (take i left) → line ≡ json_line (left_out_value out.event.row out.event.entry out.refusal) → text ≡ left_out_lines (take (i + 1) left)
left-more left i out text old line below is e so_far one =
    let line_of = λ (out : LeftOut). json_line (left_out_value out.event.row out.event.entry out.refusal) in
    e ∙ ap₂ (λ (a b : List ℕ). a ++ b) so_far (one ∙ sym (append-nil (line_of out))) ∙ sym (flat_map-append line_of (take i left) (out ∷ []))
    ∙ ap left_out_lines (sym (take_more left i out below ∙ ap (λ (o : LeftOut). take i left ++ o ∷ []) (sym is)))

-- a refusal, if it is that of a stale event, names an event number that fits 64 bits
record IsFound (o : Option Refusal) : Type 0 where
  is : IfSome o (λ refusal. IfSome (found_of refusal) (λ n. n < 2 ^ 64))

-- if neither of two refusals, `refusal` and that in `o`, names an event number above 64 bits, neither does the one that `b` chooses
or-found : (b : Bool) (refusal : Refusal) (o : Option Refusal) → IfSome (found_of refusal) (λ n. n < 2 ^ 64) → IsFound o → IsFound (if b then Some refusal else o)
or-found true refusal o h k = record { is = h }
or-found false refusal o h k = k

-- if the event number of a match fits 64 bits, so does the event number that a refusal of a stale event names
found-is : (m : MatchRecord) (expected : ℕ) (kind : Kind) → m.number < 2 ^ 64 → IsFound (refusal_of m expected kind)
unfolding refusal_of
found-is m expected kind h =
    or-found _ (Stale m.number) _ h (or-found _ Finished _ tt (or-found _ NotFinished _ tt (or-found _ NotStarted _ tt
    (or-found _ AlreadyStarted _ tt (or-found _ NumberFull _ tt (or-found _ NoGoal _ tt (or-found _ NoCaution _ tt
    (or-found _ LimitReached None tt (record { is = tt })))))))))

-- a refusal of an event by the match of a valid word names, if it is stale, an event number that fits 64 bits
pub found-fits : (word expected : ℕ) (kind : Kind) (refusal : Refusal) → IsWord word → refusal_of (record_at word) expected kind ≡ Some refusal → IfSome (found_of refusal) (λ n. n < 2 ^ 64)
found-fits word expected kind refusal is e =
    let m = record_at word in
    let few : m.number < 2 ^ 64 = let n = number_valid m (word_valid word is) in omega arith in
    let h : IsFound (Some refusal) = subst IsFound e (found-is m expected kind few) in h.is

-- a valid word is less than 2 ^ 64
word-fits : (word : ℕ) → IsWord word → word < 2 ^ 64
word-fits word is = let high : word / 2 ^ 56 ≡ 32 = word_high word is in omega (arith, high)

-- if each word of a board is valid, each is less than 2 ^ 64
pub board-fits : (board : List ℕ) → All IsWord board → All (λ word. word < 2 ^ 64) board
board-fits board h = All-weaker IsWord (λ word. word < 2 ^ 64) word-fits board h
