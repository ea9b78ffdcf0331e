-- The output of a night is short, so the bytes of it that went out are counted exactly.
use Rattle.ucl_runs.proofs.Common.{Err, HasShown, IsPlayed, List, None, Ok, Option, PassView, Profile, Reading, Result, Script, Some, Style}
use Rattle.ucl_runs.proofs.Common.{[], ap, arith, board_of, board_words, codes, last_shown, last_text, legal_take, length, length-append}
use Rattle.ucl_runs.proofs.Common.{refl, string_bytes, styled, styled_screen, subst, take, ℕ, ◌++◌, ◌<◌, ◌^◌, ◌∙◌, ◌∷◌, ◌≡◌, ◌≤◌}
use Rattle.ucl_live_board.specs.declared.live_board.LiveBoard as boards
use Rattle.ucl_runs.specs.Nights.{settled_history}
use Rattle.ucl_order.proofs.Clubs.{good_four}
use Rattle.ucl_order.specs.Roster.{IsRoster, NamedClub, bad_slot}
use Rattle.ucl_screen.specs.Input.{whole_input}
use Rattle.ucl_screen.specs.Rows.{Fields, rows_of}
use Rattle.ucl_screen.specs.Script.{club_at, events_from, first_event_row, if_good, night_of, night_of_rows, roster_at, ◌>>=◌}
use Rattle.ucl_screen.specs.declared.fault.InputFault.{InputFault}
use Rattle.ucl_json.proofs.ScreenLength.{screen_short}

-- if the check `if_good` of four clubs, by their first bad slot if any, answers clubs, these are a roster
good-clubs : (clubs four : List NamedClub) (slot : Option ℕ) → length four ≡ 4 → bad_slot four ≡ slot → if_good four slot ≡ Ok clubs → IsRoster clubs
good-clubs clubs four None long none is = let same : four ≡ clubs = cc in subst IsRoster same (good_four four long none)
good-clubs clubs four (Some slot) long bad is = cc is

-- if `r >>= f` is Ok b, then f maps some value to Ok b
step : {A B : Type 0} (r : Result A InputFault) (f : A → Result B InputFault) (b : B) → (r >>= f) ≡ Ok b → (x : A) × (f x ≡ Ok b)
step (Ok x) f b is = (x, is)
step (Err fault) f b is = cc is

-- if `r >>= f` is Ok b, then r is Ok x for some x, and f maps x to Ok b
step-of : {A B : Type 0} (r : Result A InputFault) (f : A → Result B InputFault) (b : B) → (r >>= f) ≡ Ok b → (x : A) × (r ≡ Ok x) × (f x ≡ Ok b)
step-of (Ok x) f b is = (x, refl, is)
step-of (Err fault) f b is = cc is

-- two equal results that are Ok have equal values
same-ok : {A : Type 0} (x y : A) → ◌≡◌ {A = Result A InputFault} (Ok x) (Ok y) → x ≡ y
same-ok x y e = cc

-- the clubs that a script begins with are a roster, if they were read
roster-read : (rows : List Fields) (read : List NamedClub × List Fields) → roster_at rows ≡ Ok read → IsRoster read.0
unfolding roster_at
roster-read rows read is =
    let first = step (club_at 1 rows) _ read is in
    let second = step (club_at 2 first.0.1) _ read first.1 in
    let third = step (club_at 3 second.0.1) _ read second.1 in
    let fourth = step (club_at 4 third.0.1) _ read third.1 in
    let four = first.0.0 ∷ second.0.0 ∷ third.0.0 ∷ fourth.0.0 ∷ [] in
    let clubs = step-of (if_good four (bad_slot four)) _ read fourth.1 in
    subst (λ (r : List NamedClub × List Fields). IsRoster r.0) (same-ok (clubs.0, fourth.0.1) read clubs.2) (good-clubs clubs.0 four (bad_slot four) refl refl clubs.1)

-- the clubs of a script that was read are a roster
script-roster : (bytes : List ℕ) (night : Script) → night_of bytes ≡ Ok night → IsRoster night.clubs
unfolding night_of_rows
script-roster bytes night is =
    let text = step (whole_input bytes) _ night is in
    let roster = step-of (roster_at (rows_of text.0)) _ night text.1 in
    let events = step (events_from first_event_row roster.0.1) _ night roster.2 in
    subst (λ (n : Script). IsRoster n.clubs) (same-ok (record { clubs = roster.0.0; events = events.0 }) night events.1) (roster-read (rows_of text.0) roster.0 roster.1)

-- a last screen of a reader, if there is one, has with its heading of at most 9 bytes at most 305 bytes
last-fits : (heading : List ℕ) (style : Style) (old new : PassView) (readings : ℕ) (last : Option (List ℕ)) → length heading ≤ 9 → IsRoster style.roster
    → HasShown style old new readings last → length (last_text heading last) ≤ 305
last-fits heading style old new readings None head is shown = omega arith
last-fits heading style old new readings (Some text) head is shown =
    let screen = shown.last_is in
    let board = board_of (take screen.version new.seen) in
    let short = screen_short style.profile board style.roster (board_words _ (legal_take new.seen screen.version shown.legal)) is style.group in
    omega (arith, short, length-append heading text, ap length screen.text_is)

-- the output of a night that was played has fewer than 2^64 bytes
pub played_fits : {B R P X : Type 0} (live : boards.Ghosts B R P) (Opens : Result (B × R) X → Type 0) (profile : Profile) (group readings : ℕ) (bytes text : List ℕ)
    → IsPlayed live Opens profile group readings bytes text → length text < 2 ^ 64
played_fits live Opens profile group readings bytes text is =
    let style = styled profile is.night.clubs group in
    let roster = script-roster bytes is.night is.means in
    let out = is.output in
    let end = out.end in
    let history = settled_history live is.board is.pass is.night.events style readings end in
    let one = last_text (codes "READER 1\n") (last_shown end.last 0) in
    let two = last_text (codes "READER 2\n") (last_shown end.last 1) in
    let one-fits : length one ≤ 305 = last-fits (codes "READER 1\n") style _ _ readings (last_shown end.last 0) (omega arith) roster out.ends.shown_1 in
    let two-fits : length two ≤ 305 = last-fits (codes "READER 2\n") style _ _ readings (last_shown end.last 1) (omega arith) roster out.ends.shown_2 in
    let short = screen_short style.profile (board_of history) style.roster (board_words history out.ends.merge.legal) roster style.group in
    let closing = string_bytes end.closing in
    let closes = ap length (out.ends.closing ∙ ap (λ (r : Reading). styled_screen style r.board) out.ends.settled) in
    omega (
      arith,
      one-fits,
      two-fits,
      short,
      closes,
      length-append (one ++ two) (codes "FINAL\n" ++ closing),
      length-append one two,
      length-append (codes "FINAL\n") closing,
      ap length out.text_is,
    )
