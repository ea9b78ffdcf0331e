-- Elements that are added one after the other, and answers that have no float and are not nested deep.
use Rattle.ucl_json.proofs.Common.{BoardHeader, Data, Err, IsFlat, Items, List, MatchRecord, NamedClub, Ok, Profile, Refusal, Result, Row}
use Rattle.ucl_json.proofs.Common.{Value, [], ap, arith, depth, edition_screen_value, false, found_of, game_at, get_or}
use Rattle.ucl_json.proofs.Common.{has_float, hex_digits, is_float, item, items_depth, items_have_float, items_of, items_view, length}
use Rattle.ucl_json.proofs.Common.{match_items, match_numbers, match_value, matches_value, negsuc, no_items, of_integer, place_items}
use Rattle.ucl_json.proofs.Common.{place_value, pos, refl, refusal_code, refusal_name, refused_by, reply_value, rows_of, screen_value}
use Rattle.ucl_json.proofs.Common.{serde_json_on_literals, string, take, take_all, take_more, view, with_member, word_items, words_value, ℕ}
use Rattle.ucl_json.proofs.Common.{ℤ, ◌++◌, ◌+◌, ◌-ℤ◌, ◌-◌, ◌<◌, ◌∙◌, ◌∷◌, ◌≡◌, ◌≤◌}
use Rattle.std.specs.Prelude.{None, Option, Some}
use Rattle.ucl_json.specs.Mended.{mended_value}
use Rattle.ucl_word.specs.declared.event.Accepted.{Accepted}
use Rattle.ucl_board.specs.declared.night_event.NightEvent.{NightEvent}
use Rattle.ucl_screen.proofs.EventsInTurn.{match-numbered}

-- the items of an array with one more at their end
abbrev pub add : Items → Data → Items
add no_items d = item d no_items
add (item e more) d = item e (add more d)

-- the items of an array with one more value at its end are those of the array with the item of that value added
pub view-add : (xs : List Value) (v : Value) → items_view (xs ++ v ∷ []) ≡ add (items_view xs) (view v)
view-add [] v = refl
view-add (x ∷ xs) v = ap (item (view x)) (view-add xs v)

-- the items of an array, one element after the other
module _ {T : Type 0} (value_of : T → Data) where
  items-add : (xs : List T) (x : T) → items_of value_of (xs ++ x ∷ []) ≡ add (items_of value_of xs) (value_of x)
  items-add [] x = refl
  items-add (y ∷ xs) x = ap (item (value_of y)) (items-add xs x)

  -- one value more is the item of the next element
  pub next-item : (old new : List Value) (v : Value) (xs : List T) (i : ℕ) (d : T) → i < length xs → items_view old ≡ items_of value_of (take i xs)
      → view v ≡ value_of (get_or xs i d) → new ≡ old ++ v ∷ [] → items_view new ≡ items_of value_of (take (i + 1) xs)
  next-item old new v xs i d h so_far now e = rw (e, take_more xs i d h, items-add (take i xs) (get_or xs i d), ← so_far, ← now) (view-add old v)

  -- once all were added, the items are those of all elements
  pub all-items : (values : List Value) (xs : List T) (i : ℕ) → length xs ≤ i → items_view values ≡ items_of value_of (take i xs) → items_view values ≡ items_of value_of xs
  all-items values xs i h e = e ∙ ap (items_of value_of) (take_all i xs h)

-- the JSON items of the first n - 1 matches, with that of match n added, are the items of the first n matches
pub next-match : (board : List ℕ) (xs ys : List Value) (v : Value) (n game : ℕ) → 1 ≤ n → n ≤ 12 → game ≡ n → items_view xs ≡ match_items board (take (n - 1) match_numbers)
    → view v ≡ match_value game (game_at board game) → ys ≡ xs ++ v ∷ [] → items_view ys ≡ match_items board (take (n + 1 - 1) match_numbers)
next-match board xs ys v n game low high is so_far now e =
    let at : n + 1 - 1 ≡ n - 1 + 1 = omega arith in
    rw at (next-item (λ (g : ℕ). match_value g (game_at board g)) xs ys v match_numbers (n - 1) 0 (omega arith) so_far (rw (match-numbered n low high, ← is) now) e)

-- the JSON items of the first n - 1 matches are those of all matches, if n is 13
pub all-matches : (board : List ℕ) (xs : List Value) (n : ℕ) → n ≡ 13 → items_view xs ≡ match_items board (take (n - 1) match_numbers) → items_view xs ≡ match_items board match_numbers
all-matches board xs n last e = rw last at e

-- a value that is given a member under the name k, and then one under n, is the value with both members
pub both_members : (n k : List ℕ) {whole second mid first base m d b : Data} → whole ≡ with_member n second mid → second ≡ m → mid ≡ with_member k first base → first ≡ d → base ≡ b
    → whole ≡ with_member n m (with_member k d b)
both_members n k p q r s t = rw (p, q, r, s, t) refl

-- no item has a float, and none is nested deeper than n
pub record AreFlat (ds : Items) (n : ℕ) : Type 0 where
  pub whole : items_have_float ds ≡ false
  pub shallow : items_depth ds ≤ n

-- if the JSON value of each x has no float and is nested at most n deep, so it is for the items made from any list
pub items-flat : {T : Type 0} (value_of : T → Data) (n : ℕ) → ((x : T) → (has_float (value_of x) ≡ false) × (depth (value_of x) ≤ n)) → (xs : List T) → AreFlat (items_of value_of xs) n
items-flat value_of n each [] = record { whole = refl; shallow = omega arith }
items-flat value_of n each (x ∷ xs) =
    let one = each x in
    let more = items-flat value_of n each xs in record { whole = rw (one.0, more.whole) refl; shallow = omega (arith, one.1, more.shallow) }

-- the JSON items of the words of a board have no float, and are not nested
pub words-flat : (words : List ℕ) → AreFlat (word_items words) 0
words-flat words = items-flat (λ (word : ℕ). string (hex_digits word)) 0 (λ word. (refl, omega arith)) words

-- the JSON answer that shows the words of a board has no float, and is nested no deeper than can be read back
pub words_value_flat : (row : ℕ) (ws : List ℕ) → IsFlat (words_value row ws)
words_value_flat row ws = let w = words-flat ws in record { whole = rw w.whole refl; shallow = omega (arith, w.shallow) }

-- an integer put into JSON is no float
int-whole : (z : ℤ) → is_float (of_integer z) ≡ false
int-whole (pos n) = refl
int-whole (negsuc n) = refl

-- the JSON value of a row of a table has no float, and is nested one deep at most
place-flat : (roster : List NamedClub) (row : Row) → (has_float (place_value roster row) ≡ false) × (depth (place_value roster row) ≤ 1)
unfolding place_value
place-flat roster row = (rw (int-whole (pos row.goals_for -ℤ pos row.goals_against)) refl, omega arith)

-- the JSON items of the rows of a table have no float, and are nested one deep at most
pub places-flat : (roster : List NamedClub) (rows : List Row) → AreFlat (place_items roster rows) 1
places-flat roster rows = items-flat (place_value roster) 1 (place-flat roster) rows

-- the JSON value of a screen has no float, and is nested no deeper than can be read back
pub screen_flat : (row : ℕ) (profile : Profile) (board : List ℕ) (roster : List NamedClub) (group : ℕ) → IsFlat (screen_value row profile board roster group)
unfolding screen_value
screen_flat row profile board roster group =
    let p = places-flat roster (rows_of profile board roster) in
    let w = words-flat board in record { whole = rw (p.whole, w.whole) refl; shallow = omega (arith, p.shallow, w.shallow) }

-- the JSON answer to an event that is refused has no float, and is nested no deeper than can be read back
refused-flat : (row : ℕ) (event : NightEvent) (code : ℕ) (name : List ℕ) (found : Option ℕ) (m : MatchRecord) → IsFlat (refused_by row event code name found m)
unfolding serde_json_on_literals
refused-flat row event code name None m = record { whole = refl; shallow = omega arith }
refused-flat row event code name (Some found) m = record { whole = refl; shallow = omega arith }

-- the JSON answer to an event, accepted or refused, has no float, and is nested no deeper than can be read back
pub reply_flat : (row : ℕ) (event : NightEvent) (reply : Result Accepted Refusal) (edition : ℕ) (board : List ℕ) → IsFlat (reply_value row event reply edition board)
reply_flat row event (Ok accepted) edition board = record { whole = refl; shallow = omega arith }
reply_flat row event (Err refusal) edition board =
    refused-flat row event (refusal_code refusal) (refusal_name refusal) (found_of refusal) (game_at board event.call.game)

-- the JSON answer to a mend has no float, and is nested no deeper than can be read back
pub mended_flat : (row : ℕ) (without : Option ℕ) (left_out edition version : ℕ) (value : Data) → value ≡ mended_value row without left_out edition version → IsFlat value
mended_flat row None left_out edition version value is = rw is (record { whole = refl; shallow = omega arith })
mended_flat row (Some named) left_out edition version value is = rw is (record { whole = refl; shallow = omega arith })

-- the JSON items of the matches of a board have no float, and are nested two deep at most
games-flat : (board games : List ℕ) → AreFlat (match_items board games) 2
games-flat board games = items-flat (λ (g : ℕ). match_value g (game_at board g)) 2 (λ g. (refl, omega arith)) games

-- the JSON answer that shows the matches of a board has no float, and is nested no deeper than can be read back
pub matches_flat : (row : ℕ) (board : List ℕ) (roster : List NamedClub) → IsFlat (matches_value row board roster)
unfolding matches_value
matches_flat row board roster = let m = games-flat board match_numbers in record { whole = rw m.whole refl; shallow = omega (arith, m.shallow) }

-- the JSON value of a screen with its edition has no float, and is nested no deeper than can be read back
pub edition_flat : (row : ℕ) (header : BoardHeader) (board : List ℕ) (roster : List NamedClub) → IsFlat (edition_screen_value row header board roster)
unfolding edition_screen_value screen_value serde_json_on_literals
edition_flat row header board roster =
    let p = places-flat roster (rows_of header.profile board roster) in
    let w = words-flat board in
    let m = games-flat board match_numbers in record { whole = rw (p.whole, w.whole, m.whole) refl; shallow = omega (arith, p.shallow, w.shallow, m.shallow) }
