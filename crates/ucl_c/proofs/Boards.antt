-- Boards and rosters of inputs with no fault, and tables by coefficients.
use Rattle.std.proofs.Common.{◌≡◌, ℕ, ◌==◌, ◌∙◌, Bool, true, false, List, [], ◌∷◌, length, map, Option, Some, None, refl, ap, arith}
use Rattle.std.specs.Prelude.{Result, Ok, Err, option_map}
use Rattle.std.proofs.lemmas.Bool.Decides.{nat_tests}
use Rattle.ucl_board.specs.Words.{AreWords, read_words}
use Rattle.ucl_board.proofs.HistoryTheorems.{read_are_words}
use Rattle.ucl_order.specs.declared.profile.Profile.{Profile}
use Rattle.ucl_order.specs.Names.{profile_with}
use Rattle.ucl_order.specs.Roster.{NamedClub, IsRoster, bad_slot, coefficients_in}
use Rattle.ucl_order.specs.Rows.{rows_of}
use Rattle.ucl_order.proofs.Clubs.{good_four}
use Rattle.ucl_order.proofs.Coefficients.{table-same}
use Rattle.ucl_c.specs.declared.table.RowOfC.{RowOfC}
use Rattle.ucl_c.specs.declared.fault.Fault.TheVariants.{BadRoster, BadWord, NotFour}
use Rattle.ucl_c.specs.Faults.{club_with, fault_of_clubs, fault_of_words, fault_unless, first_fault}
use Rattle.ucl_c.specs.Tables.{row_seen, shown_with, table_shown}

-- twelve words that are read as a board have no fault, and what they are read as is a board's words
pub board-read : (words twelve board : List ℕ) → length words ≡ 12 → twelve ≡ words → read_words 1 twelve ≡ Ok board
    → (read_words 1 words ≡ Ok board) × (fault_of_words words ≡ None) × AreWords board
board-read words twelve board long same read =
    let is : read_words 1 words ≡ Ok board = rw same at read in
    let are = read_are_words 1 words board is in
    (is, rw (long, is), record { twelve = are.0 ∙ long; each = are.1 })

-- twelve words of which the one with this index is the first that is no match's have the fault `BadWord` with the index
pub words-bad : (words twelve : List ℕ) (index : ℕ) → length words ≡ 12 → twelve ≡ words → read_words 1 twelve ≡ Err index → fault_of_words words ≡ Some (BadWord index)
words-bad words twelve index long same bad = let is : read_words 1 words ≡ Err index = rw same at bad in rw (long, is)

-- if there is no fault, neither `NotFour`, which there is unless `b`, nor that of a bad slot, then `b` is true and no slot is bad
parts : (b : Bool) (slot : Option ℕ) → first_fault (fault_unless b NotFour ∷ option_map BadRoster slot ∷ []) ≡ None → (b ≡ true) × (slot ≡ None)
parts true None e = (refl, refl)
parts true (Some slot) e = absurd (grind (arith, e))
parts false slot e = absurd (grind (arith, e))

-- clubs without a fault are a roster
pub good-roster : (clubs roster : List NamedClub) → roster ≡ clubs → fault_of_clubs clubs ≡ None → IsRoster roster
good-roster clubs roster same none =
    let both_good = parts (length clubs == 4) (bad_slot clubs) none in
    let four : (length clubs == 4) ≡ true = both_good.0 in
    rw same (good_four clubs (grind (arith, nat_tests, four)) both_good.1)

-- the clubs that are made from these coefficients have these coefficients
pub coefficients-with : (coefficients : List ℕ) → coefficients_in (map club_with coefficients) ≡ coefficients
coefficients-with [] = refl
coefficients-with (coefficient ∷ coefficients) = ap (λ (later : List ℕ). coefficient ∷ later) (coefficients-with coefficients)

-- the table of a board, by a profile, with these clubs: its rows in the form of C
abbrev table_of : List NamedClub → Profile → List ℕ → List RowOfC
table_of clubs profile board = map row_seen (rows_of profile board clubs)

-- the table is the same with other clubs that have the same coefficients
pub table-any : (code : ℕ) (words : List ℕ) (one other : List NamedClub) → coefficients_in one ≡ coefficients_in other → table_shown code words one ≡ table_shown code words other
table-any code words one other same = by (profile_with code) (read_words 1 words)
  where
    by : (profile : Option Profile) (read : Result (List ℕ) ℕ) → shown_with profile read (table_of one) ≡ shown_with profile read (table_of other)
    by (Some profile) (Ok board) = ap (map row_seen) (table-same profile board one other same)
    by _ _ = refl
