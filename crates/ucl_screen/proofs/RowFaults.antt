-- What the rows of an input are refused for.
use Rattle.ucl_screen.proofs.Common.{AnswersAsSaid, Bool, CallsRead, Err, IfErr, IfSome, InputFault, IsFaultOfScript, read_words}
use Rattle.ucl_screen.proofs.Common.{List, MeansNight, MeansSheet, Night, None, Ok, Option, Reads, Refuses, Result, Sheet, Some}
use Rattle.ucl_screen.proofs.Common.{WrittenSheet, false, left, length, night_of_rows, night_seen, refl, rows_of, sheet_of, sheet_of_rows}
use Rattle.ucl_screen.proofs.Common.{sheet_seen, subst, sym, true≢false, whole_input, ℕ, ◌+◌, ◌>>=◌, ◌∙◌, ◌≡◌, ◌≤◌}
use Rattle.ucl_screen.specs.declared.fault.InputFault.TheVariants as fault

-- if a source had `bytes` as its whole input, where its input is known, what holds of `bytes` holds of its whole input
pub known : (old : Option (List ℕ)) (bytes : List ℕ) (P : Result (List ℕ) InputFault → Type 0) → IfSome old (λ xs. whole_input xs ≡ Ok bytes)
    → P (Ok bytes) → IfSome old (λ xs. P (whole_input xs))
known None bytes P h p = tt
known (Some xs) bytes P h p = subst P (sym h) p

-- a script, or its first fault, parsed from `bytes`, the whole input of a source, is a right result of reading the script from the source
pub night-reads : (r : Result Night InputFault) (old new : Option (List ℕ)) (failed : Bool) (bytes : List ℕ) → failed ≡ false
    → IfSome old (λ xs. whole_input xs ≡ Ok bytes) → IfErr r IsFaultOfScript → AnswersAsSaid night_seen r (night_of_rows (rows_of bytes)) → Reads MeansNight night_seen old new failed r
night-reads (Ok night) old new failed bytes f h kinds g = (f, known old bytes (λ w. (w >>= λ text. night_of_rows (rows_of text)) ≡ Ok (night_seen night)) h g)
night-reads (Err (fault.BadRow row)) old new failed bytes f h kinds g = (f, known old bytes (λ w. (w >>= λ text. night_of_rows (rows_of text)) ≡ Err (fault.BadRow row)) h g)
night-reads (Err (fault.BadRoster slot)) old new failed bytes f h kinds g = (f, known old bytes (λ w. (w >>= λ text. night_of_rows (rows_of text)) ≡ Err (fault.BadRoster slot)) h g)
night-reads (Err fault.OutOfMemory) old new failed bytes f h kinds g = f
night-reads (Err fault.TooLong) old new failed bytes f h kinds g = (f, known old bytes (λ w. (w >>= λ text. night_of_rows (rows_of text)) ≡ Err fault.TooLong) h g)
night-reads (Err e) old new failed bytes f h kinds g = absurd kinds

-- the rows of these bytes give `said`: a sheet, whose words are not tested yet, or the first fault
abbrev pub rows_say : List ℕ → Result WrittenSheet InputFault → Type 0
rows_say bytes said = sheet_of_rows (rows_of bytes) ≡ said

-- if the rows of `bytes`, a source's whole input, give `said`, a sheet or a fault, so does the source's input, where it is known
sheet-known : (old : Option (List ℕ)) (bytes : List ℕ) (said : Result WrittenSheet InputFault) → IfSome old (λ xs. whole_input xs ≡ Ok bytes) → rows_say bytes said
    → IfSome old (λ xs. sheet_of xs ≡ said)
sheet-known old bytes said h g = known old bytes (λ w. (w >>= λ text. sheet_of_rows (rows_of text)) ≡ said) h g

-- the fault of a sheet in the rows of `bytes`, the whole input of a source, is a right result of reading the sheet from the source
pub sheet-refused : (e : InputFault) (old new : Option (List ℕ)) (failed : Bool) (bytes : List ℕ) → failed ≡ false
    → IfSome old (λ xs. whole_input xs ≡ Ok bytes) → IsFaultOfScript e → Refuses e (sheet_of_rows (rows_of bytes)) → Reads MeansSheet sheet_seen old new failed (Err e)
sheet-refused (fault.BadRow row) old new failed bytes f h kinds g = (f, sheet-known old bytes (Err (fault.BadRow row)) h g)
sheet-refused (fault.BadRoster slot) old new failed bytes f h kinds g = (f, sheet-known old bytes (Err (fault.BadRoster slot)) h g)
sheet-refused fault.OutOfMemory old new failed bytes f h kinds g = f
sheet-refused fault.TooLong old new failed bytes f h kinds g = (f, sheet-known old bytes (Err fault.TooLong) h g)
sheet-refused e old new failed bytes f h kinds g = absurd kinds

-- if P holds of a source's bytes, where they are known, and P implies Q, then Q holds of them, where they are known
both-known : (old : Option (List ℕ)) (P Q : List ℕ → Type 0) → IfSome old P → ((xs : List ℕ) → P xs → Q xs) → IfSome old Q
both-known None P Q p q = tt
both-known (Some xs) P Q p q = q xs p

-- if the rows of a source's whole input give a sheet, and all its words can be read, the sheet with the words as read is a right result
pub sheet-taken : (sheet : Sheet) (words : List ℕ) (old new : Option (List ℕ)) (failed : Bool) (bytes : List ℕ) → failed ≡ false
    → IfSome old (λ xs. whole_input xs ≡ Ok bytes) → rows_say bytes (Ok (record { clubs = sheet.roster; words = words }))
    → read_words 1 words ≡ Ok sheet.board → Reads MeansSheet sheet_seen old new failed (Ok sheet)
sheet-taken sheet words old new failed bytes f h g read =
    let written : WrittenSheet = record { clubs = sheet.roster; words = words } in
    (f, both-known old (λ xs. sheet_of xs ≡ Ok written) (λ xs. MeansSheet xs (Ok (sheet_seen sheet))) (sheet-known old bytes (Ok written) h g) (λ xs e. (written, e, refl, read)))

-- if the rows of a source's whole input give a sheet with its first word of neither layout at `index`, `BadWordAt` is a right result
pub sheet-tested : (sheet : WrittenSheet) (index : ℕ) (old new : Option (List ℕ)) (failed : Bool) (bytes : List ℕ) → failed ≡ false
    → IfSome old (λ xs. whole_input xs ≡ Ok bytes) → rows_say bytes (Ok sheet) → read_words 1 sheet.words ≡ Err index → Reads MeansSheet sheet_seen old new failed (Err (fault.BadWordAt index))
sheet-tested sheet index old new failed bytes f h g bad =
    (f, both-known old (λ xs. sheet_of xs ≡ Ok sheet) (λ xs. MeansSheet xs (Err (fault.BadWordAt index))) (sheet-known old bytes (Ok sheet) h g) (λ xs e. (sheet, e, bad)))

-- if a source did not fail, and was called at most once for each byte left, where known, and once more, a read keeps its bound on calls
pub calls-read : {V E : Type 0} (Means : List ℕ → Result E InputFault → Type 0) (view : V → E) (left after : Option (List ℕ)) (failed : Bool) (old new : ℕ) (r : Result V InputFault)
    → failed ≡ false → Reads Means view left after failed r → IfSome left (λ bytes. new ≤ old + length bytes + 1) → CallsRead left old new r
calls-read Means view left after failed old new (Err (fault.ReadFailed n)) f reads h = absurd (true≢false (sym reads.0 ∙ f))
calls-read Means view left after failed old new r f reads h = h
