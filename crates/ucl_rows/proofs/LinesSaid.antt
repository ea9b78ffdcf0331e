-- What a line says, behind which there is a line feed.
use Rattle.ucl_rows.proofs.Common.{List, Row, [], ap, arith, default_config, fits, of_rows, records, refl, said_on, sym, cases_Bool, false, inl, inr, true, ℕ, ◌++◌}
use Rattle.ucl_rows.proofs.Common.{◌<◌, ◌∙◌, ◌∷◌, ◌≡◌}
use Rattle.std.proofs.Common.{ne_eqb}
use Rattle.std.specs.Prelude.{Err, IfErr, Ok, Result}
use Rattle.ucl_screen.specs.Rows.{Fields, FourFields}
use Rattle.ucl_screen.specs.PlainRows.{BeginsWithRow, fields_of_four, has_quote}
use Rattle.ucl_screen.proofs.PlainRows.{no_rows_fed}
use Rattle.ucl_rows.specs.Rows.{Nothing, Said, said_by_text}

-- if a text adds no row to any text that follows it, then as a line, with a line feed, it says nothing: it has no row
pub says_nothing : (text : List ℕ) → ((tail : List ℕ) → records default_config (text ++ tail) ≡ records default_config tail) → Nothing ≡ of_rows (records default_config (text ++ 10 ∷ []))
says_nothing text none = sym (ap of_rows (none (10 ∷ []) ∙ no_rows_fed))

-- if a text begins with a row of four fields, and its rest adds no row to any text that follows it, then as a line it says just this row
pub says_four : (text rest : List ℕ) (f : FourFields) → BeginsWithRow text (fields_of_four f) rest → ((tail : List ℕ) → records default_config (rest ++ tail) ≡ records default_config tail)
    → Row f ≡ of_rows (records default_config (text ++ 10 ∷ []))
says_four text rest f b none = sym (ap of_rows (b.rows (10 ∷ []) refl ∙ ap (λ (rows : List Fields). fields_of_four f ∷ rows) (none (10 ∷ []) ∙ no_rows_fed)))

-- a line other than line 1, if it is not too long, says what its rows say, as `csv` reads them
pub says_later : (row : ℕ) (line : List ℕ) (said : Said) → 1 < row → fits (line ++ 10 ∷ []) ≡ true → said ≡ of_rows (records default_config (line ++ 10 ∷ [])) → said_on row line ≡ said
unfolding said_by_text
says_later row line said later short is = rw (short, ne_eqb row 1 (λ e. omega arith)) (sym is)

-- a line of which only `csv` can read a row has a quote: without one, neither it nor the line without its byte order mark is left to `csv`
has_one : (line bare : List ℕ) → (has_quote line ≡ false → has_quote bare ≡ false) → (has_quote bare ≡ false → false ≡ true) → has_quote line ≡ true
has_one line bare keeps none = elim (cases_Bool (has_quote line)) [ inl y ↦ y | inr n ↦ let both = none (keeps n) in cc ]

-- a result of `csv`, to which a line goes that is not too long and that cannot be read without it, is an error only if the line has a quote
pub only_quoted : {T E : Type 0} (r : Result T E) (line bare : List ℕ) → fits (line ++ 10 ∷ []) ≡ true → (has_quote line ≡ false → has_quote bare ≡ false)
    → (has_quote bare ≡ false → false ≡ true) → IfErr r (λ _. (fits (line ++ 10 ∷ []) ≡ true) × (has_quote line ≡ true))
only_quoted (Ok said) line bare short keeps none = tt
only_quoted (Err error) line bare short keeps none = (short, has_one line bare keeps none)
