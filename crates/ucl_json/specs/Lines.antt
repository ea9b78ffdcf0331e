-- An answer in JSON is the text of its value on one line, which ends with a line feed (10).
use Rattle.std.specs.Prelude.{◌≡◌, ◌≢◌, ◌≤◌, ℕ, false, List, [], ◌∷◌, ◌++◌, All, Some, flat_map}
use Rattle.serde_json.specs.Data.{Data, depth}
use Rattle.serde_json.specs.Read.{max_depth, read}
use Rattle.serde_json.specs.Written.{compact_text, has_float}

-- a value without a float, nested no deeper than can be read back
pub record IsFlat (value : Data) : Type 0 where
  pub whole : has_float value ≡ false
  pub shallow : depth value ≤ max_depth

-- the text of a value and a line feed
abbrev pub json_line : Data → List ℕ
json_line value = compact_text value ++ 10 ∷ []

-- a text is one line: its last byte is a line feed, and no byte before it is
pub record IsOneLine (line : List ℕ) : Type 0 where
  pub body : List ℕ
  pub ends : line ≡ body ++ 10 ∷ []
  pub unbroken : All (λ b. b ≢ 10) body

-- a text is the line of a value, is one line, and without its end is read back as that value
pub record IsLineOf (value : Data) (line : List ℕ) : Type 0 where
  pub text : line ≡ json_line value
  pub one : IsOneLine line
  pub reads : read (compact_text value) ≡ Some value

-- a text is the lines of some values, one after the other, and each is one line
pub record AreLinesOfValues (text : List ℕ) : Type 0 where
  pub values : List Data
  pub whole : text ≡ flat_map json_line values
  pub each : All (λ value. IsOneLine (json_line value)) values
