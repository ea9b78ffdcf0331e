-- The lines of an input that have an end, which is a line feed (10), and the line that has begun: the bytes after the last line feed.
-- Of each line at most its first `cap` bytes are kept, since a longer line is too long anyway.
use Rattle.std.specs.Prelude.{◌≡◌, ⊤, ℕ, ◌==◌, nat_le, if◌then◌else◌, List, [], ◌∷◌, ◌++◌, length}

-- what is kept of a line after one byte more, if `line` was kept of it before: the byte is dropped if `cap` bytes are kept already
abbrev pub longer : ℕ → List ℕ → ℕ → List ℕ
longer cap line b = if nat_le cap (length line) then line else line ++ b ∷ []

-- the lines that end among these bytes, each without its line feed and cut to `cap` bytes; `line` is what was kept of the first before them
unfoldable pub ended_lines : ℕ → List ℕ → List ℕ → List (List ℕ)
ended_lines cap line [] = []
ended_lines cap line (b ∷ bytes) = if b == 10 then line ∷ ended_lines cap [] bytes else ended_lines cap (longer cap line b) bytes

-- the unfinished line after these bytes, which has no line feed yet, cut to `cap` bytes; `line` was the unfinished line before them
unfoldable pub begun_line : ℕ → List ℕ → List ℕ → List ℕ
begun_line cap line [] = line
begun_line cap line (b ∷ bytes) = if b == 10 then begun_line cap [] bytes else begun_line cap (longer cap line b) bytes

-- no byte of a text is a line feed
abbrev pub HasNoFeed : List ℕ → Type 0
HasNoFeed [] = ⊤
HasNoFeed (b ∷ bytes) = (b ≡ 10 → ⊥) × HasNoFeed bytes

-- a text begins with this line, which has no line feed, and a line feed after it
pub record BeginsWithLine (text line : List ℕ) : Type 0 where
  pub rest : List ℕ
  pub parts : text ≡ line ++ 10 ∷ rest
  pub clean : HasNoFeed line
