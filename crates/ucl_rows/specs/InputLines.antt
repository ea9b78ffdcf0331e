-- The lines of an input, each cut at its 258th byte.
-- What comes after that byte is passed over: the line is too long by then, whatever its end is.
use Rattle.std.specs.Prelude.{ℕ, List, [], ◌∷◌, ◌++◌}
use Rattle.ucl_io.specs.Lines.{begun_line, ended_lines}

-- the bytes after the last line feed, as one line if there are any, and else as none
abbrev pub last_lines : List ℕ → List (List ℕ)
last_lines [] = []
last_lines (b ∷ line) = (b ∷ line) ∷ []

-- the lines of a whole input, each cut at 258 bytes, too long by then; the bytes after the last line feed, if any, are a line too
abbrev pub lines_of : List ℕ → List (List ℕ)
lines_of bytes = ended_lines 258 [] bytes ++ last_lines (begun_line 258 [] bytes)
