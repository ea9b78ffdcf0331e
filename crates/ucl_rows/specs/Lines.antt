-- The lines that answer events, and the lines of match words. ROW is the number of a row, NUMBER and VERSION count the accepted events of a
-- match and of the board.
use Rattle.std.specs.Prelude.{ℕ, ◌+◌, List, [], ◌∷◌, ◌++◌, codes, decimal, Result, Ok, Err, length}
use Rattle.ucl_word.specs.declared.event.Accepted.{Accepted}
use Rattle.ucl_screen.specs.Numbers.{hex_digits}
use Rattle.ucl_word.specs.declared.refusal.Refusal.{Refusal}
use Rattle.ucl_word.specs.Names.{refusal_text}
use Rattle.ucl_word.specs.declared.event.EventCall.{EventCall}
use Rattle.ucl_board.specs.declared.entry.Entry.{Entry}
use Rattle.ucl_board.specs.History.{sequential_reply}

-- the line of an accepted event: ROW ok MATCH NUMBER VERSION
abbrev pub accepted_line : ℕ → ℕ → ℕ → ℕ → List ℕ
accepted_line row game number version = decimal row ++ codes " ok " ++ decimal game ++ codes " " ++ decimal number ++ codes " " ++ decimal version ++ codes "\n"

-- the line of a refused event: ROW refused CODE NAME
abbrev pub refused_line : ℕ → Refusal → List ℕ
refused_line row refusal = decimal row ++ codes " refused " ++ refusal_text refusal ++ codes "\n"

-- the line of the reply to an event of match `game`, if `before` events were accepted before: an accepted one raises the version by one
abbrev pub line_of_reply : ℕ → ℕ → ℕ → Result Accepted Refusal → List ℕ
line_of_reply row game before (Ok accepted) = accepted_line row game accepted.number (before + 1)
line_of_reply row game before (Err refusal) = refused_line row refusal

-- the line that answers an event on a board of one thread, if `history` are the events accepted before it
unfoldable pub reply_line : ℕ → List Entry → EventCall → List ℕ
reply_line row history call = line_of_reply row call.game (length history) (sequential_reply history call)

-- the line of a match word, in which INDEX is the number of the match: word,INDEX,HEX,
abbrev pub word_line : ℕ → ℕ → List ℕ
word_line index word = codes "word," ++ decimal index ++ codes "," ++ hex_digits word ++ codes ",\n"

-- the lines of these match words, the first of which has this index
unfoldable pub word_lines : ℕ → List ℕ → List ℕ
word_lines index [] = []
word_lines index (word ∷ words) = word_line index word ++ word_lines (index + 1) words
