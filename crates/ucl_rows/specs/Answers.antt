-- The answers to single rows of an input, as text or as a line of JSON; `row` is the number of the row.
use Rattle.std.specs.Prelude.{ℕ, List, ◌++◌, codes, decimal, string_bytes, Result}
use Rattle.ucl_word.specs.declared.event.Accepted.{Accepted}
use Rattle.ucl_word.specs.declared.refusal.Refusal.{Refusal}
use Rattle.ucl_board.specs.declared.night_event.NightEvent.{NightEvent}
use Rattle.ucl_order.specs.Roster.{NamedClub}
use Rattle.ucl_screen.specs.Matches.{matches_text}
use Rattle.ucl_screen.specs.Screen.{screen_text}
use Rattle.ucl_json.specs.Lines.{json_line}
use Rattle.ucl_json.specs.declared.header.BoardHeader.{BoardHeader}
use Rattle.ucl_json.specs.Values.{bad_row_value, edition_screen_value, matches_value, reply_value, words_value}
use Rattle.ucl_command.specs.declared.options.Format.{Format}
use Rattle.ucl_command.specs.declared.options.Format.TheVariants.{Text, Json}
use Rattle.ucl_rows.specs.BadRows.{field_name}
use Rattle.ucl_rows.specs.Lines.{line_of_reply, word_lines}
use Rattle.ucl_rows.specs.declared.answer.Answer.{Answer}
use Rattle.ucl_rows.specs.declared.answer.Answer.TheVariants.{Short, Long, Words}
use Rattle.ucl_rows.specs.declared.bad_row.BadField.{BadField}

-- the bytes of an answer to a row
abbrev pub bytes_of : Answer → List ℕ
bytes_of (Short line) = line.bytes
bytes_of (Long text) = string_bytes text
bytes_of (Words lines) = lines.items

-- the answer to an event, if `before` events were accepted before it: `reply` is what the board replied, and `board` the board after it,
-- in this edition
abbrev pub reply_answer : Format → ℕ → ℕ → NightEvent → ℕ → Result Accepted Refusal → List ℕ → List ℕ
reply_answer Text edition row event before reply board = line_of_reply row event.call.game before reply
reply_answer Json edition row event before reply board = json_line (reply_value row event reply edition board)

-- the line of text that answers a bad row, which is neither an event nor a request
abbrev pub bad_line : ℕ → List ℕ
bad_line row = decimal row ++ codes " refused 20 bad-row\n"

-- the answer to a bad row, neither an event nor a request; in JSON with its first bad field and `shown`, the start of its text
abbrev pub bad_answer : Format → ℕ → BadField → List ℕ → List ℕ
bad_answer Text row field shown = bad_line row
bad_answer Json row field shown = json_line (bad_row_value row (field_name field) shown)

-- the answer that is the screen of a board: the table of the group as it stands
abbrev pub screen_answer : Format → BoardHeader → ℕ → List NamedClub → List ℕ → List ℕ
screen_answer Text header row clubs board = screen_text header.profile board clubs header.group
screen_answer Json header row clubs board = json_line (edition_screen_value row header board clubs)

-- the answer that lists the twelve match words of a board
abbrev pub words_answer : Format → ℕ → List ℕ → List ℕ
words_answer Text row board = word_lines 1 board
words_answer Json row board = json_line (words_value row board)

-- the answer that lists the twelve matches of a board as they stand
abbrev pub matches_answer : Format → ℕ → List NamedClub → List ℕ → List ℕ
matches_answer Text row clubs board = matches_text board clubs
matches_answer Json row clubs board = json_line (matches_value row board clubs)
