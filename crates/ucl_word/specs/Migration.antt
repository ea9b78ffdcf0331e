-- Words of the first layout, in which older boards were saved, and the words of the present layout that they are read as.
use Rattle.std.specs.Prelude.{◌≡◌, ℕ, ◌≤◌, ◌+◌, ◌*◌, ◌/◌, ◌%◌, ◌^◌, ◌==◌, ◌&&◌, nat_le, if◌then◌else◌, Bool, Option, Some, None}
use Rattle.ucl_word.specs.declared.record.MatchRecord.{MatchRecord}
use Rattle.ucl_word.specs.declared.record.State.{State}
use Rattle.ucl_word.specs.declared.record.State.TheVariants.{Scheduled, InPlay, Finished}
use Rattle.ucl_word.specs.Record.{is_valid, IsValid}
use Rattle.ucl_word.specs.Layout.{first_layout, layout, word_in, word_of, record_in, record_at}

-- the greatest event number that the first layout has room for in a state: 1023, and in play one less, so that full time has a number left
abbrev pub max_number_in_first_layout : State → ℕ
max_number_in_first_layout Scheduled = 1023
max_number_in_first_layout InPlay = 1022
max_number_in_first_layout Finished = 1023

-- a record that a match could have in the first layout, which had room for fewer event numbers
pub record IsFirstValid (game : MatchRecord) : Type 0 where
  pub valid : IsValid game
  pub number : game.number ≤ max_number_in_first_layout game.state

-- the word that a record of a match packs to in the first layout
unfoldable pub first_word_of : MatchRecord → ℕ
first_word_of game = word_in first_layout game

-- a word of the first layout: that of some record that was valid there
pub record IsFirstWord (word : ℕ) : Type 0 where
  pub of : MatchRecord
  pub valid : IsFirstValid of
  pub packed : first_word_of of ≡ word

-- the record with the numbers that the fields of a word hold in the first layout, whether or not it is valid
unfoldable pub first_record_at : ℕ → MatchRecord
first_record_at word = record_in first_layout word

-- whether a word is the packing of a valid record in the present layout
abbrev pub is_word : ℕ → Bool
is_word word = is_valid (record_at word) && (word_of (record_at word) == word)

-- whether a word is, in the first layout, the packing of a record that was valid there
abbrev pub is_first_word : ℕ → Bool
is_first_word word =
    let m = first_record_at word in is_valid m && nat_le m.number (max_number_in_first_layout m.state) && (first_word_of m == word)

-- what a word is read as: itself in the present layout, or the same record's word there if it is of the first; None if it is of neither
unfoldable pub read_word : ℕ → Option ℕ
read_word word = if is_word word then Some word else (if is_first_word word then Some (word_of (first_record_at word)) else None)

-- a word of the first layout with its fields moved to the present one: the event number stays, all above it moves up, and the tag is added
abbrev pub moved_up : ℕ → ℕ
moved_up word =
    word % 2 ^ first_layout.number.width
    + word / 2 ^ first_layout.number.width * 2 ^ layout.number.width
    + layout.tag_value * 2 ^ layout.tag.low
