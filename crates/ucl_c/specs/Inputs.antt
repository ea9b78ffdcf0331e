-- What the word of a match that has kicked off holds.
use Rattle.std.specs.Prelude.{ℕ, ◌+◌, ◌≤◌}
use Rattle.ucl_word.specs.Layout.{layout, held_at, HasLayoutTag}

-- the fields of a word are those of a begun match, in play (state 1) or finished (2): the tag of the layout, a last reporter, and an event
-- number, how many events the match has had, of 1 to 4,094 in play and of 2 to 4,095 if finished
pub record IsOfBegunMatch (word : ℕ) : Type 0 where
  pub tag : HasLayoutTag layout word
  pub reporter : 1 ≤ held_at word layout.reporter
  pub not_scheduled : 1 ≤ held_at word layout.state
  pub known : held_at word layout.state ≤ 2
  pub low : held_at word layout.state ≤ held_at word layout.number
  pub high : held_at word layout.number ≤ 4093 + held_at word layout.state
