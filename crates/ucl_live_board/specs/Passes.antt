-- What contracts know of a pass, and what each call says of it: `old` is what is known before the call, and `new` after it.
use Rattle.std.specs.Prelude.{◌≡◌, ℕ, ◌==◌, ◌<◌, ◌≤◌, List, [], ◌∷◌, ◌++◌, length, filter, IsSome, Ok, Err}
use mathlib.Core.List.{IsPrefix}
use Rattle.ucl_word.specs.declared.event.EventCall.{EventCall}
use Rattle.ucl_word.specs.declared.event.Accepted.{Accepted}
use Rattle.ucl_word.specs.declared.refusal.Refusal.{Refusal}
use Rattle.ucl_board.specs.declared.entry.Entry.{Entry}
use Rattle.ucl_board.specs.declared.reading.Reading.{Reading}
use Rattle.ucl_board.specs.History.{IsLegal, followed_by, entry_of, sequential_reply, snapshot_at}
use Rattle.ucl_live_board.specs.Shares.{Share, whole, first_half, second_half}

-- what contracts know of a pass: the history that it has seen, its own entries there, its number (0 for a reader), how many reporters it
-- has seen enlisted (given a number), the versions of its readings, oldest first, and its share of the board
pub record PassView : Type 0 where
  pub seen : List Entry
  pub mine : List Entry
  pub number : ℕ
  pub listed : ℕ
  pub shown : List ℕ
  pub share : Share

-- the entries of the reporter with this number in a history
abbrev pub entries_by : ℕ → List Entry → List Entry
entries_by number history = filter (λ entry. entry.reporter == number) history

-- a pass is alone on its board: all entries that it has seen are its own, and it has seen no other pass enlisted
pub record IsAlone (pass : PassView) : Type 0 where
  pub seen : pass.seen ≡ pass.mine
  pub listed : pass.listed ≤ pass.number
  pub one : pass.number ≤ 1

-- what holds of a pass between calls: it has seen a legal history and knows its own entries there, it has a share, and with the whole board
-- it is alone on it
pub record IsSound (pass : PassView) : Type 0 where
  pub legal : IsLegal pass.seen
  pub own : pass.mine ≡ entries_by pass.number pass.seen
  pub few : pass.listed ≤ 255
  pub acts : IsSome pass.share
  pub alone : pass.share ≡ whole → IsAlone pass

-- after a call a pass still has seen all that it had seen before, and perhaps more, and it has the same share
pub record SeesOn (old new : PassView) : Type 0 where
  pub seen : IsPrefix old.seen new.seen
  pub listed : old.listed ≤ new.listed
  pub share : new.share ≡ old.share

-- what holds of a pass after each call that borrows it, but a split: it is sound, has seen no less, and keeps its share and number
pub record Continues (old new : PassView) : Type 0 where
  pub sound : IsSound new
  pub on : SeesOn old new
  pub number : new.number ≡ old.number

-- what is known of the pass of a board that was just opened: it has seen nothing, and has the whole board
abbrev pub opening_pass : PassView
opening_pass = record { seen = []; mine = []; number = 0; listed = 0; shown = []; share = whole }

-- an event was accepted: its entry is the last that the pass has then seen; the rules accept it after the entries before, which begin with
-- all that the pass had seen
pub record AcceptedReport (old : PassView) (call : EventCall) (reply : Accepted) (new : PassView) : Type 0 where
  pub before : List Entry
  pub last : new.seen ≡ followed_by before (entry_of old.number call)
  pub since : IsPrefix old.seen before
  pub answer : sequential_reply before call ≡ Ok reply
  pub mine : new.mine ≡ followed_by old.mine (entry_of old.number call)
  pub shown : new.shown ≡ old.shown

-- an event was refused: the refusal is the reply of the board of one thread after all that the pass has then seen
pub record RefusedReport (old : PassView) (call : EventCall) (refusal : Refusal) (new : PassView) : Type 0 where
  pub answer : sequential_reply new.seen call ≡ Err refusal
  pub mine : new.mine ≡ old.mine
  pub shown : new.shown ≡ old.shown

-- the board was read: the reading is the board after the first entries of what is then seen, as many as its version says and no fewer than
-- had been seen; its version is added to those that the pass has read
pub record SharedReading (old : PassView) (reading : Reading) (new : PassView) : Type 0 where
  pub low : length old.seen ≤ reading.version
  pub high : reading.version ≤ length new.seen
  pub snapshot : reading ≡ snapshot_at new.seen reading.version
  pub mine : new.mine ≡ old.mine
  pub shown : new.shown ≡ old.shown ++ reading.version ∷ []

-- a reading is the last one of a pass: the board after the first entries of what the pass has seen, as many as its version says
pub record IsReadingOf (pass : PassView) (reading : Reading) : Type 0 where
  pub before : List ℕ
  pub last : pass.shown ≡ before ++ reading.version ∷ []
  pub high : reading.version ≤ length pass.seen
  pub snapshot : reading ≡ snapshot_at pass.seen reading.version

-- what is known of a pass after another was split off it: it has the first half of its share, and is otherwise as it was
abbrev pub kept_pass : PassView → PassView
kept_pass old = record old { share = first_half old.share }

-- what is known of a pass that was split off another: it has seen as much, has read nothing, and has the second half of the share
abbrev pub split_pass : PassView → PassView
split_pass old = record { seen = old.seen; mine = []; number = 0; listed = old.listed; shown = []; share = second_half old.share }

-- a reader's pass was enlisted: it has a new number, above all that it had seen given, and has seen no entry with it
pub record Enlistment (old new : PassView) : Type 0 where
  pub sound : IsSound new
  pub on : SeesOn old new
  pub number : new.number ≡ new.listed
  pub above : old.listed < new.listed
  pub fresh : entries_by new.number new.seen ≡ []
  pub mine : new.mine ≡ []
  pub shown : new.shown ≡ []

-- an enlistment was refused, since all 255 numbers are given: the reader's pass came back, with what it had entered and read
pub record FullBoard (old new : PassView) : Type 0 where
  pub listed : new.listed ≡ 255
  pub mine : new.mine ≡ old.mine
  pub shown : new.shown ≡ old.shown

-- a pass was told what a first one had seen: it has then seen all of that, and has entered and read nothing more
pub record Meeting (first old new : PassView) : Type 0 where
  pub met : IsPrefix first.seen new.seen
  pub mine : new.mine ≡ old.mine
  pub shown : new.shown ≡ old.shown

-- what a reporter's pass keeps as numbers: its own number, and how many of its events were accepted
pub record Figures : Type 0 where
  pub number : ℕ
  pub accepted : ℕ

-- the number of a reporter's pass and how many of its events were accepted, by what contracts know of the pass
abbrev pub reporter_figures : PassView → Figures
reporter_figures pass = record { number = pass.number; accepted = length pass.mine }
