-- What settling says of its answer and of two reporters' passes. What contracts know of the first and the second pass is a and b before,
-- and c and d after. The answer is the reading, or that there are strangers.
use Rattle.std.specs.Prelude.{◌≡◌, ◌≢◌, ◌⊎◌, ◌↔◌, ℕ, ◌+◌, ◌<◌, ◌≤◌, List, [], ◌∷◌, ◌++◌, All, length, take, Result, Ok, Err, IsOk, IfOk}
use Rattle.std.specs.Prelude.{IfErr}
use mathlib.Core.List.{IsPrefix}
use Rattle.ucl_board.specs.declared.entry.Entry.{Entry}
use Rattle.ucl_board.specs.declared.reading.Reading.{Reading}
use Rattle.ucl_board.specs.History.{IsLegal, snapshot_at}
use Rattle.ucl_live_board.specs.declared.errors.Strangers.{Strangers}
use Rattle.ucl_live_board.specs.Passes.{PassView, Continues, entries_by}

-- the version (number of entries) of the reading that settling took, which it answers in the reading or in a refusal
abbrev pub version_answered : Result Reading Strangers → ℕ
version_answered (Ok reading) = reading.version
version_answered (Err strangers) = strangers.version

-- how many accepted events both passes have together
abbrev pub both_accepted : PassView → PassView → ℕ
both_accepted a b = length a.mine + length b.mine

-- what settling says of two passes, with the views a and b before it, c and d after it, and of the version that was read: the second has
-- then seen all that both had seen, the version is at least the length of what each had seen, and neither entered an event
pub record Settled (a b c d : PassView) (version : ℕ) : Type 0 where
  pub legal : IsLegal d.seen
  pub first : IsPrefix a.seen d.seen
  pub second : IsPrefix b.seen d.seen
  pub low_first : length a.seen ≤ version
  pub low_second : length b.seen ≤ version
  pub high : version ≤ length d.seen
  pub mine_first : c.mine ≡ a.mine
  pub mine_second : d.mine ≡ b.mine

-- two reporters are alone at a version, no third having an entry: their numbers differ, and it is the sum of their accepted events
abbrev pub AreAlone : PassView → PassView → ℕ → Type 0
AreAlone a b version = (a.number ≢ b.number) × (version ≡ both_accepted a b)

-- a history is of two reporters: each entry is of one of them, and the entries of each are those that its pass knows as its own
pub record IsOfBoth (a b : PassView) (history : List Entry) : Type 0 where
  pub first : entries_by a.number history ≡ a.mine
  pub second : entries_by b.number history ≡ b.mine
  pub no_other : All (λ (entry : Entry). (entry.reporter ≡ a.number) ⊎ (entry.reporter ≡ b.number)) history

-- all that settling says of two passes, with the views a and b before it, c and d after it: it answers the reading exactly if their numbers
-- differ and its version is the sum of their accepted events, and then each entry is of one of the two; else it answers that there are
-- strangers, with the version
pub record LiveSettled (a b c d : PassView) (answer : Result Reading Strangers) : Type 0 where
  pub always : Continues a c × Continues b d
  pub unchanged : c ≡ a
  pub shown : d.shown ≡ b.shown ++ version_answered answer ∷ []
  pub settled : Settled a b c d (version_answered answer)
  pub exactly : IsOk answer ↔ AreAlone a b (version_answered answer)
  pub strangers : IfErr answer (λ strangers. a.number ≢ b.number → both_accepted a b < strangers.version)
  pub reading : IfOk answer (λ reading. reading ≡ snapshot_at d.seen reading.version)
  pub of_both : IfOk answer (λ reading. IsOfBoth a b (take reading.version d.seen))
