-- The trail of a pass: its loads and compare-and-exchanges of match words, the accesses, oldest first; and which of them each call leaves
-- in it. An access has the word that it found, its index among all steps on the board, and the length of the history just before it.
use Rattle.std.specs.Prelude.{◌≡◌, ◌≢◌, ℕ, ◌+◌, ◌-◌, ◌*◌, ◌<◌, ◌≤◌, ◌⊎◌, List, [], ◌∷◌, ◌++◌, take, length, Some, Result, Ok, Err, IsOk}
use Rattle.std.specs.Prelude.{slice_get, slice_index}
use Rattle.std.specs.List.{AllByRecursion}
use Rattle.ucl_word.specs.declared.event.EventCall.{EventCall}
use Rattle.ucl_word.specs.declared.event.Accepted.{Accepted}
use Rattle.ucl_word.specs.declared.refusal.Refusal.{Refusal}
use Rattle.ucl_word.specs.declared.refusal.Refusal.TheVariants.{Stale}
use Rattle.ucl_word.specs.Rules.{reply_of}
use Rattle.ucl_word.specs.Layout.{word_of, record_at}
use Rattle.ucl_board.specs.declared.entry.Entry.{Entry}
use Rattle.ucl_board.specs.declared.reading.Reading.{Reading}
use Rattle.ucl_board.specs.Words.{max_version}
use Rattle.ucl_board.specs.History.{match_after}
use Rattle.ucl_log.specs.Log.{AccessKind, Look, Swap, First, Second, Access, access}

-- an access is of this kind, on the word of this match
abbrev pub Does : AccessKind → ℕ → Access → Type 0
Does kind game step = (step.kind ≡ kind) × (step.game ≡ game)

-- the word that an access found is that of its match after the entries that the history had then
abbrev pub IsFoundIn : List Entry → Access → Type 0
IsFoundIn history step = step.found ≡ word_of (match_after (take step.length history) step.game)

-- accesses follow a history from length low of it to length high: their lengths never fall, and each found the word that was there
abbrev pub Follows : List Entry → ℕ → List Access → ℕ → Type 0
Follows history low [] high = low ≤ high
Follows history low (step ∷ steps) high = (low ≤ step.length) × IsFoundIn history step × Follows history step.length steps high

-- the accesses of a report that was refused at its Look: this alone, which found a word on which the rules refuse the event with this
-- refusal, when there were `now` entries
pub record LookRefused (call : EventCall) (refusal : Refusal) (ms : List Access) (now : ℕ) : Type 0 where
  pub looked : ℕ
  pub index : ℕ
  pub accesses : ms ≡ access (Look call) call.game looked index now ∷ []
  pub answer : reply_of (record_at looked) call ≡ Err refusal

-- a report's Look, on whose word `looked` the rules accept the event, and its Swap, which found `found` at `now` entries and stored nothing
pub record StoredNothing (call : EventCall) (looked found : ℕ) (ms : List Access) (now : ℕ) : Type 0 where
  pub length : ℕ
  pub indices : ℕ × ℕ
  pub accesses : ms ≡ access (Look call) call.game looked indices.0 length ∷ access Swap call.game found indices.1 now ∷ []
  pub may : IsOk (reply_of (record_at looked) call)

-- a report whose Swap found another word than its Look: it is refused as stale, with the number of the word that the Swap found
pub record SwapMissed (call : EventCall) (refusal : Refusal) (ms : List Access) (now : ℕ) : Type 0 where
  pub looked : ℕ
  pub found : ℕ
  pub missed : StoredNothing call looked found ms now
  pub other : found ≢ looked
  pub answer : refusal ≡ Stale (record_at found).number

-- a report whose Swap found the word of its Look: the rules accept its event on that word, it is accepted, and its entry is the last of the
-- `now` entries that there are then
pub record SwapWon (call : EventCall) (reply : Accepted) (ms : List Access) (now : ℕ) : Type 0 where
  pub looked : ℕ
  pub length : ℕ
  pub before : ℕ
  pub indices : ℕ × ℕ
  pub accesses : ms ≡ access (Look call) call.game looked indices.0 length ∷ access Swap call.game looked indices.1 before ∷ []
  pub answer : reply_of (record_at looked) call ≡ Ok reply
  pub last : before + 1 ≡ now

-- a report with this reply left these accesses (its Swap won, its Look was refused, or its Swap missed), and there are `now` entries then
abbrev pub ReportAccesses : EventCall → Result Accepted Refusal → List Access → ℕ → Type 0
ReportAccesses call (Ok reply) ms now = SwapWon call reply ms now
ReportAccesses call (Err refusal) ms now = LookRefused call refusal ms now ⊎ SwapMissed call refusal ms now

-- how many entries there were just before the last access of a report with this reply, if there are `now` just after it: an accepted event
-- adds one
abbrev pub decided_at : Result Accepted Refusal → ℕ → ℕ
decided_at (Ok reply) now = now - 1
decided_at (Err refusal) now = now

-- the most tries of a reading: each but the last sees the history grow, and no history is longer than the greatest version
abbrev pub max_tries : ℕ
max_tries = max_version + 1

-- the most loads of a reading: 24 for each try
abbrev pub max_loads : ℕ
max_loads = 24 * max_tries

-- the accesses are a collect, or the beginning of one: all of this kind, to matches 1, 2 and so on, where they found these words in turn
abbrev pub IsCollect : AccessKind → List ℕ → List Access → Type 0
IsCollect kind words steps = (k : ℕ) (step : Access) → slice_get steps k ≡ Some step
    → Does kind (k + 1) step × (step.found ≡ slice_index words k)

-- the accesses of a second collect that broke off: Seconds that found the first collect's words again, and a last one that did not
pub record IsBroken (words : List ℕ) (ms : List Access) : Type 0 where
  pub equal : List Access
  pub last : Access
  pub accesses : ms ≡ equal ++ last ∷ []
  pub few : length equal < 12
  pub again : IsCollect Second words equal
  pub kind : Does Second (length equal + 1) last
  pub differs : last.found ≢ slice_index words (length equal)

-- the accesses of an unclean try of a reading: twelve Firsts, and Seconds of which the last alone found another word
pub record IsUnclean (ms : List Access) : Type 0 where
  pub words : List ℕ
  pub firsts : List Access
  pub seconds : List Access
  pub accesses : ms ≡ firsts ++ seconds
  pub twelve : length firsts ≡ 12
  pub collected : IsCollect First words firsts
  pub broken : IsBroken words seconds

-- the accesses of the clean try of a reading: twelve Firsts, and twelve Seconds that found the same words. The board is these words, and
-- the version is the length of the history at the twelfth First
pub record IsClean (reading : Reading) (ms : List Access) : Type 0 where
  pub firsts : List Access
  pub seconds : List Access
  pub accesses : ms ≡ firsts ++ seconds
  pub twelve : (length reading.board ≡ 12) × (length firsts ≡ 12) × (length seconds ≡ 12)
  pub collected : IsCollect First reading.board firsts
  pub again : IsCollect Second reading.board seconds
  pub version : (m : Access) → slice_get firsts 11 ≡ Some m → m.length ≡ reading.version

-- the accesses of several tries, one try after the other
abbrev pub accesses_of : List (List Access) → List Access
accesses_of [] = []
accesses_of (try ∷ tries) = try ++ accesses_of tries

-- a reading left these accesses: those of its tries, one after the other, of which only the last is clean
pub record ReadingAccesses (reading : Reading) (ms : List Access) : Type 0 where
  pub tries : List (List Access)
  pub last : List Access
  pub accesses : ms ≡ accesses_of tries ++ last
  pub unclean : AllByRecursion IsUnclean tries
  pub clean : IsClean reading last
