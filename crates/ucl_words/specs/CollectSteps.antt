-- What the private functions of a word board do: the two steps of a report, and the two collects of a reading. `old` is what contracts know
-- of the pass before, `new` afterwards.
use Rattle.std.specs.Prelude.{◌≡◌, ℕ, ◌≤◌, List, [], length, Some, None, slice_get}
use Rattle.ucl_word.specs.declared.event.EventCall.{EventCall}
use Rattle.ucl_log.specs.Log.{First, Second, Access, added_by, history_of, number_of}
use Rattle.ucl_steps.specs.declared.step.Call.{Call}
use Rattle.ucl_steps.specs.declared.trace.Reply.{Reply}
use Rattle.ucl_steps.specs.Protocol.{Pending, NoCall, Holding, Collecting}
use Rattle.ucl_steps.specs.LocalState.{local_of}
use Rattle.ucl_steps.specs.Trails.{IsCollect, IsBroken}
use Rattle.ucl_live_board.specs.Passes.{SeesOn}
use Rattle.ucl_live_board.specs.declared.view.View.{View}
use Rattle.ucl_words.specs.WordViews.{pass_view_of}
use Rattle.ucl_words.specs.WordCalls.{IsAnswered, IsConsistent, LeavesAccesses}

-- By `held` the call under way is a report on the match `game` that has loaded the word `loaded` and is to put `next` in its place.
pub record IsHoldingFor (held : Pending) (game loaded next : ℕ) : Type 0 where
  pub e : EventCall
  pub holds : held ≡ Holding e loaded next
  pub of : game ≡ e.game

-- Between `old` and `new` the pass made exactly these accesses, which stored nothing: its entries and number are as before.
pub record Walks (old : View) (accesses : List Access) (new : View) : Type 0 where
  pub consistent : IsConsistent new
  pub on : SeesOn (pass_view_of old) (pass_view_of new)
  pub mine : added_by new.own ≡ added_by old.own
  pub number : number_of new.own ≡ number_of old.own
  pub leaves : LeavesAccesses old accesses None new

-- These accesses are loads of matches 1 to 12 that found these words, and at the last of them the history had `now` entries.
pub record IsFirstCollect (words : List ℕ) (accesses : List Access) (now : ℕ) : Type 0 where
  pub twelve : length accesses ≡ 12
  pub words_are : IsCollect First words accesses
  pub last : (m : Access) → slice_get accesses 11 ≡ Some m → m.length ≡ now

-- Between `old` and `new` the pass loaded all twelve match words, a first collect, and found `words`; at the last load the history was what
-- the pass has then seen.
pub record Collects (old : View) (words : List ℕ) (new : View) : Type 0 where
  pub accesses : List Access
  pub walks : Walks old accesses new
  pub collect : IsFirstCollect words accesses (length (history_of new.log))

-- Between `old` and `new` the pass loaded all twelve match words again, a second collect, and found `words` unchanged.
pub record FindsAgain (old : View) (words : List ℕ) (new : View) : Type 0 where
  pub accesses : List Access
  pub walks : Walks old accesses new
  pub twelve : length accesses ≡ 12
  pub again : IsCollect Second words accesses

-- Between `old` and `new` the pass loaded match words again, a second collect, up to the first that was not the one in `words`.
pub record FindsAnother (old : View) (words : List ℕ) (new : View) : Type 0 where
  pub accesses : List Access
  pub walks : Walks old accesses new
  pub broken : IsBroken words accesses

-- A first collect may begin: no call is under way, or a reading that found a word changed and has loaded none since.
abbrev pub MayCollect : Pending → Type 0
MayCollect NoCall = Unit {0}
MayCollect (Collecting words) = words ≡ []
MayCollect _ = ⊥

-- The first step of the pending call has the index `first` in the log. If no call was pending before (`NoCall`), `first` is `known` or
-- later; and if one was, it is `was`, the index of its first step.
abbrev pub IsBegun : Pending → ℕ → ℕ → ℕ → Type 0
IsBegun NoCall known was first = known ≤ first
IsBegun _ known was first = first ≡ was

-- Between `old` and `new` the pass took steps of one call, still pending: `held` is what it keeps of the call, `begun` where that began.
pub record StaysIn (old : View) (held : Pending) (new : View) : Type 0 where
  pub calls : (local_of new.own).calls ≡ (local_of old.own).calls
  pub held_is : (local_of new.own).held ≡ held
  pub begun : IsBegun (local_of old.own).held (length old.log) (local_of old.own).first_index (local_of new.own).first_index

-- Between `old` and `new` the pass took the last steps of `call`, the call that was under way, which was answered with this reply.
pub record Completes (old : View) (call : Call) (reply : Reply) (new : View) : Type 0 where
  pub answers : IsAnswered old call reply new
  pub first : answers.last.first_index ≡ (local_of old.own).first_index
