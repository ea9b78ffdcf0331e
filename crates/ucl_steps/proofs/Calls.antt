-- What a call is to the history that explains it, what is known of a call by what its caller holds, and which call made an entry.
use Rattle.ucl_steps.proofs.Common.{IfSome, slice_get, Entry, board_of, entry_of, sequential_reply, Caller, Reporter, Call, Event, Reading, Reply, Accepted}
use Rattle.ucl_steps.proofs.Common.{Refused, Copied, CallRecord, ◌≡◌, ℕ, ◌+◌, ◌<◌, ◌≤◌, List, take, length, Option, Some, None, sym, ap, ◌∙◌, arith, get_or}
use Rattle.ucl_steps.proofs.Common.{le_refl, IsSome, IsPrefix, EventCall, refusal_of, after, word_of, record_at, match_after, at_beginning, begins_length}
use Rattle.ucl_steps.proofs.Common.{take_beginning, NoCall, Holding, Collecting, Checking, CallerState, Idle, Wanting, Within, Answered, refl, subst}
use Rattle.ucl_steps.proofs.Common.{false≢true}
use Rattle.ucl_steps.proofs.Common.{true}
use Rattle.ucl_steps.proofs.Common.{◌⊎◌, accepts}
use Rattle.ucl_steps.proofs.Common.{caller_number, Reader}
use Rattle.ucl_steps.proofs.Points.{IsExplained, MakesEntry, PointedCall, sequential_answer}
use Rattle.std.specs.Prelude.{Ok, Err}

-- what the board of one thread replies to a call of this caller after the first k entries, and the entry that it makes
abbrev pub IsSequential : List Entry → ℕ → Caller → Call → Reply → Type 0
IsSequential history k (Reporter r) (Event e) (Accepted a) = (sequential_reply (take k history) e ≡ Ok a) × (slice_get history k ≡ Some (entry_of r e))
IsSequential history k (Reporter r) (Event e) (Refused refusal) = sequential_reply (take k history) e ≡ Err refusal
IsSequential history k c Reading (Copied reading) = (reading.board ≡ board_of (take k history)) × (reading.version ≡ k)
IsSequential history k c call reply = ⊥

-- k can be the point of a call with this reply, in a history of `len` entries: k is not before the call's beginning, and before its end if
-- the call was accepted, else not after its end
abbrev pub LiesWithin : CallRecord → ℕ → Reply → ℕ → Type 0
LiesWithin c k (Accepted a) len = (c.begun ≤ k) × (k < len) × IfSome c.ended (λ ended. k < ended)
LiesWithin c k reply len = (c.begun ≤ k) × (k ≤ len) × IfSome c.ended (λ ended. k ≤ ended)

-- the call has a point between its beginning and its end, and the sequential reply there; or it has neither, and goes on
abbrev pub Explains : List Entry → CallRecord → Option ℕ → Option Reply → Type 0
Explains history c (Some k) (Some reply) = LiesWithin c k reply (length history) × IsSequential history k c.caller c.call reply
Explains history c None None = c.ended ≡ None
Explains history c point reply = ⊥

-- call a is that of a reporter who enters the event e of a match, and has no reply yet
pub record Asks (a : CallRecord) (e : EventCall) : Type 0 where
  pub call : a.call ≡ Event e
  pub reporter : ℕ
  pub caller : a.caller ≡ Reporter reporter
  pub low : 1 ≤ reporter
  pub high : reporter ≤ 255
  pub game : (1 ≤ e.game) × (e.game ≤ 12)
  pub point : a.point ≡ None
  pub reply : a.reply ≡ None

-- call a enters the event e: once it found the word `old` of its match, on which the rules accept e, and `new` is to take its place
pub record Offers (h : List Entry) (a : CallRecord) (e : EventCall) (old new : ℕ) : Type 0 where
  pub asks : Asks a e
  pub place : ℕ
  pub within : place ≤ length h
  pub found : old ≡ word_of (match_after (take place h) e.game)
  pub accepted : refusal_of (record_at old) e.expected e.kind ≡ None
  pub next : new ≡ word_of (after (record_at old) asks.reporter e.kind)

-- each of these words was that of its match at some length of the history, at the latest this one
abbrev pub Loaded : List Entry → List ℕ → ℕ → Type 0
Loaded h words latest = (i : ℕ) → i < length words → (p : ℕ) × (p ≤ latest) × (get_or words i 0 ≡ word_of (match_after (take p h) (i + 1)))

-- the first n of these words are those of their matches at this length of the history
abbrev pub AreAt : List Entry → List ℕ → ℕ → ℕ → Type 0
AreAt h words n point = (i : ℕ) → i < n → get_or words i 0 ≡ word_of (match_after (take point h) (i + 1))

-- call a is a reading, and has no reply yet
pub record Reads (a : CallRecord) : Type 0 where
  pub call : a.call ≡ Reading
  pub point : a.point ≡ None
  pub reply : a.reply ≡ None

-- a reading that has loaded these words, fewer than twelve, in its first collect
pub record Collects (h : List Entry) (a : CallRecord) (words : List ℕ) : Type 0 where
  pub reads : Reads a
  pub few : length words < 12
  pub loaded : Loaded h words (length h)

-- a reading that has loaded twelve words, by the length `point` of the history, and found so many of them again
pub record Checks (h : List Entry) (a : CallRecord) (words : List ℕ) (checked point : ℕ) : Type 0 where
  pub reads : Reads a
  pub twelve : length words ≡ 12
  pub few : checked < 12
  pub early : a.begun ≤ point
  pub late : point ≤ length h
  pub loaded : Loaded h words point
  pub same : AreAt h words checked point

-- the call that a caller is in, if it is in one
abbrev pub in_call : CallerState → Option ℕ
in_call Idle = None
in_call (Wanting k e) = Some k
in_call (Within k held) = Some k
in_call (Answered k) = Some k

-- call a is as far as its caller's state says: it still wants to enter its event, offers a new word, collects or checks words that its
-- matches had, or has its reply
abbrev pub Sees : List Entry → CallRecord → CallerState → Type 0
Sees h a Idle = Unit {0}
Sees h a (Wanting k e) = Asks a e
Sees h a (Within k NoCall) = ⊥
Sees h a (Within k (Holding e old new)) = Offers h a e old new
Sees h a (Within k (Collecting words)) = Collects h a words
Sees h a (Within k (Checking words checked point)) = Checks h a words checked point
Sees h a (Answered k) = IsSome a.reply

-- caller c, with state x, is in call k: the call is its own, has not ended, and is as far as x says
pub record Knows (h : List Entry) (calls : List CallRecord) (c : Caller) (x : CallerState) (k : ℕ) : Type 0 where
  pub call : CallRecord
  pub at : slice_get calls k ≡ Some call
  pub caller : call.caller ≡ c
  pub unended : call.ended ≡ None
  pub sees : Sees h call x

-- what is known of calls over a history is known over a longer one
module _ (h h' : List Entry) (b : IsPrefix h h') where
  moved_word : (words : List ℕ) (i k : ℕ) → k ≤ length h → get_or words i 0 ≡ word_of (match_after (take k h) (i + 1)) → get_or words i 0 ≡ word_of (match_after (take k h') (i + 1))
  moved_word words i k l e = e ∙ ap (λ (z : List Entry). word_of (match_after z (i + 1))) (sym (take_beginning h h' k b l))

  loaded_later : (words : List ℕ) (n m : ℕ) → n ≤ length h → n ≤ m → Loaded h words n → Loaded h' words m
  loaded_later words n m l le f i few = let t = f i few in let p = t.1 in (t.0, omega arith, moved_word words i t.0 (omega arith) t.2)

  pub sees_later : (a : CallRecord) (x : CallerState) → Sees h a x → Sees h' a x
  sees_later a (Within k (Holding e old new)) s =
      let long = begins_length h h' b in
      let low = s.within in
      let found = s.found ∙ ap (λ (z : List Entry). word_of (match_after z e.game)) (sym (take_beginning h h' s.place b s.within)) in
      record { asks = s.asks; place = s.place; within = omega arith; found = found; accepted = s.accepted; next = s.next }
  sees_later a (Within k (Collecting words)) s = record { reads = s.reads; few = s.few; loaded = loaded_later words (length h) (length h') (le_refl (length h)) (begins_length h h' b) s.loaded }
  sees_later a (Within k (Checking words checked point)) s = search (arith, begins_length h h' b, loaded_later, le_refl, moved_word, s.late, s.reads, s.twelve, s.few, s.early, s.loaded, s.same)
  sees_later a x s = search arith

  pub sequential_later : (k : ℕ) (c : Caller) (call : Call) (r : Reply) → k ≤ length h → IsSequential h k c call r → IsSequential h' k c call r
  sequential_later k c call r l s = search (arith, take_beginning, at_beginning)

  within_later : (c : CallRecord) (k : ℕ) (r : Reply) → LiesWithin c k r (length h) → (k ≤ length h) × LiesWithin c k r (length h')
  within_later c k r s = search (arith, begins_length)

  explained_at : (c : CallRecord) (p : Option ℕ) (r : Option Reply) → Explains h c p r → Explains h' c p r
  explained_at c p r s = search (arith, within_later, sequential_later)

  pub explained_later : (c : CallRecord) → Explains h c c.point c.reply → Explains h' c c.point c.reply
  explained_later c = explained_at c c.point c.reply

-- a call has its point, which is k, and its reply, which is this one
abbrev pub IsDecided : CallRecord → ℕ → Reply → Type 0
IsDecided call k reply = (call.point ≡ Some k) × (call.reply ≡ Some reply)

-- a call with this point and this reply is explained by them
pub decided : (history : List Entry) (c : CallRecord) → Explains history c c.point c.reply → (k : ℕ) (reply : Reply) → IsDecided c k reply → Explains history c (Some k) (Some reply)
decided history c explained k reply is =
    subst (λ (p : Option ℕ). Explains history c p (Some reply)) is.0 (subst (λ (r : Option Reply). Explains history c c.point r) is.1 explained)

-- the reply to a call is that of the board of one thread at its point; if an event was accepted, its entry is at that place of the history
abbrev pub IsSettled : List Entry → PointedCall → Type 0
IsSettled history c = (c.point ≤ length history) × IsSequential history c.point (Reporter c.number) c.call c.reply

-- if a reply to a call of a caller is that of the board of one thread after k entries (IsSequential), it is so too for the reporter with
-- the caller's number, which is 0 for a reader
pub by_number : (h : List Entry) (k : ℕ) (c : Caller) (call : Call) (reply : Reply) → IsSequential h k c call reply
    → IsSequential h k (Reporter (caller_number c)) call reply
by_number h k (Reporter number) call reply s = s
by_number h k (Reader number) call reply s = search arith

-- if k can be the point of a call (LiesWithin), it is not before the call's beginning, and not after `ended`, its end (n, the length of the
-- history, may stand for it); and if the event was accepted, k is before `ended`
pub lies : (c : CallRecord) (k n ended : ℕ) (reply : Reply) → LiesWithin c k reply n → (c.ended ≡ Some ended) ⊎ (ended ≡ n)
    → (c.begun ≤ k) × (k ≤ ended) × (accepts reply ≡ true → k < ended)
lies c k n ended reply s is = search (arith, false≢true)

-- a reply that is sequential for a reporter is the answer of the board of one thread
answered_by : (h : List Entry) (k number : ℕ) (call : Call) (reply : Reply) → IsSequential h k (Reporter number) call reply
    → reply ≡ sequential_answer h k call
answered_by h k number call reply s = search arith

-- an accepted call with a sequential reply, which ended after its point, made the entry at its point
made_by : (h : List Entry) (c : PointedCall) → c.point < c.ended → (call : Call) (reply : Reply) → c.call ≡ call → accepts reply ≡ true
    → IsSequential h c.point (Reporter c.number) call reply → MakesEntry h c
made_by h c end call reply is made s = search (arith, false≢true)

-- a history explains a call that has the reply of the board of one thread at its point (IsSettled), if the point is not before the call's
-- beginning, and not after its end, and before its end if the call was accepted
pub explained_by : (h : List Entry) (c : PointedCall) → IsSettled h c → c.first_index ≤ c.last_index → (c.begun ≤ c.point) × (c.point ≤ c.ended) × (c.ended ≤ length h)
    → (accepts c.reply ≡ true → c.point < c.ended) → IsExplained h c
explained_by h c s turn within by_end = record {
  turn = turn;
  within = within;
  answer = answered_by h c.point c.number c.call c.reply s.1;
  makes = λ made. made_by h c (by_end made) c.call c.reply refl made s.1;
}
