-- From what steps on the cell tell to what a call says of its pass.
use Rattle.ucl_pass.proofs.Common.{◌≡◌, ℕ, ◌+◌, ◌<◌, ◌≤◌, List, ◌∷◌, ◌++◌, length, take, refl, sym, ap, ◌∙◌, subst, arith, true≢false, true, false, [], le_refl}
use Rattle.ucl_pass.proofs.Common.{Option, Some, None, slice_index, Result, Ok, Err, is_ok, IsSome, take_all, EventCall, Accepted, Refusal, Entry, AreWords}
use Rattle.ucl_pass.proofs.Common.{version_of, board_of, IsLegal, followed_by, entry_of, reading_of, sequential_reply, TakenStep, Action, board_words, versions}
use Rattle.ucl_pass.proofs.Common.{begins_length, begins_through, View, IsSound, Continues, SharedReading, cell_pass_view, count_of, Takes, note_pass}
use Rattle.ucl_pass.proofs.Common.{told_pass, words_after, IsNextBoard, CellStep, StoresReporter, LooksOnly, LooksAndShows, Exchanges, CellPass, CellReported}
use Rattle.ucl_pass.proofs.Common.{CellRead, CellEnlisted, CellFull, CellMet, TableId, StoresEvent, takes_count, Stays, stays_none, stays_more, IsUpToDate}
use Rattle.ucl_pass.proofs.Common.{versions_loaded, shown_after, IsLegalStep, history_of, number_of, enlisted_by}
use Rattle.std.proofs.lemmas.List.Sums.{fold-append}
use Rattle.ucl_log.specs.Log as logs
use Rattle.ucl_log.specs.Log.{CountRaised, Whole}
use Rattle.ucl_board.specs.declared.reading.Reading.{Reading}
use Rattle.ucl_log.proofs.Logs.{legal_history, history_on}
use Rattle.ucl_live_board.proofs.CallsBySteps.{adds_continue, enlists, meets, stays_continue}
use Rattle.ucl_live_board.proofs.StepFacts as facts
use Rattle.ucl_live_board.proofs.StepFacts.{Goes, Sees, Adds, GivesNumber, sound}
use Rattle.std.proofs.Common.{append-nil, suc, zero, ◌≢◌}
use Rattle.std.specs.Prelude.{IsOk}
use Rattle.ucl_live_board.proofs.InvariantIsKept.{both_occur, split_occurs}
use Rattle.ucl_live_board.specs.Views.{left_pass, second_pass, steps_of}
use Rattle.ucl_pass.specs.CellCalls.{Accepts, HasNumberLeft, LoadsAtLast, LostTries}
use Rattle.ucl_pass.specs.CellRecords.{CellSplit, IsCellPassOf}
use Rattle.ucl_pass.proofs.InvariantIsKept.{match_words, last_word}

-- a pass took one step, from the view v to the view w: it found the words x, and left the words y
module _ (action : Action) (entry : Option Entry) (v w : View) (x y : List ℕ) (s : CellStep action entry v x y w) where
  pub goes : Goes v w
  goes = facts.goes words_after IsLegalStep s.seat action v w s.steps (λ log is legal. legal)

  pub board_seen : take 12 y ≡ board_of (history_of w.log)
  board_seen = ap (take 12) s.left ∙ match_words (history_of w.log) (enlisted_by w.log)

  pub are_words : AreWords (take 12 y)
  are_words = subst AreWords (sym board_seen) (board_words (history_of w.log) goes.legal)

  -- the last step of the log that it knows is its own
  pub up_to_date : IsUpToDate w
  up_to_date = record {
    before = s.steps.before;
    seat = s.seat;
    steps = v.own;
    last = s.steps.step;
    log = facts.log_is words_after IsLegalStep s.seat action v w s.steps;
    own = facts.own_is words_after IsLegalStep s.seat action v w s.steps;
  }

  pub one_taken : (t : TakenStep) × Takes v (t ∷ []) w
  one_taken = facts.one_more words_after IsLegalStep s.seat action v w s.steps

  pub one_act : count_of w ≡ count_of v + 1
  one_act = takes_count v w (one_taken.0 ∷ []) one_taken.1

  -- the versions that it has read are those before the step, and what the step made of them
  pub shown_then : versions_loaded w.own ≡ shown_after action s.steps.step.length (versions_loaded v.own)
  shown_then = ap versions_loaded (facts.own_is words_after IsLegalStep s.seat action v w s.steps)
      ∙ (fold-append (λ (shown : List ℕ) (t : TakenStep). shown_after t.action t.length shown) [] v.own (s.steps.step ∷ [])
      ∙ ap (λ (t : Action). shown_after t s.steps.step.length (versions_loaded v.own)) s.steps.of)

  -- a step that added no entry and enlisted no one saw what is there after it too
  pub sees : entry ≡ None → length (logs.enlists action) ≡ 0 → Sees action v w
  sees none few = facts.sees words_after IsLegalStep s.seat action v w s.steps (λ log is legal. legal) (s.entry_is ∙ none) few

  pub now_is : entry ≡ None → s.steps.step.length ≡ length (history_of w.log)
  now_is none = facts.at_is words_after IsLegalStep s.seat action v w s.steps (λ log is legal. legal) (s.entry_is ∙ none)

-- from v to w a pass made only loads and missed exchanges: it knows no less, has shown no further reading, and has a share
pub record Looked (v w : View) : Type 0 where
  pub stays : Stays v w
  pub shown : versions_loaded w.own ≡ versions_loaded v.own
  pub acts : count_of v ≤ count_of w
  pub share : IsSome w.share

-- one load more, or an exchange that was missed
module _ (v w u : View) (x : List ℕ) (before : Looked v w) (looked : LooksOnly w x x u) where
  looks : Sees (Whole false) w u
  looks = sees (Whole false) None w u x x looked refl refl

  acts_more : count_of v < count_of u
  acts_more = let a = before.acts in let b = one_act (Whole false) None w u x x looked in omega arith

  -- the pass has made such steps since v then too
  pub looked_more : Looked v u
  looked_more = record {
    stays = stays_more v w u (Whole false) before.stays looks;
    shown = shown_then (Whole false) None w u x x looked ∙ before.shown;
    acts = (let a = acts_more in omega arith);
    share = looks.goes.acts;
  }

  -- what holds of a pass after each call holds
  look_continues : Continues (cell_pass_view v) (cell_pass_view u)
  look_continues = stays_continue versions_loaded v w u looked_more.stays looks.goes

-- from v to w a pass made only tries that were all lost
pub record Tried (GoesOn : View → Type 0) (v w : View) : Type 0 where
  pub looked : Looked v w
  pub lost : ℕ
  pub tries : LostTries GoesOn lost v w

-- from a view to itself a pass lost no try, a load and an exchange that was missed
pub tried_none : (GoesOn : View → Type 0) (v : View) → IsSome v.share → Tried GoesOn v v
tried_none GoesOn v share = record {
  looked = record { stays = stays_none v; shown = refl; acts = le_refl (count_of v); share = share };
  lost = zero;
  tries = refl;
}

-- the reply is what the rules answer to this event after any legal history whose match words are the first twelve of x
abbrev Replies : EventCall → List ℕ → Result Accepted Refusal → Type 0
Replies call x reply = (history : List Entry) → IsLegal history → board_of history ≡ take 12 x → reply ≡ sequential_reply history call

-- the exchange of a call that expects the words x: one that answers Ok was won, and one that answers Err was missed
module _ (Stores : View → List ℕ → List ℕ → View → Type 0) (v w : View) (x next : List ℕ) (r : Result (List ℕ) (List ℕ)) where
  won : Exchanges Stores v x next r w → is_ok r ≡ true → Stores v x next w
  won m is = search (arith, true≢false)

  missed : Exchanges Stores v x next r w → is_ok r ≡ false → (y : List ℕ) × (y ≢ x) × LooksOnly v y y w
  missed m is = search (arith, true≢false)

-- if the exchange of an enlistment answers Ok, its pass has the number n + 1, where n is how many reporters the words x had
pub reporter_number : (v w : View) (x next : List ℕ) (r : Result (List ℕ) (List ℕ)) → Exchanges StoresReporter v x next r w → is_ok r ≡ true → number_of w.own ≡ slice_index x 12 + 1
reporter_number v w x next r m ok =
    let s = won StoresReporter v w x next r m ok in (facts.enlisted words_after IsLegalStep s.seat (slice_index x 12) v w s.steps (λ log is legal. legal)).number

-- a try whose exchange is missed is one more that was lost
pub tries_again : (GoesOn : View → Type 0) (Stores : View → List ℕ → List ℕ → View → Type 0) (v w u z : View) (x next : List ℕ) (r : Result (List ℕ) (List ℕ))
    → Tried GoesOn v w → LooksOnly w x x u → GoesOn u → Exchanges Stores u x next r z → is_ok r ≡ false → Tried GoesOn v z
tries_again GoesOn Stores v w u z x next r tried looked goes_on exchanged not =
    let one = missed Stores u z x next r exchanged not in
    record {
      looked = looked_more v u z one.0 (looked_more v w u x tried.looked looked) one.2;
      lost = suc tried.lost;
      tries = (w, tried.tries, record { words = x; looked = u; loads = looked; goes_on = goes_on; found = one.0; others = one.1; missed = one.2 });
    }

-- a load of the words x: the reply of the rules after it, and whether a number is left
module _ (w u : View) (x : List ℕ) (looked : LooksOnly w x x u) where
  -- the reply is that of the rules after all events that the pass has seen
  pub replied : (call : EventCall) (reply : Result Accepted Refusal) → Replies call x reply → sequential_reply (history_of u.log) call ≡ reply
  replied call reply said =
      sym (said (history_of u.log) (goes (Whole false) None w u x x looked).legal (sym (board_seen (Whole false) None w u x x looked)))

  pub accepts : (call : EventCall) (reply : Accepted) → Replies call x (Ok reply) → Accepts call u
  accepts call reply said = subst (λ (r : Result Accepted Refusal). IsOk r) (sym (replied call (Ok reply) said)) refl

  pub enlisted_seen : slice_index x 12 ≡ enlisted_by u.log
  enlisted_seen = ap (λ (ws : List ℕ). slice_index ws 12) looked.left ∙ last_word (history_of u.log) (enlisted_by u.log)

  pub number_left : slice_index x 12 < 255 → HasNumberLeft u
  number_left room = subst (λ (n : ℕ). n < 255) enlisted_seen room

-- if a pass lost tries from v to w, each a load and an exchange that was missed, and then from w to u loaded x, the call ends with that load
at_last : (GoesOn : View → Type 0) (v w u : View) (x : List ℕ) → Tried GoesOn v w → LooksOnly w x x u → LoadsAtLast GoesOn v x u
at_last GoesOn v w u x tried looked = record { lost = tried.lost; between = w; tries = tried.tries; loads = looked }

-- the last try of a report by a pass of this board, which loads the words x after tries that were lost
module _ (board same : TableId) (own : same ≡ board) (call : EventCall) (v w u : View) (x : List ℕ) (tried : Tried (Accepts call) v w) (looked : LooksOnly w x x u) where
  -- if the rules refuse the event on these words, the report is refused as promised
  pub refused_report : (refusal : Refusal) → Replies call x (Err refusal)
      → CellReported (record { board = board; view = v }) call (Err refusal) (record { board = same; view = u })
  refused_report refusal said =
      let was = looked_more v w u x tried.looked looked in
      let answer = replied w u x looked call (Err refusal) said in
      record {
        own = own;
        says = record {
          always = look_continues v w u x tried.looked looked;
          accepted = tt;
          refused = record { answer = answer; mine = was.stays.mine; shown = was.shown };
        };
        steps = record { words = x; looked = u; loads = at_last (Accepts call) v w u x tried looked; answer = answer; ends = refl };
        acts = acts_more v w u x tried.looked looked;
        up_to_date = up_to_date (Whole false) None w u x x looked;
        occurs = (looked.seat, looked.steps.occurs);
      }

  -- if they accept it, and the exchange after the load is won, it is accepted as promised
  pub accepted_report : (z : View) (next : List ℕ) (r : Result (List ℕ) (List ℕ)) (reply : Accepted) → Exchanges (StoresEvent call) u x next r z → is_ok r ≡ true
      → Replies call x (Ok reply) → CellReported (record { board = board; view = v }) call (Ok reply) (record { board = same; view = z })
  accepted_report z next r reply exchanged ok said =
      let was = looked_more v w u x tried.looked looked in
      let e : Entry = entry_of (number_of v.own) call in
      let stores = won (StoresEvent call) u z x next r exchanged ok in
      let stored : CellStep (Whole false) (Some e) u x next z =
      subst (λ (n : ℕ). CellStep (Whole false) (Some (entry_of n call)) u x next z) was.stays.number stores in
      let adds : Adds (Whole false) e u z = facts.adds words_after IsLegalStep stored.seat (Whole false) u z stored.steps (λ log is legal. legal) e stored.entry_is refl in
      let acts = one_act (Whole false) (Some e) u z x next stored in
      let most = was.acts in
      let since = begins_through (history_of v.log) (history_of u.log) (history_of stored.steps.before) was.stays.seen (history_on u.log stored.steps.before stored.steps.since) in
      let board_is = sym (ap (take 12) stored.found ∙ match_words (history_of stored.steps.before) (enlisted_by stored.steps.before)) in
      record {
        own = own;
        says = record {
          always = adds_continue versions_loaded v u z (Whole false) e was.stays adds;
          accepted = record {
            before = history_of stored.steps.before;
            last = facts.history_is words_after IsLegalStep stored.seat (Whole false) u z stored.steps
                ∙ ap (λ (o : Option Entry). history_of stored.steps.before ++ Rattle.ucl_log.specs.Log.entry_list o) stored.entry_is;
            since = since;
            answer = sym (said (history_of stored.steps.before) (legal_history stored.steps.before stored.steps.follows) board_is);
            mine = adds.mine ∙ ap (λ (l : List Entry). followed_by l e) was.stays.mine;
            shown = shown_then (Whole false) (Some e) u z x next stored ∙ was.shown;
          };
          refused = tt;
        };
        steps = record {
          words = x;
          looked = u;
          loads = at_last (Accepts call) v w u x tried looked;
          answer = replied w u x looked call (Ok reply) said;
          ends = (next, stores);
        };
        acts = omega arith;
        up_to_date = up_to_date (Whole false) (Some e) u z x next stored;
        occurs = (stored.seat, stored.steps.occurs);
      }

-- the last try of an enlistment, which loads the words x after tries that were lost
module _ (board same : TableId) (own : same ≡ board) (v w u : View) (x : List ℕ) (tried : Tried HasNumberLeft v w) (looked : LooksOnly w x x u) where
  -- if they count as many reporters as there are numbers, the pass comes back as promised
  pub was_full : 255 ≤ slice_index x 12 → CellFull (record { board = board; view = v }) (record { board = same; view = u })
  was_full many =
      let was = looked_more v w u x tried.looked looked in
      let few = (goes (Whole false) None w u x x looked).few in
      let last = enlisted_seen w u x looked in
      record {
        own = own;
        says = record {
          always = look_continues v w u x tried.looked looked;
          full = record { listed = omega arith; mine = was.stays.mine; shown = was.shown };
        };
        steps = (x, at_last HasNumberLeft v w u x tried looked);
        acts = acts_more v w u x tried.looked looked;
        up_to_date = up_to_date (Whole false) None w u x x looked;
        occurs = (looked.seat, looked.steps.occurs);
      }

  -- if the exchange after the load is won, the pass is enlisted as promised
  pub was_enlisted : (z : View) (next : List ℕ) (r : Result (List ℕ) (List ℕ)) → Exchanges StoresReporter u x next r z → is_ok r ≡ true
      → CellEnlisted (record { board = board; view = v }) (record { board = same; view = z })
  was_enlisted z next r exchanged ok =
      let was = looked_more v w u x tried.looked looked in
      let n = slice_index x 12 in
      let stored = won StoresReporter u z x next r exchanged ok in
      let gives : GivesNumber n u z = facts.enlisted words_after IsLegalStep stored.seat n u z stored.steps (λ log is legal. legal) in
      let acts = one_act (CountRaised n) None u z x next stored in
      let most = was.acts in
      record {
        own = own;
        enlisted = enlists versions_loaded v u z n was.stays gives (shown_then (CountRaised n) None u z x next stored);
        steps = record { words = x; looked = u; loads = at_last HasNumberLeft v w u x tried looked; ends = (next, stored) };
        acts = omega arith;
        up_to_date = up_to_date (CountRaised n) None u z x next stored;
        occurs = (stored.seat, stored.steps.occurs);
      }

-- if e may follow each legal history whose match words are those of x, `board` are then the match words, and `next` is `board` and the
-- number of reporters of x, then `next` are the words after e (`IsNextBoard`)
pub next_words : (x board next : List ℕ) (e : Entry)
    → ((history : List Entry) → IsLegal history → board_of history ≡ take 12 x → (board ≡ board_of (followed_by history e)) × IsLegal (followed_by history e))
    → next ≡ board ++ slice_index x 12 ∷ [] → IsNextBoard e x next
next_words x board next e counted is n h legal words = search (arith, match_words, last_word)

-- a reading by one load of the words x, of which the first twelve are its board
module _ (v w : View) (x : List ℕ) (reading : Reading) (shows : LooksAndShows v x x w) (is : reading ≡ reading_of (take 12 x)) where
  loads : Sees (Whole true) v w
  loads = sees (Whole true) None v w x x shows refl refl

  board_is : take 12 x ≡ board_of (history_of w.log)
  board_is = board_seen (Whole true) None v w x x shows

  version_seen : reading.version ≡ length (history_of w.log)
  version_seen = ap (λ (r : Reading). r.version) is ∙ (ap version_of board_is ∙ (versions (history_of w.log) loads.goes.legal).0)

  -- a reading by one load is what contracts say of every reading
  read_says : SharedReading (cell_pass_view v) reading (cell_pass_view w)
  read_says =
      let low = begins_length (history_of v.log) (history_of w.log) loads.goes.seen in
      let n = version_seen in
      let board : reading.board ≡ board_of (take reading.version (history_of w.log)) =
      ap (λ (r : Reading). r.board) is ∙ (board_is ∙ ap board_of (sym (take_all reading.version (history_of w.log) (omega arith)))) in
      record {
        low = omega arith;
        high = omega arith;
        snapshot = λ i. record { board = board i; version = reading.version };
        mine = loads.mine;
        shown = shown_then (Whole true) None v w x x shows
            ∙ ap (λ (k : ℕ). versions_loaded v.own ++ k ∷ []) (now_is (Whole true) None v w x x shows refl ∙ sym version_seen);
      }

  -- a reading by one load is what a cell board promises
  pub was_read : (board : TableId) (same : TableId) → same ≡ board → CellRead (record { board = board; view = v }) reading (record { board = same; view = w })
  was_read board same own = record {
    own = own;
    says = record {
      always = stays_continue versions_loaded v v w (stays_more v v w (Whole true) (stays_none v) loads) loads.goes;
      reading = read_says;
    };
    step = (x, shows);
    version = version_seen;
    acts = one_act (Whole true) None v w x x shows;
    up_to_date = up_to_date (Whole true) None v w x x shows;
    occurs = (shows.seat, shows.steps.occurs);
  }

-- if a pass k took in a note of a pass a and then loaded the words, and a is as it was (b), all that a meeting promises holds
pub was_met : (a b k m : CellPass) (x : List ℕ) → b ≡ a → m.board ≡ k.board → IsSound (cell_pass_view a.view) → LooksOnly (told_pass k.view (note_pass a.view)) x x m.view → CellMet a b k m
was_met a b k m x same own sound_first looked =
    let v = k.view in
    let w = m.view in
    let told = told_pass v (note_pass a.view) in
    let loads : Sees (Whole false) told w = sees (Whole false) None told w x x looked refl refl in
    record {
      own = (ap (λ (c : CellPass). c.board) same, own);
      says = meets versions_loaded a.view v w (Whole false) loads b.view (ap (λ (c : CellPass). c.view) same) sound_first
          (shown_then (Whole false) None told w x x looked);
      step = (x, looked);
      unchanged = same;
      acts = one_act (Whole false) None told w x x looked;
      up_to_date = up_to_date (Whole false) None told w x x looked;
      occurs = (looked.seat, looked.steps.occurs);
    }

-- if m is what a split leaves of a pass k, and n the pass that it splits off, all that a split of a cell board promises holds
pub was_split : (k m n : CellPass) → IsSound (cell_pass_view k.view) → m.board ≡ k.board → n.board ≡ k.board → m.view ≡ left_pass k.view
    → n.view ≡ second_pass k.view → CellSplit k m n
was_split k m n sound own other left given = record {
  own = (own, other);
  says = record { sound = sound; kept = ap (λ (u : View). cell_pass_view u) left; given = ap (λ (u : View). cell_pass_view u) given };
  kept = left;
  acts = ap (λ (u : View). count_of u) given ∙ ap length (append-nil (steps_of k.view));
  occurs = split_occurs words_after IsLegalStep k.view m.view n.view left given;
}

-- the two passes that a split makes of a pass of a board are passes of it
pub split_own : (board : TableId) (k m n : CellPass) → CellSplit k m n → IsCellPassOf board k → IsCellPassOf board m × IsCellPassOf board n
split_own board k m n split is =
    let both = both_occur words_after IsLegalStep k.view m.view n.view split.occurs is.1 in
    ((split.own.0 ∙ is.0, both.0), (split.own.1 ∙ is.0, both.1))

-- two passes of a board are passes of it after they have met
pub met_own : (board : TableId) (a b k m : CellPass) → CellMet a b k m → IsCellPassOf board a × IsCellPassOf board k → IsCellPassOf board b × IsCellPassOf board m
met_own board a b k m met is = (subst (λ (c : CellPass). IsCellPassOf board c) (sym met.unchanged) is.0, (met.own.1 ∙ is.1.0, met.occurs))
