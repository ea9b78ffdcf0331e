-- Lines that a handler was given, one after the other, and what a run comes to.
use Rattle.std.proofs.Common.{◌≡◌, ℕ, ◌+◌, List, [], ◌∷◌, ◌++◌, length, refl, sym, ap, ◌∙◌, subst, append_assoc, arith, ◌-◌, ◌^◌, ◌≤◌, inl, inr, append-nil}
use Rattle.std.proofs.Common.{length-append, ◌<◌, take, drop, Option, Some, None}
use Rattle.ucl_io.specs.Turns.{Answered, Closed, ComesOut, Progress, Rules, Turns, done, stops, turn}
use Rattle.ucl_io.specs.declared.fault.ServeFault.{ServeFault}
use Rattle.ucl_io.specs.declared.fault.ServeFault.TheVariants.{Handler, WriteFailed, ReadFailed, TooLong}
use Rattle.std.specs.Prelude.{⊤, Result, Ok, Err, OnOk}
use Rattle.ucl_io.specs.Output.{HasPut, Outlet, PutsOrStops}
use Rattle.std.proofs.KnownBytes.{Consumes-kept, Consumes-nil, Consumes-trans}
use Rattle.ucl_io.proofs.Puts.{put_cut, put_flushed, put_nothing, put_stops, put_then, all_out}
use Rattle.std.proofs.lemmas.List.{length-take}
use Rattle.ucl_io.specs.Lines.{BeginsWithLine, HasNoFeed, begun_line, ended_lines}
use Rattle.ucl_io.proofs.Cuts.{begun_append, begun_ended, begun_none, begun_short, ended_all, ended_append, ended_line, ended_none, few_lines, line_taken}
use Rattle.ucl_io.proofs.Cuts.{line_within, rest_begun, rest_ended, rest_of}
use Rattle.std.specs.Io.KnownBytes.{Appends, Consumes, IsAtEnd, Keeps}
use Rattle.ucl_io.specs.Calls.{LogsCalls}
use Rattle.ucl_io.specs.Serving.{Given, HasClosed, IsOut, IsPromptAt, LineRules, Seen, ServeEnds, ServedBy}
use Rattle.ucl_io.proofs.Calls.{ended, ended-since, logs-as, logs-none, logs-then}

-- the handler answered all of these lines but the last, `line`, to which it has no answer in the state that it was in then
pub record Front {M F : Type 0} (R : Rules M F) (row : ℕ) (m : M) (lines : List (List ℕ)) (text : List ℕ) (n : M) (fault : F) : Type 0 where
  pub front : List (List ℕ)
  pub line : List ℕ
  pub state : M
  pub lines_are : lines ≡ front ++ line ∷ []
  pub run : Turns R row m front text state None
  pub why : R.Stops state (row + length front) line n fault

-- the result after lines that were all answered: their text was put, or the sink failed in it
ends_put : {M F : Type 0} (a b : Progress M) (given : List (List ℕ)) (text : List ℕ) (r : Result ⊤ (ServeFault F)) → b.row ≡ a.row + length given
    → PutsOrStops a.outlet b.outlet text r → ComesOut a b given [] text None r
ends_put a b given text (Ok v) row p = (refl, refl, row, p)
ends_put a b given text (Err (WriteFailed n)) row p = p
ends_put _ _ _ _ _ _ p = absurd p

-- what holds of a run over a list of lines holds over an equal list
abbrev pub answered_as : {V M F : Type 0} {R : Rules M F} {a b : Progress M} {xs ys : List (List ℕ)} {r : Result V (ServeFault F)} → ys ≡ xs → Answered R a b xs r → Answered R a b ys r
answered_as e p = record { given = p.given; rest = p.rest; text = p.text; fault = p.fault; lines_are = e ∙ p.lines_are; run = p.run; ends = p.ends }

module _ {M F : Type 0} {R : Rules M F} where
  -- lines that were all answered, and then more lines, are lines that were given one after the other
  pub runs_then : (row row2 : ℕ) {m k n : M} {a b : List (List ℕ)} {s t : List ℕ} {fault : Option F} → Turns R row m a s k None → row2 ≡ row + length a → Turns R row2 k b t n fault
      → Turns R row m (a ++ b) (s ++ t) n fault
  runs_then row row2 done e q = let same : row2 ≡ row = omega arith in rw same at q
  runs_then row row2 (turn line text k h p) e q = rw append_assoc (turn line text k h (runs_then (row + 1) row2 p (omega arith) q))

  -- the last line that was given is the one to which the handler has no answer, and those before it were answered
  pub runs_front : (row : ℕ) {m n : M} {lines : List (List ℕ)} {text : List ℕ} {fault : F} → Turns R row m lines text n (Some fault) → Front R row m lines text n fault
  runs_front row (turn line text k h p) =
      let f = runs_front (row + 1) p in
      let there : row + length (line ∷ f.front) ≡ row + 1 + length f.front = omega arith in record {
        front = line ∷ f.front;
        line = f.line;
        state = f.state;
        lines_are = ap (λ (l : List (List ℕ)). line ∷ l) f.lines_are;
        run = turn line text k h f.run;
        why = rw there f.why;
      }
  runs_front row {m} (stops line h) =
      let here : row + length {A = List ℕ} [] ≡ row = omega arith in
      record { front = []; line = line; state = m; lines_are = refl; run = done; why = rw here h }

  -- no line was given, and no text is put
  pub answered_none : (a b : Progress M) (r : Result ⊤ (ServeFault F)) → b.row ≡ a.row → b.handler ≡ a.handler → PutsOrStops a.outlet b.outlet [] r → Answered R a b [] r
  answered_none a b r row same p =
      record { given = []; rest = []; text = []; fault = None; lines_are = refl; run = rw same done; ends = ends_put a b [] [] r (omega arith) p }

  -- one line was answered
  pub answered_one : (a b : Progress M) (line text : List ℕ) (r : Result ⊤ (ServeFault F)) → b.row ≡ a.row + 1 → R.Answers a.handler a.row line b.handler text
      → PutsOrStops a.outlet b.outlet text r → Answered R a b (line ∷ []) r
  answered_one a b line text r row h p =
      let none = append-nil text in record {
        given = line ∷ [];
        rest = [];
        text = text ++ [];
        fault = None;
        lines_are = refl;
        run = turn line text b.handler h done;
        ends = ends_put a b (line ∷ []) (text ++ []) r (omega arith) (rw none p);
      }

  -- the handler has no answer to a line, and what waits is given to the sink
  pub stopped_one : (a b : Progress M) (line : List ℕ) (fault : F) → R.Stops a.handler a.row line b.handler fault → HasPut a.outlet b.outlet [] → b.outlet.held ≡ []
      → Answered {V = ⊤} R a b (line ∷ []) (Err (Handler fault))
  stopped_one a b line fault h p none =
      record { given = line ∷ []; rest = []; text = []; fault = Some fault; lines_are = refl; run = stops line h; ends = (refl, p, none) }

  -- the handler has no answer to a line, and the sink fails in what waits
  pub stopped_short : (a b : Progress M) (line : List ℕ) (fault : F) (f : ServeFault F) → R.Stops a.handler a.row line b.handler fault
      → PutsOrStops {V = ⊤} a.outlet b.outlet [] (Err f) → Answered {V = ⊤} R a b (line ∷ []) (Err f)
  stopped_short a b line fault (WriteFailed n) h p =
      record { given = line ∷ []; rest = []; text = []; fault = Some fault; lines_are = refl; run = stops line h; ends = p }
  stopped_short _ _ _ _ _ _ p = absurd p

  -- if lines ended in a fault, and so more lines behind them were not given, all of them end in it
  pub answered_more : (a b : Progress M) (lines more : List (List ℕ)) (f : ServeFault F) → Answered {V = ⊤} R a b lines (Err f) → Answered {V = ⊤} R a b (lines ++ more) (Err f)
  answered_more a b lines more f p = record {
    given = p.given;
    rest = p.rest ++ more;
    text = p.text;
    fault = p.fault;
    lines_are = ap (λ (l : List (List ℕ)). l ++ more) p.lines_are ∙ append_assoc p.given p.rest more;
    run = p.run;
    ends = still f p.ends;
  }
    where
      still : (f : ServeFault F) → ComesOut {V = ⊤} a b p.given p.rest p.text p.fault (Err f) → ComesOut {V = ⊤} a b p.given (p.rest ++ more) p.text p.fault (Err f)
      still (WriteFailed n) e = e
      still (Handler g) e = e
      still _ e = absurd e

-- all these lines were answered
module _ {M F : Type 0} {R : Rules M F} {a b : Progress M} {lines : List (List ℕ)} (p : Answered {V = ⊤} R a b lines (Ok tt)) where
  pub answered_given : lines ≡ p.given
  answered_given = p.lines_are ∙ ap (λ (l : List (List ℕ)). p.given ++ l) p.ends.0 ∙ append-nil p.given

  pub answered_row : b.row ≡ a.row + length lines
  answered_row = p.ends.2 ∙ ap (λ (l : List (List ℕ)). a.row + length l) (sym answered_given)

  pub answered_run : Turns R a.row a.handler lines p.text b.handler None
  answered_run = subst (λ (l : List (List ℕ)). Turns R a.row a.handler l p.text b.handler None) (sym answered_given) (rw p.ends.1 at p.run)

  -- lines that were all answered, and then more lines that were given
  module _ (c : Progress M) {more : List (List ℕ)} (r : Result ⊤ (ServeFault F)) (q : Answered R b c more r) where
    -- what came of the later lines has come of all
    pub ends_then : (r : Result ⊤ (ServeFault F)) → ComesOut b c q.given q.rest q.text q.fault r → ComesOut a c (lines ++ q.given) q.rest (p.text ++ q.text) q.fault r
    ends_then (Ok v) (none, all, row, put) =
        let long = length-append lines q.given in
        let here = answered_row in (none, all, omega arith, put_then a.outlet b.outlet c.outlet p.text q.text p.ends.3 put)
    ends_then (Err (WriteFailed n)) s = put_stops a.outlet b.outlet c.outlet p.text q.text n p.ends.3 s
    ends_then (Err (Handler why)) (is, put, none) = (is, put_then a.outlet b.outlet c.outlet p.text q.text p.ends.3 put, none)
    ends_then _ e = absurd e

    -- more lines were given
    abbrev pub answered_then : Answered R a c (lines ++ more) r
    answered_then = record {
      given = lines ++ q.given;
      rest = q.rest;
      text = p.text ++ q.text;
      fault = q.fault;
      lines_are = ap (λ (l : List (List ℕ)). lines ++ l) q.lines_are ∙ sym (append_assoc lines q.given q.rest);
      run = runs_then a.row b.row answered_run answered_row q.run;
      ends = ends_then r q.ends;
    }

  -- all are still answered when what waits is given to the sink, or the sink fails in it
  pub answered_flushed : (c : Progress M) (r : Result ⊤ (ServeFault F)) → c.row ≡ b.row → c.handler ≡ b.handler → PutsOrStops b.outlet c.outlet [] r → Answered R a c lines r
  answered_flushed c r row same q = subst (λ (l : List (List ℕ)). Answered R a c l r) (append-nil lines) (answered_then c r (answered_none b c r row same q))

-- the bytes after the last line feed, given to the handler
module _ (M F : Type 0) (R : Rules M F) where
  -- the handler answered them, and the sink failed in the answer
  pub closed_cut : (a b : Progress M) (line text : List ℕ) (f : ServeFault F) → R.Answers a.handler a.row line b.handler text → PutsOrStops {V = ⊤} a.outlet b.outlet text (Err f)
      → Closed {V = ⊤} R a b line (Err f)
  closed_cut a b line text (WriteFailed n) h p = (text, h, p)
  closed_cut _ _ _ _ _ _ p = absurd p

  -- the handler answered them, the answer was put, and what waits then is given to the sink, or the sink fails in it
  pub closed_by : (a b : Progress M) (mid : Outlet) (line text : List ℕ) (r : Result ⊤ (ServeFault F)) → R.Answers a.handler a.row line b.handler text → HasPut a.outlet mid text
      → PutsOrStops mid b.outlet [] r
      → OnOk r (b.outlet.held ≡ []) → Closed R a b line r
  closed_by a b mid line text (Ok v) h p q none = (text, h, put_flushed a.outlet mid b.outlet text p q, none)
  closed_by a b mid line text (Err (WriteFailed n)) h p q none = (text, h, put_cut a.outlet mid b.outlet text n p q)
  closed_by _ _ _ _ _ _ _ _ q _ = absurd q

-- the lines that ended before byte i were answered, and this has begun of the next
pub record Entered {M F : Type 0} (R : Rules M F) (cap : ℕ) (line bytes : List ℕ) (a b : Progress M) (begun : List ℕ) (i : ℕ) : Type 0 where
  pub within : i ≤ length bytes
  pub begun_is : begun ≡ begun_line cap line (take i bytes)
  pub answered : Answered {V = ⊤} R a b (ended_lines cap line (take i bytes)) (Ok tt)

-- before the first byte no line was answered
pub entered_none : {M F : Type 0} (R : Rules M F) (cap : ℕ) (line bytes : List ℕ) (a : Progress M) → a.outlet.out ≤ 2 ^ 64 - 1 → Entered R cap line bytes a a line 0
entered_none {M} {F} R cap line bytes a low = record {
  within = omega arith;
  begun_is = sym (begun_none cap line);
  answered = answered_as (ended_none cap line) (answered_none a a (Ok tt) refl refl (put_nothing a.outlet low));
}

-- the lines that ended before byte i were answered
module _ {M F : Type 0} {R : Rules M F} {cap i : ℕ} {line bytes begun : List ℕ} {a b : Progress M} (s : Entered R cap line bytes a b begun i) (short : length line ≤ cap) where
  abbrev before : List (List ℕ)
  before = ended_lines cap line (take i bytes)

  abbrev rest : List ℕ
  rest = take (length bytes - i) (drop i bytes)

  -- a line ends at these bytes, from byte i on
  module _ (end : List ℕ) (first : BeginsWithLine rest end) where
    here : BeginsWithLine (drop i bytes) end
    here = rw (rest_of i bytes) at first

    abbrev next : ℕ
    next = i + (length end + 1)

    abbrev kept : List ℕ
    kept = take cap (begun ++ end)

    -- there is room for one row more
    pub row_below : a.row + length bytes < 2 ^ 64 → b.row < 2 ^ 64 - 1
    row_below few =
        let lines = few_lines cap line (take i bytes) in
        let long = length-take i bytes in
        let past = line_within bytes i end here s.within in
        let row = answered_row s.answered in omega arith

    -- the lines that have ended with it are those before and this one
    line_ended : ended_lines cap line (take next bytes) ≡ before ++ (kept ∷ [])
    line_ended = rw s.begun_is (
        ap (ended_lines cap line) (line_taken bytes i end here) ∙ ended_append cap line (take i bytes) (end ++ 10 ∷ [])
        ∙ ap (λ (l : List (List ℕ)). before ++ l) (ended_line cap (begun_line cap line (take i bytes)) end here.clean (begun_short cap line (take i bytes) short)))

    -- if it is answered too, all lines that ended with it are
    pub line_answered : (c : Progress M) (begun2 : List ℕ) → begun2 ≡ [] → Answered {V = ⊤} R b c (kept ∷ []) (Ok tt) → Entered R cap line bytes a c begun2 next
    line_answered c begun2 none q = record {
      within = line_within bytes i end here s.within;
      begun_is = none ∙ sym (ap (begun_line cap line) (line_taken bytes i end here) ∙ begun_append cap line (take i bytes) (end ++ 10 ∷ [])
          ∙ begun_ended cap (begun_line cap line (take i bytes)) end);
      answered = answered_as line_ended (answered_then s.answered c (Ok tt) q);
    }

    -- if it ends in a fault, all lines of these bytes end in it
    pub line_short : (c : Progress M) (f : ServeFault F) → Answered {V = ⊤} R b c (kept ∷ []) (Err f) → Answered {V = ⊤} R a c (ended_lines cap line bytes) (Err f)
    line_short c f q =
        let later = ended_lines cap (begun_line cap line (take next bytes)) (drop next bytes) in
        answered_as (ended_all cap line bytes next ∙ ap (λ (l : List (List ℕ)). l ++ later) line_ended)
        (answered_more a c (before ++ kept ∷ []) later f (answered_then s.answered c (Err f) q))

  -- no line ends from byte i on
  module _ (clean : HasNoFeed rest) where
    clear : HasNoFeed (drop i bytes)
    clear = rw (rest_of i bytes) at clean

    -- all later bytes belong to the line that has begun
    pub rest_kept : take cap (begun ++ rest) ≡ begun_line cap line bytes
    rest_kept = rw (s.begun_is, rest_of i bytes) (rest_begun cap line bytes i clear short)

    -- what waits is given to the sink, or the sink fails in it: all lines of these bytes were answered
    pub rest_answered : (c : Progress M) (r : Result ⊤ (ServeFault F)) → c.row ≡ b.row → c.handler ≡ b.handler → PutsOrStops b.outlet c.outlet [] r
        → Answered R a c (ended_lines cap line bytes) r
    rest_answered c r row same put = answered_as (sym (rest_ended cap line bytes i clear)) (answered_flushed s.answered c r row same put)

-- the progress of a run before the first line
abbrev pub first_of : {M : Type 0} → Seen M → Progress M
first_of s = record { row = 1; handler = s.handler; outlet = record { held = []; out = 0; taken = s.device.taken; failed = s.device.failed } }

-- the progress of a run before the line with this number, if this text waits and so many bytes are out
abbrev pub stands : {M : Type 0} → Seen M → ℕ → List ℕ → ℕ → Progress M
stands s row held out = record { row = row; handler = s.handler; outlet = record { held = held; out = out; taken = s.device.taken; failed = s.device.failed } }

-- what a handler was given between two states: the lines, and with them the answers, the handler afterwards, and the fault if there is one
abbrev pub given_by : {V M F : Type 0} {R : Rules M F} {a b : Progress M} {lines : List (List ℕ)} {r : Result V (ServeFault F)} → Answered R a b lines r → Given M F
given_by {b = b} p = record { lines = p.given; text = p.text; handler = b.handler; fault = p.fault }

-- where a run stands before a call for bytes: it took these bytes, answered all their lines that have an end, and nothing waits; its calls for
-- bytes so far are logged, each with the run prompt at that moment, and at least so many bytes have come as a next call needs
pub record Standing {M F T : Type 0} (D : LineRules M F) (cap : ℕ) (at : T → Seen M) (count : T → ℕ) (start now : T) (log log2 : List T) (row : ℕ) (begun held : List ℕ) (out : ℕ) : Type 0 where
  pub bytes : List ℕ
  pub consumed : Consumes (at start).device.left (at now).device.left bytes
  pub begun_is : begun ≡ begun_line cap [] bytes
  pub none : held ≡ []
  pub answered : Answered {V = ⊤} D.line (first_of (at start)) (stands (at now) row held out) (ended_lines cap [] bytes) (Ok tt)
  pub logged : LogsCalls count log log2 (count start) (count now) (λ time. IsPromptAt D.line cap (at start) (at time) (given_by answered))
  pub more : logged.least ≤ length bytes

-- before its first call for bytes a run has taken no bytes, answered no line and logged no call, and no answer waits
abbrev pub standing_first : {M F T : Type 0} (D : LineRules M F) (cap : ℕ) (at : T → Seen M) (count : T → ℕ) (start : T) (log : List T) (row : ℕ) (begun held : List ℕ) (out : ℕ)
    → row ≡ 1 → begun ≡ [] → held ≡ [] → out ≡ 0 → Standing D cap at count start start log log row begun held out
standing_first {M} {F} D cap at count start log row begun held out row_is begun_is none out_is = record {
  bytes = [];
  consumed = Consumes-nil (at start).device.left;
  begun_is = begun_is ∙ sym (begun_none cap []);
  none = none;
  answered = rw (row_is, none, out_is, ended_none cap [])
      (answered_none (first_of (at start)) (first_of (at start)) (Ok tt) refl refl (put_nothing (first_of (at start)).outlet (omega arith)));
  logged = logs-none _ _ _ _;
  more = omega arith;
}

module _ {M F T : Type 0} {D : LineRules M F} {cap : ℕ} {at : T → Seen M} {count : T → ℕ} {start now : T} {log log2 : List T} {row : ℕ} {begun held : List ℕ} {out : ℕ}
    (s : Standing D cap at count start now log log2 row begun held out) where
  abbrev current : Progress M
  current = stands (at now) row held out

  abbrev lines : List (List ℕ)
  lines = ended_lines cap [] s.bytes

  -- the list of calls of the source until `new`, when these lines were given
  abbrev LoggedStep : List T → T → Given M F → Type 0
  LoggedStep log3 new given = LogsCalls count log log3 (count start) (count new) (λ time. IsPromptAt D.line cap (at start) (at time) given)

  -- there were no more lines than bytes
  pub row_low : row ≤ 1 + length s.bytes
  row_low = let few = few_lines cap [] s.bytes in let is = answered_row s.answered in omega arith

  -- the answers to all lines are out
  pub gone : Appends (at start).device.taken (at now).device.taken s.answered.text
  gone = all_out (first_of (at start)).outlet current.outlet s.answered.text s.answered.ends.3 refl s.none

  -- a run that ends now, after an answer to a last line without an end, did what `serve_lines` says
  served : (new : T) {log3 : List T} (last : List ℕ) (result : Result ℕ (ServeFault F)) → Consumes (at start).device.left (at new).device.left s.bytes
      → LoggedStep log3 new (given_by s.answered) → IsOut (at start).device (at new).device (s.answered.text ++ last) result
      → ServeEnds D cap (at start) (at new) (record { bytes = s.bytes; given = given_by s.answered; rest = s.answered.rest; last = last }) result
      → ServedBy D cap (at start) (at new) result (LoggedStep log3 new)
  served new last result consumed logged out ends = record {
    run = record { bytes = s.bytes; given = given_by s.answered; rest = s.answered.rest; last = last };
    consumed = consumed;
    lines_are = s.answered.lines_are;
    answered = s.answered.run;
    prompt = logged;
    out = out;
    ends = ends;
  }

  -- all answers are out still, if the sink has not changed since
  all_text : (new : T) → (at new).device.taken ≡ (at now).device.taken → (at new).device.failed ≡ (at now).device.failed
      → Appends (at start).device.taken (at new).device.taken (s.answered.text ++ []) × ((at new).device.failed ≡ (at start).device.failed)
  all_text new same sound = (rw (same, append-nil) gone, sound ∙ s.answered.ends.3.sound)

  -- more bytes came than any input has
  pub run_too_long : 2 ^ 62 < length s.bytes → ServedBy D cap (at start) (at now) (Err TooLong) (LoggedStep log2 now)
  run_too_long long = served now [] (Err TooLong) s.consumed s.logged (all_text now refl refl) (long, (s.answered.ends.0, s.answered.ends.1), (refl, refl))

  -- the source is called once more: from `now` to `new`
  module _ (new : T) {log3 : List T} (logs : log3 ≡ log2 ++ now ∷ []) (counts : count new ≡ count now + 1) where
    abbrev pub asked : LoggedStep log3 new (given_by s.answered)
    asked = logs-then count log log2 log3 (count start) (count now) (count new) _ now s.bytes s.logged logs counts refl s.more (record {
      text = s.answered.text;
      later = [];
      more = [];
      consumed = s.consumed;
      answered = answered_run s.answered;
      out = gone;
      lines_are = sym (answered_given s.answered) ∙ sym (append-nil lines);
      text_is = sym (append-nil s.answered.text);
      goes_on = rw s.answered.ends.1 done;
    })

    -- if it failed, the run ends
    pub run_read_failed : (read : ℕ) → Keeps (at now).device.left (at new).device.left → (at new).device.taken ≡ (at now).device.taken → (at new).device.failed ≡ (at now).device.failed
        → (at new).handler ≡ (at now).handler → read ≡ length s.bytes → ServedBy D cap (at start) (at new) (Err (ReadFailed read)) (LoggedStep log3 new)
    run_read_failed read kept same sound left is =
        served new [] (Err (ReadFailed read)) (Consumes-kept (at start).device.left (at now).device.left (at new).device.left s.bytes s.consumed kept)
        asked (all_text new same sound) (is, (s.answered.ends.0, s.answered.ends.1), (left, refl))

    -- the source gave these bytes
    module _ (row2 : ℕ) (held2 : List ℕ) (out2 : ℕ) (more : List ℕ) (moved : Consumes (at now).device.left (at new).device.left more) where
      abbrev there : Progress M
      there = stands (at new) row2 held2 out2

      pub took_more : Consumes (at start).device.left (at new).device.left (s.bytes ++ more)
      took_more = Consumes-trans (at start).device.left (at now).device.left (at new).device.left s.bytes more s.consumed moved

      pub more_ended : ended_lines cap [] (s.bytes ++ more) ≡ lines ++ ended_lines cap begun more
      more_ended = rw s.begun_is (ended_append cap [] s.bytes more)

      -- the lines among more bytes were given
      module _ (r : Result ⊤ (ServeFault F)) (q : Answered D.line current there (ended_lines cap begun more) r) where
        abbrev all : Answered D.line (first_of (at start)) there (lines ++ ended_lines cap begun more) r
        all = answered_then s.answered there r q

        abbrev pub asked_before : LoggedStep log3 new (given_by all)
        asked_before = logs-as count log log3 (count start) (count new) _ _ (λ time bytes p. record {
          text = p.text;
          later = p.later ++ q.given;
          more = p.more ++ q.text;
          consumed = p.consumed;
          answered = p.answered;
          out = p.out;
          lines_are = ap (λ (l : List (List ℕ)). l ++ q.given) (answered_given s.answered ∙ p.lines_are) ∙ append_assoc (ended_lines cap [] bytes) p.later q.given;
          text_is = ap (λ (l : List ℕ). l ++ q.text) p.text_is ∙ append_assoc p.text p.more q.text;
          goes_on = (let is = answered_row s.answered in let long = length-append (ended_lines cap [] bytes) p.later in
              let same : length lines ≡ length (ended_lines cap [] bytes ++ p.later) = ap (length {A = List ℕ}) (answered_given s.answered ∙ p.lines_are) in
              runs_then (1 + length (ended_lines cap [] bytes)) row (rw s.answered.ends.1 at p.goes_on) (omega arith) q.run);
        }) asked

      -- it goes on
      abbrev pub standing_then : {begun2 : List ℕ} (q : Answered {V = ⊤} D.line current there (ended_lines cap begun more) (Ok tt)) → held2 ≡ [] → begun2 ≡ begun_line cap begun more
          → 0 < length more → Standing D cap at count start new log log3 row2 begun2 held2 out2
      standing_then q none begun_is some = record {
        bytes = s.bytes ++ more;
        consumed = took_more;
        begun_is = begun_is ∙ (rw s.begun_is (sym (begun_append cap [] s.bytes more)));
        none = none;
        answered = answered_as more_ended (all (Ok tt) q);
        logged = asked_before (Ok tt) q;
        more = (let long = length-append s.bytes more in omega arith);
      }

      -- a fault in the lines among them ends the run
      pub run_stopped : (f : ServeFault F) → Answered {V = ⊤} D.line current there (ended_lines cap begun more) (Err f)
          → ServedBy D cap (at start) (at new) (Err f) (LoggedStep log3 new)
      run_stopped f q =
          let t = all (Err f) q in
          let w = why f t in record {
            run = record { bytes = s.bytes ++ more; given = given_by t; rest = t.rest; last = [] };
            consumed = took_more;
            lines_are = more_ended ∙ t.lines_are;
            answered = t.run;
            prompt = asked_before (Err f) q;
            out = w.0;
            ends = w.1;
          }
        where
          why : (f : ServeFault F) (t : Answered {V = ⊤} D.line (first_of (at start)) there (lines ++ ended_lines cap begun more) (Err f))
              → IsOut (at start).device (at new).device (t.text ++ []) (Err f)
              × ServeEnds D cap (at start) (at new) (record { bytes = s.bytes ++ more; given = given_by t; rest = t.rest; last = [] }) (Err f)
          why (WriteFailed count) t = (rw append-nil t.ends, inl (refl, refl))
          why (Handler fault) t =
              ((rw append-nil (all_out (first_of (at start)).outlet there.outlet t.text t.ends.1 refl t.ends.2), t.ends.1.sound), inl (t.ends.0, (refl, refl)))
          why _ t = absurd t.ends

    -- the source gave none, since the input has ended
    module _ (row2 : ℕ) (held2 : List ℕ) (out2 : ℕ) (over : IsAtEnd (at now).device.left) (moved : Consumes (at now).device.left (at new).device.left []) where
      abbrev end : Progress M
      end = stands (at new) row2 held2 out2

      took_all : Consumes (at start).device.left (at new).device.left s.bytes
      took_all = subst (Consumes (at start).device.left (at new).device.left) (append-nil s.bytes)
          (Consumes-trans (at start).device.left (at now).device.left (at new).device.left s.bytes [] s.consumed moved)

      -- the input has ended with all lines answered, and Holds is so of the bytes after the last line feed
      closed : (last : List ℕ) (Holds : M → ℕ → List ℕ → Type 0) → Holds (at now).handler row begun
          → HasClosed cap (at start) (at new) (record { bytes = s.bytes; given = given_by s.answered; rest = s.answered.rest; last = last }) Holds
      closed last Holds h = record {
        ended = ended-since (at start).device.left (at now).device.left (at new).device.left s.bytes s.consumed (ended (at now).device.left (at new).device.left over moved);
        all = (s.answered.ends.0, s.answered.ends.1);
        holds = rw (← answered_row s.answered, ← s.begun_is) h;
      }

      -- if these are answered too, the run ends well
      pub run_ended : (rows : ℕ) → rows + 1 ≡ row → Closed {V = ⊤} D.last current end begun (Ok tt) → ServedBy D cap (at start) (at new) (Ok rows) (LoggedStep log3 new)
      run_ended rows is (text, answered, put, none2) =
          let all = put_then (first_of (at start)).outlet current.outlet end.outlet s.answered.text text s.answered.ends.3 put in
          served new text (Ok rows) took_all asked (all_out (first_of (at start)).outlet end.outlet (s.answered.text ++ text) all refl none2, all.sound)
          ((let e = answered_row s.answered in omega arith), closed text _ answered)

      -- if they end in a fault, the run ends in it
      ends_badly : (f : ServeFault F) → Closed {V = ⊤} D.last current end begun (Err f) → ServedBy D cap (at start) (at new) (Err f) (LoggedStep log3 new)
      ends_badly (WriteFailed count) (text, answered, w) =
          served new text (Err (WriteFailed count)) took_all asked
          (put_stops (first_of (at start)).outlet current.outlet end.outlet s.answered.text text count s.answered.ends.3 w) (inr (closed text _ answered))
      ends_badly (Handler fault) (w, same) =
          served new [] (Err (Handler fault)) took_all asked (all_text new (ap (λ (o : Outlet). o.taken) same) (ap (λ (o : Outlet). o.failed) same))
          (inr (refl, closed [] _ w))
      ends_badly _ q = absurd q

      -- a fault in the bytes after the last line feed ends the run, also if it was told of a progress equal to this one
      pub run_ends_badly : (f : ServeFault F) (b : Progress M) → Closed {V = ⊤} D.last b end begun (Err f) → b ≡ current → ServedBy D cap (at start) (at new) (Err f) (LoggedStep log3 new)
      run_ends_badly f b q same = ends_badly f (subst (λ (x : Progress M). Closed {V = ⊤} D.last x end begun (Err f)) same q)
