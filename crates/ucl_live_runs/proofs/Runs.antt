-- Whole runs of handlers whose text is a function of the lines, and of sessions and followers, from what the driver says of them.
use Rattle.ucl_live_runs.proofs.Common.{Closes, Err, FollowArgs, FollowState, HasNoAnswer, HasNoEnd, IsRejected, List, LiveFault, NeedsMemory, None, Ok}
use Rattle.ucl_live_runs.proofs.Common.{OutOfMemory, RanOutOfMemory, Result, Session, Some, [], RunFault, after_bytes, after_line, after_lines, answer_said}
use Rattle.ucl_live_runs.proofs.Common.{answers, answers_to, ap, append-nil, append_assoc, arith, begun_line, cut_at, ended_lines, false, follow_outputs}
use Rattle.ucl_live_runs.proofs.Common.{follow_text, followed, inl, inr, last_lines, length, line_output, live_text, missing_after, missing_at, next, refl}
use Rattle.ucl_live_runs.proofs.Common.{Option, said_on, session_due, session_of, shown_text, subst, sym, unseen, ℕ, ◌++◌, ◌+◌, ◌∙◌, ◌∷◌, ◌≡◌, ◌≤◌, ◌⊎◌}
use Rattle.std.specs.Io.KnownBytes.{Appends}
use Rattle.ucl_command.specs.declared.follow.FollowShape.{FollowShape}
use Rattle.ucl_io.proofs.Calls.{logs-as, holds_of_all}
use Rattle.ucl_io.proofs.Puts.{stopped_first}
use Rattle.ucl_io.proofs.Turns.{Front, runs_front}
use Rattle.ucl_io.specs.Calls.{Device, HasEnded, LogsCalls, device}
use Rattle.ucl_io.specs.Output.{StoppedShort}
use Rattle.ucl_io.specs.Serving.{AnsweredAll, AnswersLast, Given, IsLeft, IsPromptAt, LineRules, Run, Seen, ServedBy, StopsLast, is_source_failed, rules_of, seen}
use Rattle.ucl_io.specs.Turns.{Turns, done, turn}
use Rattle.ucl_io.specs.declared.fault.ServeFault.{ServeFault}
use Rattle.ucl_io.specs.declared.fault.ServeFault.TheVariants.{Handler, WriteFailed}
use Rattle.ucl_io.specs.declared.logged_io.LoggedIo.{LoggedIo}
use Rattle.ucl_live_runs.specs.Driven.{Due, FailsAfter, IsDriven, IsOutSoFar, SinkEnds, StopsInText}
use Rattle.ucl_live_runs.specs.FollowerRuns.{IsHandled, counts_of, follow_due}
use Rattle.ucl_live_runs.specs.declared.follower.Follower.{Follower}
use Rattle.ucl_live_runs.specs.declared.session.Session.{Session as Held}
use Rattle.ucl_live_runs.proofs.Lines.{after-append, answers-append, is_open, missing-shut, shut-lines, silent, stays-refused, whole-missing}
use Rattle.ucl_live_runs.proofs.Lines.{whole-text}
use Rattle.ucl_io.specs.declared.stream.Sink as writes
use Rattle.ucl_io.specs.declared.stream.Source as reads

-- a handler of lines with the rules `R`, which begins as `m`, does what `D` says is due: its answers to the lines that end among some bytes
-- are the text due so far, and with that to the last line the whole text, and then its value is as `D` says; if it stops by a fault, `D`
-- lets it. Of a line at most `cap` bytes are kept
pub record Drives {M V F : Type 0} (R : LineRules M F) (cap : ℕ) (D : Due V F) (m : M) (v : M → V) : Type 0 where
  pub text : List (List ℕ) → List ℕ
  pub so_far : (bytes : List ℕ) → D.so_far bytes ≡ text (ended_lines cap [] bytes)
  pub parts : (a b : List (List ℕ)) → (more : List ℕ) × (text (a ++ b) ≡ text a ++ more)
  pub turns : (lines : List (List ℕ)) (t : List ℕ) (n : M) → Turns R.line 1 m lines t n None → t ≡ text lines
  pub closes : (bytes t last : List ℕ) (k n : M) → Turns R.line 1 m (ended_lines cap [] bytes) t k None
      → R.last.Answers k (1 + length (ended_lines cap [] bytes)) (begun_line cap [] bytes) n last → (D.so_far bytes ++ last ≡ D.whole bytes) × D.Ends (v n) bytes
  pub stops_next : (bytes : List ℕ) (front : List (List ℕ)) (t line : List ℕ) (later : List (List ℕ)) (k n : M) (fault : F) (before after : Device)
      → Turns R.line 1 m front t k None → ended_lines cap [] bytes ≡ front ++ line ∷ later → R.line.Stops k (1 + length front) line n fault
      → Appends before.taken after.taken t → D.Stops bytes before after fault
  pub stops_last : (bytes t : List ℕ) (k n : M) (fault : F) (before after : Device) → Turns R.line 1 m (ended_lines cap [] bytes) t k None → HasEnded before.left after.left
      → R.last.Stops k (1 + length (ended_lines cap [] bytes)) (begun_line cap [] bytes) n fault → Appends before.taken after.taken t → D.Stops bytes before after fault

module _ {M V F S W : Type 0} {R : LineRules M F} {cap : ℕ} {D : Due V F} {m : M} {v : M → V} (d : Drives R cap D m v) (source : reads.Ghosts S) (sink : writes.Ghosts W)
    (a b : LoggedIo S W M) (n : M) where
  abbrev before : Device
  before = device source.left sink.taken sink.failed a.source a.sink

  abbrev after : Device
  after = device source.left sink.taken sink.failed b.source b.sink

  abbrev old : Seen M
  old = record { device = before; handler = m }

  abbrev new : Seen M
  new = record { device = after; handler = n }

  abbrev Prompt : Given M F → Type 0
  Prompt given = LogsCalls (λ time. source.calls time.0) a.log.times b.log.times (source.calls a.source) (source.calls b.source)
      (λ time. IsPromptAt R.line cap old (seen source sink time) given)

  module _ {r : Result ℕ (ServeFault F)} (p : ServedBy R cap old new r Prompt) where
    abbrev run : Run M F
    run = p.run

    abbrev given : Given M F
    given = p.run.given

    abbrev lines : List (List ℕ)
    lines = ended_lines cap [] p.run.bytes

    -- where all lines were answered the run is of all lines
    all_run : AnsweredAll run → Turns R.line 1 m lines given.text given.handler None
    all_run all =
        let same = p.lines_are ∙ ap (λ (l : List (List ℕ)). given.lines ++ l) all.0 ∙ append-nil given.lines in
        subst (λ (l : List (List ℕ)). Turns R.line 1 m l given.text given.handler None) (sym same) (rw all.1 at p.answered)

    -- the text of a run that answered all lines is what is due of the bytes so far
    all_text : AnsweredAll run → given.text ≡ D.so_far run.bytes
    all_text all = d.turns lines given.text given.handler (all_run all) ∙ sym (d.so_far run.bytes)

    only : run.last ≡ [] → given.text ++ run.last ≡ given.text
    only none = ap (λ (l : List ℕ). given.text ++ l) none ∙ append-nil given.text

    -- after the last line the whole text is out, and what is due of a run that ends well holds
    closed : AnswersLast R cap old new run → (given.text ++ run.last ≡ D.whole run.bytes) × D.Ends (v n) run.bytes
    closed e =
        let c = d.closes run.bytes given.text run.last given.handler n (all_run e.all) e.holds in
        (ap (λ (l : List ℕ). l ++ run.last) (all_text e.all) ∙ c.0, c.1)

    -- at each call for bytes the text of the lines until then was out
    prompt : LogsCalls (λ time. source.calls time.0) a.log.times b.log.times (source.calls a.source) (source.calls b.source)
        (λ time. IsOutSoFar D.so_far (source.left a.source) (source.left time.0) (sink.taken a.sink) (sink.taken time.1))
    prompt = logs-as _ _ _ _ _ _ _ (λ time bytes u.
        (u.consumed, rw (d.turns (ended_lines cap [] bytes) u.text time.2 u.answered ∙ sym (d.so_far bytes)) at u.out)) p.prompt

    -- the lines before the one to which the handler has no answer
    front_of : {fault : F} (f : Front R.line 1 m given.lines given.text given.handler fault) → lines ≡ f.front ++ f.line ∷ run.rest
    front_of f = p.lines_are ∙ ap (λ (l : List (List ℕ)). l ++ run.rest) f.lines_are ∙ append_assoc f.front (f.line ∷ []) run.rest

    -- what is due of the lines that came begins with the answers
    begins : (fault : Option F) → Turns R.line 1 m given.lines given.text given.handler fault → (more : List ℕ) × (given.text ++ more ≡ D.so_far run.bytes)
    begins None answered =
        let more = d.parts given.lines run.rest in
        (more.0, ap (λ (l : List ℕ). l ++ more.0) (d.turns given.lines given.text given.handler answered) ∙ sym (d.so_far run.bytes ∙ ap d.text p.lines_are ∙ more.1))
    begins (Some fault) answered =
        let f = runs_front 1 answered in
        let more = d.parts f.front (f.line ∷ run.rest) in
        (more.0, ap (λ (l : List ℕ). l ++ more.0) (d.turns f.front given.text f.state f.run) ∙ sym (d.so_far run.bytes ∙ ap d.text (front_of f) ∙ more.1))

    -- a run whose sink failed has put a first part of the text
    cut : {written : ℕ} → IsLeft n run ⊎ AnswersLast R cap old new run → StoppedShort 0 after.failed before.taken after.taken (given.text ++ run.last) written
        → StopsInText D run.bytes before after written
    cut {written} (inl (_, none)) s =
        let more = begins given.fault p.answered in record {
          text = D.so_far run.bytes;
          text_is = inl refl;
          stopped = rw more.1 at (stopped_first 0 after.failed before.taken after.taken given.text more.0 written (rw (only none) at s));
        }
    cut (inr e) s = record { text = D.whole run.bytes; text_is = inr (e.ended, refl); stopped = rw (closed e).0 at s }

  pub ends : (count : ℕ) → ServedBy R cap old new (Ok count) Prompt → source.failed b.source ≡ false → IsDriven D source sink a b (Ok (v n))
  ends count p read =
      let e = p.ends.1 in record {
        text = holds_of_all _ before.left after.left p.run.bytes e.ended p.consumed (rw (closed p e).0 at p.out.0);
        ends = holds_of_all _ before.left after.left p.run.bytes e.ended p.consumed (closed p e).1;
        prompt = prompt p;
        read_failed = read;
        sink_ends = p.out.1;
        fails = tt;
      }

  -- a run that failed ends as its fault says
  why : (f : ServeFault F) (p : ServedBy R cap old new (Err f) Prompt) → FailsAfter D p.run.bytes before after f × SinkEnds {Value = V} before.failed after.failed (Err f)
  why (WriteFailed written) p = (cut p p.ends p.out, p.out.failed_is)
  why (Handler fault) p = (stops p.ends, p.out.1)
    where
      stops : ((p.run.given.fault ≡ Some fault) × IsLeft n p.run) ⊎ ((p.run.last ≡ []) × StopsLast R cap old new p.run fault) → D.Stops p.run.bytes before after fault
      stops (inl (is, left)) =
          let f = runs_front 1 (rw is at p.answered) in
          d.stops_next p.run.bytes f.front p.run.given.text f.line p.run.rest f.state p.run.given.handler fault before after f.run (front_of p f) f.why (rw (only p left.1) at p.out.0)
      stops (inr (none, e)) =
          d.stops_last p.run.bytes p.run.given.text p.run.given.handler n fault before after (all_run p e.all) e.ended e.holds (rw (only p none) at p.out.0)
  why _ p = ((p.ends.0, rw (only p p.ends.2.1, all_text p p.ends.1) at p.out.0), p.out.1)

  -- a run that fails has done what is due of it up to there
  pub fails : (f : ServeFault F) → ServedBy R cap old new (Err f) Prompt → source.failed b.source ≡ is_source_failed {V = V} (Err f) → IsDriven D source sink a b (Err f)
  fails f p read =
      let w = why f p in record {
        text = tt;
        ends = tt;
        prompt = prompt p;
        read_failed = read;
        sink_ends = w.1;
        fails = record { bytes = p.run.bytes; consumed = p.consumed; why = w.0 };
      }

-- ==== Sessions

-- the rules of a session as a handler of lines, from what it answers to each
abbrev pub SessionRules : LineRules Held LiveFault
SessionRules = rules_of
    (λ m row line n text. (session_of n (row + 1) ≡ next (session_of m row) (said_on row line))
    × (text ≡ answer_said (session_of m row) (said_on row line) (shown_text line)))
    (λ m row line n fault. HasNoAnswer (session_of m row) line fault)
    (λ m row begun n text. Closes (session_of m row) begun text)
    (λ m row begun n fault. HasNoEnd (session_of m row) begun fault)

-- if the code of a session has answered these lines, its state is that of the session after them, and `text` is the answers to them
session_turns : (row : ℕ) (m : Held) (lines : List (List ℕ)) {text : List ℕ} {n : Held} → Turns SessionRules.line row m lines text n None
    → (session_of n (row + length lines) ≡ after_lines (session_of m row) lines) × (text ≡ answers (session_of m row) lines)
unfolding after_lines answers
session_turns row m [] done = (let same : row + length {A = List ℕ} [] ≡ row = omega arith in rw same, refl)
session_turns row m (line ∷ lines) (turn _ text k h p) =
    let x = session_turns (row + 1) k lines p in
    let there : row + length (line ∷ lines) ≡ row + 1 + length lines = omega arith in
    (rw there (x.0 ∙ ap (λ (s : Session). after_lines s lines) h.0), rw (h.1, x.1, h.0))

module _ (m : Held) where
  abbrev start : Session
  start = session_of m 1

  shows : (lines : List (List ℕ)) (t : List ℕ) (n : Held) → Turns SessionRules.line 1 m lines t n None → t ≡ answers start lines
  shows lines t n p = (session_turns 1 m lines p).1

  module _ (bytes : List ℕ) (front : List (List ℕ)) (t : List ℕ) (k : Held) (p : Turns SessionRules.line 1 m front t k None) where
    abbrev reached : Session
    reached = session_of k (1 + length front)

    reaches : reached ≡ after_lines start front
    reaches = (session_turns 1 m front p).0

    closes : (last : List ℕ) → front ≡ ended_lines 258 [] bytes → Closes reached (begun_line 258 [] bytes) last
        → (answers_to start bytes ++ last ≡ live_text start bytes) × (missing_after start bytes ≡ None)
    closes last lines c =
        let here : reached ≡ after_bytes start bytes = reaches ∙ ap (after_lines start) lines in
        (cc (c.text_is, here, whole-text start bytes), rw (whole-missing start bytes, ← here) c.complete)

    module _ (line : List ℕ) (later : List (List ℕ)) (next_is : ended_lines 258 [] bytes ≡ front ++ line ∷ later) (before after : Device)
        (out : Appends before.taken after.taken t) where
      abbrev then : Session
      then = next reached (said_on reached.row line)

      lacks : NeedsMemory reached line → RanOutOfMemory start bytes before after
      lacks needs = let at = cut_at 258 [] bytes front line later next_is in record {
        front = at.front;
        rest = 10 ∷ at.more;
        parts = at.parts;
        out = rw (shows front t k p, ← at.before) at out;
        needs = rw (at.before, at.begun, ← reaches) needs;
      }

      rejects : (fault : LiveFault) → then.phase ≡ Err fault → IsRejected start bytes before after fault
      unfolding after_lines
      rejects fault h =
          let here = ap (after_lines start) next_is ∙ after-append start front (line ∷ later) in
          let refused : (after_bytes start bytes).phase ≡ Err fault = rw (here, ← reaches) (stays-refused then later fault h) in
          let shut = rw here at (ap is_open refused) in
          let none = shows front t k p ∙ silent start front (shut-lines (after_lines start front) (line ∷ later) shut) in
          record { refused = inl refused; out = rw none at out }

    module _ (lines : front ≡ ended_lines 258 [] bytes) (before after : Device) (ended : HasEnded before.left after.left)
        (out : Appends before.taken after.taken t) where
      whole_text : t ≡ answers_to start bytes
      whole_text = shows front t k p ∙ ap (answers start) lines

      here : reached ≡ after_bytes start bytes
      here = reaches ∙ ap (after_lines start) lines

      lacks_last : NeedsMemory reached (begun_line 258 [] bytes) → RanOutOfMemory start bytes before after
      lacks_last needs = record {
        front = bytes;
        rest = [];
        parts = sym (append-nil bytes);
        out = rw whole_text at out;
        needs = subst (λ (s : Session). NeedsMemory s (begun_line 258 [] bytes)) here needs;
      }

      rejects_last : (fault : LiveFault) → missing_at reached (begun_line 258 [] bytes) ≡ Some fault → IsRejected start bytes before after fault
      rejects_last fault h =
          let missing = rw here at h in
          let last = after_lines (after_bytes start bytes) (last_lines (begun_line 258 [] bytes)) in
          let shut = shut-lines (after_bytes start bytes) (last_lines (begun_line 258 [] bytes)) (missing-shut last.row last.phase fault missing) in
          record { refused = inr (ended, whole-missing start bytes ∙ missing); out = rw (whole_text ∙ silent start (ended_lines 258 [] bytes) shut) at out }

  -- a session that reads lines does what is due of it
  pub session_drives : Drives SessionRules 258 (session_due start) m (λ n. tt)
  session_drives = record {
    text = answers start;
    so_far = λ bytes. refl;
    parts = λ a b. (answers (after_lines start a) b, answers-append start a b);
    turns = shows;
    closes = λ bytes t last k n p. closes bytes (ended_lines 258 [] bytes) t k p last refl;
    stops_next = λ bytes front t line later k n fault before after p lines s out. elim s [
      | inl none ↦ inl (none.0, lacks bytes front t k p line later lines before after out none.1)
      | inr refused ↦ inr (rejects bytes front t k p line later lines before after out fault refused)
    ];
    stops_last = λ bytes t k n fault before after p ended s out. elim s [
      | inl none ↦ inl (none.0, lacks_last bytes (ended_lines 258 [] bytes) t k p refl before after ended out none.1)
      | inr missing ↦ inr (rejects_last bytes (ended_lines 258 [] bytes) t k p refl before after ended out fault missing)
    ];
  }

-- ==== Followers

-- what a follower writes for two lists of lines is what it writes for the first, then for the second, from the state after the first
follow_outputs-then : (shape : FollowShape) (f : FollowState) (a b : List (List ℕ))
    → follow_outputs shape f (a ++ b) ≡ follow_outputs shape f a ++ follow_outputs shape (followed f a) b
unfolding follow_outputs followed
follow_outputs-then shape f [] b = refl
follow_outputs-then shape f (line ∷ a) b = rw (follow_outputs-then shape (after_line f line) a b, append_assoc)

module _ (T : Type 0) (others : writes.Ghosts T) where
  abbrev M : Type 0
  M = Follower T

  -- the rules of a follower as a handler of lines, from what it writes for each
  abbrev pub FollowRules : LineRules M RunFault
  FollowRules = rules_of (λ m row line n text. IsHandled others m n line × (text ≡ line_output m.shape m.follow_state line))
      (λ m row line n fault. (fault ≡ OutOfMemory) × (length line ≤ 4096) × (n ≡ m))
      (λ m row begun n text. (n ≡ m) × (text ≡ []))
      (λ m row begun n fault. ⊥)

  -- what lines that were answered come to
  follow_turns : (row : ℕ) (m : M) (lines : List (List ℕ)) {text : List ℕ} {n : M} → Turns FollowRules.line row m lines text n None
      → (n.shape ≡ m.shape) × (n.follow_state ≡ followed m.follow_state lines) × (text ≡ follow_outputs m.shape m.follow_state lines)
  unfolding followed follow_outputs
  follow_turns row m [] done = (refl, refl, refl)
  follow_turns row m (line ∷ lines) (turn _ text k h p) =
      let x = follow_turns (row + 1) k lines p in
      let heard = h.0 in
      (x.0 ∙ heard.0, x.1 ∙ ap (λ (f : FollowState). followed f lines) heard.1, rw (h.1, x.2, heard.0, heard.1))

  -- a follower that reads lines does what is due of it
  pub follow_drives : (args : FollowArgs) (m : M) → m.follow_state ≡ unseen args → m.shape ≡ args.shape → Drives FollowRules 4097 (follow_due args) m (λ n. counts_of n.follow_state)
  follow_drives args m fresh same = record {
    text = follow_outputs args.shape (unseen args);
    so_far = λ bytes. refl;
    parts = λ a b. (follow_outputs args.shape (followed (unseen args) a) b, follow_outputs-then args.shape (unseen args) a b);
    turns = shows;
    closes = λ bytes t last k n p c. (
      ap (λ (l : List ℕ). follow_text args bytes ++ l) c.1 ∙ append-nil (follow_text args bytes),
      ap counts_of (ap (λ (n : M). n.follow_state) c.0 ∙ (follow_turns 1 m (ended_lines 4097 [] bytes) p).1
          ∙ ap (λ (f : FollowState). followed f (ended_lines 4097 [] bytes)) fresh),
    );
    stops_next = λ bytes front t line later k n fault before after p lines s out. let at = cut_at 4097 [] bytes front line later lines in (
      s.0,
      record { front = at.front; rest = at.more; parts = at.parts; short = rw at.begun s.1; out = rw (shows front t k p, ← at.before) at out },
    );
    stops_last = λ bytes t k n fault before after p ended s out. absurd s;
  }
    where
      shows : (lines : List (List ℕ)) (t : List ℕ) (n : M) → Turns FollowRules.line 1 m lines t n None → t ≡ follow_outputs args.shape (unseen args) lines
      shows lines t n p = rw ((follow_turns 1 m lines p).2, same, fresh) refl
