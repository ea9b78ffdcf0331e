use Rattle.ucl_words.proofs.Common.{history_of, inl, inr, ◌∙◌, refl, sym, ap, subst, arith, reading_of, Reading, length, CompletesCall}
use Rattle.ucl_words.proofs.LocalStates.{tries_may, tries_on, tries_again, stays_answered, answered_shown}
use Rattle.ucl_words.proofs.Readings.{tried_none, tried_longer, tried_again, are_words, reads}
use Rattle.ucl_steps.specs.declared.step.Call.TheVariants as calls
use Rattle.ucl_steps.specs.declared.trace.Reply.TheVariants as replies
use Rattle.ucl_words.proofs.board.WordBoard.read_by.Goals as goal

pub tries-init : goal.tries-init
tries-init c = record { same = refl; place = refl; tried = tried_none c.args.seat.now.me.0 c.requires.consistent; does = inl refl }

pub collect-words-requires-clause-consistent : goal.collect-words-requires-clause-consistent
collect-words-requires-clause-consistent c = c.tries.invariant.tried.walks.consistent

pub collect-words-requires-clause-next : goal.collect-words-requires-clause-next
collect-words-requires-clause-next c = tries_may c.args.seat.now.me.0 c.tries.seat.me.0 c.requires.next c.tries.invariant.does

pub is_clean-requires-clause-consistent : goal.is_clean-requires-clause-consistent
is_clean-requires-clause-consistent c = c.collect-words.ensures.collects.walks.consistent

pub is_clean-requires-clause-next : goal.is_clean-requires-clause-next
is_clean-requires-clause-next c = c.collect-words.ensures.does.held_is

pub of_packed-requires : goal.of_packed-requires
of_packed-requires c = are_words c.tries.seat.me.0 c.collect-words.new.seat.me.0 c.is_clean.new.seat.me.0 c.collect-words.result c.collect-words.ensures.long
    c.collect-words.ensures.collects c.if-is_clean.ensures.compared

pub tries-smaller : goal.tries-smaller
tries-smaller c = search (
  arith,
  tried_longer c.tries.seat.me.0 c.collect-words.new.seat.me.0 c.is_clean.new.seat.me.0 c.collect-words.result c.collect-words.ensures.collects c.if-is_clean.ensures.compared,
)

pub tries-preserved : goal.tries-preserved
tries-preserved c =
    let v = c.args.seat.now.me.0 in
    let x = c.tries.seat.me.0 in
    let u = c.collect-words.new.seat.me.0 in
    let w = c.is_clean.new.seat.me.0 in
    let collected = c.collect-words.ensures in
    let was = c.tries.invariant in
    record {
      same = c.is_clean.ensures.own ∙ (collected.own ∙ was.same);
      place = c.is_clean.ensures.seat ∙ (collected.seat ∙ was.place);
      tried = tried_again x u w c.collect-words.result collected.collects c.if-is_clean.ensures.compared v was.tried;
      does = inr (tries_again v u w c.collect-words.result (length (history_of u.log)) (tries_on v x c.requires.next _ u was.does collected.does) c.if-is_clean.ensures.does);
    }

pub returns-then-is_clean-clause-consistent : goal.returns-then-is_clean-clause-consistent
returns-then-is_clean-clause-consistent c = c.if-is_clean.ensures.compared.walks.consistent

-- the reading that a clean try ends says what it should
pub returns-then-is_clean-clause-read : goal.returns-then-is_clean-clause-read
returns-then-is_clean-clause-read c =
    let v = c.args.seat.now.me.0 in
    let x = c.tries.seat.me.0 in
    let u = c.collect-words.new.seat.me.0 in
    let w = c.is_clean.new.seat.me.0 in
    let collected = c.collect-words.ensures in
    let was = c.tries.invariant in
    let is = c.of.ensures ∙ ap reading_of c.of_packed.ensures in
    let number = collected.collects.walks.number ∙ was.tried.walks.number in
    let answers = stays_answered v u w _ calls.Reading _ c.requires.next number (tries_on v x c.requires.next _ u was.does collected.does) c.if-is_clean.ensures.does in
    let shown = answered_shown v w calls.Reading _ answers.answers (c.if-is_clean.ensures.compared.walks.number ∙ number) in
    let all = reads x u w c.collect-words.result collected.long collected.collects c.if-is_clean.ensures.compared
    v c.requires.consistent was.tried c.of.result is shown in
    record {
      own = c.is_clean.ensures.own ∙ (collected.own ∙ was.same);
      seat = c.is_clean.ensures.seat ∙ (collected.seat ∙ was.place);
      says = record { always = all.always; reading = all.shared };
      steps = all.steps;
      answers = subst (λ (r : Reading). CompletesCall v calls.Reading (replies.Copied r) w) (sym is) answers;
      least = all.least;
      most = all.most;
      occurs = search (arith, c.if-is_clean.ensures.occurs);
    }
