use Rattle.ucl_word.proofs.Common.{IsReporter, None, after, arith, record_at, refusal_of, ◌∙◌, ◌≡◌}
use Rattle.ucl_word.proofs.ChangedWords.{Entered, entered}
use Rattle.ucl_word.proofs.rules.next_word.Goals.{After-from}
use Rattle.ucl_word.proofs.rules.next_word.Goals as goal

-- the number of the reporter is from 1 to 255
by : (c : After-from) → IsReporter c.args.reporter
by c = rw (← c.get.ensures.value) c.get.ensures.within

-- once the code has refused the event neither for its number and state nor for its change, no rule refuses it
none : (c : After-from) → refusal_of (record_at c.args.word) c.args.expected c.args.kind ≡ None
none c = c.in_ok-in_turn.ensures.1 ∙ c.in_ok-changed.ensures.0

-- the record after the event is valid, and its word is the changed word with one event more, and the new reporter in place of the one there
next : (c : After-from) → Entered c.in_ok-changed.changed c.field.result c.args.reporter (after (record_at c.args.word) c.args.reporter c.args.kind)
next c = entered c.args.word c.requires c.args.kind c.args.reporter c.args.expected c.in_ok-changed.changed c.field.result (by c) (none c) c.in_ok-changed.ensures.1 c.field.ensures.value

pub overflow_add-result : goal.overflow_add-result
overflow_add-result c = let n = next c in let r = c.get.ensures.within in omega arith

pub overflow_sub-result : goal.overflow_sub-result
overflow_sub-result c = let n = next c in let r = c.field.ensures.below in omega arith

pub overflow_add-result-2 : goal.overflow_add-result-2
overflow_add-result-2 c = let n = next c in let r = c.field.ensures.below in omega arith

pub returns-clause-accepted : goal.returns-clause-accepted
returns-clause-accepted c = let n = next c in let r = c.field.ensures.below in (none c, omega arith)

pub returns-clause-valid : goal.returns-clause-valid
returns-clause-valid c = (next c).valid
