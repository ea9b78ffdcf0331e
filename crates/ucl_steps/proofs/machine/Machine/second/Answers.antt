use Rattle.ucl_steps.proofs.Common.{refl, arith, rules, state_of}
use Rattle.ucl_steps.specs.declared.machine.Held.TheVariants as has
use Rattle.ucl_steps.proofs.Reachable.{call_below, checked_few, collected_words, clean_step}
use Rattle.ucl_steps.proofs.machine.Machine.second.Goals as goal

pub offset_bounds-self-checked : goal.offset_bounds-self-checked
offset_bounds-self-checked c = search (arith, rules, checked_few (state_of c.args.self.now) c.requires c.args.caller c.held-held.result c.held-held.ensures)

pub bounds-self-checked : goal.bounds-self-checked
bounds-self-checked c = search (arith, rules, checked_few (state_of c.args.self.now) c.requires c.args.caller c.held-held.result c.held-held.ensures)

pub offset_bounds-words-checked : goal.offset_bounds-words-checked
offset_bounds-words-checked c = search (arith, rules, checked_few (state_of c.args.self.now) c.requires c.args.caller c.held-held.result c.held-held.ensures)

pub bounds-words-checked : goal.bounds-words-checked
bounds-words-checked c = search (arith, rules, checked_few (state_of c.args.self.now) c.requires c.args.caller c.held-held.result c.held-held.ensures)

pub reply-requires-clause-call : goal.reply-requires-clause-call
reply-requires-clause-call c = call_below (state_of c.args.self.now) c.requires c.args.caller c.held-held.result c.held-held.ensures
    (has.Checking c.in-Some-Checking.call c.in-Some-Checking.words c.in-Some-Checking.checked c.in-Some-Checking.point) c.in-Some-Checking.call (search rules) refl

pub overflow_add-next : goal.overflow_add-next
overflow_add-next c = search (arith, rules, checked_few (state_of c.args.self.now) c.requires c.args.caller c.held-held.result c.held-held.ensures)

pub of_packed-requires : goal.of_packed-requires
of_packed-requires c = search (arith, rules, collected_words (state_of c.args.self.now) c.requires c.args.caller c.held-held.result c.held-held.ensures)

pub returns-then-checked-eq11 : goal.returns-then-checked-eq11
returns-then-checked-eq11 c = search (arith, rules, clean_step)
