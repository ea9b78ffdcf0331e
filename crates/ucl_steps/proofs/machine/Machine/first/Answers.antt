use Rattle.ucl_steps.proofs.Common.{◌≡◌, Some, length, arith, sym, ap, ◌∙◌, get_or, rules, First, state_of, holds_of}
use Rattle.ucl_steps.specs.declared.machine.Held.TheVariants as has
use Rattle.ucl_steps.proofs.Reachable.{first_last, first_more, loaded_few, holds, step_is}
use Rattle.ucl_steps.proofs.machine.Machine.first.Goals.{then-loaded-eq11, else-loaded-eq11}
use Rattle.ucl_steps.proofs.machine.Machine.first.Goals as goal

pub offset_bounds-self-loaded : goal.offset_bounds-self-loaded
offset_bounds-self-loaded c = search (arith, rules, loaded_few (state_of c.args.self.now) c.requires c.args.caller c.held-held.result c.held-held.ensures)

pub bounds-self-loaded : goal.bounds-self-loaded
bounds-self-loaded c = search (arith, rules, loaded_few (state_of c.args.self.now) c.requires c.args.caller c.held-held.result c.held-held.ensures)

pub offset_bounds-words-loaded : goal.offset_bounds-words-loaded
offset_bounds-words-loaded c = search (arith, rules, loaded_few (state_of c.args.self.now) c.requires c.args.caller c.held-held.result c.held-held.ensures)

pub bounds-words-loaded : goal.bounds-words-loaded
bounds-words-loaded c = search (arith, rules, loaded_few (state_of c.args.self.now) c.requires c.args.caller c.held-held.result c.held-held.ensures)

pub overflow_add-next : goal.overflow_add-next
overflow_add-next c = search (arith, rules, loaded_few (state_of c.args.self.now) c.requires c.args.caller c.held-held.result c.held-held.ensures)

pub returns : goal.returns
returns c =
    let at = c.in-Some-Collecting in
    let w = state_of c.args.self.now in
    let is : c.held-held.result ≡ Some (has.Collecting at.call at.words at.loaded) = search rules in
    let twelve : length at.words ≡ 12 = search rules in
    let few = loaded_few w c.requires c.args.caller c.held-held.result c.held-held.ensures at.call at.words at.loaded is twelve in
    let held = holds w c.requires c.args.caller c.held-held.result c.held-held.ensures (has.Collecting at.call at.words at.loaded) is in
    step_is (First c.args.caller) w (state_of c.hold.new.self) (holds_of (has.Collecting at.call at.words at.loaded)) held
    (ap Some (sym (c.hold.ensures ∙ elim c.if-loaded-eq11.branch [
      | then-loaded-eq11 b ↦ search (arith, get_or c.args.self.now.words at.loaded 0, first_last w c.args.caller at.call at.words at.loaded twelve few b.if-loaded-eq11.true)
      | else-loaded-eq11 b ↦ search (arith, first_more w c.args.caller at.call at.words at.loaded twelve few b.if-loaded-eq11.false)
    ])))
