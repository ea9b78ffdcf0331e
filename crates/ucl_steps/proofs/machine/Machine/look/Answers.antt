use Rattle.ucl_steps.proofs.Common.{◌≡◌, ℕ, Some, ◌-◌, refl, sym, ap, ◌∙◌, subst, get_or, rules, IsWord, state_of}
use Rattle.ucl_steps.specs.declared.machine.Held.TheVariants as has
use Rattle.ucl_steps.proofs.Reachable.{call_below, wanted_word}
use Rattle.ucl_steps.proofs.machine.Machine.look.Goals as goal

pub next_word-requires : goal.next_word-requires
next_word-requires c =
    let is : c.held-held.result ≡ Some (has.Wanting c.in-Some-Wanting.call c.in-Some-Wanting.event) = search rules in
    subst (λ (n : ℕ). IsWord (get_or c.args.self.now.words n 0)) (sym (c.from.ensures ∙ ap (λ (n : ℕ). n - 1) c.get.ensures.value))
    (wanted_word (state_of c.args.self.now) c.requires c.args.caller c.held-held.result c.held-held.ensures c.in-Some-Wanting.call c.in-Some-Wanting.event is)

pub reply-requires-clause-call : goal.reply-requires-clause-call
reply-requires-clause-call c = call_below (state_of c.args.self.now) c.requires c.args.caller c.held-held.result c.held-held.ensures
    (has.Wanting c.in-Some-Wanting.call c.in-Some-Wanting.event) c.in-Some-Wanting.call (search rules) refl
