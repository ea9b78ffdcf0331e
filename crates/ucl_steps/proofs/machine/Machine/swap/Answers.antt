use Rattle.ucl_steps.proofs.Common.{◌≡◌, Some, length, refl, sym, ap, ◌∙◌, rules, record_at, word_at, Accepted, after_reply, stored, state_of}
use Rattle.ucl_steps.specs.declared.machine.Held.TheVariants as has
use Rattle.ucl_steps.proofs.Reachable.{call_below, won_step}
use Rattle.ucl_steps.proofs.machine.Machine.swap.Goals as goal

pub reply-requires-clause-call : goal.reply-requires-clause-call
reply-requires-clause-call c = call_below (state_of c.args.self.now) c.requires c.args.caller c.held-held.result c.held-held.ensures
    (has.Holding c.in-Some-Holding.call c.in-Some-Holding.event c.in-Some-Holding.old c.in-Some-Holding.new) c.in-Some-Holding.call (search rules) refl

pub reply-requires-else-self-at-clause-call : goal.reply-requires-else-self-at-clause-call
reply-requires-else-self-at-clause-call c =
    call_below (state_of c.args.self.now) c.requires c.args.caller c.held-held.result c.held-held.ensures
    (has.Holding c.in-Some-Holding.call c.in-Some-Holding.event c.in-Some-Holding.old c.in-Some-Holding.new) c.in-Some-Holding.call (search rules) refl

pub returns-in_ok-push : goal.returns-in_ok-push
returns-in_ok-push c =
    let at = c.in-Some-Holding in
    let w = state_of c.args.self.now in
    let is : c.held-held.result ≡ Some (has.Holding at.call at.event at.old at.new) = search rules in
    let same : word_at w.words at.event.game ≡ at.old = search rules in
    let reply = Accepted (record { number = (record_at at.new).number }) in
    let left : state_of c.reply.new.self ≡ after_reply c.args.caller at.call (length w.history) reply (stored c.in-Reporter.reporter at.event at.new w) = search rules in
    won_step w c.requires c.args.caller c.held-held.result c.held-held.ensures c.in-Reporter.reporter at.call at.event at.old at.new c.in-Reporter.is is same ∙ ap Some (sym left)
