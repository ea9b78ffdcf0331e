use Rattle.ucl_steps.proofs.Common.{ℕ, arith, map, ap, ◌∙◌, replicate, holds_of}
use Rattle.ucl_steps.specs.declared.machine.Held.TheVariants as has
use Rattle.ucl_steps.proofs.Reachable.{idle_all, start_is}
use Rattle.ucl_steps.proofs.machine.Machine.new.Goals as goal

pub returns : goal.returns
returns c =
    let a = ap (map holds_of) (c.in_ok-reporters.ensures.items_if_clones_equal (λ y e. e) ∙ ap (λ (n : ℕ). replicate n has.Idle) c.from.ensures) ∙ idle_all c.args.cast.now.reporters in
    let b = ap (map holds_of) (c.in_ok-readers.ensures.items_if_clones_equal (λ y e. e) ∙ ap (λ (n : ℕ). replicate n has.Idle) c.from-2.ensures) ∙ idle_all c.args.cast.now.readers in
    search (arith, start_is, a, b, c.words.ensures.words, c.fresh.ensures, c.new.ensures.items, c.new-2.ensures.items)
