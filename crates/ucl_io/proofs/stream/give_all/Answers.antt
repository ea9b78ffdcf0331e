use Rattle.std.proofs.Common.{◌+◌, ◌<◌, ◌≤◌, ◌∙◌, ℕ, length, arith, length-drop}
use Rattle.std.proofs.lemmas.List.{length-take}
use Rattle.ucl_io.proofs.Puts.{gives-more, same_failed}
use Rattle.ucl_io.proofs.stream.give_all.Goals as goal

pub loop-at-preserved : goal.loop-at-preserved
loop-at-preserved g c =
    let fits = c.in-Some.ensures.fits in
    let within : c.loop-at.at + c.in-Some.n ≤ length c.args.text.now = grind (arith, fits, length-take {A = ℕ}, length-drop {A = ℕ}) in
    let more : 0 < c.in-Some.n = let some = c.in-Some.ensures.some in grind (arith, some, length-take {A = ℕ}, length-drop {A = ℕ}) in
    let counts = c.in-Some.ensures.counts in
    let before = c.loop-at.invariant.each_call in
    record {
      within = within;
      moved = gives-more _ _ _ c.loop-at.at c.in-Some.n c.args.text.now within c.loop-at.invariant.moved c.in-Some.ensures.moves;
      sound = same_failed _ _ c.in-Some.ensures.fails.1 (λ e. c.in-Some.ensures.fails.1 (c.in-Some.ensures.stays e)) ∙ c.loop-at.invariant.sound;
      each_call = omega (arith, more, counts, before);
    }
