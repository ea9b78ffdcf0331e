use Rattle.std.proofs.Common.{◌∙◌, ◌≡◌, ◌<◌, ◌≤◌, ◌+◌, ◌++◌, ◌∷◌, [], ap, arith, length, refl, sym, take}
use Rattle.std.proofs.lemmas.Grind.{take-set_at}
use Rattle.std.proofs.lemmas.List.{take_all}
use Rattle.ucl_screen.proofs.EventsInTurn.{entered-all, entered-one, version-bound}
use Rattle.ucl_c.specs.declared.script.ReplyOfC.{ReplyOfC}
use Rattle.ucl_c.proofs.script.play.Goals as goal

pub reply_to-reply-requires : goal.reply_to-reply-requires
reply_to-reply-requires c = let so_far = c.loop-i.invariant.so_far in version-bound so_far.history _ _ so_far.board_is

pub loop-i-preserved : goal.loop-i-preserved
loop-i-preserved c =
    let i = c.loop-i.i in
    let replies = c.loop-i.replies in
    let so_far = c.loop-i.invariant.so_far in
    let made = c.reply_to-reply.ensures in
    let within : i < length replies = omega arith in record {
      row_is = omega arith;
      so_far = entered-one _ c.args.events.now i c.loop-i.row _ _ _ so_far c.index-events-i.result _ _ _ c.loop-i-test.true c.index-events-i.is
          (made.after so_far.history so_far.board_is)
          (take-set_at replies i (i + 1) c.reply_to-reply.result refl within ∙ ap (λ (reply : ReplyOfC). take i replies ++ reply ∷ []) (made.reply so_far.history so_far.board_is));
    }

pub returns-clause-replies : goal.returns-clause-replies
returns-clause-replies c =
    let past : length c.loop-i.replies ≤ c.loop-i.i = omega arith in
    sym (take_all c.loop-i.i c.loop-i.replies past) ∙ (entered-all _ c.args.events.now c.loop-i.i c.loop-i.row _ _ _ c.loop-i.invariant.so_far c.loop-i-test.false).0

pub returns-clause-after : goal.returns-clause-after
returns-clause-after c = (entered-all _ c.args.events.now c.loop-i.i c.loop-i.row _ _ _ c.loop-i.invariant.so_far c.loop-i-test.false).1
