use Rattle.ucl_steps.proofs.Common.{List, ap, ◌∙◌, Answered, with_held, with_reply, state_of, CallRecord}
use Rattle.ucl_steps.proofs.Reachable.{set-change_at}
use Rattle.ucl_steps.proofs.machine.Machine.reply.Goals as goal

pub returns : goal.returns
returns c =
    c.hold.ensures ∙ ap (λ (cs : List CallRecord). with_held (Answered c.args.call) c.args.caller (record (state_of c.args.self.now) { calls = cs }))
    (set-change_at c.args.self.now.calls.items c.args.call c.index-record.result.now (with_reply c.args.point c.args.reply) c.requires.call c.index-record.ensures)
