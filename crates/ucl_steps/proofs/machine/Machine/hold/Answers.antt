use Rattle.ucl_steps.proofs.Common.{ℕ, ◌-◌, map, ap, ◌∙◌, holds_of}
use Rattle.ucl_steps.proofs.Reachable.{hold_reporter, hold_reader}
use Rattle.ucl_steps.proofs.machine.Machine.hold.Goals as goal

pub returns-in-Reporter : goal.returns-in-Reporter
returns-in-Reporter c = let v = c.get.ensures.value in
    hold_reporter c.args.self.now.words c.args.self.now.history.items c.args.self.now.calls.items c.args.self.now.reporters.items (map holds_of c.args.self.now.readers.items) c.args.caller
    c.in-Reporter.reporter c.from.result c.args.next c.in-Reporter.is
    (c.from.ensures ∙ ap (λ (n : ℕ). n - 1) v)

pub returns-in-Reader : goal.returns-in-Reader
returns-in-Reader c =
    hold_reader c.args.self.now.words c.args.self.now.history.items c.args.self.now.calls.items c.args.self.now.readers.items (map holds_of c.args.self.now.reporters.items) c.args.caller
    c.in-Reader.reader c.from-in-Reader.result c.args.next c.in-Reader.is
    c.from-in-Reader.ensures
