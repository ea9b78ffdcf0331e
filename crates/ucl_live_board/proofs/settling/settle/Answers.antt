use Rattle.std.proofs.Common.{List, ◌∷◌, ◌++◌, ℕ, ap, ◌∙◌, arith, rules, []}
use Rattle.ucl_live_board.proofs.Lists.{unchanged, through, settled, alone, of_both, strangers, differ, one_number}
use Rattle.ucl_live_board.proofs.settling.settle.Goals as goal
use Rattle.ucl_live_board.proofs.settling.settle.Goals.{else-ne-via-then-ne+else-from-accepted, else-ne-via-else-ne}

-- the two numbers differ, and the version is the sum of their accepted events: settling answers the reading
pub returns-then-from-accepted-clause-says : goal.returns-then-from-accepted-clause-says
returns-then-from-accepted-clause-says g c =
    let k = g.B.LiveBoard.reporter in
    let m = c.meet.ensures.says in
    let r = c.read_own-reading.ensures.says in
    let other = differ c.number_of.result c.number_of-2.result c.ne.result c.ne.ensures c.if-ne.true in
    record {
      always = search (arith, unchanged, through);
      unchanged = m.unchanged;
      shown = r.reading.shown ∙ ap (λ (shown : List ℕ). shown ++ c.read_own-reading.result.version ∷ []) m.meeting.shown;
      settled = search (arith, settled);
      exactly = search (arith, alone, differ);
      strangers = search rules;
      reading = search rules;
      of_both = of_both (k c.args.first.now) (k c.args.second.now) (k c.meet.new.first) (k c.meet.new.second) (k c.read_own-reading.new.pass)
          c.read_own-reading.result m.unchanged m.meeting m.always r.always r.reading m.sound c.number_of.result c.number_of-2.result
          c.accepted_of.result c.accepted_of-2.result
          c.number_of.ensures c.number_of-2.ensures c.accepted_of.ensures c.accepted_of-2.ensures other
          (let f1 = c.from.ensures in let f2 = c.from-2.ensures in let f3 = c.from-then-ne.ensures in
          let t = c.if-from-accepted.true in omega arith);
    }

pub returns-else-ne-clause-says : goal.returns-else-ne-clause-says
returns-else-ne-clause-says g c =
    let m = c.meet.ensures.says in
    let r = c.read_own-reading.ensures.says in
    record {
      always = search (arith, unchanged, through);
      unchanged = m.unchanged;
      shown = r.reading.shown ∙ ap (λ (shown : List ℕ). shown ++ c.read_own-reading.result.version ∷ []) m.meeting.shown;
      settled = search (arith, settled);
      exactly = search (arith, alone, differ);
      strangers = λ ne. search (arith, else-ne-via-then-ne+else-from-accepted, else-ne-via-else-ne, one_number, strangers);
      reading = search rules;
      of_both = search rules;
    }
