use Rattle.ucl_pass.proofs.Common.{rules, sym, ap, ◌∙◌, subst, cell_view, Merges, View, told_pass, new_pass, CellInvariant, LooksOnly, arith, cell_pass_of}
use Rattle.ucl_pass.proofs.Common.{length}
use Rattle.ucl_pass.specs.CellRecords.{CellMet, CellPass, IsCellPassOf}
use Rattle.ucl_pass.proofs.InvariantIsKept.{notes, joins}
use Rattle.ucl_pass.proofs.CallsBySteps.{met_own, was_met}
use Rattle.ucl_pass.proofs.cell_board.CellBoardLiveBoard.meet.Goals as goal

pub split_pass-note-requires : goal.split_pass-note-requires
split_pass-note-requires g c = record { cell = search rules; rule = notes _ _ }

pub join_pass-requires : goal.join_pass-requires
join_pass-requires g c =
    let seat = c.second.inside.seat in
    let v = cell_view seat in
    let note = c.split_pass-note.result in
    let joined = subst (λ (n : View). Merges CellInvariant seat.id v note.id n (told_pass v n) new_pass)
    (sym c.split_pass-note.ensures.given) (joins _ _ _ (cell_view c.first.inside.seat)) in
    record { cell = search rules; same = search rules; idle = search rules; rule = joined }

-- the passes before and after
met : (g : _) (c : goal.After-load g)
    → CellMet (cell_pass_of c.first.inside.seat) (cell_pass_of c.split_pass-note.new.seat) (cell_pass_of c.second.inside.seat) (cell_pass_of c.load.new.seat)
met g c =
    let v = cell_view c.second.inside.seat in
    let note = c.split_pass-note.ensures in
    let told = c.join_pass.ensures in
    let n = c.load.result in
    let looked = subst (λ (u : View). LooksOnly u n n (cell_view c.load.new.seat)) (told.joined ∙ ap (told_pass v) note.given) c.load.ensures.looks in
    was_met (cell_pass_of c.first.inside.seat) (cell_pass_of c.split_pass-note.new.seat) (cell_pass_of c.second.inside.seat) (cell_pass_of c.load.new.seat) n
    (λ i. record { board = note.own.0 i; view = note.kept i }) (c.load.ensures.own ∙ told.own) c.first.invariant.0 looked

pub invariant_of-second : goal.invariant_of-second
invariant_of-second g c =
    let all = met g c in
    (all.says.always.sound, all.says.always.number ∙ c.second.invariant.1, ap length all.says.meeting.mine ∙ c.second.invariant.2)

pub returns-clause-met : goal.returns-clause-met
returns-clause-met g c = let all = met g c in search (arith, rules, all)

pub returns-clause-own : goal.returns-clause-own
returns-clause-own g c =
    let board = c.args.self.now in
    let first = subst (λ (p : CellPass). IsCellPassOf board p) (sym c.first.view_is) c.requires.0 in
    let second = subst (λ (p : CellPass). IsCellPassOf board p) (sym c.second.view_is) c.requires.1 in
    let own = met_own board _ _ _ _ (met g c) (first, second) in
    search (arith, rules, own)
