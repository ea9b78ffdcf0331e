use Rattle.ucl_pass.proofs.Common.{◌≡◌, refl, sym, subst, arith, rules, cell_view, cell_pass_of, View, IsSound, cell_pass_view, sound_second, sound_left, number_of, versions_loaded}
use Rattle.ucl_pass.specs.CellRecords.{CellPass, IsCellPassOf}
use Rattle.ucl_pass.proofs.InvariantIsKept.{seconds}
use Rattle.ucl_pass.proofs.CallsBySteps.{split_own, was_split}
use Rattle.ucl_pass.proofs.cell_board.CellBoardLiveBoard.split.Goals as goal

-- a sound pass of a reader
abbrev IsReader : View → Type 0
IsReader v = IsSound (cell_pass_view v) × (number_of v.own ≡ 0)

pub split_pass-seat-requires : goal.split_pass-seat-requires
split_pass-seat-requires g c = record { cell = search rules; rule = seconds _ _ }

pub invariant_of-result : goal.invariant_of-result
invariant_of-result g c = subst IsReader (sym c.split_pass-seat.ensures.given) (sound_second versions_loaded (cell_view c.pass.inside.seat) c.pass.invariant.0, refl)

pub invariant_of-pass : goal.invariant_of-pass
invariant_of-pass g c = subst IsReader (sym c.split_pass-seat.ensures.kept) (sound_left versions_loaded (cell_view c.pass.inside.seat) c.pass.invariant.0, c.pass.invariant.1)

pub returns-clause-split : goal.returns-clause-split
returns-clause-split g c =
    let said = c.split_pass-seat.ensures in
    let all = was_split (cell_pass_of c.pass.inside.seat) (cell_pass_of c.split_pass-seat.new.seat) (cell_pass_of c.split_pass-seat.result)
    c.pass.invariant.0 said.own.0 said.own.1 said.kept said.given in
    search (arith, rules, all)

pub returns-clause-own : goal.returns-clause-own
returns-clause-own g c =
    let said = c.split_pass-seat.ensures in
    let all = was_split (cell_pass_of c.pass.inside.seat) (cell_pass_of c.split_pass-seat.new.seat) (cell_pass_of c.split_pass-seat.result)
    c.pass.invariant.0 said.own.0 said.own.1 said.kept said.given in
    let board = c.args.self.now in
    let own = split_own board _ _ _ all (subst (λ (p : CellPass). IsCellPassOf board p) (sym c.pass.view_is) c.requires) in
    search (arith, rules, own)
