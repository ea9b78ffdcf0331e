use Rattle.ucl_pass.proofs.Common.{sym, subst, cell_view, EventCall, IsNextBoard, MayStore, StoresEvent, entry_at}
use Rattle.ucl_pass.proofs.InvariantIsKept.{adds, add_says}
use Rattle.ucl_pass.specs.CellSteps.{Answers}
use Rattle.ucl_pass.proofs.cell_board.CellBoard.store_event.Goals as goal

pub compare_exchange_as-requires : goal.compare_exchange_as-requires
compare_exchange_as-requires g c =
    let next = subst (λ (e : EventCall). IsNextBoard (entry_at (cell_view c.args.seat.now) e) c.args.current c.args.next) (sym c.requires.asks) c.requires.next in
    record { cell = c.requires.cell; rule = adds _ _ g.K.Asking.call c.args.current c.args.next c.requires.acts next }

pub returns-clause-stored : goal.returns-clause-stored
returns-clause-stored g c =
    let v = cell_view c.args.seat.now in
    let w = cell_view c.compare_exchange_as.new.seat in
    add_says c.args.call.now v w c.args.current c.args.next c.compare_exchange_as.result c.requires.next
    (subst (λ (e : EventCall). Answers (MayStore (StoresEvent e)) v c.args.current c.args.next c.compare_exchange_as.result w) c.requires.asks c.compare_exchange_as.ensures.step)
