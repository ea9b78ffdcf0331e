use Rattle.ucl_pass.proofs.InvariantIsKept.{looks}
use Rattle.ucl_pass.proofs.cell_board.CellBoard.load.Goals as goal

pub load_as-requires : goal.load_as-requires
load_as-requires g c = record { cell = c.requires.cell; rule = looks _ _ c.requires.acts }
