use Rattle.ucl_pass.proofs.Common.{ap, ◌∙◌, cell_view, reading_of}
use Rattle.ucl_pass.proofs.InvariantIsKept.{reads}
use Rattle.ucl_pass.proofs.CallsBySteps.{are_words, was_read}
use Rattle.ucl_pass.proofs.cell_board.CellBoard.read_by.Goals as goal

pub load_as-words-requires : goal.load_as-words-requires
load_as-words-requires g c = record { cell = c.requires.cell; rule = reads _ _ c.requires.acts }

pub board_at-requires : goal.board_at-requires
board_at-requires g c = are_words _ _ (cell_view c.args.seat.now) (cell_view c.load_as-words.new.seat) _ _ c.load_as-words.ensures.step

pub returns : goal.returns
returns g c = was_read (cell_view c.args.seat.now) (cell_view c.load_as-words.new.seat) _ c.of.result c.load_as-words.ensures.step (c.of.ensures ∙ ap reading_of c.board_at.ensures) _ _
    c.load_as-words.ensures.own
