use Rattle.ucl_live_board.specs.Steps.{no_call}
use Rattle.ucl_words.proofs.board.WordBoard.report_now.Given as goal

abbrev pub ghosts-look : goal.ghosts-look
ghosts-look a = record { call = a.call.now; seat = a.seat.now.id }

abbrev pub ghosts-swap : goal.ghosts-swap
ghosts-swap a = record { call = no_call; seat = a.seat.now.id }
