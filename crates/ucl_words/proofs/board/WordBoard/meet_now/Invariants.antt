use Rattle.ucl_live_board.specs.Steps.{no_call}
use Rattle.ucl_words.proofs.board.WordBoard.meet_now.Given as goal

abbrev pub ghosts-count : goal.ghosts-count
ghosts-count a = record { call = no_call; seat = a.seat.now.id }
