use Rattle.std.proofs.Common.{◌≡◌, [], sym, ap, ◌∙◌, subst}
use Rattle.ucl_word.specs.Record.{scheduled, IsValid}
use Rattle.ucl_word.specs.Layout.{word_of}
use Rattle.ucl_word.proofs.Sequences.{may_none}
use Rattle.ucl_word.proofs.ValidRecords.{default_is, scheduled_valid}
use Rattle.ucl_board.specs.History.{MayFollow}
use Rattle.ucl_board.proofs.HistoryTheorems.{board_none, board_words}
use Rattle.ucl_board.proofs.board.Board.fresh.Goals as goal
use Rattle.ucl_board.proofs.board.Board.fresh.Goals.{After-pack-scheduled}

pub pack-scheduled-requires : goal.pack-scheduled-requires
pack-scheduled-requires c = subst IsValid (sym (default_is c.default.result c.default.ensures)) scheduled_valid

-- the word that the code packs for a fresh match is that of a match that has not kicked off
word : (c : After-pack-scheduled) → c.pack-scheduled.result ≡ word_of scheduled
word c = c.pack-scheduled.ensures ∙ ap word_of (default_is c.default.result c.default.ensures)

pub invariant_of-result : goal.invariant_of-result
invariant_of-result c = rw (word c, board_none) (board_words [] (may_none MayFollow))

pub returns : goal.returns
returns c = rw (word c) board_none
