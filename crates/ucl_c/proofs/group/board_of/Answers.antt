use Rattle.std.proofs.Common.{arith}
use Rattle.std.proofs.lemmas.Grind.{common_steps}
use Rattle.ucl_c.proofs.Boards.{board-read, words-bad}
use Rattle.ucl_c.proofs.group.board_of.Goals as goal

pub returns-clause-board : goal.returns-clause-board
returns-clause-board c =
    let all = board-read c.args.words.now c.copy_from_slice.new.self c.in_ok-of_words.field-0 (omega arith) c.copy_from_slice.ensures.after c.in_ok-of_words.ensures.board in
    (all.0, all.1)

pub returns-clause-valid : goal.returns-clause-valid
returns-clause-valid c =
    (board-read c.args.words.now c.copy_from_slice.new.self c.in_ok-of_words.field-0 (omega arith) c.copy_from_slice.ensures.after c.in_ok-of_words.ensures.board).2

pub returns-in_err-of_words-clause-refused : goal.returns-in_err-of_words-clause-refused
returns-in_err-of_words-clause-refused c =
    let bad = words-bad c.args.words.now c.copy_from_slice.new.self c.in_err-of_words.field-0.0.index (omega arith) c.copy_from_slice.ensures.after c.in_err-of_words.ensures.refused in
    grind (arith, common_steps, bad)
