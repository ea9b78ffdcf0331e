use Rattle.ucl_word.proofs.Common.{sym, ◌∙◌}
use Rattle.ucl_word.proofs.FirstWords.{first_high, moves_to_word, word_moves, moved_from}
use Rattle.ucl_word.proofs.Words.{words_apart}
use Rattle.ucl_word.proofs.migration.unpack_first.Goals as goal

pub returns-then-not-has_no_layout_tag-clause-refused : goal.returns-then-not-has_no_layout_tag-clause-refused
returns-then-not-has_no_layout_tag-clause-refused c is = let yes = c.has_no_layout_tag.ensures.1 (first_high c.args.word is) in let no = c.if-not-has_no_layout_tag.true in cc

pub returns-in_default-clause-refused : goal.returns-in_default-clause-refused
returns-in_default-clause-refused c is = c.in_default.ensures.refused (rw c.moved.ensures (moves_to_word c.args.word is))

pub returns-then-has_room-clause-packed : goal.returns-then-has_room-clause-packed
returns-then-has_room-clause-packed c = moved_from c.args.word c.in-Ok.game (c.has_room.ensures.0 c.if-has_room.true) (c.in-Ok.ensures.packed ∙ c.moved.ensures)

pub returns-else-has_room-clause-refused : goal.returns-else-has_room-clause-refused
returns-else-has_room-clause-refused c is =
    let same = words_apart c.in-Ok.game is.of c.in-Ok.ensures.valid is.valid.valid (c.in-Ok.ensures.packed ∙ (c.moved.ensures ∙ sym (word_moves c.args.word is))) in
    let yes = c.has_room.ensures.1 (rw same is.valid.number) in
    let no = c.if-has_room.false in cc
