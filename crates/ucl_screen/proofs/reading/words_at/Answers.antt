use Rattle.ucl_screen.proofs.Common.{Ok, arith, left, length, length-set, refl, suc, sym, take, take-set_at, take_all, words_from, zero}
use Rattle.ucl_screen.proofs.Common.{◌+◌, ◌-◌, ◌<◌, ◌∙◌, ◌≡◌}
use Rattle.ucl_screen.specs.PlainRows.{fields_of_four}
use Rattle.ucl_screen.specs.Rows.{four_seen}
use Rattle.ucl_screen.specs.RowsAhead.{rows_ahead}
use Rattle.ucl_screen.proofs.RowFacts.{word-bad, word-missing, word-more, word-over, words-done}
use Rattle.ucl_screen.proofs.reading.words_at.Goals as goal

pub returns-in_default-clause-gives : goal.returns-in_default-clause-gives
returns-in_default-clause-gives c =
    let next = rw c.in_default.is at c.in_ok-row.ensures.reads in
    let left : 13 - c.games.game ≡ suc (12 - c.games.game) = omega arith in
    let missing = word-missing (take (c.games.game - 1) c.games.words) (13 - c.games.game) (12 - c.games.game) c.games.game left in
    rw c.from.ensures (sym c.games.invariant.so_far ∙ rw next missing)

pub returns-in_default-row-clause-gives : goal.returns-in_default-row-clause-gives
returns-in_default-row-clause-gives c =
    let next = rw (c.in-Some.is, c.in_default-row.is) at c.in_ok-row.ensures.reads in
    let left : 13 - c.games.game ≡ suc (12 - c.games.game) = omega arith in
    let bad =
    word-bad (take (c.games.game - 1) c.games.words) (13 - c.games.game) (12 - c.games.game) c.games.game
    next.0 (rows_ahead c.next.new.self) left (rw next.2 refl) in
    rw c.from.ensures (sym c.games.invariant.so_far ∙ rw next.1 bad)

pub returns-in-None-clause-gives : goal.returns-in-None-clause-gives
returns-in-None-clause-gives c =
    let next = rw (c.in-Some.is, c.in-Four.is) at c.in_ok-row.ensures.reads in
    let row = fields_of_four (four_seen c.in-Four.fields) in
    let left : 13 - c.games.game ≡ suc (12 - c.games.game) = omega arith in
    let bad =
    word-bad (take (c.games.game - 1) c.games.words) (13 - c.games.game) (12 - c.games.game) c.games.game
    row (rows_ahead c.next.new.self) left (sym c.in-None.ensures) in
    rw c.from.ensures (sym c.games.invariant.so_far ∙ rw next bad)

pub games-preserved : goal.games-preserved
games-preserved c =
    let next = rw (c.in-Some.is, c.in-Four.is) at c.in_ok-row.ensures.reads in
    let row = fields_of_four (four_seen c.in-Four.fields) in
    let word = c.in-Some-word_of_fields in
    let left : 13 - c.games.game ≡ suc (12 - c.games.game) = omega arith in
    let rest : 13 - (c.games.game + 1) ≡ 12 - c.games.game = omega arith in
    let place : c.games.game - 1 < length c.games.words = let n = c.games.invariant.twelve in omega arith in
    let written = take-set_at c.games.words (c.games.game - 1) (c.games.game + 1 - 1) word.word (omega arith) place in
    let more =
    word-more (take (c.games.game - 1) c.games.words) (13 - c.games.game) (12 - c.games.game) c.games.game
    row (rows_ahead c.next.new.self) word.word left (sym word.ensures) in
    record {
      open_rows = (rw c.in-Some.is at c.in_ok-row.ensures.open) refl;
      twelve = length-set c.games.words c.from-in-Some-word_of_fields.result word.word ∙ c.games.invariant.twelve;
      so_far = rw c.from-in-Some-word_of_fields.ensures (rw (written, rest) (more ∙ rw (← next) c.games.invariant.so_far));
    }

pub returns-in-Some-2-clause-gives : goal.returns-in-Some-2-clause-gives
returns-in-Some-2-clause-gives c =
    let next = rw c.in-Some-2.is at c.in_ok-next.ensures.reads in
    let left : 13 - c.games.game ≡ zero = omega arith in
    let last : c.games.game ≡ 13 = omega arith in
    let over = word-over (take (c.games.game - 1) c.games.words) (13 - c.games.game) c.games.game c.in-Some-2.field-0 _ _ left next in
    sym c.games.invariant.so_far ∙ over ∙ rw last refl

pub returns-clause-gives : goal.returns-clause-gives
returns-clause-gives c =
    let next = rw c.in-None-2.is at c.in_ok-next.ensures.reads in
    let left : 13 - c.games.game ≡ zero = omega arith in
    let all = take_all (c.games.game - 1) c.games.words (let n = c.games.invariant.twelve in omega arith) in
    let done = words-done (take (c.games.game - 1) c.games.words) (13 - c.games.game) c.games.game left in
    let said : words_from 12 1 (rows_ahead c.args.rows.now) ≡ Ok (take (c.games.game - 1) c.games.words) = sym c.games.invariant.so_far ∙ rw next done in
    rw all at said
