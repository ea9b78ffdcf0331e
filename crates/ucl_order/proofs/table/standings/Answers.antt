use Rattle.ucl_order.proofs.Common.{All-same, IsWithinTable, MarkIsCertain, Row, ap, map, matches_of, refl, row_of, rows_of, ℕ}
use Rattle.ucl_order.proofs.Completions.{all_certain, four_rows, row_of_place}
use Rattle.ucl_order.proofs.Limits.{rows_within, six}
use Rattle.ucl_order.proofs.Slots.{pairings}
use Rattle.ucl_order.proofs.table.standings.Goals as goal

pub returns-clause-rows : goal.returns-clause-rows
returns-clause-rows c =
    let board = c.args.board.now in
    let ms = matches_of board in
    let marks = c.marks_of-marks.ensures ms (pairings board) (six board) c.of_clubs.ensures.ended in
    let results = c.of_clubs.ensures.all in
    let row = λ (place : ℕ) (r : Row). row_of_place c.args.profile board c.args.roster.now place ms ms c.order-order.result r refl refl
    c.order-order.ensures.value in
    four_rows (row 1 c.row_at.result (c.row_at.ensures ms marks results)) (row 2 c.row_at-2.result (c.row_at-2.ensures ms marks results))
    (row 3 c.row_at-3.result (c.row_at-3.ensures ms marks results)) (row 4 c.row_at-4.result (c.row_at-4.ensures ms marks results))

pub returns-clause-places : goal.returns-clause-places
unfolding row_of
returns-clause-places c = ap (map (λ row. row.place)) (returns-clause-rows c)

pub returns-clause-within : goal.returns-clause-within
returns-clause-within c =
    All-same IsWithinTable _ (rows_of c.args.profile c.args.board.now c.args.roster.now) (returns-clause-rows c)
    (rows_within c.args.profile c.args.board.now c.args.roster.now c.of_clubs.ensures.group.scores)

pub returns-clause-certain : goal.returns-clause-certain
returns-clause-certain c =
    let board = c.args.board.now in
    All-same (MarkIsCertain c.args.profile board c.args.roster.now) _ (rows_of c.args.profile board c.args.roster.now)
    (returns-clause-rows c)
    (all_certain c.args.profile board c.args.roster.now
    (rows_within c.args.profile board c.args.roster.now c.of_clubs.ensures.group.scores))
