use Rattle.std.proofs.Common.{◌<◌}
use Rattle.std.proofs.lemmas.List.{get_or-map}
use Rattle.ucl_order.proofs.Common.{◌≡◌, ◌-◌, ◌∙◌, ℕ, IsSlot, List, Mark, Match, Results, arith, each_slot, get_or, length, refl, results_of_clubs, row_by}
use Rattle.ucl_order.specs.Results.{totals}
use Rattle.ucl_order.specs.Rows.{row_with}
use Rattle.ucl_order.specs.Marks.{mark_by}
use Rattle.ucl_order.proofs.table.row_at.Goals as goal

-- the row by the results that stand at the place of a slot is that of the club in the slot
by_slot : (ms : List Match) (place : ℕ) (mark : Mark) (other : Results) (slot : ℕ) → IsSlot slot
    → row_by place slot mark (get_or (results_of_clubs ms) (slot - 1) other) ≡ row_with place slot mark ms
unfolding totals
by_slot ms place mark other =
    each_slot (λ slot. row_by place slot mark (get_or (results_of_clubs ms) (slot - 1) other) ≡ row_with place slot mark ms) refl refl refl refl

pub returns : goal.returns
returns c matches marks results =
    let within : c.args.place - 1 < length c.args.order.now = omega arith in
    c.row_with.ensures ∙ rw (c.from.ensures, c.from-index.ensures, marks, results, get_or-map (mark_by matches c.args.order.now) c.args.order.now (c.args.place - 1) 0 _ within)
    (by_slot _ c.args.place _ _ _ (c.requires.slots (c.args.place - 1) 0 within))
