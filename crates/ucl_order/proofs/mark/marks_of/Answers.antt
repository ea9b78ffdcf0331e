use Rattle.ucl_order.proofs.Common.{rules, sym, ◌∙◌}
use Rattle.ucl_order.proofs.Completions.{final_marks}
use Rattle.ucl_order.proofs.mark.marks_of.Goals as goal

pub returns-then-are_all_finished : goal.returns-then-are_all_finished
returns-then-are_all_finished c ms pairs six is =
    final_marks ms c.args.order.now _ _ _ _ (search rules) (sym (c.are_all_finished.ensures ms pairs six is) ∙ c.if-are_all_finished.true)
    c.final_mark.ensures c.final_mark-then-are_all_finished.ensures c.final_mark-then-are_all_finished-2.ensures
    c.final_mark-then-are_all_finished-3.ensures
