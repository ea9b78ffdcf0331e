use Rattle.std.proofs.Common.{◌≡◌, arith, map, sym, ◌∙◌}
use Rattle.std.proofs.lemmas.Grind.{common_steps}
use Rattle.ucl_c.specs.Faults.{club_with}
use Rattle.ucl_c.specs.Tables.{table_shown}
use Rattle.ucl_c.proofs.Boards.{coefficients-with, table-any}
use Rattle.ucl_c.proofs.table.uclboard_standings.Goals as goal

pub returns-clause-done : goal.returns-clause-done
returns-clause-done c =
    let made : c.copy_from_slice.new.self ≡ table_shown c.args.profile c.args.words.now (map club_with c.args.coefficients.now) = grind (arith, common_steps) in
    λ clubs same _. made
    ∙ table-any c.args.profile c.args.words.now (map club_with c.args.coefficients.now) clubs (coefficients-with c.args.coefficients.now ∙ sym same)
