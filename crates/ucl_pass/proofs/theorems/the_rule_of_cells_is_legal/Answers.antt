use Rattle.ucl_pass.proofs.theorems.the_rule_of_cells_is_legal.Goals as goal

pub returns : goal.returns
returns c log is legal = legal
