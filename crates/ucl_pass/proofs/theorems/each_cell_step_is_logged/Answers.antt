use Rattle.std.proofs.Common.{⊎_elim}
use Rattle.ucl_pass.proofs.CallsBySteps.{one_taken}
use Rattle.ucl_pass.proofs.theorems.each_cell_step_is_logged.Goals as goal

pub returns : goal.returns
returns g c = record {
  looks = λ v x y w s. one_taken _ _ v w x y s;
  reads = λ v x y w s. one_taken _ _ v w x y s;
  adds = λ v x y w s. ⊎_elim (λ t. one_taken _ _ v w x y t.1) (λ t. one_taken _ _ v w x y t.1) s;
  enlists = λ v x y w s. ⊎_elim (λ t. one_taken _ _ v w x y t.1) (λ t. one_taken _ _ v w x y t.1) s;
}
