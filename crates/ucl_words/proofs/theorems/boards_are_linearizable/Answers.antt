use Rattle.std.specs.Prelude.{length}
use Rattle.ucl_steps.proofs.BoardObject.{calls_linearizable}
use Rattle.ucl_steps.proofs.LogRuns.{logs_run}
use Rattle.ucl_words.proofs.theorems.boards_are_linearizable.Goals as goal

pub returns : goal.returns
returns c = λ s r. record {
  linearizable = calls_linearizable r.log r.is_log r.follows;
  run = logs_run (length s.views) r.log r.is_log r.follows r.seated;
}
