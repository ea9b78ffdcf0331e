use Rattle.ucl_order.proofs.Common.{sym}
use Rattle.ucl_order.proofs.States.{parts}
use Rattle.ucl_order.proofs.results.Results.together.Goals as goal

pub returns : goal.returns
returns c club ms playing ended = rw (playing, ended) (sym (parts club ms))
