use Rattle.std.proofs.Common.{[], ◌∷◌, ◌++◌}
use Rattle.ucl_io.proofs.call_log.CallLog.and.Given as goal

abbrev pub ghost-logged : goal.ghost-logged
ghost-logged g a = a.by.now.0.now.times ++ (a.by.now.1.now, a.by.now.2.now, a.by.now.3.now) ∷ []
