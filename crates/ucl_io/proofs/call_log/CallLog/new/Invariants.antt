use Rattle.std.proofs.Common.{[]}
use Rattle.ucl_io.proofs.call_log.CallLog.new.Given as goal

abbrev pub ghost-logged : goal.ghost-logged
ghost-logged g a = []
