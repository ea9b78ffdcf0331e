use borrow.Author.Rules.{lives}
use Rattle.ucl_io.proofs.call_log.CallLog.and.Goals as goal

pub logged-requires : goal.logged-requires
logged-requires g c κs within = search lives depth 40
