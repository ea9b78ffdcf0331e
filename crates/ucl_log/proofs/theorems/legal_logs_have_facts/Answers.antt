use Rattle.ucl_log.proofs.Logs.{legal_history, log_facts}
use Rattle.ucl_log.proofs.theorems.legal_logs_have_facts.Goals as goal

pub returns : goal.returns
returns c = record { legal = legal_history; facts = log_facts }
