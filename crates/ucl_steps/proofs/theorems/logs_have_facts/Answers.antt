use Rattle.ucl_steps.proofs.LogFacts.{logs_facts, legal_steps}
use Rattle.ucl_steps.proofs.theorems.logs_have_facts.Goals as goal

pub returns : goal.returns
returns c = record { facts = logs_facts; legal = legal_steps }
