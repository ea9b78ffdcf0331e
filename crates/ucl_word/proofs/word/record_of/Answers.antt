use Rattle.ucl_word.proofs.Common.{IsValid, subst, sym}
use Rattle.ucl_word.proofs.Words.{word_valid}
use Rattle.ucl_word.proofs.word.record_of.Goals as goal

pub returns-clause-valid : goal.returns-clause-valid
returns-clause-valid c = subst IsValid (sym c.fields_of.ensures) (word_valid c.args.word c.requires)
