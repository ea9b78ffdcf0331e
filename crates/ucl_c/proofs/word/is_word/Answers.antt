use Rattle.ucl_c.proofs.WordBits.{same_as_test, tests_word, word_tests}
use Rattle.ucl_c.proofs.word.is_word.Goals as goal

pub returns-clause-word : goal.returns-clause-word
returns-clause-word c = (tests_word c.args.word c.has_begun-begun.result c.has_begun-begun.ensures.0, word_tests c.args.word c.has_begun-begun.result c.has_begun-begun.ensures.1)

pub returns-clause-test : goal.returns-clause-test
returns-clause-test c = let w = returns-clause-word c in same_as_test c.args.word _ w.0 w.1
