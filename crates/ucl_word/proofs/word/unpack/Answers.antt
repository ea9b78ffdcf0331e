use Rattle.ucl_word.proofs.Common.{IsValid, Ok, ap, record_at, subst, sym, word_of, ◌∙◌}
use Rattle.ucl_word.proofs.Words.{word_holds, held_word, record_back}
use Rattle.ucl_word.proofs.word.unpack.Goals as goal

pub returns-then-is_packed-clause-valid : goal.returns-then-is_packed-clause-valid
returns-then-is_packed-clause-valid c = subst IsValid (sym c.fields_of-game.ensures) (c.is_packed.ensures.0 c.if-is_packed.true).valid

pub returns-then-is_packed-clause-packed : goal.returns-then-is_packed-clause-packed
returns-then-is_packed-clause-packed c = ap word_of c.fields_of-game.ensures ∙ held_word c.args.word (c.is_packed.ensures.0 c.if-is_packed.true)

-- a valid record that packs to the word is the one that is read from it
pub returns-then-is_packed-clause-read_back : goal.returns-then-is_packed-clause-read_back
returns-then-is_packed-clause-read_back c m valid is = ap Ok (c.fields_of-game.ensures ∙ (ap record_at (sym is) ∙ record_back m valid))

pub returns-else-is_packed-clause-refused : goal.returns-else-is_packed-clause-refused
returns-else-is_packed-clause-refused c is = let yes = c.is_packed.ensures.1 (word_holds c.args.word is) in let no = c.if-is_packed.false in cc

pub returns-else-is_packed-clause-read_back : goal.returns-else-is_packed-clause-read_back
returns-else-is_packed-clause-read_back c m valid is =
    absurd (returns-else-is_packed-clause-refused c (record { of = m; valid = valid; packed = is }))
