use Rattle.ucl_word.proofs.Common.{Ok, ap, sym, word_of, ◌∙◌}
use Rattle.ucl_word.proofs.FirstWords.{first_apart, layouts_apart, reads_first, reads_none, reads_word, word_refused, word_unpacked}
use Rattle.ucl_word.proofs.migration.migrate.Goals as goal

pub returns-then-is_ok-clause-moved : goal.returns-then-is_ok-clause-moved
returns-then-is_ok-clause-moved c m valid is =
    absurd (layouts_apart c.args.word (word_unpacked c.unpack.result c.args.word c.unpack.ensures.valid c.unpack.ensures.packed (sym c.is_ok.ensures.value ∙ c.if-is_ok.true))
    (record { of = m; valid = valid; packed = is }))

pub returns-then-is_ok-clause-read : goal.returns-then-is_ok-clause-read
returns-then-is_ok-clause-read c =
    reads_word c.args.word (word_unpacked c.unpack.result c.args.word c.unpack.ensures.valid c.unpack.ensures.packed (sym c.is_ok.ensures.value ∙ c.if-is_ok.true))

pub returns-in-Ok-clause-moved : goal.returns-in-Ok-clause-moved
returns-in-Ok-clause-moved c m valid is =
    ap Ok (c.pack.ensures ∙ ap word_of (first_apart c.in-Ok.game m c.in-Ok.ensures.valid valid (c.in-Ok.ensures.packed ∙ sym is)))

pub returns-in-Ok-clause-read : goal.returns-in-Ok-clause-read
returns-in-Ok-clause-read c =
    rw c.pack.ensures (reads_first c.args.word (record { of = c.in-Ok.game; valid = c.in-Ok.ensures.valid; packed = c.in-Ok.ensures.packed }))

pub returns-in-Err-clause-moved : goal.returns-in-Err-clause-moved
returns-in-Err-clause-moved c m valid is = absurd (c.in-Err.ensures.refused (record { of = m; valid = valid; packed = is }))

pub returns-in-Err-clause-read : goal.returns-in-Err-clause-read
returns-in-Err-clause-read c =
    reads_none c.args.word (word_refused c.unpack.result c.args.word c.unpack.ensures.refused (sym c.is_ok.ensures.value ∙ c.if-is_ok.false), c.in-Err.ensures.refused)
