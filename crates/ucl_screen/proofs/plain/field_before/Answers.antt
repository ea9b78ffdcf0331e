use Rattle.ucl_screen.proofs.Common.{sym, ◌∙◌}
use Rattle.ucl_io.proofs.Cuts.{rest_of}
use Rattle.ucl_screen.proofs.Commas.{first_comma, line_ends, no_later_quote}
use Rattle.ucl_screen.proofs.PlainRows.{comma_behind}
use Rattle.ucl_screen.proofs.plain.field_before.Goals as goal

pub returns-then-begins_with-clause-before : goal.returns-then-begins_with-clause-before
returns-then-begins_with-clause-before c =
    let rest = c.in_ok-field.rest.now in
    rw (rest_of 1 rest) (comma_behind c.args.text.now c.in_ok-field.field.now rest c.in_ok-field.ensures.begins (sym c.begins_with.ensures ∙ c.if-begins_with.true))

pub returns-then-begins_with-clause-plain : goal.returns-then-begins_with-clause-plain
returns-then-begins_with-clause-plain c = λ plain.
    let rest = c.in_ok-field.rest.now in
    let follows = c.in_ok-field.ensures.plain plain in
    rw (rest_of 1 rest) (no_later_quote rest 1 follows.plain, first_comma rest (sym c.begins_with.ensures ∙ c.if-begins_with.true) ∙ follows.all)

pub returns-else-begins_with-clause-plain : goal.returns-else-begins_with-clause-plain
returns-else-begins_with-clause-plain c = λ plain.
    let follows = c.in_ok-field.ensures.plain plain in
    sym follows.all ∙ line_ends c.in_ok-field.rest.now follows.ends (sym c.begins_with.ensures ∙ c.if-begins_with.false)

pub returns-in_err-field-clause-plain : goal.returns-in_err-field-clause-plain
returns-in_err-field-clause-plain c = rw c.from_residual.ensures (λ plain. absurd (c.in_err-field.ensures.plain plain))
