use Rattle.ucl_screen.proofs.Common.{arith, sym, ◌∙◌}
use Rattle.ucl_screen.proofs.Commas.{has_comma, no_comma}
use Rattle.ucl_screen.proofs.PlainRows.{row_end}
use Rattle.ucl_screen.proofs.plain.last_field.Goals as goal

pub returns-then-at_line_end-clause-last : goal.returns-then-at_line_end-clause-last
returns-then-at_line_end-clause-last c = row_end c.in_ok-field.ensures.begins (sym c.at_line_end.ensures ∙ c.if-at_line_end.true)

pub returns-then-at_line_end-clause-plain : goal.returns-then-at_line_end-clause-plain
returns-then-at_line_end-clause-plain c = λ plain.
    let follows = c.in_ok-field.ensures.plain plain in
    (follows.plain, sym follows.all ∙ no_comma c.in_ok-field.rest.now (sym c.at_line_end.ensures ∙ c.if-at_line_end.true))

pub returns-else-at_line_end-clause-plain : goal.returns-else-at_line_end-clause-plain
returns-else-at_line_end-clause-plain c = λ plain.
    let follows = c.in_ok-field.ensures.plain plain in
    let same = follows.all in
    let more = has_comma c.in_ok-field.rest.now follows.ends (sym c.at_line_end.ensures ∙ c.if-at_line_end.false) in
    omega arith

pub returns-in_err-field-clause-plain : goal.returns-in_err-field-clause-plain
returns-in_err-field-clause-plain c = rw c.from_residual.ensures (λ plain. absurd (c.in_err-field.ensures.plain plain))
