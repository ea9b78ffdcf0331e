use Rattle.ucl_screen.proofs.Common.{Some, ap, arith, length, sym, ◌<◌, ◌∙◌}
use Rattle.ucl_io.proofs.Cuts.{rest_of}
use Rattle.ucl_screen.proofs.Commas.{no_four_counted, no_later_quote}
use Rattle.ucl_screen.proofs.PlainRows.{all_ends, behind_ends, no_four, starts_row}
use Rattle.ucl_screen.proofs.plain.first_row.Goals.{in_default-field_count-via-in-Some-field_count+else-count-ne4, in_default-field_count-via-in_default-field_count}
use Rattle.ucl_screen.proofs.plain.first_row.Goals as goal

pub returns-then-at-text-clause-begins : goal.returns-then-at-text-clause-begins
returns-then-at-text-clause-begins c = all_ends c.args.text.now c.ends_length-at.result c.if-at-text.true c.ends_length-at.ensures.ends

pub four_before-requires : goal.four_before-requires
four_before-requires c =
    let text = c.args.text.now in
    let at = c.ends_length-at.result in
    let within = c.ends_length-at.ensures.within in
    let other = c.if-at-text.false in
    let inside : at < length text = omega arith in
    rw (rest_of at text) (starts_row text at inside (c.ends_length-at.ensures.stops inside))

pub returns-in-Some-clause-begins : goal.returns-in-Some-clause-begins
returns-in-Some-clause-begins c =
    let at = c.ends_length-at.result in
    behind_ends at c.ends_length-at.ensures.ends (rw (rest_of at c.args.text.now) at c.in-Some.ensures.row)

pub returns-in-Some-field_count-clause-begins : goal.returns-in-Some-field_count-clause-begins
returns-in-Some-field_count-clause-begins c =
    let at = c.ends_length-at.result in
    let e = rw (rest_of at c.args.text.now) at c.in-Some-field_count.ensures.row in
    (e.0, e.1, behind_ends at c.ends_length-at.ensures.ends e.2, no_four e.0 (λ four. c.if-count-ne4.true (sym e.3 ∙ four)))

pub returns-in-Some-clause-plain : goal.returns-in-Some-clause-plain
returns-in-Some-clause-plain c = λ plain.
    let at = c.ends_length-at.result in
    c.in-Some.ensures.plain (rw (rest_of at c.args.text.now) (no_later_quote c.args.text.now at plain))

pub returns-in_default-field_count-clause-plain : goal.returns-in_default-field_count-clause-plain
returns-in_default-field_count-clause-plain c = λ plain.
    let text = c.args.text.now in
    let at = c.ends_length-at.result in
    let other = c.in_default.ensures.plain (rw (rest_of at text) (no_later_quote text at plain)) in
    let counted = c.field_count.ensures.plain (rw (rest_of at text) (no_later_quote text at plain)) in
    elim c.in_default-field_count.branch [
      | in_default-field_count-via-in-Some-field_count+else-count-ne4 w ↦
          no_four_counted _ c.field_count.result other counted (w.in-Some-field_count.is ∙ ap Some w.if-count-ne4.false)
      | in_default-field_count-via-in_default-field_count w ↦ let none = w.in_default-field_count.is in cc
    ]
