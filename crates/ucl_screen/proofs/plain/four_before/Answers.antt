use Rattle.ucl_screen.proofs.Common.{arith}
use Rattle.ucl_screen.proofs.PlainRows.{no_field, one_more, with_last}
use Rattle.ucl_screen.proofs.plain.four_before.Goals as goal

pub returns-clause-row : goal.returns-clause-row
returns-clause-row c =
    let three = one_more (one_more (one_more (no_field c.args.text.now c.requires) c.in_ok-first.ensures.before) c.in_ok-second.ensures.before) c.in_ok-third.ensures.before in
    with_last three c.in_ok-fourth.ensures.last

pub returns-clause-plain : goal.returns-clause-plain
returns-clause-plain c = λ plain.
    let first = c.in_ok-first.ensures.plain plain in
    let second = c.in_ok-second.ensures.plain first.0 in
    let third = c.in_ok-third.ensures.plain second.0 in
    (c.in_ok-fourth.ensures.plain third.0).0

-- where a field is missing, or there is one more, there are not three commas
pub returns-in_err-first-clause-plain : goal.returns-in_err-first-clause-plain
returns-in_err-first-clause-plain c = rw c.from_residual.ensures (λ plain. let none = c.in_err-first.ensures.plain plain in λ commas. omega arith)

pub returns-in_err-second-clause-plain : goal.returns-in_err-second-clause-plain
returns-in_err-second-clause-plain c = rw c.from_residual-in_err-second.ensures (λ plain.
    let first = c.in_ok-first.ensures.plain plain in
    let one = first.1 in
    let none = c.in_err-second.ensures.plain first.0 in
    λ commas. omega arith)

pub returns-in_err-third-clause-plain : goal.returns-in_err-third-clause-plain
returns-in_err-third-clause-plain c = rw c.from_residual-in_err-third.ensures (λ plain.
    let first = c.in_ok-first.ensures.plain plain in
    let second = c.in_ok-second.ensures.plain first.0 in
    let one = first.1 in
    let two = second.1 in
    let none = c.in_err-third.ensures.plain second.0 in
    λ commas. omega arith)

pub returns-in_err-fourth-clause-plain : goal.returns-in_err-fourth-clause-plain
returns-in_err-fourth-clause-plain c = rw c.from_residual-in_err-fourth.ensures (λ plain.
    let first = c.in_ok-first.ensures.plain plain in
    let second = c.in_ok-second.ensures.plain first.0 in
    let third = c.in_ok-third.ensures.plain second.0 in
    let one = first.1 in
    let two = second.1 in
    let three = third.1 in
    let more = c.in_err-fourth.ensures.plain third.0 in
    λ commas. omega arith)
