use Rattle.ucl_screen.proofs.Common.{Some, [], ap, arith, refl, ◌++◌, ◌∷◌, ◌∙◌}
use Rattle.std.proofs.lemmas.List.{length_push}
use Rattle.ucl_screen.proofs.PlainRows.{no_field, one_more, with_last}
use Rattle.ucl_screen.proofs.plain.field_count.Goals as goal

pub fields-init : goal.fields-init
fields-init c = record { begins = ([], no_field c.args.text.now c.requires, omega arith); few = omega arith; plain = λ plain. (plain, refl) }

pub fields-preserved : goal.fields-preserved
fields-preserved c =
    let row = c.fields.invariant.begins in
    let field = c.in-Some.field-0-0.now in
    let counted = length_push row.0 field in
    record {
      begins = (row.0 ++ field ∷ [], one_more row.1 c.in-Some.ensures.before, let so_far = row.2 in omega arith);
      few = let few = c.fields.invariant.few in let shorter = c.in-Some.ensures.shorter in omega arith;
      plain = λ plain.
          let before = c.fields.invariant.plain plain in
          let field = c.in-Some.ensures.plain before.0 in
          let all = before.1 in
          let one = field.1 in
          (field.0, omega arith);
    }

pub returns-clause-row : goal.returns-clause-row
returns-clause-row c =
    let row = c.fields.invariant.begins in
    let last = c.in_ok-_last._last in
    (row.0 ++ last.0.now ∷ [], last.1.now, with_last row.1 c.in_ok-_last.ensures.last, length_push row.0 last.0.now ∙ row.2)

pub returns-clause-plain : goal.returns-clause-plain
returns-clause-plain c = λ plain.
    let before = c.fields.invariant.plain plain in
    let all = before.1 in
    let none = (c.in_ok-_last.ensures.plain before.0).1 in
    ap Some (omega arith)

pub returns-in_err-_last-clause-plain : goal.returns-in_err-_last-clause-plain
returns-in_err-_last-clause-plain c = rw c.from_residual.ensures (λ plain.
    let before = c.fields.invariant.plain plain in
    let none = c.in_default.ensures.plain before.0 in
    let more = c.in_err-_last.ensures.plain before.0 in
    absurd (omega arith))
