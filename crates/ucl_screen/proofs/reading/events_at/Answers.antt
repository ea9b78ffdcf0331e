use Rattle.ucl_screen.proofs.Common.{[], ap, arith, is_ok, length, length-append, refl, rules, sym, true, ◌∙◌, ◌∷◌, ◌≡◌}
use Rattle.ucl_screen.specs.PlainRows.{fields_of_four}
use Rattle.ucl_screen.specs.Rows.{four_seen}
use Rattle.ucl_screen.specs.RowsAhead.{rows_ahead}
use Rattle.ucl_screen.proofs.RowFacts.{goes-on, stops, is-done}
use Rattle.ucl_screen.proofs.reading.events_at.Goals as goal

pub returns-in_default-row-clause-gives : goal.returns-in_default-row-clause-gives
returns-in_default-row-clause-gives c =
    let next = rw (c.in-Some.is, c.in_default-row.is) at c.in_ok-row.ensures.reads in
    sym c.rows.invariant.so_far ∙ rw next.1 (stops c.rows.events.items c.rows.number next.0 (rows_ahead c.next.new.self) (rw next.2 refl))

pub returns-in-None-clause-gives : goal.returns-in-None-clause-gives
returns-in-None-clause-gives c =
    let next = rw (c.in-Some.is, c.in-Four.is) at c.in_ok-row.ensures.reads in
    let row = fields_of_four (four_seen c.in-Four.fields) in
    sym c.rows.invariant.so_far ∙ rw next (stops c.rows.events.items c.rows.number row (rows_ahead c.next.new.self) (sym c.in-None.ensures))

pub rows-preserved : goal.rows-preserved
rows-preserved c =
    let next = rw (c.in-Some.is, c.in-Four.is) at c.in_ok-row.ensures.reads in
    let row = fields_of_four (four_seen c.in-Four.fields) in
    let good : is_ok c.push.result ≡ true = search rules in
    let items = rw good at c.push.ensures.items in
    let many = ap length next in
    let few = c.rows.invariant.few in
    let count = c.rows.invariant.counted in
    record {
      open_rows = (rw c.in-Some.is at c.in_ok-row.ensures.open) refl;
      counted = rw (items, length-append c.rows.events.items (c.in-Some-event_of_fields.event ∷ [])) (omega arith);
      few = omega (arith, many, few);
      so_far = rw items (goes-on c.rows.events.items c.rows.number row (rows_ahead c.next.new.self) c.in-Some-event_of_fields.event (sym c.in-Some-event_of_fields.ensures)
          ∙ rw (← next) c.rows.invariant.so_far);
    }

pub returns-clause-gives : goal.returns-clause-gives
returns-clause-gives c =
    let next = rw c.in_default.is at c.in_ok-row.ensures.reads in
    sym c.rows.invariant.so_far ∙ rw next (is-done c.rows.events.items c.rows.number)
