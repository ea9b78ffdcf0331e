use Rattle.ucl_json.proofs.Common.{place_value}
use Rattle.ucl_json.proofs.Places.{all-items, next-item}
use Rattle.ucl_json.proofs.screen.place_values.Goals as goal

pub loop-row-preserved : goal.loop-row-preserved
loop-row-preserved c =
    next-item (place_value c.args.roster.now) c.loop-row.values.items c.push.new.self.items c.in_ok-place_value.field-0 c.args.rows.now c.loop-row.row-index _ c.loop-row-test.true
    c.loop-row.invariant c.in_ok-place_value.ensures c.in_ok-push.ensures.items

pub returns : goal.returns
returns c = all-items (place_value c.args.roster.now) c.loop-row.values.items c.args.rows.now c.loop-row.row-index c.loop-row-test.false c.loop-row.invariant
