use Rattle.ucl_screen.proofs.Common.{cases_Bool, inl, inr}
use Rattle.ucl_screen.proofs.RowFacts.{known-left, read-found, read-none}
use Rattle.ucl_screen.proofs.rows.next_row.Goals as goal

pub returns-clause-reading : goal.returns-clause-reading
returns-clause-reading c found =
    let h = c.requires in
    let known = known-left c.args.rows.now h.sound in
    let e = c.in-Ok.ensures in
    let r = e.reads h.untrimmed h.ready in
    (read-found c.args.rows.now c.read_byte_record.new.self known.0 _ h known.1 (rw found at r) (e.ready h.untrimmed) e.goes).0

pub returns-clause-reads : goal.returns-clause-reads
returns-clause-reads c =
    let h = c.requires in
    let known = known-left c.args.rows.now h.sound in
    let e = c.in-Ok.ensures in
    let r = e.reads h.untrimmed h.ready in
    elim (cases_Bool c.in-Ok.found) [
      | inl found ↦ rw found ((read-found c.args.rows.now c.read_byte_record.new.self known.0 _ h known.1 (rw found at r) (e.ready h.untrimmed) e.goes).1)
      | inr none ↦ rw none (read-none c.args.rows.now c.read_byte_record.new.self known.0 _ h known.1 (rw none at r))
    ]
