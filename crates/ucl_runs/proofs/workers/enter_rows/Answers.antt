use Rattle.ucl_runs.proofs.Common.{EventCall, HasReported, List, ap, calls_of, drop, drop_all, first-event, refl, subst, sym, ◌+◌, ◌∙◌, ◌≢◌}
use Rattle.ucl_runs.proofs.EnteredRows.{other_calls, own_calls}
use Rattle.ucl_runs.proofs.workers.enter_rows.Goals.{then-get-reporter, else-get-reporter}
use Rattle.ucl_runs.proofs.workers.enter_rows.Goals as goal

pub loop-row-init : goal.loop-row-init
loop-row-init g c = record { own = c.requires.own; entered = λ end reported. reported }

-- a worker enters the rows of its own reporter, and passes over those of others
pub loop-row-preserved : goal.loop-row-preserved
loop-row-preserved g c =
    let row = c.row-item.result in
    let so_far = c.loop-row.invariant in
    let r = c.args.reporter in
    let rest = ap (calls_of r) (first-event c.loop-row.row-index c.args.rows.now row c.loop-row-test.true c.row-item.is) in
    let after = drop (c.loop-row.row-index + 1) c.args.rows.now in
    elim c.if-get-reporter.branch [
      | then-get-reporter w ↦
          let theirs = sym c.get.ensures.value ∙ w.if-get-reporter.true in
          let said = w.report.ensures in
          rw w.pass-is (record {
            own = said.own;
            entered = λ end reported.
                so_far.entered end (subst (λ (calls : List EventCall). HasReported g.B.LiveBoard calls c.loop-row.pass end) (sym (rest ∙ own_calls r row after theirs))
                (w.report.new.pass, record { reply = w.report.result; says = said.says; once = said.reported }, reported));
          })
      | else-get-reporter w ↦
          let other : row.reporter ≢ c.args.reporter = λ same. w.if-get-reporter.false (c.get.ensures.value ∙ same) in
          rw w.pass-is (record {
            own = so_far.own;
            entered = λ end reported.
                so_far.entered end (subst (λ (calls : List EventCall). HasReported g.B.LiveBoard calls c.loop-row.pass end) (sym (rest ∙ other_calls r row after other)) reported);
          })
    ]

pub returns-clause-entered : goal.returns-clause-entered
returns-clause-entered g c =
    c.loop-row.invariant.entered c.loop-row.pass
    (subst (λ (calls : List EventCall). HasReported g.B.LiveBoard calls c.loop-row.pass c.loop-row.pass)
    (sym (ap (calls_of c.args.reporter) (drop_all c.loop-row.row-index c.args.rows.now c.loop-row-test.false))) refl)
