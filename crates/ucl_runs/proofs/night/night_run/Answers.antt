use Rattle.ucl_runs.proofs.Common.{HasShown, IsPrefix, List, PassView, [], ap, begins_take, begins_through, calls_of, err_from_is_err_and}
use Rattle.ucl_runs.proofs.Common.{kept_pass, number_of_two, option_map, refl, rules, split_pass, string_bytes, styled, subst, sym}
use Rattle.ucl_runs.proofs.Common.{true≢false, ℕ, ◌++◌, ◌∙◌, ◌∷◌}
use Rattle.std.specs.Prelude.{take}
use Rattle.ucl_runs.specs.Nights.{AreReady}
use Rattle.ucl_runs.specs.declared.threads.Workers.{Workers}
use Rattle.ucl_runs.proofs.EnteredRows.{each_on_duty, entered_all, have_entered, merged_by_settlers, reported_on}
use Rattle.ucl_runs.proofs.Merges.{night_board_read}
use Rattle.ucl_runs.proofs.night.night_run.Goals as goal

-- what holds at the end of a night that ends well
pub returns : goal.returns
returns g c =
    let reporter = g.B.LiveBoard.reporter in
    let reader = g.B.LiveBoard.reader in
    let rows = c.args.night.now.events.items in
    let style = styled c.args.profile c.args.night.now.roster c.args.group in
    let worked = c.in_ok-reporter_1.ensures in
    let settling = c.in_ok-settled.ensures.says in
    let settled = settling.settled in
    let version = c.in_ok-settled.settled.version in
    let one = c.in_ok-enlist.ensures.says in
    let two = c.in_ok-enlist-2.ensures.says in
    let enlisted = reporter c.in_ok-enlist.field-0 in
    let back = c.in_ok-reporter_1.field-0 in
    let went_1 = reported_on g.B.LiveBoard (calls_of 1 rows) c.in_ok-enlist.field-0 back.reporter_1 worked.reporter_1.1 one.sound in
    let went_2 = reported_on g.B.LiveBoard (calls_of 2 rows) c.in_ok-enlist-2.field-0 back.reporter_2 worked.reporter_2.1 two.sound in
    let a = reporter back.reporter_1 in
    let d = reporter c.settle.new.second in
    let given_2 = c.split-reader_2.ensures.says.given ∙ ap split_pass (c.split-reader_1.ensures.says.kept ∙ ap kept_pass c.split-reporter_2.ensures.says.kept) in
    let halved = c.split-reader_2.ensures.says.kept ∙ ap kept_pass (c.split-reader_1.ensures.says.kept ∙ ap kept_pass c.split-reporter_2.ensures.says.kept) in
    let merge = merged_by_settlers g.B.LiveBoard worked.reporter_1.1 worked.reporter_2.1 (one.sound, one.mine) (two.sound, two.mine) settling.always.0 settling.always.1 (settling.exactly.0 refl).0
    (each_on_duty rows (rw (← c.deref.ensures.value) c.in_ok-check_duty.ensures)) settled settling.of_both in
    let shown_1 = subst (λ (k : PassView). HasShown style k (reader c.in_ok-reader_1.reader_1) c.args.readings (option_map string_bytes c.in_ok-reader_1.last_1))
    (c.split-reader_1.ensures.says.given ∙ ap split_pass c.split-reporter_2.ensures.says.kept) (rw c.in_ok-reader_1.was at worked.reader_1).1 in
    let shown_2 = subst (λ (k : PassView). HasShown style k (reader c.in_ok-reader_2.reader_2) c.args.readings (option_map string_bytes c.in_ok-reader_2.last_2))
    given_2 (rw c.in_ok-reader_2.was at worked.reader_2).1 in
    record {
      kinds = tt;
      duty = search rules;
      night = record {
        readers = ((rw c.in_ok-reader_1.was at worked.reader_1).0, (rw c.in_ok-reader_2.was at worked.reader_2).0);
        reporters = c.in_ok-settled.ensures.own;
        apart = λ same. (settling.exactly.0 refl).0 (sym settling.always.0.number ∙ same ∙ settling.always.1.number);
        entered_1 = entered_all g.B.LiveBoard c.args.board.now rows 1 back.reporter_1 _ worked.reporter_1.0 (c.in_ok-enlist.ensures.own, (one.sound, one.mine))
            worked.reporter_1.1 settling.always.0 settled.mine_first;
        entered_2 = entered_all g.B.LiveBoard c.args.board.now rows 2 back.reporter_2 _ worked.reporter_2.0 (c.in_ok-enlist-2.ensures.own, (two.sound, two.mine))
            worked.reporter_2.1 settling.always.1 settled.mine_second;
        merge = merge;
        settled = settling.reading;
        closing = c.in_ok-closing.ensures;
        count = (settled.high, rw (settled.mine_first, settled.mine_second) (sym (settling.exactly.0 refl).1));
        beginning = subst (λ (k : PassView). IsPrefix k.seen (take version d.seen)) (sym settling.unchanged)
            (begins_take a.seen d.seen version settled.first settled.low_first);
        since = begins_through (reader c.args.pass).seen enlisted.seen (take version d.seen) (subst (λ (k : PassView). IsPrefix k.seen enlisted.seen) halved one.on.seen)
            (begins_through enlisted.seen a.seen (take version d.seen) went_1.0.on.seen (begins_take a.seen d.seen version settled.first settled.low_first));
        readings = (
          ap (λ (k : PassView). k.shown) settling.unchanged ∙ (went_1.1 ∙ one.shown),
          settling.shown ∙ ap (λ (shown : List ℕ). shown ++ version ∷ []) (went_2.1 ∙ two.shown),
        );
        board = λ alone. night_board_read (number_of_two (reporter c.settle.new.first).number d.number) rows d.seen version c.in_ok-settled.settled merge alone settling.reading;
        shares = record {
          reporter_2 = settling.always.1.on.share ∙ (went_2.0.on.share ∙ (two.on.share ∙ ap (λ (k : PassView). k.share) c.split-reporter_2.ensures.says.given));
          reader_1 = shown_1.on.share;
          reader_2 = shown_2.on.share;
          reporter_1 = settling.always.0.on.share ∙ (went_1.0.on.share ∙ (one.on.share ∙ ap (λ (k : PassView). k.share) halved));
        };
        shown_1 = shown_1;
        shown_2 = shown_2;
      };
    }

-- what holds at the end of a night beside strangers
pub returns-in_err-settled : goal.returns-in_err-settled
returns-in_err-settled g c =
    let known = g.B.LiveBoard.reporter in
    let back = c.in_ok-reporter_1.field-0 in
    let worked = c.in_ok-reporter_1.ensures in
    let first = known back.reporter_1 in
    let second = known back.reporter_2 in
    let last = known c.settle.new.second in
    let rows = c.args.night.now.events.items in
    let settling = c.in_err-settled.ensures.says in
    let settled = settling.settled in
    let one = c.in_ok-enlist.ensures.says in
    let two = c.in_ok-enlist-2.ensures.says in
    let told = err_from_is_err_and c.from_residual-in_err-settled.result c.from_residual-in_err-settled.ensures.1 in
    rw (told.1, told.2) (record {
      duty = search rules;
      night = tt;
      kinds = record {
        entered = have_entered g.B.LiveBoard c.args.board.now rows (c.in_ok-enlist.ensures.own, (one.sound, one.mine)) (c.in_ok-enlist-2.ensures.own, (two.sound, two.mine))
            worked.reporter_1 worked.reporter_2;
        last = c.settle.new.second;
        own = c.in_err-settled.ensures.own.1;
        high = settled.high;
        met_1 = begins_take first.seen last.seen _ settled.first settled.low_first;
        met_2 = begins_take second.seen last.seen _ settled.second settled.low_second;
        others = λ alone. true≢false (sym (settling.exactly.1 alone));
      };
    })

-- a worker had no thread
pub returns-in_err-reporter_1 : goal.returns-in_err-reporter_1
returns-in_err-reporter_1 g c =
    let lent : Workers _ _ = record {
      reporter_1 = c.in_ok-enlist.field-0;
      reporter_2 = c.in_ok-enlist-2.field-0;
      reader_1 = c.split-reader_1.result;
      reader_2 = c.split-reader_2.result;
    } in
    let ready : AreReady g.B.LiveBoard c.args.board.now lent = search rules in
    let told = err_from_is_err_and c.from_residual-in_err-reporter_1.result c.from_residual-in_err-reporter_1.ensures.1 in
    rw (told.1, told.2, c.in_err-reporter_1.ensures) (record { duty = search rules; night = tt; kinds = (lent, ready) })

-- memory was missing for a screen of reader 1
pub returns-in_err-reader_1 : goal.returns-in_err-reader_1
returns-in_err-reader_1 g c =
    let worked = c.in_ok-reporter_1.ensures in
    let one = c.in_ok-enlist.ensures.says in
    let two = c.in_ok-enlist-2.ensures.says in
    let told = err_from_is_err_and c.from_residual-in_err-reader_1.result c.from_residual-in_err-reader_1.ensures.1 in
    rw (told.1, told.2) (record {
      duty = search rules;
      night = tt;
      kinds = have_entered g.B.LiveBoard c.args.board.now c.args.night.now.events.items (c.in_ok-enlist.ensures.own, (one.sound, one.mine))
          (c.in_ok-enlist-2.ensures.own, (two.sound, two.mine)) worked.reporter_1 worked.reporter_2;
    })

-- memory was missing for a screen of reader 2
pub returns-in_err-reader_2 : goal.returns-in_err-reader_2
returns-in_err-reader_2 g c =
    let worked = c.in_ok-reporter_1.ensures in
    let one = c.in_ok-enlist.ensures.says in
    let two = c.in_ok-enlist-2.ensures.says in
    let told = err_from_is_err_and c.from_residual-in_err-reader_2.result c.from_residual-in_err-reader_2.ensures.1 in
    rw (told.1, told.2) (record {
      duty = search rules;
      night = tt;
      kinds = have_entered g.B.LiveBoard c.args.board.now c.args.night.now.events.items (c.in_ok-enlist.ensures.own, (one.sound, one.mine))
          (c.in_ok-enlist-2.ensures.own, (two.sound, two.mine)) worked.reporter_1 worked.reporter_2;
    })

-- memory was missing for the closing screen
pub returns-in_err-closing : goal.returns-in_err-closing
returns-in_err-closing g c =
    let worked = c.in_ok-reporter_1.ensures in
    let one = c.in_ok-enlist.ensures.says in
    let two = c.in_ok-enlist-2.ensures.says in
    let told = err_from_is_err_and c.from_residual-in_err-closing.result c.from_residual-in_err-closing.ensures.1 in
    rw (told.1, told.2) (record {
      duty = search rules;
      night = tt;
      kinds = have_entered g.B.LiveBoard c.args.board.now c.args.night.now.events.items (c.in_ok-enlist.ensures.own, (one.sound, one.mine))
          (c.in_ok-enlist-2.ensures.own, (two.sound, two.mine)) worked.reporter_1 worked.reporter_2;
    })
