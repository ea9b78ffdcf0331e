use Rattle.ucl_pass.proofs.Common.{rules, arith, ap, length, sym, ◌∙◌, cell_view, StoresReporter}
use Rattle.ucl_pass.proofs.InvariantIsKept.{enlists, enlist_says}
use Rattle.ucl_pass.specs.CellCalls.{HasNumberLeft}
use Rattle.ucl_pass.proofs.CallsBySteps.{number_left, looked_more, tries_again, was_enlisted, was_full, reporter_number}
use Rattle.ucl_pass.proofs.cell_board.CellBoardLiveBoard.enlist.Goals as goal

pub invariant_of-result : goal.invariant_of-result
invariant_of-result g c =
    let all = was_full _ _ (c.load-words.ensures.own ∙ c.retry.invariant.own) (cell_view c.pass.inside.seat) (cell_view c.retry.seat) (cell_view c.load-words.new.seat)
    c.load-words.result c.retry.invariant.tried c.load-words.ensures.looks c.if-enlisted-ge-MAX_REPORTERS.true in
    (all.says.always.sound, all.says.always.number ∙ c.pass.invariant.1)

pub returns-then-enlisted-ge-MAX_REPORTERS : goal.returns-then-enlisted-ge-MAX_REPORTERS
returns-then-enlisted-ge-MAX_REPORTERS g c =
    let all = was_full _ _ (c.load-words.ensures.own ∙ c.retry.invariant.own) (cell_view c.pass.inside.seat) (cell_view c.retry.seat) (cell_view c.load-words.new.seat)
    c.load-words.result c.retry.invariant.tried c.load-words.ensures.looks c.if-enlisted-ge-MAX_REPORTERS.true in
    search (arith, rules, all)

pub compare_exchange_as-added-requires : goal.compare_exchange_as-added-requires
compare_exchange_as-added-requires g c =
    let more = looked_more (cell_view c.pass.inside.seat) (cell_view c.retry.seat) (cell_view c.load-words.new.seat) c.load-words.result
    c.retry.invariant.tried.looked c.load-words.ensures.looks in
    let kept = enlists _ _ c.load-words.result c.one_more_reporter-next.result more.share (more.stays.number ∙ c.pass.invariant.1)
    c.if-enlisted-ge-MAX_REPORTERS.false c.one_more_reporter-next.ensures in
    record { cell = search rules; rule = kept }

-- an exchange that was missed keeps the loop's invariant
pub retry-preserved : goal.retry-preserved
retry-preserved g c =
    let u = cell_view c.load-words.new.seat in
    let z = cell_view c.compare_exchange_as-added.new.seat in
    let said = enlist_says u z c.load-words.result c.one_more_reporter-next.result c.compare_exchange_as-added.result
    c.one_more_reporter-next.ensures c.compare_exchange_as-added.ensures.step in
    let own = c.compare_exchange_as-added.ensures.own ∙ (c.load-words.ensures.own ∙ c.retry.invariant.own) in
    record {
      can = tt;
      ends = tt;
      own = own;
      tried = tries_again HasNumberLeft StoresReporter (cell_view c.pass.inside.seat) (cell_view c.retry.seat) u z c.load-words.result
          c.one_more_reporter-next.result c.compare_exchange_as-added.result c.retry.invariant.tried c.load-words.ensures.looks
          (number_left (cell_view c.retry.seat) u c.load-words.result c.load-words.ensures.looks c.if-enlisted-ge-MAX_REPORTERS.false) said
          (sym c.is_ok.ensures.value ∙ c.if-is_ok.false);
    }

pub returns-in-Some-new : goal.returns-in-Some-new
returns-in-Some-new g c =
    let u = cell_view c.load-words.new.seat in
    let z = cell_view c.compare_exchange_as-added.new.seat in
    let said = enlist_says u z c.load-words.result c.one_more_reporter-next.result c.compare_exchange_as-added.result
    c.one_more_reporter-next.ensures c.compare_exchange_as-added.ensures.step in
    let own = c.compare_exchange_as-added.ensures.own ∙ (c.load-words.ensures.own ∙ c.retry.invariant.own) in
    let all = was_enlisted _ _ own (cell_view c.pass.inside.seat) (cell_view c.retry.seat) u c.load-words.result c.retry.invariant.tried
    c.load-words.ensures.looks z c.one_more_reporter-next.result c.compare_exchange_as-added.result said
    (sym c.is_ok.ensures.value ∙ c.if-is_ok.true) in
    search (arith, rules, all)

pub invariant_of-result-in-Some-new : goal.invariant_of-result-in-Some-new
invariant_of-result-in-Some-new g c =
    let u = cell_view c.load-words.new.seat in
    let z = cell_view c.compare_exchange_as-added.new.seat in
    let said = enlist_says u z c.load-words.result c.one_more_reporter-next.result c.compare_exchange_as-added.result
    c.one_more_reporter-next.ensures c.compare_exchange_as-added.ensures.step in
    let ok = sym c.is_ok.ensures.value ∙ c.if-is_ok.true in
    let own = c.compare_exchange_as-added.ensures.own ∙ (c.load-words.ensures.own ∙ c.retry.invariant.own) in
    let all = was_enlisted _ _ own (cell_view c.pass.inside.seat) (cell_view c.retry.seat) u c.load-words.result c.retry.invariant.tried
    c.load-words.ensures.looks z c.one_more_reporter-next.result c.compare_exchange_as-added.result said ok in
    let number = reporter_number u z c.load-words.result c.one_more_reporter-next.result c.compare_exchange_as-added.result said ok in
    (all.enlisted.sound, number ∙ sym c.in-Some-new.ensures.value, ap length all.enlisted.mine)
