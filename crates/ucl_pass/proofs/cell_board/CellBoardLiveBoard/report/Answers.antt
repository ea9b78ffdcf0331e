use Rattle.ucl_pass.proofs.Common.{ap, length, ℕ, rules, arith, sym, ◌∙◌, subst, length-append, cell_view, entry_of, cell_pass_view}
use Rattle.ucl_pass.proofs.Common.{IsNextBoard, StoresEvent, Err, Ok, CellReported, cell_pass_of}
use Rattle.ucl_live_board.proofs.Lists.{few_mine}
use Rattle.ucl_pass.specs.CellCalls.{Accepts}
use Rattle.ucl_pass.proofs.CallsBySteps.{accepts, are_words, looked_more, tries_again, next_words, refused_report, accepted_report}
use Rattle.ucl_pass.proofs.cell_board.CellBoardLiveBoard.report.Goals as goal

pub board_at-board-requires : goal.board_at-board-requires
board_at-board-requires g c = are_words _ _ (cell_view c.retry.pass-inside.seat) (cell_view c.load-words.new.seat) _ _ c.load-words.ensures.looks

refused : (g : _) (c : goal.After-drop-iterator g)
    → CellReported (cell_pass_of c.pass.inside.seat) c.args.call.now (Err c.in_err-accepted.field-0.0) (cell_pass_of c.load-words.new.seat)
refused g c = refused_report _ _ (c.load-words.ensures.own ∙ c.retry.invariant.own) c.args.call.now
    (cell_view c.pass.inside.seat) (cell_view c.retry.pass-inside.seat) (cell_view c.load-words.new.seat) c.load-words.result
    c.retry.invariant.tried c.load-words.ensures.looks c.in_err-accepted.field-0.0
    (λ h legal is. c.in_err-accepted.ensures.sequential h legal (is ∙ sym c.board_at-board.ensures))

pub returns-in_err-accepted : goal.returns-in_err-accepted
returns-in_err-accepted g c = let all = refused g c in search (arith, rules, all)

pub invariant_of-pass : goal.invariant_of-pass
invariant_of-pass g c =
    let all = refused g c in (
      all.says.always.sound,
      all.says.always.number ∙ (c.pass.invariant.1 ∙ sym c.retry.invariant.number),
      ap length all.says.refused.mine ∙ (c.pass.invariant.2 ∙ sym c.retry.invariant.accepted),
    )

pub store_event-stored-requires-clause-next : goal.store_event-stored-requires-clause-next
store_event-stored-requires-clause-next g c =
    let more = looked_more (cell_view c.pass.inside.seat) (cell_view c.retry.pass-inside.seat) (cell_view c.load-words.new.seat)
    c.load-words.result c.retry.invariant.tried.looked c.load-words.ensures.looks in
    let me = more.stays.number ∙ (c.pass.invariant.1 ∙ sym c.retry.invariant.number) in
    subst (λ (n : ℕ). IsNextBoard (entry_of n c.args.call.now) c.load-words.result c.words_with-next.result) (sym me)
    (next_words c.load-words.result c.report.new.self c.words_with-next.result (entry_of c.retry.pass-inside.number c.args.call.now)
    (λ h legal is. c.in_ok-accepted.ensures.counted h legal (is ∙ sym c.board_at-board.ensures)) c.words_with-next.ensures)

-- an exchange that was missed keeps the loop's invariant
pub retry-preserved : goal.retry-preserved
retry-preserved g c =
    let own = c.store_event-stored.ensures.own ∙ (c.load-words.ensures.own ∙ c.retry.invariant.own) in
    let u = cell_view c.load-words.new.seat in
    let goes_on : Accepts c.args.call.now u = accepts (cell_view c.retry.pass-inside.seat) u c.load-words.result c.load-words.ensures.looks
    c.args.call.now c.in_ok-accepted.accepted
    (λ h legal is. c.in_ok-accepted.ensures.sequential h legal (is ∙ sym c.board_at-board.ensures)) in
    record {
      can = tt;
      ends = tt;
      own = own;
      number = c.retry.invariant.number;
      accepted = c.retry.invariant.accepted;
      tried = tries_again (Accepts c.args.call.now) (StoresEvent c.args.call.now) (cell_view c.pass.inside.seat)
          (cell_view c.retry.pass-inside.seat) u (cell_view c.store_event-stored.new.seat) c.load-words.result c.words_with-next.result
          c.store_event-stored.result c.retry.invariant.tried c.load-words.ensures.looks goes_on c.store_event-stored.ensures.stored
          (sym c.is_ok.ensures.value ∙ c.if-is_ok.false);
    }

accepted : (g : _) (c : goal.After-drop-iterator-then-is_ok g)
    → CellReported (cell_pass_of c.pass.inside.seat) c.args.call.now (Ok c.in_ok-accepted.accepted) (cell_pass_of c.store_event-stored.new.seat)
accepted g c = accepted_report _ _ (c.store_event-stored.ensures.own ∙ (c.load-words.ensures.own ∙ c.retry.invariant.own)) c.args.call.now
    (cell_view c.pass.inside.seat) (cell_view c.retry.pass-inside.seat) (cell_view c.load-words.new.seat) c.load-words.result
    c.retry.invariant.tried c.load-words.ensures.looks (cell_view c.store_event-stored.new.seat) c.words_with-next.result
    c.store_event-stored.result c.in_ok-accepted.accepted c.store_event-stored.ensures.stored
    (sym c.is_ok.ensures.value ∙ c.if-is_ok.true)
    (λ h legal is. c.in_ok-accepted.ensures.sequential h legal (is ∙ sym c.board_at-board.ensures))

pub overflow_add-pass : goal.overflow_add-pass
overflow_add-pass g c =
    let few = few_mine (cell_pass_view (cell_view c.pass.inside.seat)) c.pass.invariant.0 in
    let mine = c.pass.invariant.2 ∙ sym c.retry.invariant.accepted in
    omega arith

pub invariant_of-pass-then-is_ok : goal.invariant_of-pass-then-is_ok
invariant_of-pass-then-is_ok g c = let all = accepted g c in search (arith, all.says, length-append)

pub returns-then-is_ok : goal.returns-then-is_ok
returns-then-is_ok g c = let all = accepted g c in search (arith, rules, all)
