use Rattle.ucl_words.proofs.Common.{added_by, ℕ, ◌+◌, sym, ap, ◌∙◌, subst, arith, rules, length, length-append, Ok, Err, Stale}
use Rattle.ucl_words.proofs.Common.{Entry, Steps, pass_view_of, pass_of, IsHoldingFor, local_of, Match, Swap}
use Rattle.ucl_word.proofs.Words.{packing}
use Rattle.ucl_words.proofs.Steps.{found_word}
use Rattle.ucl_words.proofs.Reports.{Reported, refused_report, holding_for, accepted_report, missed_report, was_reported}
use Rattle.ucl_live_board.proofs.Lists.{few_mine}
use Rattle.ucl_words.proofs.board.WordBoard.report_now.Goals as goal

pub next_word-requires : goal.next_word-requires
next_word-requires c = found_word _ _ _ _ _ _ c.look-loaded.ensures.looks

-- where the rules refuse the event, all that is promised of a report with this refusal holds
refused : (c : goal.After-from_residual) → Reported c.pass.inside.seat.me.0 c.args.call.now (Err c.in_err-next.field-0.0) c.look-loaded.new.seat.me.0
refused c =
    let said = c.look-loaded.ensures in
    refused_report c.pass.inside.seat.me.0 c.look-loaded.new.seat.me.0 c.args.call.now c.pass.inside.number c.look-loaded.result c.look-loaded.new.seat.id said.game
    (search (arith, c.pass.ranges))
    c.pass.invariant.0 c.pass.invariant.3 said.looks c.in_err-next.field-0.0 c.in_err-next.ensures.refused

pub invariant_of-pass : goal.invariant_of-pass
invariant_of-pass c =
    let by = refused c in
    (by.consistent, by.always.number ∙ c.pass.invariant.1, ap length by.refused.mine ∙ c.pass.invariant.2, by.answers.answers.held)

pub returns-in_err-next : goal.returns-in_err-next
returns-in_err-next c =
    let k = c.pass.inside.seat in
    let m = c.look-loaded.new.seat in
    let all = was_reported (pass_of k.table_id k.id k.me.0) (pass_of m.table_id m.id m.me.0) c.args.call.now _ (refused c)
    (c.look-loaded.ensures.own) (c.look-loaded.ensures.seat) c.look-loaded.ensures.looks.occurs in
    search (arith, rules, all)

pub swap-found-requires-clause-next : goal.swap-found-requires-clause-next
swap-found-requires-clause-next c =
    let said = c.look-loaded.ensures in
    let next = c.in_ok-next.ensures in
    let held = packing _ _ next.valid next.accepted.1 in
    subst (λ (e : Entry). IsHoldingFor (local_of c.look-loaded.new.seat.me.0.own).held e.game c.look-loaded.result c.in_ok-next.next) (sym c.of-entry.ensures)
    (holding_for c.pass.inside.seat.me.0 c.look-loaded.new.seat.me.0 c.args.call.now c.pass.inside.number c.look-loaded.result c.look-loaded.new.seat.id said.game
    (search (arith, c.pass.ranges))
    c.pass.invariant.0 c.pass.invariant.3 said.looks next.accepted.0 c.in_ok-next.next held.0 held.1)

-- where the exchange was won, all that is promised of an accepted report holds
won : (c : goal.After-pass-1) → Reported c.pass.inside.seat.me.0 c.args.call.now (Ok (record { number = c.number_of-number.result })) c.swap-found.new.seat.me.0
won c =
    let said = c.look-loaded.ensures in
    let next = c.in_ok-next.ensures in
    let held = packing _ _ next.valid next.accepted.1 in
    let step = subst (λ (e : Entry). Steps c.swap-found.new.seat.id
    (Match Swap e.game c.swap-found.result) c.look-loaded.new.seat.me.0 c.swap-found.new.seat.me.0) c.of-entry.ensures c.swap-found.ensures.swaps in
    accepted_report c.pass.inside.seat.me.0 c.look-loaded.new.seat.me.0 c.args.call.now c.pass.inside.number c.look-loaded.result c.look-loaded.new.seat.id said.game
    (search (arith, c.pass.ranges))
    c.pass.invariant.0 c.pass.invariant.3 said.looks next.accepted.0 c.in_ok-next.next held.0 held.1
    c.swap-found.new.seat.me.0 c.swap-found.result c.swap-found.new.seat.id step c.if-found-loaded.true c.number_of-number.result c.number_of-number.ensures.value

pub overflow_add-pass : goal.overflow_add-pass
overflow_add-pass c =
    let few = few_mine (pass_view_of c.pass.inside.seat.me.0) c.pass.invariant.0.sound in
    let mine = c.pass.invariant.2 in
    omega arith

pub invariant_of-pass-then-found-loaded : goal.invariant_of-pass-then-found-loaded
invariant_of-pass-then-found-loaded c =
    let by = won c in (
      by.consistent,
      by.always.number ∙ c.pass.invariant.1,
      ap length by.accepted.mine ∙ (length-append (added_by c.pass.inside.seat.me.0.own) _ ∙ ap (λ (n : ℕ). n + 1) c.pass.invariant.2),
      by.answers.answers.held,
    )

pub returns-then-found-loaded : goal.returns-then-found-loaded
returns-then-found-loaded c =
    let k = c.pass.inside.seat in
    let m = c.swap-found.new.seat in
    let all = was_reported (pass_of k.table_id k.id k.me.0) (pass_of m.table_id m.id m.me.0) c.args.call.now _ (won c)
    (c.swap-found.ensures.own ∙ c.look-loaded.ensures.own) (c.swap-found.ensures.seat ∙ c.look-loaded.ensures.seat) c.swap-found.ensures.swaps.occurs in
    search (arith, rules, all)

-- where the exchange was missed, all that is promised of a report refused as stale holds
missed : (c : goal.After-number_of) → Reported c.pass.inside.seat.me.0 c.args.call.now (Err (Stale c.number_of.result)) c.swap-found.new.seat.me.0
missed c =
    let said = c.look-loaded.ensures in
    let next = c.in_ok-next.ensures in
    let held = packing _ _ next.valid next.accepted.1 in
    let step = subst (λ (e : Entry). Steps c.swap-found.new.seat.id
    (Match Swap e.game c.swap-found.result) c.look-loaded.new.seat.me.0 c.swap-found.new.seat.me.0) c.of-entry.ensures c.swap-found.ensures.swaps in
    missed_report c.pass.inside.seat.me.0 c.look-loaded.new.seat.me.0 c.args.call.now c.pass.inside.number c.look-loaded.result c.look-loaded.new.seat.id said.game
    (search (arith, c.pass.ranges))
    c.pass.invariant.0 c.pass.invariant.3 said.looks next.accepted.0 c.in_ok-next.next held.0 held.1
    c.swap-found.new.seat.me.0 c.swap-found.result c.swap-found.new.seat.id step c.if-found-loaded.false c.number_of.result c.number_of.ensures.value

pub invariant_of-pass-else-found-loaded : goal.invariant_of-pass-else-found-loaded
invariant_of-pass-else-found-loaded c =
    let by = missed c in
    (by.consistent, by.always.number ∙ c.pass.invariant.1, ap length by.refused.mine ∙ c.pass.invariant.2, by.answers.answers.held)

pub returns-else-found-loaded : goal.returns-else-found-loaded
returns-else-found-loaded c =
    let k = c.pass.inside.seat in
    let m = c.swap-found.new.seat in
    let all = was_reported (pass_of k.table_id k.id k.me.0) (pass_of m.table_id m.id m.me.0) c.args.call.now _ (missed c)
    (c.swap-found.ensures.own ∙ c.look-loaded.ensures.own) (c.swap-found.ensures.seat ∙ c.look-loaded.ensures.seat) c.swap-found.ensures.swaps.occurs in
    search (arith, rules, all)
