use Rattle.ucl_words.proofs.Common.{◌+◌, ◌∙◌, arith, length-set, First}
use Rattle.ucl_words.proofs.Steps.{firsts}
use Rattle.ucl_words.proofs.LocalStates.{first_next, first_on, first_loads, firsts_all}
use Rattle.ucl_words.proofs.Readings.{collected_none, collected_set}
use Rattle.ucl_words.proofs.board.WordBoard.collect.Goals as goal

pub loop-i-init : goal.loop-i-init
loop-i-init c = search (arith, collected_none)

pub load-requires : goal.load-requires
load-requires c = search (
  arith,
  firsts c.self.inside.table.shared.table_id.slots c.loop-i.seat.id (c.loop-i.i + 1) c.loop-i.seat.me c.loop-i.invariant.collected.walks.consistent.sound.acts (omega arith, omega arith)
      (first_next c.args.seat.now.me.0 c.loop-i.seat.me.0 c.loop-i.words c.loop-i.i (omega arith) c.loop-i.invariant.long c.requires.next c.loop-i.invariant.does),
)

-- one load more, of the next match, keeps the loop's invariant
pub loop-i-preserved : goal.loop-i-preserved
loop-i-preserved c =
    let v = c.args.seat.now.me.0 in
    let x = c.loop-i.seat.me.0 in
    let w = c.load.new.seat.me.0 in
    let was = c.loop-i.invariant in
    let step = c.load.ensures.2 in
    let words = c.loop-i.words in
    let i = c.loop-i.i in
    let n = c.load.result in
    let loads = first_loads v x words i (omega arith) was.long c.requires.next step.0 n w step.1 in
    record {
      same = c.load.ensures.0 ∙ was.same;
      place = c.load.ensures.1 ∙ was.place;
      long = length-set words i n ∙ was.long;
      collected = collected_set First v x w words i n (omega arith) was.collected loads was.long;
      does = first_on v x words i (omega arith) was.long c.requires.next step.0 n w step.1 was.does;
    }

pub returns-clause-does : goal.returns-clause-does
returns-clause-does c =
    let test = c.loop-i-test.false in
    let end = c.loop-i.auto.i-end in
    firsts_all c.args.seat.now.me.0 c.loop-i.seat.me.0 c.loop-i.words c.loop-i.i c.loop-i.invariant.long (omega arith) c.loop-i.invariant.does
