use Rattle.ucl_words.proofs.Common.{arith, length, history_of, ap, sym, refl, ◌∙◌, ◌≡◌, next_match, slice_index, Second, LocalState}
use Rattle.ucl_words.proofs.LocalStates.{seconds_none, second_loads, second_on, second_last, second_other}
use Rattle.ucl_words.proofs.Readings.{collected_none, collected_same, collected_other, finds_again}
use Rattle.ucl_words.proofs.board.WordBoard.is_clean.Goals as goal

pub loop-checked-init : goal.loop-checked-init
loop-checked-init c = record {
  same = refl;
  place = refl;
  so_far = λ less. (
    collected_none Second c.args.seat.now.me.0 c.args.words.now c.requires.consistent,
    seconds_none c.args.seat.now.me.0 c.args.words.now (length (history_of c.args.seat.now.me.0.log)) c.requires.next,
  );
  all = λ twelve. absurd (omega arith);
  occurs = λ twelve. absurd (omega arith);
}

pub load_again-requires-clause-acts : goal.load_again-requires-clause-acts
load_again-requires-clause-acts c = (c.loop-checked.invariant.so_far (omega arith)).0.walks.consistent.sound.acts

pub load_again-requires-clause-word : goal.load_again-requires-clause-word
load_again-requires-clause-word c = (omega arith, omega arith)

-- the match word that is loaded is the next that the second collect is to compare
pub load_again-requires-clause-next : goal.load_again-requires-clause-next
load_again-requires-clause-next c = ap (λ (d : LocalState). next_match Second d.held) (sym (c.loop-checked.invariant.so_far (omega arith)).1)

-- a load that found its word again keeps the loop's invariant
pub loop-checked-preserved : goal.loop-checked-preserved
loop-checked-preserved c =
    let v = c.args.seat.now.me.0 in
    let x = c.loop-checked.seat.me.0 in
    let w = c.load_again.new.seat.me.0 in
    let words = c.args.words.now in
    let i = c.loop-checked.checked in
    let n = c.load_again.result in
    let seat = c.load_again.new.seat.id in
    let step = c.load_again.ensures.loads in
    let point = length (history_of v.log) in
    let so_far = c.loop-checked.invariant.so_far (omega arith) in
    let loads = second_loads v x w words point i seat n so_far.1 step in
    let same : n ≡ slice_index words i = search arith in
    record {
      same = c.load_again.ensures.own ∙ c.loop-checked.invariant.same;
      place = c.load_again.ensures.seat ∙ c.loop-checked.invariant.place;
      so_far = λ less. (collected_same Second v x w words i n (omega arith) so_far.0 loads same, second_on v x w words point i seat n so_far.1 step same (omega arith));
      all = λ twelve. (
        finds_again Second v x w words i n (omega arith) so_far.0 loads same (omega arith) refl,
        second_last v x w words point i seat n so_far.1 step same (omega arith),
      );
      occurs = λ twelve. step.occurs;
    }

pub returns-then-load_again-words-clause-compared : goal.returns-then-load_again-words-clause-compared
returns-then-load_again-words-clause-compared c =
    let v = c.args.seat.now.me.0 in
    let x = c.loop-checked.seat.me.0 in
    let w = c.load_again.new.seat.me.0 in
    let so_far = c.loop-checked.invariant.so_far (omega arith) in
    let loads = second_loads v x w c.args.words.now (length (history_of v.log)) c.loop-checked.checked c.load_again.new.seat.id c.load_again.result so_far.1
    c.load_again.ensures.loads in
    search (arith, collected_other Second v x w c.args.words.now c.loop-checked.checked c.load_again.result (omega arith) so_far.0 loads)

pub returns-then-load_again-words-clause-does : goal.returns-then-load_again-words-clause-does
returns-then-load_again-words-clause-does c =
    let v = c.args.seat.now.me.0 in
    let so_far = c.loop-checked.invariant.so_far (omega arith) in
    search (
      arith,
      second_other v c.loop-checked.seat.me.0 c.load_again.new.seat.me.0 c.args.words.now (length (history_of v.log)) c.loop-checked.checked
          c.load_again.new.seat.id c.load_again.result so_far.1 c.load_again.ensures.loads,
    )

pub returns-clause-compared : goal.returns-clause-compared
returns-clause-compared c = let test = c.loop-checked-test.false in let end = c.loop-checked.auto.checked-end in (c.loop-checked.invariant.all (omega arith)).0

pub returns-clause-does : goal.returns-clause-does
returns-clause-does c = let test = c.loop-checked-test.false in let end = c.loop-checked.auto.checked-end in (c.loop-checked.invariant.all (omega arith)).1

pub returns-clause-occurs : goal.returns-clause-occurs
returns-clause-occurs c = let test = c.loop-checked-test.false in let end = c.loop-checked.auto.checked-end in c.loop-checked.invariant.occurs (omega arith)
