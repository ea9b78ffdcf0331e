use Rattle.ucl_words.proofs.Common.{number_of, arith, rules, ◌≡◌, ap, refl, sym, subst, NoCall, View, IsConsistent, local_of, pass_of}
use Rattle.ucl_words.proofs.Steps.{seconds}
use Rattle.ucl_words.proofs.Boards.{left_consistent, second_consistent, was_split}
use Rattle.ucl_words.proofs.board.WordBoard.split_now.Goals as goal

-- a consistent pass of a reader, which holds no call
abbrev IsReader : View → Type 0
IsReader v = IsConsistent v × (number_of v.own ≡ 0) × ((local_of v.own).held ≡ NoCall)

pub split_seat-seat-requires : goal.split_seat-seat-requires
split_seat-seat-requires c = (search rules, omega (arith, c.self.invariant.0), seconds c.pass.inside.seat.id c.pass.inside.seat.me.0)

pub invariant_of-result : goal.invariant_of-result
invariant_of-result c = subst IsReader (sym (ap (λ m. m.0) c.split_seat-seat.ensures.4)) (second_consistent c.pass.inside.seat.me.0 c.pass.invariant.0, refl, refl)

pub invariant_of-pass : goal.invariant_of-pass
invariant_of-pass c = subst IsReader (sym (ap (λ m. m.0) c.split_seat-seat.ensures.2))
    (left_consistent c.pass.inside.seat.me.0 c.pass.invariant.0, c.pass.invariant.1, c.pass.invariant.2)

pub returns : goal.returns
returns c =
    let was = c.pass.inside.seat in
    let is = c.split_seat-seat.new.seat in
    let given = c.split_seat-seat.result in
    let said = c.split_seat-seat.ensures in
    let all = was_split (pass_of was.table_id was.id was.me.0) (pass_of is.table_id is.id is.me.0) (pass_of given.table_id given.id given.me.0)
    c.pass.invariant.0.sound said.0 said.3 said.1 (ap (λ m. m.0) said.2) (ap (λ m. m.0) said.4) in
    search (arith, rules, all)
