use Rattle.ucl_words.proofs.Common.{ap, length, sym, ◌∙◌, ◌≡◌, subst, arith, rules, IsSome, View, Steps, CountRead, Joins, TableInvariant}
use Rattle.ucl_words.proofs.Common.{WordMet, IsConsistent, pass_of, told_pass, new_pass}
use Rattle.ucl_words.proofs.Steps.{notes, joins}
use Rattle.ucl_words.proofs.Boards.{met_consistent, was_met}
use Rattle.ucl_words.proofs.board.WordBoard.meet_now.Goals as goal

pub split_seat-note-requires : goal.split_seat-note-requires
split_seat-note-requires c = (search rules, omega (arith, c.self.invariant.0), notes c.first.inside.seat.id c.first.inside.seat.me.0)

pub join_seat-requires : goal.join_seat-requires
join_seat-requires c =
    let v = c.second.inside.seat in
    let note = c.split_seat-note in (
      search rules,
      search rules,
      ap (λ m. m.1) note.ensures.4,
      omega (arith, c.self.invariant.0),
      subst (λ (n : View). Joins TableInvariant v.id v.me.0 note.result.id n (told_pass v.me.0 n) new_pass) (sym (ap (λ m. m.0) note.ensures.4))
          (joins v.id v.me.0 note.result.id c.first.inside.seat.me.0),
    )

-- the second pass has its share also after it took in the note of the first, so it may load the number of reporters
pub count-requires-clause-acts : goal.count-requires-clause-acts
count-requires-clause-acts c = subst (λ (u : View). IsSome u.share) (sym (ap (λ m. m.0) c.join_seat.ensures.2)) c.second.invariant.0.sound.acts

-- all that is promised of a meeting holds of the two passes before and after it
met : (c : goal.After-count) → WordMet (pass_of c.first.inside.seat.table_id c.first.inside.seat.id c.first.inside.seat.me.0)
    (pass_of c.split_seat-note.new.seat.table_id c.split_seat-note.new.seat.id c.split_seat-note.new.seat.me.0)
    (pass_of c.second.inside.seat.table_id c.second.inside.seat.id c.second.inside.seat.me.0)
    (pass_of c.count.new.seat.table_id c.count.new.seat.id c.count.new.seat.me.0) × IsConsistent c.count.new.seat.me.0
met c =
    let a = c.first.inside.seat in
    let b = c.split_seat-note.new.seat in
    let k = c.second.inside.seat in
    let m = c.count.new.seat in
    let note = c.split_seat-note.ensures in
    let count = c.count.ensures in
    let joined = ap (λ m. m.0) c.join_seat.ensures.2 ∙ ap (told_pass k.me.0) (ap (λ m. m.0) note.4) in
    let s = subst (λ (u : View). Steps m.id (CountRead c.count.result) u m.me.0) joined count.counts in
    let same : pass_of b.table_id b.id b.me.0 ≡ pass_of a.table_id a.id a.me.0 = (λ i. pass_of (note.0 i) (note.1 i) (ap (λ m. m.0) note.2 i)) in
    let first = pass_of a.table_id a.id a.me.0 in
    let then = pass_of b.table_id b.id b.me.0 in
    let second = pass_of k.table_id k.id k.me.0 in
    let last = pass_of m.table_id m.id m.me.0 in (
      was_met first then second last c.count.result c.second.invariant.0 s same (count.own ∙ c.join_seat.ensures.0)
          (count.seat ∙ c.join_seat.ensures.1) c.first.invariant.0.sound,
      met_consistent first then second last c.count.result c.second.invariant.0 s,
    )

pub invariant_of-second : goal.invariant_of-second
invariant_of-second c =
    let all = met c in
    let v = c.second.invariant in
    (all.1, all.0.says.always.number ∙ v.1, ap length all.0.says.meeting.mine ∙ v.2, all.0.does.held ∙ v.3)

pub returns : goal.returns
returns c = let all = (met c).0 in search (arith, rules, all)
