use Rattle.ucl_mends.proofs.Common.{Fate, [], ap, arith, drop-set-lt, if◌then◌else◌, kept_by, left_by, length, length-set, refl, set, sym}
use Rattle.ucl_mends.proofs.Common.{take, take_more_set, ◌++◌, ◌+◌, ◌<◌, ◌∙◌, ◌≤◌}
use Rattle.ucl_mends.proofs.Mends.{few, in-place-begins, in-place-ends, in-place-next, none-listed}
use Rattle.ucl_mends.proofs.standing.StandingEvents.mend.Goals as goal
use Rattle.ucl_mends.proofs.standing.StandingEvents.mend.Goals.{in-Kept, in-Named, in-Refused}

pub loop-at-init : goal.loop-at-init
loop-at-init c = record {
  in_place = rw c.self.view_is (in-place-begins c.args.row c.args.listed _ _ _ (sym c.fresh-board.ensures) c.in_ok-left.ensures.empty);
  enough = c.self.invariant.enough;
  room = λ on. let whole = ap length c.self.view_is in let room = c.in_ok-left.ensures.room on in let most = c.len.ensures in omega arith;
}

-- the events left out are fewer than were gone through
pub put_left-requires : goal.put_left-requires
put_left-requires c = λ on.
    let room = c.loop-at.invariant.room on in
    let whole = ap length c.self.view_is in
    let few = c.loop-at.invariant.in_place.few in omega arith

-- a mend in place goes on with one event more, whatever becomes of it
pub loop-at-preserved : goal.loop-at-preserved
loop-at-preserved c =
    let now = c.loop-at.self-inside.events.items in
    let kept = c.loop-at.kept in
    let at = c.loop-at.at in
    let event = c.index.result.now in
    let s = c.loop-at.invariant.in_place in
    let behind = s.behind in
    let below : at < length now = let long = s.long in let whole = ap length c.self.view_is in omega arith in
    let next = in-place-next c.args.row c.args.listed c.args.self.now now kept at c.loop-at.board c.loop-at.left.items s event
    c.enter_again.result c.enter_again.new.board below c.index.ensures c.enter_again.ensures in
    elim c.match-enter_again.branch [
      | in-Kept w ↦ rw (w.kept-is, w.self-inside-is, w.left-is) (record {
        in_place = next (set now kept event) (kept + 1) _
            (take_more_set now kept event (omega arith) ∙ ap (kept_by (take kept now) event) (sym w.in-Kept.is))
            (drop-set-lt (at + 1) now kept event (omega arith)) (length-set now kept event) (omega arith)
            (none-listed c.args.listed _ event _ (ap (left_by event) w.in-Kept.is));
        enough = c.loop-at.invariant.enough;
        room = c.loop-at.invariant.room;
      })
      | in-Named w ↦ rw (w.kept-is, w.self-inside-is, w.left-is) (record {
        in_place = next now kept _ (ap (kept_by (take kept now) event) (sym w.in-Named.is)) refl refl (omega arith)
            (none-listed c.args.listed _ event _ (ap (left_by event) w.in-Named.is));
        enough = c.loop-at.invariant.enough;
        room = c.loop-at.invariant.room;
      })
      | in-Refused w ↦ rw (w.kept-is, w.self-inside-is, w.left-is) (record {
        in_place = next now kept _ (ap (kept_by (take kept now) event) (sym w.in-Refused.is)) refl refl (omega arith)
            (w.put_left.ensures.items
            ∙ ap (λ (f : Fate). c.loop-at.left.items ++ (if c.args.listed then left_by event f else [])) (sym w.in-Refused.is));
        enough = c.loop-at.invariant.enough;
        room = λ on. rw w.put_left.ensures.room (c.loop-at.invariant.room on);
      })
    ]

pub returns-clause-few : goal.returns-clause-few
returns-clause-few c =
    let short = c.loop-at.invariant.in_place.few in
    let whole = ap length c.self.view_is in
    let most = (few c.self.inside.events.items c.self.invariant.legal).1 in omega arith

pub returns-clause-left : goal.returns-clause-left
returns-clause-left c =
    let s = c.loop-at.invariant.in_place in
    let now = c.loop-at.self-inside.events.items in
    let past : length now ≤ c.loop-at.at = let long = s.long in let whole = ap length c.self.view_is in omega arith in
    in-place-ends c.args.row c.args.listed c.args.self.now now c.loop-at.kept c.loop-at.at _ _ s past
