-- The output of a night, whose reporter 2 met both readers: what they saw are beginnings of the one settled history.
use Rattle.ucl_runs.proofs.Common.{All, Entry, FoundStrangers, IsNightEnd, IsOnDuty, IsOutputOfNight, IsPrefix, List, NightEvent, Style}
use Rattle.ucl_runs.proofs.Common.{arith, begins_length, begins_take, begins_through, drop, length, night_output, refl, take}
use Rattle.ucl_runs.proofs.Common.{take-append-drop, take_beginning, ℕ, ◌∙◌, ◌≢◌, ◌≤◌}
use Rattle.ucl_live_board.specs.declared.live_board.LiveBoard as boards
use Rattle.ucl_runs.specs.declared.night.NightEnd.{NightEnd}

-- a night on the board `lent` that ended well, whose reporter 2 was then told what other passes had seen, and has now seen `met`
module _ {B R P : Type 0} (live : boards.Ghosts B R P) (lent : B) (pass : R) (rows : List NightEvent) (style : Style) (asked : ℕ) (end : NightEnd R P)
    (ends : IsNightEnd live lent pass rows style asked end) (duty : All IsOnDuty rows) (met : List Entry) (on : IsPrefix (live.reporter end.reporter_2).seen met) where
  abbrev settled : List Entry
  settled = take end.settled.version (live.reporter end.reporter_2).seen

  -- if no newer version is there, what a pass that was met had seen is a beginning of the settled history
  of_settled : (seen : List Entry) → IsPrefix seen met → length met ≤ end.settled.version → IsPrefix seen settled
  of_settled seen before low =
      let longer = begins_length seen met before in
      rw (← take_beginning (live.reporter end.reporter_2).seen met end.settled.version on ends.count.0)
      (begins_take seen met end.settled.version before (omega arith))

  -- what a night without strangers wrote is its output
  pub output : IsPrefix (live.reader end.reader_1).seen met → IsPrefix (live.reader end.reader_2).seen met → length met ≤ end.settled.version
      → IsOutputOfNight live lent pass rows style asked (night_output end.last end.closing)
  output one two low = record {
    duty = duty;
    end = end;
    ends = ends;
    text_is = refl;
    saw_1 = of_settled (live.reader end.reader_1).seen one low;
    saw_2 = of_settled (live.reader end.reader_2).seen two low;
  }

  -- if another version is read, there are strangers: a pass that has then seen `now`
  pub others : (last : P) (version : ℕ) → live.is_reporter lent last → IsPrefix met (live.reporter last).seen → length met ≤ version
      → version ≤ length (live.reporter last).seen → version ≢ end.settled.version → FoundStrangers live lent rows version
  others last version own later low high other =
      let one = ends.entered_1 in
      let two = ends.entered_2 in
      let now = (live.reporter last).seen in
      let long = begins_length (live.reporter end.reporter_2).seen met on in
      let seen_1 : IsPrefix (live.reporter one.pass).seen (live.reporter end.reporter_2).seen =
      begins_through _ settled _ (begins_through _ _ settled one.always.on.seen ends.beginning) (drop end.settled.version _, take-append-drop end.settled.version _) in
      let through : (seen : List Entry) → IsPrefix seen (live.reporter end.reporter_2).seen → IsPrefix seen (take version now) =
      (λ seen p. (let l = begins_length seen _ p in
      begins_take seen now version (begins_through seen _ now p (begins_through _ met now on later)) (omega arith))) in
      record {
        entered = record { first = one.pass; second = two.pass; entered_1 = one.rows_entered; entered_2 = two.rows_entered };
        last = last;
        own = own;
        high = high;
        met_1 = through _ seen_1;
        met_2 = through _ two.always.on.seen;
        others = λ alone. other (alone.1 ∙ (rw (one.mine, two.mine) at ends.count.1));
      }
