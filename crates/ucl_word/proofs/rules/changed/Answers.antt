use Rattle.ucl_word.proofs.Common.{Err, arith, rules, ◌≡◌}
use Rattle.ucl_word.proofs.ChangedWords.{word_below, kick_off_changes, full_time_changes, reopen_below, reopen_changes, goal_changes}
use Rattle.ucl_word.proofs.ChangedWords.{disallow_changes, yellow_changes, no_caution, no_expulsion, second_yellow_changes, red_changes}
use Rattle.ucl_word.proofs.rules.changed.Goals as goal

pub overflow_add-result : goal.overflow_add-result
overflow_add-result c = let below = word_below c.args.word c.requires.word in omega arith

pub overflow_add-result-in-FullTime : goal.overflow_add-result-in-FullTime
overflow_add-result-in-FullTime c = let below = word_below c.args.word c.requires.word in omega arith

pub overflow_sub-result : goal.overflow_sub-result
overflow_sub-result c = let below = reopen_below c.args.word c.requires.word (rw c.in-Reopen.is at c.requires.state) in omega arith

pub raised-requires-clause-word : goal.raised-requires-clause-word
raised-requires-clause-word c = let below = word_below c.args.word c.requires.word in omega arith

pub raised-requires-in-Yellow-clause-word : goal.raised-requires-in-Yellow-clause-word
raised-requires-in-Yellow-clause-word c = let below = word_below c.args.word c.requires.word in omega arith

pub raised-requires-in-SecondYellow-clause-word : goal.raised-requires-in-SecondYellow-clause-word
raised-requires-in-SecondYellow-clause-word c = let below = word_below c.args.word c.requires.word in omega arith

pub raised-requires-in-Red-clause-word : goal.raised-requires-in-Red-clause-word
raised-requires-in-Red-clause-word c = let below = word_below c.args.word c.requires.word in omega arith

pub returns-in-KickOff : goal.returns-in-KickOff
returns-in-KickOff c = rw c.in-KickOff.is (kick_off_changes c.args.word c.requires.word (rw c.in-KickOff.is at c.requires.state))

pub returns-in-FullTime : goal.returns-in-FullTime
returns-in-FullTime c = rw c.in-FullTime.is (full_time_changes c.args.word c.requires.word (rw c.in-FullTime.is at c.requires.state))

pub returns-in-Reopen : goal.returns-in-Reopen
returns-in-Reopen c = rw c.in-Reopen.is (reopen_changes c.args.word c.requires.word (rw c.in-Reopen.is at c.requires.state))

pub returns-in-Goal : goal.returns-in-Goal
returns-in-Goal c = rw c.in-Goal.is (goal_changes c.args.word c.requires.word c.in-Goal.side c.raised.result (rw (← c.goals_low.ensures) c.raised.ensures))

pub returns-in-Disallow : goal.returns-in-Disallow
returns-in-Disallow c = rw c.in-Disallow.is (disallow_changes c.args.word c.requires.word c.in-Disallow.side c.lowered.result (rw (← c.goals_low-in-Disallow.ensures) c.lowered.ensures))

pub returns-in-Yellow : goal.returns-in-Yellow
returns-in-Yellow c = rw c.in-Yellow.is (yellow_changes c.args.word c.requires.word c.in-Yellow.side c.raised-in-Yellow.result (rw (← c.yellows_low.ensures) c.raised-in-Yellow.ensures))

pub returns-in-Red : goal.returns-in-Red
returns-in-Red c = rw c.in-Red.is (red_changes c.args.word c.requires.word c.in-Red.side c.raised-in-Red.result (rw (← c.expelled_low-in-Red.ensures) c.raised-in-Red.ensures))

pub returns-in_err-fewer-in-SecondYellow : goal.returns-in_err-fewer-in-SecondYellow
returns-in_err-fewer-in-SecondYellow c =
    let refusal = c.in_err-fewer-in-SecondYellow.field-0.0 in
    let is : c.from_residual.result ≡ Err refusal = search rules in
    rw (is, c.in-SecondYellow.is) (no_caution c.args.word c.requires.word c.in-SecondYellow.side refusal
    (rw (← c.yellows_low-in-SecondYellow.ensures) c.in_err-fewer-in-SecondYellow.ensures.0) c.in_err-fewer-in-SecondYellow.ensures.1)

pub returns-in_err-more-in-SecondYellow : goal.returns-in_err-more-in-SecondYellow
returns-in_err-more-in-SecondYellow c =
    let refusal = c.in_err-more-in-SecondYellow.field-0.0 in
    let is : c.from_residual-in_err-more-in-SecondYellow.result ≡ Err refusal = search rules in
    let some = c.in_ok-fewer-in-SecondYellow.ensures.0 in
    rw (is, c.in-SecondYellow.is) (no_expulsion c.args.word c.requires.word c.in-SecondYellow.side (rw (← c.yellows_low-in-SecondYellow.ensures) some) refusal
    (rw (← c.expelled_low.ensures) c.in_err-more-in-SecondYellow.ensures))

pub returns-in_ok-more-in-SecondYellow : goal.returns-in_ok-more-in-SecondYellow
returns-in_ok-more-in-SecondYellow c =
    let less = c.in_ok-fewer-in-SecondYellow.ensures in
    rw c.in-SecondYellow.is (second_yellow_changes c.args.word c.requires.word c.in-SecondYellow.side (rw (← c.yellows_low-in-SecondYellow.ensures) less.0)
    c.in_ok-fewer-in-SecondYellow.fewer c.in_ok-more-in-SecondYellow.more (rw (← c.yellows_low-in-SecondYellow.ensures) less.1)
    (rw (← c.expelled_low.ensures) c.in_ok-more-in-SecondYellow.ensures))
