use Rattle.ucl_c.specs.Tables.{clubs_handed}
use Rattle.ucl_c.proofs.Boards.{good-roster}
use Rattle.ucl_json.proofs.ScreenLength.{line_short, screen_short}
use Rattle.ucl_c.proofs.screen.text_of.Goals as goal

pub returns-in_ok-screen_json-in-Some-clause-short : goal.returns-in_ok-screen_json-in-Some-clause-short
returns-in_ok-screen_json-in-Some-clause-short c =
    let taken = c.in_ok-roster.ensures.taken in
    let letter = c.in_ok-group.ensures.taken in
    rw (c.in-Some.is, c.in_ok-screen_json-in-Some.ensures.text) (line_short c.in-Some.row c.in_ok-profile.profile c.in_ok-board.board c.in_ok-roster.roster c.in_ok-group.group
    (rw c.in-Some.is at c.requires) c.in_ok-board.ensures.valid (good-roster (clubs_handed c.args.clubs.now) c.in_ok-roster.roster taken.0 taken.1) (rw letter.0 letter.1))

pub returns-in_ok-screen-in-None-clause-short : goal.returns-in_ok-screen-in-None-clause-short
returns-in_ok-screen-in-None-clause-short c =
    let taken = c.in_ok-roster.ensures.taken in
    rw (c.in-None.is, c.in_ok-screen-in-None.ensures) (screen_short c.in_ok-profile.profile c.in_ok-board.board c.in_ok-roster.roster c.in_ok-board.ensures.valid
    (good-roster (clubs_handed c.args.clubs.now) c.in_ok-roster.roster taken.0 taken.1) c.in_ok-group.group)
