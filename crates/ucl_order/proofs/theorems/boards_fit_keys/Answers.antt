use Rattle.ucl_order.proofs.Common.{among, started_of}
use Rattle.ucl_order.proofs.KeysFit.{has_room, words_valid}
use Rattle.ucl_order.proofs.Limits.{fits_among, fits_group, group_started}
use Rattle.ucl_order.proofs.theorems.boards_fit_keys.Goals as goal

pub returns : goal.returns
returns c board clubs roster club words is_roster slot =
    let ms = started_of board in
    let group = group_started board (words_valid board words) in
    (has_room ms roster club (fits_group ms group club slot) is_roster slot, has_room (among clubs ms) roster club (fits_among ms group clubs club slot) is_roster slot)
