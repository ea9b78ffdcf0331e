-- After each call its passes are passes of the board, and some state has them.
use Rattle.ucl_words.proofs.Common.{◌≡◌, ◌∙◌, sym, subst, Occurs, IsNextOfProtocol, words_after}
use Rattle.atomic_table.specs.Seated.{TableId}
use Rattle.ucl_live_board.proofs.InvariantIsKept.{both_occur}
use Rattle.ucl_words.specs.WordViews.{WordPass}
use Rattle.ucl_words.specs.WordRecords.{WordSplit, WordMet, IsWordPassOf}

-- a pass that stays on its board, and occurs at its seat, is one of the board's
pub own_after : (board : TableId) (k m : WordPass) → k.board ≡ board → m.board ≡ k.board → Occurs m.seat m.pass → IsWordPassOf board m
own_after board k m is own occurs = (own ∙ is, (m.seat, occurs))

-- the two passes that a split makes of a pass of a board are passes of it, and occur
pub split_own : (board : TableId) (k m n : WordPass) → IsWordPassOf board k → WordSplit k m n → IsWordPassOf board m × IsWordPassOf board n
split_own board k m n is split =
    let both = both_occur words_after IsNextOfProtocol k.pass m.pass n.pass split.occurs is.1 in
    ((split.own.0 ∙ is.0, both.0), (split.own.1 ∙ is.0, both.1))

-- two passes of a board are passes of it after they have met, and occur
pub met_own : (board : TableId) (a b k m : WordPass) → IsWordPassOf board a × IsWordPassOf board k → WordMet a b k m → IsWordPassOf board b × IsWordPassOf board m
met_own board a b k m is met = (subst (λ (p : WordPass). IsWordPassOf board p) (sym met.unchanged) is.0, own_after board k m is.1.0 met.own.1 met.occurs)
