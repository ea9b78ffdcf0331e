use Rattle.ucl_live_runs.proofs.Common.{BoardState, List, Some, arith, cases_Bool, err_from_is_err_and, inl, inr, length, nat_le, nat_tests}
use Rattle.ucl_live_runs.proofs.Common.{parse_board_line, refl, sym, ℕ, ◌∙◌, ◌≡◌, ◌≤◌}
use Rattle.ucl_live_runs.proofs.follower.FollowerLineHandler.answer.Goals as goal

-- a line that carries a board state has at most 4,096 bytes
told_short : (line : List ℕ) (m : BoardState) → parse_board_line line ≡ Some m → length line ≤ 4096
unfolding parse_board_line
told_short line m h = elim (cases_Bool (nat_le (length line) 4096)) [
  | inl y ↦ grind (arith, nat_tests)
  | inr n ↦ let none = rw n at h in cc
]

pub returns-in_err-text-in-Some-2-clause-stops : goal.returns-in_err-text-in-Some-2-clause-stops
returns-in_err-text-in-Some-2-clause-stops g c =
    let p = err_from_is_err_and c.from_residual-in_err-text-in-Some-2.result c.from_residual-in_err-text-in-Some-2.ensures.1 in
    rw p.1 (p.2, told_short c.args.line.now _ (sym c.in_ok-told.ensures.parsed ∙ c.in-Some-2.is), refl)
