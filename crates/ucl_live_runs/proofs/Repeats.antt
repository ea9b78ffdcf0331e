-- Accepted attempts that are made again, at any places and any number of times.
use Rattle.ucl_live_runs.proofs.Common.{All, All-drop, All-head, All-nil, All-push, All-tail, All-take, Attempt, Entry, HasRepeats}
use Rattle.ucl_live_runs.proofs.Common.{IsAttempt, IsLegal, LeaveTheSame, List, RepeatedRowsChangeNothing, WasAccepted, [], after_attempt}
use Rattle.ucl_live_runs.proofs.Common.{ap, attempt_board, attempts_from, board_after, fold, fold-append, go_stale, inl, inr, length, refl}
use Rattle.ucl_live_runs.proofs.Common.{subst, sym, ℕ, ◌++◌, ◌∙◌, ◌∷◌, ◌≡◌}
use Rattle.std.proofs.Math.Seq.{drop-append_seam, take-append_seam}
use Rattle.ucl_board.specs.Theorems.{IsStaleAgain}

-- if all attempts of two lists are of a reporter and a match that there are, so are those of the first
front-all : (xs ys : List Attempt) → All IsAttempt (xs ++ ys) → All IsAttempt xs
front-all xs ys all = rw take-append_seam at (All-take IsAttempt (length xs) (xs ++ ys) all)

-- if all attempts of two lists are of a reporter and a match that there are, so are those of the second
back-all : (xs ys : List Attempt) → All IsAttempt (xs ++ ys) → All IsAttempt ys
back-all xs ys all = rw drop-append_seam at (All-drop IsAttempt (length xs) (xs ++ ys) all)

-- an attempt that was accepted is stale when it is made again
again : (h : List Entry) (made : List Attempt) (a : Attempt) → IsLegal h → All IsAttempt made → WasAccepted h made a → IsStaleAgain (fold after_attempt h made) a
again h made a legal all was =
    let parts : All IsAttempt (was.before ++ a ∷ was.since) = subst (All IsAttempt) was.place all in
    let before = (attempts_from h was.before legal (front-all was.before (a ∷ was.since) parts)).0 in
    let stale = go_stale (fold after_attempt h was.before) a was.since before (back-all was.before (a ∷ was.since) parts) was.accepted in
    let here = ap (fold after_attempt h) was.place ∙ fold-append after_attempt h was.before (a ∷ was.since) in
    subst (λ (g : List Entry). IsStaleAgain g a) (sym here) stale

-- if two lists of attempts lead to the same history and board after an attempt, they do so with this attempt at the front of both
next-same : (h : List Entry) (a : Attempt) (longer rest : List Attempt) → IsLegal h → IsAttempt a → LeaveTheSame (after_attempt h a) longer rest → LeaveTheSame h (a ∷ longer) (a ∷ rest)
next-same h a longer rest legal is more =
    let board = attempt_board h a legal is in record {
      history_is = more.history_is;
      board_is = ap (λ (ws : List ℕ). fold board_after ws longer) board ∙ (more.board_is ∙ ap (λ (ws : List ℕ). fold board_after ws rest) (sym board));
    }

-- if two lists of attempts lead to the same history and board, they still do if a stale attempt is put at the front of one
again-same : (h : List Entry) (a : Attempt) (longer shorter : List Attempt) → IsStaleAgain h a → LeaveTheSame h longer shorter → LeaveTheSame h (a ∷ longer) shorter
again-same h a longer shorter stale more = record {
  history_is = ap (λ (g : List Entry). fold after_attempt g longer) stale.history_is ∙ more.history_is;
  board_is = ap (λ (ws : List ℕ). fold board_after ws longer) stale.board_is ∙ more.board_is;
}

-- two lists of attempts, made after those in `made`, lead from this history to the same history and the same board
abbrev LeaveAfter : List Entry → List Attempt → List Attempt → List Attempt → Type 0
LeaveAfter h made longer shorter = LeaveTheSame (fold after_attempt h made) longer shorter

-- the history after these attempts and one more is that after the one, from the history after these
one-more : (h : List Entry) (made : List Attempt) (a : Attempt) → fold after_attempt h (made ++ a ∷ []) ≡ after_attempt (fold after_attempt h made) a
one-more h made a = fold-append after_attempt h made (a ∷ [])

-- attempts with repeats of those accepted before, made after those in `made`, lead to the same history and board as without repeats
pub all-same : (h : List Entry) (made longer shorter : List Attempt) → IsLegal h → All IsAttempt made → All IsAttempt longer → HasRepeats h made longer shorter → LeaveAfter h made longer shorter
unfolding HasRepeats
all-same h made [] shorter legal before all none = rw none (record { history_is = refl; board_is = refl })
all-same h made (a ∷ longer) shorter legal before all (inl next) =
    let is = All-head IsAttempt a longer all in
    let more = all-same h (made ++ a ∷ []) longer next.0 legal (All-push IsAttempt made a before is) (All-tail IsAttempt a longer all) next.2 in
    let then = subst (λ (g : List Entry). LeaveTheSame g longer next.0) (one-more h made a) more in
    subst (LeaveAfter h made (a ∷ longer)) (sym next.1) (next-same (fold after_attempt h made) a longer next.0 (attempts_from h made legal before).0 is then)
all-same h made (a ∷ longer) shorter legal before all (inr twice) =
    let is = All-head IsAttempt a longer all in
    let more = all-same h (made ++ a ∷ []) longer shorter legal (All-push IsAttempt made a before is) (All-tail IsAttempt a longer all) twice.1 in
    let stale = again h made a legal before twice.0 in
    let then = subst (λ (g : List Entry). LeaveTheSame g longer shorter) (one-more h made a ∙ stale.history_is) more in
    again-same (fold after_attempt h made) a longer shorter stale then

-- attempts with repeats of accepted ones lead to the same history and the same board as without these
pub repeated : RepeatedRowsChangeNothing
unfolding RepeatedRowsChangeNothing
repeated h longer shorter legal all has = all-same h [] longer shorter legal (All-nil IsAttempt) all has
