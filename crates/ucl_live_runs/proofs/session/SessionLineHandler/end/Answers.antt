use Rattle.ucl_live_runs.proofs.Common.{Bool, List, Ok, [], ap, eqb-true, err_from_is_err_and, false, inr, length, missing, nil_from_length}
use Rattle.ucl_live_runs.proofs.Common.{session_of, sym, true, ℕ, ◌==◌, ◌∙◌, ◌≡◌}
use Rattle.ucl_live_runs.proofs.Lines.{none-answers, none-missing, some-answers, some-missing, some-stops}
use Rattle.ucl_live_runs.proofs.session.SessionLineHandler.end.Goals as goal

-- a list whose length was compared to 0, with the result `true`, is empty
empty-list : (b : Bool) (xs : List ℕ) → b ≡ (length xs == 0) → b ≡ true → xs ≡ []
empty-list b xs e h = nil_from_length xs (eqb-true (length xs) 0 (sym e ∙ h))

-- a list whose length was compared to 0, with the result `false`, is not empty
full-list : (b : Bool) (xs : List ℕ) → b ≡ (length xs == 0) → b ≡ false → (xs ≡ []) → ⊥
full-list b xs e h none = let k : false ≡ (length xs == 0) = sym h ∙ e in let t = rw none at k in cc

pub returns-in-Some-clause-stops : goal.returns-in-Some-clause-stops
returns-in-Some-clause-stops c =
    let none = empty-list c.is_empty.result _ c.is_empty.ensures c.if-is_empty.true in
    inr (none-missing (session_of c.args.self.now c.args.row) c.args.begun.now none ∙ sym c.in-Some.ensures)

pub returns-in-None-clause-answers : goal.returns-in-None-clause-answers
returns-in-None-clause-answers c =
    let none = empty-list c.is_empty.result _ c.is_empty.ensures c.if-is_empty.true in
    let e = session_of c.args.self.now c.args.row in
    record { text_is = c.nothing.ensures ∙ sym (none-answers e c.args.begun.now none); complete = none-missing e c.args.begun.now none ∙ sym c.in-None.ensures }

pub returns-in_err-answer-clause-stops : goal.returns-in_err-answer-clause-stops
returns-in_err-answer-clause-stops c =
    let p = err_from_is_err_and c.from_residual.result c.from_residual.ensures.1 in
    let some = full-list c.is_empty.result _ c.is_empty.ensures c.if-is_empty.false in
    rw (p.1, p.2) (some-stops (session_of c.args.self.now c.args.row) c.args.begun.now _ some c.in_err-answer.ensures.stops)

pub returns-in-Some-missing-clause-stops : goal.returns-in-Some-missing-clause-stops
returns-in-Some-missing-clause-stops c =
    let some = full-list c.is_empty.result _ c.is_empty.ensures c.if-is_empty.false in
    inr (some-missing (session_of c.args.self.now c.args.row) _ c.args.begun.now some c.in_ok-answer.ensures.answers.0
    ∙ ap (λ (n : ℕ). missing n (Ok c.answer.new.self.phase)) (sym c.saturating_add.ensures) ∙ sym c.in-Some-missing.ensures)

pub returns-in-None-missing-clause-answers : goal.returns-in-None-missing-clause-answers
returns-in-None-missing-clause-answers c =
    let some = full-list c.is_empty.result _ c.is_empty.ensures c.if-is_empty.false in
    let e = session_of c.args.self.now c.args.row in record {
      text_is = c.in_ok-answer.ensures.answers.1 ∙ sym (some-answers e c.args.begun.now some);
      complete = some-missing e _ c.args.begun.now some c.in_ok-answer.ensures.answers.0
          ∙ ap (λ (n : ℕ). missing n (Ok c.answer.new.self.phase)) (sym c.saturating_add.ensures) ∙ sym c.in-None-missing.ensures;
    }
