use Rattle.ucl_words.proofs.Common.{refl, left_pass, second_pass, note_pass}
use Rattle.ucl_words.proofs.Boards.{steps_on, splits_on, left_acts, hears_on, compose}
use Rattle.ucl_words.proofs.theorems.steps_are_monotone.Goals as goal

pub returns : goal.returns
returns g c = record {
  looks = λ s seat st m n m' words here t. steps_on _ _ s seat m.0 m'.0 words here t;
  first = λ s seat st m n m' words here t. steps_on t.0 _ s seat m.0 m'.0 words here t.1;
  second = λ s seat st m n m' words here t. steps_on _ _ s seat m.0 m'.0 words here t;
  swaps = λ s seat st m n m' words here t. steps_on _ _ s seat m.0 m'.0 words here t;
  counts = λ s seat st m n m' words here t. steps_on _ _ s seat m.0 m'.0 words here t.1;
  enlists = λ s seat st m n m' words here t. steps_on _ _ s seat m.0 m'.0 words here t.1;
  splits = splits_on left_pass second_pass (λ v. refl) left_acts;
  notes = splits_on (λ v. v) note_pass (λ v. refl) (λ v acts. acts);
  hears = hears_on;
  compose = compose;
}
