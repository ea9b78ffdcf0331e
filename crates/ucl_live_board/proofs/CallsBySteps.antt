-- What a call leaves after its steps, on any shared board.
use Rattle.ucl_live_board.proofs.Common.{◌≡◌, ℕ, ◌+◌, ◌≤◌, List, ◌∷◌, ◌++◌, length, refl, sym, ap, ◌∙◌, arith, le_refl, length-append, append-nil, append_assoc}
use Rattle.ucl_live_board.proofs.Common.{[], Action, TakenStep, added_by, number_of, history_of, enlisted_by, begins_same, IsPrefix, begins_through, View, IsSound}
use Rattle.ucl_live_board.proofs.Common.{pass_view_by, count_of, Takes, left_pass, second_pass, Entry, SeesOn, Continues, All-head, All-tail, note_pass}
use Rattle.ucl_live_board.proofs.Common.{told_pass}
use Rattle.ucl_live_board.proofs.Lists.{none_by_zero}
use Rattle.ucl_live_board.proofs.Halves.{half_acts, half_not_whole}
use Rattle.ucl_log.proofs.Logs.{history_on, enlisted_on}
use Rattle.ucl_live_board.specs.LiveRecords.{LiveMet}
use Rattle.ucl_live_board.specs.Passes.{Enlistment}
use Rattle.ucl_live_board.proofs.StepFacts.{Goes, Sees, Adds, GivesNumber, sound}

-- the empty list of steps leads from a view to itself
pub takes_none : (v : View) → Takes v [] v
takes_none v = record { own = sym (append-nil v.own); copied = refl }

-- if steps lead a pass from the view u to v, and further steps from v to w, all of them lead it from u to w
pub takes_on : (u v w : View) (xs ys : List TakenStep) → Takes u xs v → Takes v ys w → Takes u (xs ++ ys) w
takes_on u v w xs ys a b = record { own = b.own ∙ (ap (λ (l : List TakenStep). l ++ ys) a.own ∙ append_assoc u.own xs ys); copied = b.copied ∙ a.copied }

-- a pass that took the steps xs counts `length xs` steps more
pub takes_count : (v w : View) (xs : List TakenStep) → Takes v xs w → count_of w ≡ count_of v + length xs
takes_count v w xs t = search (arith, length-append v.own xs, length-append v.copied v.own, length-append w.copied w.own)

-- any number of steps that entered nothing and gave no number: the pass knows no less than before, and has the same share
pub record Stays (v w : View) : Type 0 where
  pub seen : IsPrefix (history_of v.log) (history_of w.log)
  pub listed : enlisted_by v.log ≤ enlisted_by w.log
  pub share : w.share ≡ v.share
  pub mine : added_by w.own ≡ added_by v.own
  pub number : number_of w.own ≡ number_of v.own

-- without a step a pass stays: it knows no less than before, and has the same share
pub stays_none : (v : View) → Stays v v
stays_none v = record { seen = begins_same (history_of v.log); listed = le_refl (enlisted_by v.log); share = refl; mine = refl; number = refl }

-- if a pass entered nothing and got no number from v to w, nor by the one step that led it from w to u, so it is from v to u (`Stays`)
pub stays_more : (v w u : View) (action : Action) → Stays v w → Sees action w u → Stays v u
stays_more v w u action t sees = search (arith, begins_through)

-- `shown` works out from the steps of a pass which versions it has read
module _ (shown : List TakenStep → List ℕ) where
  -- after steps that entered nothing and gave no number contracts see that the pass has seen no less, and has the same share
  pub stays_on : (v w : View) → Stays v w → SeesOn (pass_view_by shown v) (pass_view_by shown w)
  stays_on v w t = record { seen = t.seen; listed = t.listed; share = t.share }

  -- such steps, of which there was one at least, leave what holds of a pass after each call
  pub stays_continue : (v w u : View) → Stays v u → Goes w u → Continues (pass_view_by shown v) (pass_view_by shown u)
  stays_continue v w u t goes = record { sound = sound shown w u goes; on = stays_on v u t; number = t.number }

  -- such steps, and a last one that added an entry, leave what holds of a pass after each call
  pub adds_continue : (v w u : View) (action : Action) (e : Entry) → Stays v w → Adds action e w u → Continues (pass_view_by shown v) (pass_view_by shown u)
  adds_continue v w u action e t adds = search (arith, sound, begins_through)

  -- if the last step gave the pass a number, it was enlisted as contracts say
  pub enlists : (v w u : View) (found : ℕ) → Stays v w → GivesNumber found w u → shown u.own ≡ [] → Enlistment (pass_view_by shown v) (pass_view_by shown u)
  enlists v w u found t gives none = search (arith, sound, begins_through)

  -- the pass v took in a note of the pass a, and then took a step that added no entry and gave no number
  module _ (a v w : View) (action : Action) (sees : Sees action (told_pass v (note_pass a)) w) where
    first : IsPrefix v.log w.log
    first = All-head (λ l. IsPrefix l w.log) v.log (a.log ∷ v.told) sees.goes.heard

    -- a pass that took in a note entered nothing, and knows no less than before
    pub hears : Stays v w
    hears = record { seen = history_on v.log w.log first; listed = enlisted_on v.log w.log first; share = sees.goes.share; mine = sees.mine; number = sees.number }

    -- the passes have met as contracts say, if a is sound and unchanged and no reading was finished
    pub meets : (b : View) → b ≡ a → IsSound (pass_view_by shown a) → shown w.own ≡ shown v.own
        → LiveMet (pass_view_by shown a) (pass_view_by shown b) (pass_view_by shown v) (pass_view_by shown w)
    meets b unchanged first_sound same = record {
      sound = first_sound;
      always = stays_continue v (told_pass v (note_pass a)) w hears sees.goes;
      unchanged = ap (λ (u : View). pass_view_by shown u) unchanged;
      meeting = record {
        met = history_on a.log w.log (All-head (λ l. IsPrefix l w.log) a.log v.told (All-tail (λ l. IsPrefix l w.log) v.log (a.log ∷ v.told) sees.goes.heard));
        mine = sees.mine;
        shown = same;
      };
    }

-- the pass that is split off a sound pass is sound
pub sound_second : (shown : List TakenStep → List ℕ) (v : View) → IsSound (pass_view_by shown v) → IsSound (pass_view_by shown (second_pass v))
sound_second shown v s = search (arith, none_by_zero, half_acts, half_not_whole)

-- what is left of a sound pass after a split is sound
pub sound_left : (shown : List TakenStep → List ℕ) (v : View) → IsSound (pass_view_by shown v) → IsSound (pass_view_by shown (left_pass v))
sound_left shown v s = search (arith, half_acts, half_not_whole)
