-- What is known of a valid record.
use Rattle.ucl_word.proofs.Common.{IsReporter, IsValid, MatchRecord, Scheduled, State, arith, is_within_limits, nat_tests, refl, scheduled, suits_state}
use Rattle.ucl_word.proofs.Common.{true, ◌≡◌, ◌≤◌}
use Rattle.ucl_word.specs.Record.{is_untouched, is_valid, max_number}
use Rattle.std.proofs.lemmas.Bool.{and_from, and_parts}

-- a valid record is within the limits, and its numbers suit its state
pub parts : (m : MatchRecord) → IsValid m → (is_within_limits m ≡ true) × (suits_state m.state m ≡ true)
unfolding is_valid
parts m v = and_parts (is_within_limits m) (suits_state m.state m) v

-- a record within the limits whose numbers suit its state is valid
pub valid_by_parts : (m : MatchRecord) → is_within_limits m ≡ true → suits_state m.state m ≡ true → IsValid m
unfolding is_valid
valid_by_parts m w s = and_from (is_within_limits m) (suits_state m.state m) w s

-- the numbers of a valid record are within their limits
module _ (m : MatchRecord) (v : IsValid m) where
  within : is_within_limits m ≡ true
  within = (parts m v).0

  pub home_goals_valid : m.home_goals ≤ 63
  home_goals_valid = let w = within in grind (arith, nat_tests)

  pub away_goals_valid : m.away_goals ≤ 63
  away_goals_valid = let w = within in grind (arith, nat_tests)

  pub home_yellows_valid : m.home_yellows ≤ 63
  home_yellows_valid = let w = within in grind (arith, nat_tests)

  pub away_yellows_valid : m.away_yellows ≤ 63
  away_yellows_valid = let w = within in grind (arith, nat_tests)

  pub home_expulsions_valid : m.home_expulsions ≤ 31
  home_expulsions_valid = let w = within in grind (arith, nat_tests)

  pub away_expulsions_valid : m.away_expulsions ≤ 31
  away_expulsions_valid = let w = within in grind (arith, nat_tests)

-- where numbers suit a state, the event number and the reporter are within their limits, and an event has a reporter
number_within : (s : State) (m : MatchRecord) → suits_state s m ≡ true → (m.number ≤ max_number) × (m.reporter ≤ 255) × (1 ≤ m.number → 1 ≤ m.reporter)
number_within s m h = (search (arith, nat_tests), search (arith, nat_tests), search (arith, nat_tests))

-- the event number of a valid record is at most 4,095
pub number_valid : (m : MatchRecord) → IsValid m → m.number ≤ max_number
number_valid m v = (number_within m.state m (parts m v).1).0

-- the reporter of a valid record has a number of at most 255
pub reporter_valid : (m : MatchRecord) → IsValid m → m.reporter ≤ 255
reporter_valid m v = (number_within m.state m (parts m v).1).1

-- a record with an event has a reporter
pub has_reporter : (m : MatchRecord) → IsValid m → 1 ≤ m.number → IsReporter m.reporter
has_reporter m v some = ((number_within m.state m (parts m v).1).2 some, reporter_valid m v)

pub ruleset limits = (home_goals_valid, away_goals_valid, home_yellows_valid, away_yellows_valid, home_expulsions_valid, away_expulsions_valid, number_valid)

-- the record of a match that has not kicked off is valid
pub scheduled_valid : IsValid scheduled
unfolding is_valid
scheduled_valid = refl

-- a scheduled record with every number 0 is the record of a match that has not kicked off
pub default_is : (m : MatchRecord) → (m.number ≡ 0) × ((m.state ≡ Scheduled) × ((m.home_goals ≡ 0) × ((m.away_goals ≡ 0) ×
    ((m.home_yellows ≡ 0) × ((m.away_yellows ≡ 0) × ((m.home_expulsions ≡ 0) × ((m.away_expulsions ≡ 0) × (m.reporter ≡ 0))))))))
    → m ≡ scheduled
default_is m d = λ i. record {
  number = d.0 i;
  state = d.1.0 i;
  home_goals = d.1.1.0 i;
  away_goals = d.1.1.1.0 i;
  home_yellows = d.1.1.1.1.0 i;
  away_yellows = d.1.1.1.1.1.0 i;
  home_expulsions = d.1.1.1.1.1.1.0 i;
  away_expulsions = d.1.1.1.1.1.1.1.0 i;
  reporter = d.1.1.1.1.1.1.1.1 i;
}

-- a valid record of a scheduled match has no number but 0
pub untouched : (m : MatchRecord) → m.state ≡ Scheduled → IsValid m → m ≡ scheduled
untouched m s v =
    let h : is_untouched m ≡ true = rw s at (parts m v).1 in
    default_is m (grind (arith, nat_tests))
