use Rattle.std.proofs.Common.{◌≡◌, ℕ, List, ◌++◌, length, drop, replicate, refl}
use Rattle.std.proofs.lemmas.List.{drop-replicate}
use Rattle.ucl_order.specs.Roster.{NamedClub, club_in}
use Rattle.ucl_c.specs.Replies.{club_written}
use Rattle.ucl_c.proofs.script.club_of.Goals as goal

-- a club with its name copied to the front of twenty zeros, and with its coefficient, is the club as `club_written` puts it for C
club-written : (club : NamedClub) (name text : List ℕ) (coefficient : ℕ) → name ≡ text → text ≡ club.name → coefficient ≡ club.coefficient
    → record { name = name ++ drop (length text) (replicate 20 0); length = length text; coefficient = coefficient } ≡ club_written club
club-written club name text coefficient copied is of = rw (copied, drop-replicate {X = ℕ} (length text) 20 0, is, of) refl

pub returns : goal.returns
returns c =
    club-written (club_in c.args.roster.now c.args.slot) c.copy_from_slice.new.self c.name-text.result.now c.coefficient.result
    c.copy_from_slice.ensures.after c.name-text.ensures.value c.coefficient.ensures.value
