use Rattle.std.proofs.Common.{Err, IfOk, MatchResult, map, rules, string_bytes, ◌≡◌}
use Rattle.ucl_command.specs.Commands.{AsksFor}
use Rattle.ucl_runs.proofs.RunFacts.{night_ran}
use Rattle.ucl_runs.proofs.program.run_words.Goals as goal

-- a night was asked for, and ran
pub returns-in-Ok-Night : goal.returns-in-Ok-Night
returns-in-Ok-Night g c =
    let asked = c.match-words.asked in
    let told : MatchResult c.args.words (λ found. IfOk asked (AsksFor (map string_bytes found.items))) (λ fault. asked ≡ Err fault) = search rules in (
      asked,
      told,
      night_ran g.B.LiveBoard _ g.W.Sink asked c.in-Ok-Night.field-0 _ _ _ _ _ _ c.in-Ok-Night.is (rw c.in-Ok-Night.is at c.in-Ok-Night.field-0-is) c.run_night.ensures,
    )
