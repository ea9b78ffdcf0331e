use Rattle.std.proofs.Common.{Err, IfOk, MatchResult, map, string_bytes, ◌≡◌}
use Rattle.ucl_command.specs.Commands.{AsksLive}
use Rattle.ucl_live_runs.proofs.live_program.run_live.Goals.{in-Ok, in-Err}
use Rattle.ucl_live_runs.proofs.live_program.run_live.Goals as goal

-- what the words ask for is what was run
pub returns : goal.returns
returns g c =
    let asked = c.match-words.asked in
    let told : MatchResult c.args.words (λ found. IfOk asked (λ args. AsksLive (map string_bytes found.items) args.group args.profile args.screens args.format)) (λ fault. asked ≡ Err fault) =
    elim c.match-words.branch [
      | in-Ok w ↦ rw (w.in-Ok.is, w.asked-is, ← w.deref.ensures.value) w.live_args-asked.ensures
      | in-Err w ↦ rw w.in-Err.is w.asked-is
    ] in
    (asked, told, c.run_session.ensures)
