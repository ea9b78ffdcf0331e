-- A follower (`ucl_follow`) as a handler of lines: what it writes for a line, what it reports to the sink `others`, what a whole run comes
-- to, and how the program ends.
use Rattle.std.specs.Io.KnownBytes.{Appends}
use Rattle.std.specs.Prelude.{Bool, Err, List, None, Ok, Option, Result, Some, [], codes, decimal, false, get_or, length, set, true, ℕ}
use Rattle.ucl_command.specs.declared.fault.LineFault.{LineFault}
use Rattle.ucl_command.specs.declared.follow.FollowArgs.{FollowArgs}
use Rattle.ucl_command.specs.declared.follow.FollowShape.{FollowShape}
use Rattle.ucl_io.specs.Lines.{begun_line}
use Rattle.ucl_io.specs.declared.fault.ServeFault.{ServeFault}
use Rattle.ucl_io.specs.declared.logged_io.LoggedIo.{LoggedIo}
use Rattle.ucl_json.specs.BoardLines.{parse_board_line}
use Rattle.ucl_json.specs.declared.board_state.BoardState.{BoardState}
use Rattle.ucl_json.specs.declared.header.BoardHeader.{BoardHeader}
use Rattle.ucl_order.specs.Names.{profile_name}
use Rattle.ucl_order.specs.declared.profile.Profile.{Profile}
use Rattle.ucl_order.specs.declared.profile.Profile.TheVariants.{AwayInTie, Uefa}
use Rattle.ucl_rows.specs.Ending.{AnsweredAlone, Ended}
use Rattle.ucl_rows.specs.Faults.{status}
use Rattle.ucl_rows.specs.Printing.{Prints, fault_line}
use Rattle.ucl_rows.specs.Run.{IsOfDriver}
use Rattle.ucl_rows.specs.declared.fault.RunFault.TheVariants.{OutOfMemory}
use Rattle.std.specs.Prelude.{if◌then◌else◌, ◌++◌, ◌+◌, ◌-◌, ◌∷◌, ◌≡◌, ◌≤◌}
use Rattle.ucl_rows.specs.declared.fault.RunFault.{RunFault}
use Rattle.ucl_live_runs.specs.declared.follower.Follower.{Follower}
use Rattle.ucl_live_runs.specs.declared.follower.FollowState.{FollowState}
use Rattle.ucl_live_runs.specs.declared.follower.FollowSummary.{FollowSummary}
use Rattle.ucl_live_runs.specs.Driven.{Due, IsDriven}
use Rattle.ucl_live_runs.specs.Requests.{is_asked}
use Rattle.ucl_live_runs.specs.Follow.{after_line, one_more, follow_text, followed, unseen, whole_lines}
use Rattle.ucl_io.specs.declared.stream.Source as reads
use Rattle.ucl_io.specs.declared.stream.Sink as writes

-- the form in which a follower shows board states: as text, in JSON, or as matches
abbrev pub shape_of : {T : Type 0} → Follower T → FollowShape
shape_of follower = follower.shape

-- what a follower has followed so far: its group and tie-break order, if any yet, the newest board state, and counts of lines
abbrev pub follow_state_of : {T : Type 0} → Follower T → FollowState
follow_state_of follower = follower.follow_state

-- ---- what `others` gets

-- the text which reports that this line is passed over because it has the group and the tie-break order of this header
abbrev pub other_line : ℕ → BoardHeader → List ℕ
other_line line header =
    codes "line " ++ decimal line ++ codes ": group " ++ (header.group ∷ []) ++ codes ", order " ++ profile_name header.profile ++ codes ", is passed over\n"

-- the index, 0 to 15, of a group and a tie-break order: groups A to H under `uefa`, then under `away-in-tie`
abbrev pub report_place : ℕ → Profile → ℕ
report_place group Uefa = group - 65
report_place group AwayInTie = group - 65 + 8

-- this header, or None if `reported` has a mark for its group and tie-break order
abbrev pub unreported : List Bool → BoardHeader → Option BoardHeader
unreported reported header = if get_or reported (report_place header.group header.profile) false then None else Some header

-- the header that a follower reports of a line with this board state: one that it does not follow, the first time; else None
abbrev pub reported_header : FollowState → List Bool → Option BoardState → Option BoardHeader
reported_header state reported None = None
reported_header state reported (Some board_state) =
    if is_asked state.group state.profile board_state.header then None else unreported reported board_state.header

-- the sink for lines passed over, `old` and then `new`, gets the report of line number `row` with this header, as far as it does not fail,
-- and the header gets its mark in `reported_after`; for None nothing changes
abbrev pub Reports : {T : Type 0} → writes.Ghosts T → ℕ → Option BoardHeader → List Bool → T → List Bool → T → Type 0
Reports sink row None reported old reported_after new = (reported_after ≡ reported) × (new ≡ old)
Reports sink row (Some header) reported old reported_after new = (reported_after ≡ set reported (report_place header.group header.profile) true)
    × Prints (sink.failed new) (sink.taken old) (sink.taken new) (other_line row header)

-- a follower, `old` and then `new`, has handled this line: its state is that after the line, and its sink `others` got the report of it,
-- if it is passed over for its group or order, the first time. `sink` tells what `others` took and whether it failed
abbrev pub IsHandled : {T : Type 0} → writes.Ghosts T → Follower T → Follower T → List ℕ → Type 0
IsHandled sink old new line = (new.shape ≡ old.shape) × (new.follow_state ≡ after_line old.follow_state line)
    × Reports sink (one_more old.follow_state.lines) (reported_header old.follow_state old.reported (parse_board_line line))
    old.reported old.others new.reported new.others

-- ---- a whole run

-- how many lines a follower in this state has read, and how many of them it has shown
abbrev pub counts_of : FollowState → FollowSummary
counts_of state = record { lines = state.lines; shown = state.shown }

-- a follower stops, out of memory, at the line that ends after `front`; it has at most 4,096 bytes. The text of the lines before it is out
pub record StopsAtLine (args : FollowArgs) (bytes : List ℕ) (old new : Option (List ℕ)) : Type 0 where
  pub front : List ℕ
  pub rest : List ℕ
  pub parts : bytes ≡ front ++ 10 ∷ rest
  pub short : length (begun_line 4097 [] front) ≤ 4096
  pub out : Appends old new (follow_text args front)

-- what a follower owes for the lines that it reads: their text; it stops only if out of memory, and returns its counts if it ends well
abbrev pub follow_due : FollowArgs → Due FollowSummary RunFault
follow_due args = record {
  so_far = follow_text args;
  whole = follow_text args;
  Stops = λ bytes old new fault. (fault ≡ OutOfMemory) × StopsAtLine args bytes old.taken new.taken;
  Ends = λ summary bytes. summary ≡ counts_of (followed (unseen args) (whole_lines bytes));
}

-- ---- what the program does with what its words ask for

-- the line that says how many lines came, how many of them were shown, and how many were not, that is, passed over
abbrev pub counts_line : FollowSummary → List ℕ
counts_line followed =
    decimal followed.lines ++ codes " lines, " ++ decimal followed.shown ++ codes " shown, " ++ decimal (followed.lines - followed.shown) ++ codes " passed over\n"

-- `ucl_follow` ends after a run with this outcome: with status 0, and its counts printed, or with the status of its fault, which is printed
abbrev pub EndsFollowing : Result FollowSummary (ServeFault RunFault) → Ended → Type 0
EndsFollowing (Ok followed) ended = (ended.code ≡ 0) × Prints ended.failed ended.old ended.new (counts_line followed)
EndsFollowing (Err fault) ended =
    (told : RunFault) × IsOfDriver (λ own fault. fault ≡ own) fault told × (ended.code ≡ status told)
    × Prints ended.failed ended.old ended.new (fault_line told)

-- what `ucl_follow` does with its source and its sink: a run, if its arguments ask it to follow; else it reads nothing and answers them
-- (help, a refusal, out of memory). `ended` is its exit status, and what it printed on the error sink
abbrev pub RunsFollowing : {S W M : Type 0} → reads.Ghosts S → writes.Ghosts W → Result FollowArgs LineFault → LoggedIo S W M → LoggedIo S W M
    → Ended → Type 0
RunsFollowing source sink (Ok args) before after ended =
    (outcome : Result FollowSummary (ServeFault RunFault)) × IsDriven (follow_due args) source sink before after outcome × EndsFollowing outcome ended
RunsFollowing source sink (Err fault) before after ended = AnsweredAlone sink fault before after ended
