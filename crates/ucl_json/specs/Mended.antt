-- The lines of JSON that answer a mend: each event that the rules then refuse, that the mend is done, or why it is refused.
use Rattle.std.specs.Prelude.{ℕ, List, codes, Option, Some, None}
use Rattle.serde_json.specs.Data.{Data, member, no_members, object, string}
use Rattle.ucl_word.specs.declared.refusal.Refusal.{Refusal}
use Rattle.ucl_word.specs.Names.{kind_name, refusal_code, refusal_name}
use Rattle.ucl_board.specs.declared.entry.Entry.{Entry}
use Rattle.ucl_json.specs.Values.{number_value}

-- an event that a mend leaves out: the row that entered it, and why the rules then refuse it
abbrev pub left_out_value : ℕ → Entry → Refusal → Data
left_out_value row entry refusal = object (
    member (codes "code") (number_value (refusal_code refusal)) (
    member (codes "event") (string (kind_name entry.kind)) (
    member (codes "match") (number_value entry.game) (
    member (codes "name") (string (refusal_name refusal)) (
    member (codes "reply") (string (codes "left-out")) (
    member (codes "reporter") (number_value entry.reporter) (
    member (codes "row") (number_value row) no_members)))))))

-- the answer to a mend: the row whose event it takes back, as `without`, if it names one, how many events the rules then refuse, and the
-- edition and the version of the board after it
abbrev pub mended_value : ℕ → Option ℕ → ℕ → ℕ → ℕ → Data
mended_value row None left_out edition version = object (
    member (codes "edition") (number_value edition) (
    member (codes "left_out") (number_value left_out) (
    member (codes "reply") (string (codes "mended")) (
    member (codes "row") (number_value row) (
    member (codes "version") (number_value version) no_members)))))
mended_value row (Some without) left_out edition version = object (
    member (codes "edition") (number_value edition) (
    member (codes "left_out") (number_value left_out) (
    member (codes "reply") (string (codes "mended")) (
    member (codes "row") (number_value row) (
    member (codes "version") (number_value version) (
    member (codes "without") (number_value without) no_members))))))

-- a mend that is refused, by the code and the name of its refusal
abbrev pub mend_refused_value : ℕ → ℕ → List ℕ → Data
mend_refused_value row code name = object (
    member (codes "code") (number_value code) (
    member (codes "name") (string name) (
    member (codes "reply") (string (codes "refused")) (
    member (codes "row") (number_value row) no_members))))
