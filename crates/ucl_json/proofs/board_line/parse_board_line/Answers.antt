use Rattle.ucl_json.proofs.Common.{arith, sym, true≢false, ◌∙◌}
use Rattle.ucl_json.proofs.Members.{not-read, too-long, was-read}
use Rattle.ucl_json.proofs.board_line.parse_board_line.Goals as goal

pub returns-then-line-gt-MAX_ANSWER_BYTES-clause-parsed : goal.returns-then-line-gt-MAX_ANSWER_BYTES-clause-parsed
returns-then-line-gt-MAX_ANSWER_BYTES-clause-parsed c = too-long c.args.line.now c.if-line-gt-MAX_ANSWER_BYTES.true

pub returns-in-Ok-clause-parsed : goal.returns-in-Ok-clause-parsed
returns-in-Ok-clause-parsed c = let few = c.if-line-gt-MAX_ANSWER_BYTES.false in c.board_state_in.ensures.parsed
    ∙ was-read c.args.line.now _ (omega arith) c.in-Ok.ensures.ok.0 c.in-Ok.ensures.ok.1

pub returns-in-Err-2-clause-parsed : goal.returns-in-Err-2-clause-parsed
returns-in-Err-2-clause-parsed c = not-read c.args.line.now (c.in-Err.ensures.err (λ memory. true≢false (sym (c.is_memory.ensures.1 memory) ∙ c.if-is_memory.false)))
