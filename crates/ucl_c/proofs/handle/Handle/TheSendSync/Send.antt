-- A handle may go to another thread: what it owns is a box, and the pass and the share of the board in it may go there.
use Rattle.ucl_c.proofs.Common.{Fml, lone, Ptr, null_ptr, block_ptr, exits_of, shape, fields, to, box_owns, freed, heap, owned_at}
use base.Shift.{Keyless}
use mir.Raw.{raw}
use denote.Builtin.{RawPtr}
use denote.Param.Send.{IsSend, owning_send, struct_send, sendable}
use Rattle.std.proofs.Crossing.{frees}
use Rattle.std_alloc.proofs.SendSync.{quiet, lies}
use Rattle.ucl_c.specs.contracts.board_pass.BoardPass as inner
use Rattle.ucl_c.proofs.board_pass.BoardPass.TheSendSync.{the_send}
use Rattle.ucl_c.specs.contracts.handle.Handle.{the_row, the_type}

-- if what is owned at each pointer names no thread's token (is keyless), neither does what a handle owns there, which at null is nothing
owned_keyless : (owned : Ptr → Fml) → ((p : Ptr) → Keyless (owned p)) → (p : Ptr) → Keyless (owned_at owned p)
owned_keyless owned k null_ptr = tt
owned_keyless owned k (block_ptr b o) = k (block_ptr b o)

-- a handle may be sent to another thread
pub send : IsSend the_row
send = let ps : IsSend RawPtr = search sendable in
    owning_send the_type (ps, tt) (λ d. owned_keyless (λ p. box_owns freed inner.the_row p d.value)
    (λ p. (lies inner.the_row the_send p d.value, frees.frees heap (raw (lone inner.the_row.mir)) p)) d.at)
    (λ k. quiet (to the_type) (exits_of k (fields the_type)) ((struct_send (shape the_type) (ps, tt)).leaving k))
