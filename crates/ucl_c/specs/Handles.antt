-- What a handle holds, what a call on it does, and why it is not done. `Nobody` stands for no pass.
use Rattle.std.specs.Prelude.{◌≡◌, ◌⊎◌, Bool, true, false, Option, None, Some, Result, Err}
use denote.RawPtr.{Ptr, null_ptr, block_ptr}
use Rattle.ucl_c.specs.declared.board_pass.AnyPass.{AnyPass}
use Rattle.ucl_c.specs.declared.board_pass.AnyPass.TheVariants.{Nobody}
use Rattle.ucl_c.specs.declared.fault.Fault.{Fault}
use Rattle.ucl_c.specs.declared.fault.Fault.TheVariants.{InUse, NoPass}
use Rattle.ucl_c.specs.declared.handle.Handle.{Handle}
use Rattle.ucl_c.specs.BoardPasses.{PassHeld, IsNotEnlisted}
use Rattle.ucl_c.specs.Faults.{fault_unless}

-- whether a pointer is null; otherwise it points into a block of memory
abbrev pub is_null : Ptr → Bool
is_null null_ptr = true
is_null (block_ptr b o) = false

-- the pass that a handle with this pointer holds: this one, or none if the pointer is null
abbrev pub pass_at : Ptr → AnyPass → AnyPass
pass_at null_ptr pass = Nobody
pass_at (block_ptr b o) pass = pass

-- the pass that a handle holds, or none
abbrev pub pass_held : Handle → AnyPass
pass_held handle = pass_at handle.at handle.value.pass

-- `InUse` if a handle that is to be given a pass is not null
abbrev pub fault_of_room : Handle → Option Fault
fault_of_room handle = fault_unless (is_null handle.at) InUse

-- `call` was made on what a handle held, had this result, and turned the handle's pass from `before` into `after`
pub record IsCallOn {T : Type 0} (call : PassHeld → Result T Fault → PassHeld → Type 0) (before : AnyPass) (result : Result T Fault) (after : AnyPass) : Type 0 where
  pub held : PassHeld
  pub left : PassHeld
  pub held_is : before ≡ held.pass
  pub left_is : after ≡ left.pass
  pub called : call held result left

-- no call was made, since the handle held no pass; the fault is `NoPass`
pub record HoldsNone (before : AnyPass) (fault : Fault) (after : AnyPass) : Type 0 where
  pub none : before ≡ Nobody
  pub stays : after ≡ Nobody
  pub fault_is : fault ≡ NoPass

-- this fault is why a call on a handle is not done: the handle is null, or the call on its pass, before and after, returned the fault
abbrev pub IsRefusalOn : {T : Type 0} → (PassHeld → Result T Fault → PassHeld → Type 0) → AnyPass → Fault → AnyPass → Type 0
IsRefusalOn call before fault after = HoldsNone before fault after ⊎ IsCallOn call before (Err fault) after

-- why a pass, `before` and `after` the call, enlisted no reporter: the handle that was to get the new pass has a fault, and the pass is
-- unchanged; or that handle has none, and the fault came in enlisting
abbrev pub IsNotEnlistedIn : Option Fault → Fault → AnyPass → AnyPass → Type 0
IsNotEnlistedIn (Some found) fault before after = (after ≡ before) × (fault ≡ found)
IsNotEnlistedIn None fault before after = IsNotEnlisted fault before after
