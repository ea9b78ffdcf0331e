use Rattle.std.proofs.Common.{◌≡◌, false, arith, refl}
use Rattle.ucl_c.specs.declared.fault.Fault.TheVariants.{InUse}
use Rattle.ucl_c.specs.Handles.{is_null}
use Rattle.ucl_c.proofs.passes.uclboard_pass_enlist.Goals as goal

pub returns-then-not-is_null-clause-refused : goal.returns-then-not-is_null-clause-refused
returns-then-not-is_null-clause-refused c =
    let held : is_null c.args.other.now.at ≡ false = grind arith in
    λ _. (c.is_null.ensures.2, (InUse, c.status.ensures, rw held (refl, refl)))
