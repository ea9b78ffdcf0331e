-- An output that failed in one of its parts.
use Rattle.ucl_rows.proofs.Common.{Appends, Bool, IsStopped, List, Option, RunFault, length, min, ℕ, ◌++◌, ◌+◌, ◌-◌, ◌^◌, ◌≡◌}
use Rattle.ucl_io.proofs.Puts as io
use Rattle.ucl_rows.specs.declared.fault.RunFault.TheVariants.{WriteFailed}

-- if the output failed within the first of two texts, it failed within the two, one after the other
pub stopped_first : (before : ℕ) (failed : Bool) (old new : Option (List ℕ)) (a b : List ℕ) (f : RunFault) → IsStopped before failed old new a f → IsStopped before failed old new (a ++ b) f
stopped_first before failed old new a b (WriteFailed written) s = io.stopped_first before failed old new a b written s
stopped_first _ _ _ _ _ _ _ s = s

-- if the output took the first of two texts and failed within the second, it failed within the two, one after the other
pub stopped_second : (before total : ℕ) (failed : Bool) (old mid new : Option (List ℕ)) (a b : List ℕ) (f : RunFault) → Appends old mid a → total ≡ min (before + length a) (2 ^ 64 - 1)
    → IsStopped total failed mid new b f → IsStopped before failed old new (a ++ b) f
stopped_second before total failed old mid new a b (WriteFailed written) out total_is s = io.stopped_second before total failed old mid new a b written out total_is s
stopped_second _ _ _ _ _ _ _ _ _ _ _ s = s
