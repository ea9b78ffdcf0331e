-- The number and the name of each refusal of a mend.
use Rattle.std.specs.Prelude.{ℕ, List, codes}
use Rattle.ucl_mends.specs.declared.mend_refusal.MendRefusal.{MendRefusal}
use Rattle.ucl_mends.specs.declared.mend_refusal.MendRefusal.TheVariants.{LastEdition, NoEvent}

-- the number that stands for a refusal of a mend
abbrev pub mend_refusal_code : MendRefusal → ℕ
mend_refusal_code NoEvent = 11
mend_refusal_code LastEdition = 12

-- the name of a refusal of a mend
abbrev pub mend_refusal_name : MendRefusal → List ℕ
mend_refusal_name NoEvent = codes "no-event"
mend_refusal_name LastEdition = codes "last-edition"
