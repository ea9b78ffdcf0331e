use Rattle.std.proofs.lemmas.Nat.{one_shl, and_mask}
use Rattle.ucl_c.proofs.word.bits.Goals as goal

pub returns : goal.returns
returns c = rw (one_shl c.args.width 64 c.requires.width, and_mask)
