use Rattle.rights.proofs.Bits.{one_shl}
use Prim.Native.Nat.{◌<◌}
use native.Mathlib.Omega.{arith}
use Rattle.rights.proofs.none_from.Goals as goal

pub returns : goal.returns
returns c = let h : c.args.g < 32 = omega arith in simp (one_shl 32 _ h)
