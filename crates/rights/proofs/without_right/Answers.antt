use Rattle.rights.specs.Rights.{width}
use Rattle.rights.proofs.Bits.{one_shl}
use Rattle.rights.proofs.without_right.Goals as goal

pub returns : goal.returns
returns c = simp (one_shl width _ c.requires)
