use native.Mathlib.Nat.{sub-zero}
use mathlib.Core.Path.{refl}
use Rattle.cases.proofs.Loops.{iterate_more}
use Rattle.matrix.proofs.Operations.{renewed_is}
use native.Mathlib.Omega.{arith}
use Rattle.matrix.proofs.Matrix.renew.Goals as goal

pub loop-j-init : goal.loop-j-init
loop-j-init c = (omega arith, refl, rw sub-zero)

pub loop-j-preserved : goal.loop-j-preserved
loop-j-preserved c = (omega arith, cc, search iterate_more)

pub returns : goal.returns
returns c = renewed_is c.args.self.now c.args.n c.args.kind _ _ c.loop-j.invariant.1 c.loop-j-test.false c.loop-j.invariant.2
