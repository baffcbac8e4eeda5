use Rattle.closing.proofs.Lacking.{lacking_start, lacking_more, lacking_same}
use native.Mathlib.Omega.{arith}
use Rattle.closing.proofs.asked.lacking_in.Goals as goal
use Rattle.closing.proofs.asked.lacking_in.Goals.{else-set-carriers-eq0, then-set-carriers-eq0}

pub loop-q-init : goal.loop-q-init
loop-q-init c = (omega arith, search lacking_start)

pub loop-q-preserved : goal.loop-q-preserved
loop-q-preserved c = (omega arith, elim c.if-set-carriers-eq0.branch [ then-set-carriers-eq0 w ↦ search lacking_more | else-set-carriers-eq0 w ↦ search lacking_same ])
