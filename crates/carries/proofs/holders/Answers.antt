use mathlib.Core.Path.{◌∙◌}
use Rattle.carries.proofs.Closing.{holding_start, holding_yes, holding_no, holding_end}
use native.Mathlib.Omega.{arith}
use Rattle.carries.proofs.holders.Goals as goal
use Rattle.carries.proofs.holders.Goals.{else-holds, then-holds}

pub loop-i-init : goal.loop-i-init
loop-i-init c = (omega arith, search holding_start)

pub loop-i-preserved : goal.loop-i-preserved
loop-i-preserved c = (omega arith, elim c.if-holds.branch [ then-holds w ↦ holding_yes _ _ _ _ _ c.loop-i.invariant.1 c.holds.ensures w.if-holds.true (omega arith) _ (w.set-is ∙ w.with_right-set.ensures) | else-holds w ↦ search holding_no ])

pub returns : goal.returns
returns c = holding_end _ _ _ _ (omega arith) c.loop-i.invariant.1
