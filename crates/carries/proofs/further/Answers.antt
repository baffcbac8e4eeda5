use Rattle.carries.proofs.Closing.{gathering_start, gathering_yes, gathering_no, gathering_end}
use borrow.Author.Rules.{rules}
use native.Mathlib.Omega.{arith}
use Rattle.carries.proofs.further.Goals as goal
use Rattle.carries.proofs.further.Goals.{else-holds, then-holds}

pub loop-j-init : goal.loop-j-init
loop-j-init c = (omega arith, gathering_start _ _ _ _ (omega arith) c.with_right-set.ensures)

pub loop-j-preserved : goal.loop-j-preserved
loop-j-preserved c = (omega arith, elim c.if-holds.branch [ then-holds w ↦ gathering_yes _ _ _ _ _ _ c.loop-j.invariant.1 c.holds.ensures (search rules) _ w.set-is | else-holds w ↦ search gathering_no ])

pub returns : goal.returns
returns c = search gathering_end
