use mathlib.Core.Path.{refl}
use native.Mathlib.Omega.{arith}
use Rattle.parts.proofs.Lists.{reading_start, reading_refused, reading_next, reading_end}
use Rattle.parts.proofs.read_trusted.Goals as goal

pub loop-x-init : goal.loop-x-init
loop-x-init c = search reading_start

pub returns-then-not-can_leave-clause-refused : goal.returns-then-not-can_leave-clause-refused
returns-then-not-can_leave-clause-refused c = reading_refused _ _ _ _ c.loop-x.invariant (omega arith) _ refl _ c.can_leave.ensures c.if-not-can_leave.true

pub loop-x-preserved : goal.loop-x-preserved
loop-x-preserved c = reading_next _ _ _ _ c.loop-x.invariant (omega arith) _ refl _ c.can_leave.ensures c.if-not-can_leave.false _ c.with_name-mask.ensures

pub returns-clause-refused : goal.returns-clause-refused
returns-clause-refused c = reading_end _ _ _ _ c.loop-x.invariant (omega arith)
