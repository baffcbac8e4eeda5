use Rattle.closing.proofs.PassedBy.{concerning_fits, concerning_start, concerning_end, concerning_yes, concerning_no}
use borrow.Author.Rules.{rules}
use Rattle.closing.proofs.concerned.Goals as goal
use Rattle.closing.proofs.concerned.Goals.{else-concerns, then-concerns}

pub loop-i-init : goal.loop-i-init
loop-i-init c = search concerning_start

pub operation_at-requires : goal.operation_at-requires
operation_at-requires c = concerning_fits _ _ _ _ _ c.loop-i.invariant c.loop-i-test.true _ (search rules)

pub loop-i-preserved : goal.loop-i-preserved
loop-i-preserved c = elim c.if-concerns.branch [ then-concerns w ↦ search concerning_yes | else-concerns w ↦ search concerning_no ]

pub returns : goal.returns
returns c = search concerning_end
