use mathlib.Core.Path.{◌∙◌}
use borrow.Author.Tests.{le-ltb}
use Rattle.cases.proofs.Bools.{holds, fails}
use Rattle.cases.proofs.Picks.{cases}
use Rattle.commands.specs.Refusals.{condition_fits}
use Rattle.commands.proofs.condition_fits.Goals as goal
use Rattle.commands.proofs.condition_fits.Goals.{then-part-at, else-part-at}

pub returns-then-part-at-2 : goal.returns-then-part-at-2
unfolding condition_fits
returns-then-part-at-2 c =
    elim c.if-part-at.branch [ then-part-at w ↦ search cases depth 8 | else-part-at w ↦ absurd (fails _ (w.value-is ∙ le-ltb _ _ w.if-part-at.false) (holds _ c.if-part-at-2.true)) ]

pub returns-else-part-at-2 : goal.returns-else-part-at-2
unfolding condition_fits
returns-else-part-at-2 c = elim c.if-part-at.branch [ then-part-at w ↦ search cases depth 8 | else-part-at w ↦ search cases depth 8 ]
