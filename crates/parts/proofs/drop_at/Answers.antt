use Rattle.parts.proofs.Dropping.{drop_this, drop_other}
use Rattle.parts.proofs.drop_at.Goals as goal

pub returns-then-mask-x-eq1 : goal.returns-then-mask-x-eq1
returns-then-mask-x-eq1 c = search drop_this

pub returns-else-mask-x-eq1 : goal.returns-else-mask-x-eq1
returns-else-mask-x-eq1 c = search drop_other
