use Rattle.std.proofs.Common.{rules}
use lib.Dec.{eqb}
use Rattle.protection.specs.Limits.{rights}
use Rattle.rights.specs.Rights.{number}
use Rattle.cases.proofs.FromFn.{table_made}
use Rattle.carries.proofs.Closing.{alone_is, alone_end}
use Rattle.carries.proofs.alone.Goals as goal

pub returns : goal.returns
returns c = alone_end _ (table_made _ _ (λ i. number (eqb i) rights) rights (λ x r q l k. (search rules, alone_is _ _ l (search rules))) _ c.from_fn.ensures.items)
