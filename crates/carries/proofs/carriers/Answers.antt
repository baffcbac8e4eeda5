use Rattle.std.proofs.Common.{rules}
use lib.ListN.{get_or}
use Rattle.protection.specs.Limits.{rights}
use Rattle.rights.specs.Rights.{has, number}
use Rattle.cases.proofs.FromFn.{table_made}
use Rattle.carries.proofs.Closing.{turned}
use Rattle.carries.proofs.carriers.Goals as goal

pub returns : goal.returns
returns c = turned _ _ (table_made _ _ (λ q. number (λ i. has (get_or c.args.carried i 0) q) rights) rights (λ x r q l k. search rules) _ c.from_fn.ensures.items)
