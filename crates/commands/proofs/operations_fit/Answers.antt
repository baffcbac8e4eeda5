use mathlib.Core.Path.{◌≡◌}
use mathlib.Core.Bool.{true, false}
use native.Mathlib.Omega.{arith}
use Rattle.std.proofs.Common.{rules, tests}
use Rattle.std.proofs.lemmas.Iterator.{cases_from_all, YieldsList-from_range}
use Rattle.cases.proofs.Slices.{all_of_range}
use Rattle.commands.specs.Refusals.{operation_fits_at}
use Rattle.commands.proofs.operations_fit.Goals as goal

pub returns : goal.returns
returns c =
    let fit = operation_fits_at c.args.g c.args.part.now c.args.from in
    all_of_range fit (λ i. fit i ≡ true) (λ i. fit i ≡ false) 0 _ _ (λ i l h e. e) (λ i l h e. e)
    (cases_from_all _ _ _ (λ i. fit i ≡ true) (λ i. fit i ≡ false) c.all.ensures.ran (YieldsList-from_range 0 c.args.count c.args.count (search rules) (omega arith)) (λ x q k. search (rules, tests)) (λ x q k. search (rules, tests)))
