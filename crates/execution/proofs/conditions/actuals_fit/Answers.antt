use mathlib.Core.Path.{◌≡◌}
use mathlib.Core.Bool.{true, false}
use native.Mathlib.Omega.{arith}
use Rattle.std.proofs.Common.{rules, tests}
use Rattle.std.proofs.lemmas.Iterator.{cases_from_all, YieldsList-from_range}
use Rattle.cases.proofs.Slices.{all_of_range}
use Rattle.protection.specs.Command.{values_of}
use Rattle.protection.specs.Execution.{bounded, actual_fits}
use Rattle.commands.specs.Contents.{meaning}
use Rattle.execution.proofs.conditions.actuals_fit.Goals as goal

pub returns : goal.returns
returns c =
    let fits = actual_fits bounded (meaning c.args.c) (values_of c.args.a) in
    all_of_range fits (λ b. fits b ≡ true) (λ b. fits b ≡ false) 0 4 _ (λ b l h t. t) (λ b l h t. t)
    (cases_from_all _ _ _ (λ b. fits b ≡ true) (λ b. fits b ≡ false) c.all.ensures.ran (YieldsList-from_range 0 4 4 (search rules) (omega arith)) (λ x q k. search (rules, tests)) (λ x q k. search (rules, tests)))
