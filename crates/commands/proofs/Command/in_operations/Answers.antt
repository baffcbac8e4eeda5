use mathlib.Core.Path.{◌≡◌, ◌∙◌}
use mathlib.Core.Bool.{true, false}
use native.Mathlib.Omega.{arith}
use Rattle.std.proofs.Common.{rules, tests}
use Rattle.std.proofs.lemmas.Iterator.{cases_from_any, YieldsList-from_range}
use Rattle.cases.proofs.Slices.{any_of_range}
use Rattle.commands.proofs.Names.{step_names_it, operations_any}
use Rattle.commands.proofs.Command.in_operations.Goals as goal

pub returns : goal.returns
returns c =
    let here = step_names_it c.args.self c.args.b in
    any_of_range here (λ i. here i ≡ true) (λ i. here i ≡ false) 0 _ _ (λ i l h e. e) (λ i l h e. e)
    (cases_from_any _ _ _ (λ i. here i ≡ true) (λ i. here i ≡ false) c.any.ensures.ran (YieldsList-from_range 0 c.args.self.operations c.args.self.operations (search rules) (omega arith)) (λ x q k. search (rules, tests)) (λ x q k. search (rules, tests)))
    ∙ operations_any c.args.self c.args.b c.args.self.operations 0
