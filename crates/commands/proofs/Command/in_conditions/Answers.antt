use mathlib.Core.Path.{◌≡◌, ◌∙◌}
use mathlib.Core.Bool.{true, false}
use native.Mathlib.Omega.{arith}
use Rattle.std.proofs.Common.{rules, tests}
use Rattle.std.proofs.lemmas.Iterator.{cases_from_any, YieldsList-from_range}
use Rattle.cases.proofs.Slices.{any_of_range}
use Rattle.commands.proofs.Names.{condition_names_it, conditions_any}
use Rattle.commands.proofs.Command.in_conditions.Goals as goal

pub returns : goal.returns
returns c =
    let here = condition_names_it c.args.self c.args.b in
    any_of_range here (λ i. here i ≡ true) (λ i. here i ≡ false) 0 _ _ (λ i l h e. e) (λ i l h e. e)
    (cases_from_any _ _ _ (λ i. here i ≡ true) (λ i. here i ≡ false) c.any.ensures.ran (YieldsList-from_range 0 c.args.self.conditions c.args.self.conditions (search rules) (omega arith)) (λ x q k. search (rules, tests)) (λ x q k. search (rules, tests)))
    ∙ conditions_any c.args.self c.args.b c.args.self.conditions 0
