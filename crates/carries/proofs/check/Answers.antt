use mathlib.Core.Path.{◌≡◌, sym, ◌∙◌}
use mathlib.Core.Bool.{true, false}
use native.Mathlib.Omega.{arith}
use Rattle.std.proofs.Common.{rules, tests}
use Rattle.std.proofs.lemmas.Iterator.{cases_from_all, YieldsList-from_range}
use Rattle.cases.proofs.Slices.{all_of_range}
use Rattle.carries.specs.Refusals.{carry_fits}
use Rattle.carries.proofs.Refusing.{refused_44, not_refused}
use Rattle.carries.proofs.check.Goals as goal

pub returns-then-not-all : goal.returns-then-not-all
returns-then-not-all c =
    let g = c.args.g in
    let fit = carry_fits g c.args.carries in
    refused_44 _ _ (sym c.if-not-all.true ∙ all_of_range fit (λ i. fit i ≡ true) (λ i. fit i ≡ false) 0 g _ (λ i l h e. e) (λ i l h e. e)
    (cases_from_all _ _ _ (λ i. fit i ≡ true) (λ i. fit i ≡ false) c.all.ensures.ran (YieldsList-from_range 0 g g (search rules) (omega arith)) (λ x q k. search (rules, tests)) (λ x q k. search (rules, tests))))

pub returns : goal.returns
returns c =
    let g = c.args.g in
    let fit = carry_fits g c.args.carries in
    not_refused _ _ (sym c.if-not-all.false ∙ all_of_range fit (λ i. fit i ≡ true) (λ i. fit i ≡ false) 0 g _ (λ i l h e. e) (λ i l h e. e)
    (cases_from_all _ _ _ (λ i. fit i ≡ true) (λ i. fit i ≡ false) c.all.ensures.ran (YieldsList-from_range 0 g g (search rules) (omega arith)) (λ x q k. search (rules, tests)) (λ x q k. search (rules, tests))))
