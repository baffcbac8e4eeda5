use mathlib.Core.Path.{◌≡◌, ◌∙◌}
use mathlib.Core.Bool.{true, false}
use Prim.Native.Nat.{ℕ}
use native.Mathlib.Nat.{sub-zero}
use Rattle.std.proofs.Common.{rules, tests}
use Rattle.std.proofs.lemmas.Iterator.{cases_from_all, YieldsList-from_range}
use Rattle.cases.proofs.Slices.{all_of_range}
use Rattle.matrix.specs.Bytes.{view}
use Rattle.goals.specs.Goals.{needed_at}
use Rattle.goals.proofs.Holding.{holds_one, held_all}
use Rattle.goals.proofs.all_held.Goals as goal

pub returns : goal.returns
returns c =
    let n = c.args.needed.count in
    let m = view c.args.matrix.now.kinds c.args.matrix.now.cells in
    let held = λ (j : ℕ). holds_one m (needed_at c.args.needed.cells j) in
    all_of_range held (λ j. held j ≡ true) (λ j. held j ≡ false) 0 n _ (λ j l h t. t) (λ j l h t. t)
    (cases_from_all _ _ _ (λ j. held j ≡ true) (λ j. held j ≡ false) c.all.ensures.ran (YieldsList-from_range 0 n n (search rules) (sub-zero n)) (λ x q b. search (rules, tests)) (λ x q b. search (rules, tests)))
    ∙ held_all m c.args.needed.cells n 0
