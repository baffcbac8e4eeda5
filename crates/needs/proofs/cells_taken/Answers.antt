use mathlib.Core.Path.{◌≡◌, ◌∙◌}
use mathlib.Core.Bool.{true, false}
use mathlib.Core.List.{[]}
use Prim.Native.Nat.{ℕ}
use native.Mathlib.Omega.{arith}
use Rattle.std.proofs.Common.{rules, tests}
use Rattle.std.proofs.lemmas.Iterator.{cases_from_all, YieldsList-from_range}
use Rattle.cases.proofs.Slices.{all_of_range}
use Rattle.matrix.specs.Bytes.{view}
use Rattle.goals.specs.Goals.{needed_at}
use Rattle.needs.specs.Needed.{cell_taken}
use Rattle.needs.proofs.Listed.{taken_all}
use Rattle.needs.proofs.cells_taken.Goals as goal

pub returns : goal.returns
returns c =
    let n = c.args.n in
    let taken = λ (i : ℕ). cell_taken c.args.g (view c.args.kinds.now []) (needed_at c.args.list.now i) in
    all_of_range taken (λ i. taken i ≡ true) (λ i. taken i ≡ false) 0 n _ (λ i l h e. e) (λ i l h e. e)
    (cases_from_all _ _ _ (λ i. taken i ≡ true) (λ i. taken i ≡ false) c.all.ensures.ran (YieldsList-from_range 0 n n (search rules) (omega arith)) (λ x q k. search (rules, tests)) (λ x q k. search (rules, tests)))
    ∙ taken_all c.args.g c.args.kinds.now c.args.list.now n 0
