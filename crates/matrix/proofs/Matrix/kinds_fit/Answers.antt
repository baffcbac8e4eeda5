use Prim.Native.Nat.{◌<◌, ◌≤◌}
use borrow.Author.Tests.{le-leb, lt-leb}
use Rattle.std.proofs.Common.{rules, tests}
use Rattle.std.proofs.lemmas.Iterator.{cases_from_all, YieldsList-from_slice}
use Rattle.cases.proofs.Slices.{all_of_slice}
use Rattle.matrix.proofs.Matrix.kinds_fit.Goals as goal

pub returns : goal.returns
returns c =
    let ks = c.args.self.now.kinds in
    all_of_slice _ (λ x. x ≤ 2) (λ x. 2 < x) ks _ 0 _ (search rules) (λ i l. le-leb _ 2) (λ i l. lt-leb _ 2)
    (cases_from_all _ _ _ (λ x. x ≤ 2) (λ x. 2 < x) c.all.ensures.ran (YieldsList-from_slice ks cc) (λ x q k. search (rules, tests)) (λ x q k. search (rules, tests)))
