use mathlib.Core.Bool.{Bool, true, false}
use Prim.Native.Nat.{ℕ}
use native.Mathlib.Nat.{sub-zero}
use Rattle.std.proofs.Common.{rules, tests}
use Rattle.std.proofs.lemmas.Iterator.{cases_from_all, YieldsList-from_range}
use Rattle.execution.specs.Conditions.{HeldBy}
use Rattle.execution.proofs.Asked.{held_each}
use Rattle.execution.proofs.conditions.conditions_hold.Goals as goal

pub returns : goal.returns
returns c =
    let n = c.args.c.conditions in
    let Held = λ (j : ℕ) (r : Bool). HeldBy c.args.matrix.now.kinds c.args.matrix.now.cells c.args.carriers.now c.args.a c.args.c j r in
    held_each _ _ _ _ _ _
    (cases_from_all _ _ _ (λ j. Held j true) (λ j. Held j false) c.all.ensures.ran (YieldsList-from_range 0 n n (search rules) (sub-zero n)) (λ x q b. search (rules, tests)) (λ x q b. search (rules, tests)))
