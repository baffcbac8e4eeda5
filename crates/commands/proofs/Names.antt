-- The parameters that a command names: the loops that look for one, and what is named. Assumes nothing.
use Prim.Native.Nat.{ℕ, zero, suc, ◌+◌, ◌*◌, ◌<◌}
use mathlib.Core.Path.{◌≡◌, refl, sym, ap, ◌∙◌, subst}
use mathlib.Core.Bool.{Bool, true, false, ◌||◌}
use mathlib.Core.List.{List, [], ◌∷◌, ◌++◌}
use native.Mathlib.Nat.{zero-add}
use native.Mathlib.Omega.{arith}
use lib.Dec.{T, eqb}
use lib.ListN.{get_or}
use Rattle.cases.specs.Cases.{pick, any, tabulate}
use Rattle.cases.proofs.Lists.{any_tabulate}
use Rattle.cases.proofs.Bools.{or_left, or_right}
use Rattle.protection.specs.Command.{Operation, in_conditions, in_operation, in_operations, named}
use Rattle.commands.specs.Contents.{condition_of, operation_at, operations_of, operations_from, model_of, step_of, meaning}
use Rattle.commands.specs.declared.Command.{Command}
use Rattle.commands.specs.declared.Operation.{Operation as CodeOperation}
use Rattle.commands.proofs.Reading.{operations-of}

-- ---- steps one behind the other
in_both : (b : ℕ) (xs ys : List Operation) → in_operations b (xs ++ ys) ≡ in_operations b xs || in_operations b ys
in_both b [] ys = refl
in_both b (x ∷ xs) ys = ap (λ (z : Bool). in_operation b x || z) (in_both b xs ys) ∙ sym (or_assoc (in_operation b x) (in_operations b xs) (in_operations b ys))
  where
    or_assoc : (u v w : Bool) → (u || v) || w ≡ u || (v || w)
    or_assoc true v w = refl
    or_assoc false v w = refl

or_pick : (x y : Bool) → x || y ≡ pick x true y
or_pick true y = refl
or_pick false y = refl

-- ---- that some condition or some step names it
abbrev pub condition_names_it : Command → ℕ → ℕ → Bool
condition_names_it c b j = eqb b (get_or c.condition (3 * j + 1) 0) || eqb b (get_or c.condition (3 * j + 2) 0)

pub conditions_any : (c : Command) (b n j : ℕ) → any (condition_names_it c b) n j ≡ in_conditions b (tabulate (condition_of c) n j)
unfolding any
conditions_any c b zero j = refl
conditions_any c b (suc n) j = ap (pick (condition_names_it c b j) true) (conditions_any c b n (suc j)) ∙ sym (or_pick (condition_names_it c b j) (in_conditions b (tabulate (condition_of c) n (suc j))))

abbrev pub step_names_it : Command → ℕ → ℕ → Bool
step_names_it c b j = in_operations b (operations_of (operation_at c j))

pub operations_any : (c : Command) (b n j : ℕ) → any (step_names_it c b) n j ≡ in_operations b (operations_from c n j)
unfolding any
operations_any c b zero j = refl
operations_any c b (suc n) j =
    ap (pick (step_names_it c b j) true) (operations_any c b n (suc j)) ∙ sym (or_pick (step_names_it c b j) (in_operations b (operations_from c n (suc j))))
    ∙ sym (in_both b (operations_of (operation_at c j)) (operations_from c n (suc j)))

-- ---- what a condition or an operation names is named by the command
module _ (c : Command) (b : ℕ) where
  pub condition_names : (j : ℕ) → j < c.conditions → T (eqb b (condition_of c j).subject || eqb b (condition_of c j).object) → T (named (meaning c) b)
  condition_names j l t =
      or_left (in_conditions b (meaning c).conditions) (in_operations b (meaning c).operations)
      (any_tabulate (in_conditions b) (λ x. eqb b x.subject || eqb b x.object) (λ x xs. refl) (condition_of c) c.conditions 0 j l (rw zero-add t))

  in_steps : (n j i : ℕ) (o : CodeOperation) → i < n → step_of o ≡ operation_at c (j + i) → T (in_operation b (model_of o)) → T (in_operations b (operations_from c n j))
  in_steps zero j i o l e t = absurd (omega arith)
  in_steps (suc n) j zero o l e t =
      let z : j + 0 ≡ j = omega arith in
      rw (in_both b (operations_of (operation_at c j)) (operations_from c n (suc j)))
      (or_left (in_operations b (operations_of (operation_at c j))) (in_operations b (operations_from c n (suc j)))
      (subst (λ (w : List Operation). T (in_operations b w)) (sym (operations-of o) ∙ ap operations_of (e ∙ ap (operation_at c) z)) (or_left (in_operation b (model_of o)) false t)))
  in_steps (suc n) j (suc i) o l e t =
      let z : j + suc i ≡ suc j + i = omega arith in
      rw (in_both b (operations_of (operation_at c j)) (operations_from c n (suc j)))
      (or_right (in_operations b (operations_of (operation_at c j))) (in_operations b (operations_from c n (suc j))) (in_steps n (suc j) i o (omega arith) (e ∙ ap (operation_at c) z) t))

  pub operation_names : (j : ℕ) (o : CodeOperation) → j < c.operations → step_of o ≡ operation_at c j → T (in_operation b (model_of o)) → T (named (meaning c) b)
  operation_names j o l e t =
      or_right (in_conditions b (meaning c).conditions) (in_operations b (meaning c).operations)
      (in_steps c.operations 0 j o l (e ∙ ap (operation_at c) (sym (zero-add j))) t)
