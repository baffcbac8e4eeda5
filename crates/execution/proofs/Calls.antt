-- A call by the command's number. Assumes nothing.
use Prim.Native.Nat.{ℕ, ◌+◌, ◌≤◌, ◌<◌}
use mathlib.Core.Path.{◌≡◌, refl, sym, ap, ◌∙◌, subst}
use mathlib.Core.List.{List}
use mathlib.Core.Option.{Option, some}
use native.Mathlib.Omega.{arith}
use lib.ListN.{get_or, get_elem?}
use Rattle.cases.proofs.Lists.{found_tabulate, none_tabulate}
use Rattle.protection.specs.Limits.{rights}
use Rattle.protection.specs.Command.{Command as ModelCommand, values_of}
use Rattle.protection.specs.Execution.{bounded, execute_command}
use Rattle.matrix.specs.Canonical.{Canonical}
use Rattle.matrix.specs.Matrices.{state_of}
use Rattle.matrix.specs.declared.Matrix.{Matrix}
use Rattle.commands.specs.Contents.{missing, meaning}
use Rattle.commands.specs.Fits.{Fits}
use Rattle.commands.specs.declared.Command.{Command}
use Rattle.commands.proofs.Reading.{fits_wider}
use Rattle.policy.specs.Contents.{system_of}
use Rattle.policy.specs.Fits.{PolicyFits}
use Rattle.policy.specs.declared.Policy.{Policy}
use Rattle.policy.proofs.Laws.{policy_met}
use Rattle.execution.specs.Runs.{Refused, Executed, executed_of, outcome_of, ExecutedAs, RunBy}
use Rattle.execution.proofs.Running.{executed_refused}

module _ (p : Policy) (m : Matrix) (i : ℕ) (a : List ℕ) (right : ℕ) where
  pub refused_11 : Canonical rights m.kinds m.cells → p.commands ≤ i → ExecutedAs right (outcome_of p m i a) m (executed_of (Refused 11) m)
  refused_11 K h =
      executed_refused right 11 m m (outcome_of p m i a) K
      (ap (λ (w : Option ModelCommand). execute_command bounded (system_of p) (state_of m) w (values_of a)) (none_tabulate (λ j. meaning (get_or p.command j missing)) p.commands 0 i h)) refl

  pub call_fits : (c : Command) → PolicyFits p → i < p.commands → c ≡ get_or p.command i missing → Fits rights c
  call_fits c F l e = subst (Fits rights) (sym e) (fits_wider p.rights rights (get_or p.command i missing) F.few_rights (F.commands_fit i l))

  pub called : (c : Command) (x : Executed) → PolicyFits p → i < p.commands → c ≡ get_or p.command i missing
      → RunBy p.carriers right m c a x → ExecutedAs right (outcome_of p m i a) m x
  called c x F l e h =
      let z : 0 + i ≡ i = omega arith in
      let f : get_elem? (system_of p).commands i ≡ some (meaning c) =
      found_tabulate (λ j. meaning (get_or p.command j missing)) p.commands 0 i l ∙ ap (λ (j : ℕ). some (meaning (get_or p.command j missing))) z ∙ ap (λ (w : Command). some (meaning w)) (sym e) in
      subst (λ (w : Option ModelCommand). ExecutedAs right (execute_command bounded (system_of p) (state_of m) w (values_of a)) m x) (sym f) (h.is (system_of p) (policy_met p F))
