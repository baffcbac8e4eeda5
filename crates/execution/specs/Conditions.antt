-- What the functions over a command's conditions ask and answer.
use Rattle.std.specs.Prelude.{ℕ, ◌+◌, ◌*◌, ◌≤◌, ◌<◌, ◌≡◌, Bool, List, get_or}
use Rattle.cases.specs.Cases.{tabulate}
use Rattle.protection.specs.Limits.{rights, conditions}
use Rattle.protection.specs.Command.{System, values_of}
use Rattle.protection.specs.Execution.{holds, hold_all}
use Rattle.matrix.specs.Bytes.{view}
use Rattle.carries.specs.Meeting.{MetBy}
use Rattle.commands.specs.Contents.{condition_of}
use Rattle.commands.specs.declared.Command.{Command}
use Rattle.operations.specs.Operations.{HasName}

-- condition j has a right that a cell can hold, and its parameters have names
pub record ConditionApplies (a : List ℕ) (c : Command) (j : ℕ) : Type 0 where
  pub number : j < conditions
  pub right : get_or c.condition (3 * j) 0 < rights
  pub subject : HasName a (get_or c.condition (3 * j + 1) 0)
  pub object : HasName a (get_or c.condition (3 * j + 2) 0)

pub record ConditionsApply (a : List ℕ) (c : Command) : Type 0 where
  pub few : c.conditions ≤ conditions
  pub all : (j : ℕ) → j < c.conditions → ConditionApplies a c j

-- a truth value is that of condition j, or of all, in every system whose conditions the sets of carriers test
pub record HeldBy (ks cs carriers a : List ℕ) (c : Command) (j : ℕ) (r : Bool) : Type 0 where
  pub is : (S : System) → MetBy S carriers → r ≡ holds S (view ks cs) (values_of a) (condition_of c j)

pub record AllHeldBy (ks cs carriers a : List ℕ) (c : Command) (r : Bool) : Type 0 where
  pub is : (S : System) → MetBy S carriers → r ≡ hold_all S (view ks cs) (values_of a) (tabulate (condition_of c) c.conditions 0)
