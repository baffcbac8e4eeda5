-- A command as an accepted file with g rights has it: what the functions over a command ask of it.
use Rattle.std.specs.Prelude.{ℕ, ◌+◌, ◌*◌, ◌≤◌, ◌<◌, ◌≡◌, get_or}
use Rattle.protection.specs.Limits.{parameters, conditions, operations}
use Rattle.commands.specs.Contents.{step_in, step_of}
use Rattle.commands.specs.declared.Command.{Command}
use Rattle.commands.specs.declared.Operation.{Operation}

-- step j is not refused: the reader says an operation
pub record Reads (g : ℕ) (c : Command) (j : ℕ) : Type 0 where
  pub operation : Operation
  pub is : step_in g c j ≡ step_of operation

pub record Fits (g : ℕ) (c : Command) : Type 0 where
  pub some_parameter : 1 ≤ c.parameters
  pub few_parameters : c.parameters ≤ parameters
  pub few_conditions : c.conditions ≤ conditions
  pub some_operation : 1 ≤ c.operations
  pub few_operations : c.operations ≤ operations
  pub condition_right : (j : ℕ) → j < c.conditions → get_or c.condition (3 * j) 0 < g
  pub condition_subject : (j : ℕ) → j < c.conditions → get_or c.condition (3 * j + 1) 0 < c.parameters
  pub condition_object : (j : ℕ) → j < c.conditions → get_or c.condition (3 * j + 2) 0 < c.parameters
  pub operation_read : (j : ℕ) → j < c.operations → Reads g c j
