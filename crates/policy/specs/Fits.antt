-- A policy as an accepted file has it: what the functions over a policy ask of it.
use Rattle.std.specs.Prelude.{ℕ, ◌^◌, ◌≤◌, ◌<◌, ◌≡◌, get_or}
use Rattle.protection.specs.Limits.{rights, commands}
use Rattle.matrix.specs.Canonical.{Canonical}
use Rattle.carries.specs.Closed.{carried_of, carriers_of}
use Rattle.commands.specs.Contents.{missing}
use Rattle.commands.specs.Fits.{Fits}
use Rattle.policy.specs.declared.Policy.{Policy}

pub record PolicyFits (p : Policy) : Type 0 where
  pub some_right : 1 ≤ p.rights
  pub few_rights : p.rights ≤ rights
  pub few_commands : p.commands ≤ commands
  pub matrix_fits : Canonical p.rights p.matrix.kinds p.matrix.cells
  pub carries_fit : (i : ℕ) → get_or p.carries i 0 < 2 ^ p.rights
  pub carried_is : p.carried ≡ carried_of p.rights p.carries
  pub carriers_is : p.carriers ≡ carriers_of p.rights p.carries
  pub commands_fit : (i : ℕ) → i < p.commands → Fits p.rights (get_or p.command i missing)
