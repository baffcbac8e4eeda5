-- What it means that no test refused a command's section. Assumes nothing.
use Prim.Native.Nat.{ℕ, ◌+◌, ◌*◌, ◌≤◌}
use mathlib.Core.Path.{◌≡◌}
use mathlib.Core.Bool.{true}
use mathlib.Core.List.{List}
use borrow.Author.Tests.{ltb-false, eqb-true}
use lib.Dec.{eqb, ltb}
use lib.ListN.{length}
use Rattle.cases.specs.Cases.{all}
use Rattle.protection.specs.Limits.{parameters, conditions, operations}
use Rattle.layout.specs.File.{byte}
use Rattle.layout.proofs.Accepted.{passed, held}
use Rattle.commands.specs.Refusals.{condition_fits_at, operation_fits_at, command_refusal}

pub record CommandFits (g : ℕ) (p : List ℕ) : Type 0 where
  pub some_parameter : 1 ≤ byte p 0
  pub few_parameters : byte p 0 ≤ parameters
  pub few_conditions : byte p 1 ≤ conditions
  pub some_operation : 1 ≤ byte p 2
  pub few_operations : byte p 2 ≤ operations
  pub size : length p ≡ 3 + 3 * byte p 1 + 4 * byte p 2
  pub conditions_fit : all (condition_fits_at g p) (byte p 1) 0 ≡ true
  pub operations_fit : all (operation_fits_at g p (3 + 3 * byte p 1)) (byte p 2) 0 ≡ true

pub command_accepted : (g : ℕ) (p : List ℕ) → command_refusal g p ≡ 0 → CommandFits g p
unfolding command_refusal
command_accepted g p e =
    let t1 = passed (ltb (length p) 3) 4 _ e in
    let t2 = passed (ltb (byte p 0) 1) 7 _ t1.1 in
    let t3 = passed (ltb parameters (byte p 0)) 7 _ t2.1 in
    let t4 = passed (ltb conditions (byte p 1)) 7 _ t3.1 in
    let t5 = passed (ltb (byte p 2) 1) 7 _ t4.1 in
    let t6 = passed (ltb operations (byte p 2)) 7 _ t5.1 in
    let t7 = held (eqb (length p) (3 + 3 * byte p 1 + 4 * byte p 2)) 4 _ t6.1 in
    let t8 = held (all (condition_fits_at g p) (byte p 1) 0) 8 _ t7.1 in
    let t9 = held (all (operation_fits_at g p (3 + 3 * byte p 1)) (byte p 2) 0) 8 _ t8.1 in
    record {
      some_parameter = ltb-false (byte p 0) 1 t2.0;
      few_parameters = ltb-false parameters (byte p 0) t3.0;
      few_conditions = ltb-false conditions (byte p 1) t4.0;
      some_operation = ltb-false (byte p 2) 1 t5.0;
      few_operations = ltb-false operations (byte p 2) t6.0;
      size = eqb-true (length p) (3 + 3 * byte p 1 + 4 * byte p 2) t7.0;
      conditions_fit = t8.0;
      operations_fit = t9.0;
    }
