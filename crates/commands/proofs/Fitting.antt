-- The command that the reader hands out fits. Assumes nothing.
use Prim.Native.Nat.{ℕ, ◌+◌, ◌*◌, ◌-◌, ◌≤◌, ◌<◌}
use mathlib.Core.Path.{◌≡◌, refl, ap, ◌∙◌}
use mathlib.Core.Bool.{Bool, true, false}
use mathlib.Core.List.{List}
use native.Mathlib.Omega.{arith}
use borrow.Author.Tests.{ltb-true}
use lib.Dec.{ltb}
use lib.ListN.{length, get_or, take, drop, replicate, length-drop, get_or-append}
use lib.Seq.{length-take-le, get_or-take, get_or-drop}
use Rattle.cases.specs.Cases.{pick}
use Rattle.cases.proofs.Loops.{all_at}
use Rattle.layout.specs.File.{byte}
use Rattle.commands.specs.Steps.{step_read}
use Rattle.commands.specs.Refusals.{condition_fits, condition_fits_at, operation_fits, operation_fits_at}
use Rattle.commands.specs.Contents.{padded, command_of}
use Rattle.commands.specs.Fits.{Reads, Fits}
use Rattle.commands.proofs.Accepted.{CommandFits}
use Rattle.commands.proofs.Reading.{read_operation}

-- ---- tests that held
both : (a b : Bool) → pick a b false ≡ true → (a ≡ true) × (b ≡ true)
both true b e = (refl, e)
both false b e = absurd (let z : ◌≡◌ {A = ℕ} 0 1 = cc in omega arith)

none : (a b : Bool) → pick a false b ≡ true → b ≡ true
none true b e = absurd (let z : ◌≡◌ {A = ℕ} 0 1 = cc in omega arith)
none false b e = e

module _ (g : ℕ) (p : List ℕ) (i : ℕ) where
  condition_facts : condition_fits g p i ≡ true → (byte p i < g) × (byte p (i + 1) < byte p 0) × (byte p (i + 2) < byte p 0)
  unfolding condition_fits
  condition_facts e =
      let t1 = both (ltb (byte p i) g) _ e in
      let t2 = both (ltb (byte p (i + 1)) (byte p 0)) _ t1.1 in
      (ltb-true (byte p i) g t1.0, ltb-true (byte p (i + 1)) (byte p 0) t2.0, ltb-true (byte p (i + 2)) (byte p 0) t2.1)

-- ---- bytes of the section in the command's arrays
part_at : (p : List ℕ) (size from n i : ℕ) → from + n ≤ length p → i < n → get_or (padded size (take n (drop from p))) i 0 ≡ byte p (from + i)
part_at p size from n i h l =
    let k : length (take n (drop from p)) ≡ n = length-take-le n (drop from p) (simp length-drop (omega arith)) in
    get_or-append (take n (drop from p)) (replicate (size - length (take n (drop from p))) 0) 0 i (omega arith)
    ∙ get_or-take n (drop from p) i 0 l ∙ get_or-drop from p i 0

module _ (g : ℕ) (p : List ℕ) (A : CommandFits g p) where
  in_condition : (i : ℕ) → i < 3 * byte p 1 → get_or (command_of p).condition i 0 ≡ byte p (3 + i)
  unfolding command_of
  in_condition i l = part_at p 12 3 (3 * byte p 1) i (omega (arith, A.size)) l

  in-operation : (i : ℕ) → i < 4 * byte p 2 → get_or (command_of p).operation i 0 ≡ byte p (3 + 3 * byte p 1 + i)
  unfolding command_of
  in-operation i l = part_at p 24 (3 + 3 * byte p 1) (4 * byte p 2) i (omega (arith, A.size)) l

  condition_at : (j : ℕ) → j < byte p 1 → (byte p (3 + 3 * j) < g) × (byte p (3 + 3 * j + 1) < byte p 0) × (byte p (3 + 3 * j + 2) < byte p 0)
  condition_at j l = condition_facts g p (3 + 3 * j) (all_at (condition_fits_at g p) (byte p 1) 0 A.conditions_fit j (omega arith) (omega arith))

  operation-at : (j : ℕ) → j < byte p 2 → Reads g (command_of p) j
  unfolding operation_fits command_of
  operation-at j l =
      let at = 3 + 3 * byte p 1 + 4 * j in
      let R = read_operation (step_read (byte p 0) g (byte p at) (byte p (at + 1)) (byte p (at + 2)) (byte p (at + 3)))
      (all_at (operation_fits_at g p (3 + 3 * byte p 1)) (byte p 2) 0 A.operations_fit j (omega arith) (omega arith)) in
      record {
        operation = R.0;
        is = rw (in-operation (4 * j) (omega arith), step 1 (omega arith), step 2 (omega arith), step 3 (omega arith)) R.1;
      }
    where
      step : (i : ℕ) → i < 4 → get_or (command_of p).operation (4 * j + i) 0 ≡ byte p (3 + 3 * byte p 1 + 4 * j + i)
      step i h =
          let z : 3 + 3 * byte p 1 + (4 * j + i) ≡ 3 + 3 * byte p 1 + 4 * j + i = omega arith in
          in-operation (4 * j + i) (omega arith) ∙ ap (byte p) z

  pub command_fits : Fits g (command_of p)
  unfolding command_of
  command_fits = record {
    some_parameter = A.some_parameter;
    few_parameters = A.few_parameters;
    few_conditions = A.few_conditions;
    some_operation = A.some_operation;
    few_operations = A.few_operations;
    condition_right = λ j l. below (3 * j) g (in_condition (3 * j) (omega arith)) (condition_at j l).0;
    condition_subject = λ j l. below (3 * j + 1) (byte p 0) (in_condition (3 * j + 1) (omega arith) ∙ ap (byte p) (omega arith)) (condition_at j l).1;
    condition_object = λ j l. below (3 * j + 2) (byte p 0) (in_condition (3 * j + 2) (omega arith) ∙ ap (byte p) (omega arith)) (condition_at j l).2;
    operation_read = operation-at;
  }
    where
      below : (i b : ℕ) {x : ℕ} → get_or (command_of p).condition i 0 ≡ x → x < b → get_or (command_of p).condition i 0 < b
      below i b e l = rw e l
