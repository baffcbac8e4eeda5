-- What it means that no test of the chain refused. Assumes nothing.
use Prim.Native.Nat.{ℕ, zero, suc, ◌+◌, ◌*◌, ◌≤◌, ◌<◌}
use mathlib.Core.Path.{◌≡◌}
use mathlib.Core.Bool.{true}
use mathlib.Core.List.{List}
use native.Mathlib.Decide.{ℕ_discrete}
use native.Mathlib.Omega.{arith}
use Rattle.cases.specs.Cases.{all}
use Rattle.protection.specs.Limits.{names}
use Rattle.layout.specs.File.{rights_of, kinds_in, cells_in, carries_in, command_in, commands_of}
use Rattle.layout.specs.Refusals.{header_refusal, pairs_refusal, sizes_refusal}
use Rattle.layout.proofs.Accepted.{held, or-else, HeaderFits, header_accepted}
use Rattle.carries.specs.Refusals.{carries_refusal}
use Rattle.commands.specs.Refusals.{command_refusal}
use Rattle.commands.proofs.Accepted.{CommandFits, command_accepted}
use Rattle.matrix.specs.Refusals.{kind_fits, cell_fits, matrix_refusal}
use Rattle.policy.specs.Refusals.{commands_refusal, refusal}

pub matrix_accepted : (g : ℕ) (ks cs : List ℕ) → matrix_refusal g ks cs ≡ 0 → (all (kind_fits ks) names 0 ≡ true) × (all (cell_fits g ks cs) (names * names) 0 ≡ true)
unfolding matrix_refusal
matrix_accepted g ks cs e =
    let t1 = held (all (kind_fits ks) names 0) 5 _ e in
    let t2 = held (all (cell_fits g ks cs) (names * names) 0) 6 _ t1.1 in
    (t1.0, t2.0)

pub commands_accepted : (f : List ℕ) (n i : ℕ) → commands_refusal f n i ≡ 0 → (j : ℕ) → i ≤ j → j < i + n → command_refusal (rights_of f) (command_in f j) ≡ 0
unfolding commands_refusal
commands_accepted f zero i e j l h = absurd (omega arith)
commands_accepted f (suc n) i e j l h = go (λ l'. commands_accepted f n (suc i) t.1 j l' (omega arith)) (ℕ_discrete j i)
  where
    t : (command_refusal (rights_of f) (command_in f i) ≡ 0) × (commands_refusal f n (suc i) ≡ 0)
    t = or-else (command_refusal (rights_of f) (command_in f i)) (commands_refusal f n (suc i)) e

    go : (suc i ≤ j → command_refusal (rights_of f) (command_in f j) ≡ 0) → Dec (j ≡ i) → command_refusal (rights_of f) (command_in f j) ≡ 0
    go ih (yes q) = rw q t.0
    go ih (no q) = ih (omega arith)

-- ---- the whole file
pub record Accepted (f : List ℕ) : Type 0 where
  pub header : HeaderFits f
  pub header_passed : header_refusal f ≡ 0
  pub pairs : pairs_refusal f ≡ 0
  pub sizes : sizes_refusal f ≡ 0
  pub matrix : matrix_refusal (rights_of f) (kinds_in f) (cells_in f) ≡ 0
  pub carries : carries_refusal (rights_of f) (carries_in f) ≡ 0
  pub commands_passed : commands_refusal f (commands_of f) 0 ≡ 0
  pub commands : (i : ℕ) → i < commands_of f → CommandFits (rights_of f) (command_in f i)

pub accepted : (f : List ℕ) → refusal f ≡ 0 → Accepted f
unfolding refusal
accepted f e =
    let t1 = or-else (header_refusal f) _ e in
    let t2 = or-else (pairs_refusal f) _ t1.1 in
    let t3 = or-else (sizes_refusal f) _ t2.1 in
    let t4 = or-else (matrix_refusal (rights_of f) (kinds_in f) (cells_in f)) _ t3.1 in
    let t5 = or-else (carries_refusal (rights_of f) (carries_in f)) (commands_refusal f (commands_of f) 0) t4.1 in
    record {
      header = header_accepted f t1.0;
      header_passed = t1.0;
      commands_passed = t5.1;
      pairs = t2.0;
      sizes = t3.0;
      matrix = t4.0;
      carries = t5.0;
      commands = λ i l. command_accepted (rights_of f) (command_in f i) (commands_accepted f (commands_of f) 0 t5.1 i (omega arith) (omega arith));
    }
