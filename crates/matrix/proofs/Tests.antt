-- The test of one cell. Assumes nothing.
use Prim.Native.Nat.{ℕ, ◌/◌, ◌%◌, ◌^◌}
use mathlib.Core.Path.{◌≡◌, refl, sym, ◌∙◌}
use mathlib.Core.Bool.{Bool, true, false}
use mathlib.Core.List.{List}
use borrow.Author.Tests.{lt-ltb, ne_eqb}
use lib.Dec.{eqb}
use lib.ListN.{get_or}
use lib.Pow.{pow_pos}
use Rattle.cases.specs.Cases.{pick}
use Rattle.rights.specs.Rights.{within}
use Rattle.protection.specs.Limits.{names}
use Rattle.matrix.specs.Bytes.{inside}
use Rattle.matrix.specs.Refusals.{cell_fits}

-- ---- a cell: an empty one fits wherever it is, another one where there is a cell
pub cell_empty : (g : ℕ) (ks cs : List ℕ) (c : ℕ) → get_or cs c 0 ≡ 0 → eqb (get_or cs c 0) 0 ≡ cell_fits g ks cs c
unfolding cell_fits
cell_empty g ks cs c e = rw (e, lt-ltb 0 (2 ^ g) (pow_pos g)) (by (inside ks (c / names) (c % names)))
  where
    by : (b : Bool) → true ≡ pick b true true
    by true = refl
    by false = refl

pub cell_full : (g : ℕ) (ks cs : List ℕ) (c : ℕ) (w r : Bool) → (get_or cs c 0 ≡ 0 → ⊥) → w ≡ within (get_or cs c 0) g → w ≡ true → r ≡ inside ks (c / names) (c % names) → r ≡ cell_fits g ks cs c
unfolding cell_fits
cell_full g ks cs c w r n d t e =
    let z : within (get_or cs c 0) g ≡ true = sym d ∙ t in e ∙ rw (z, ne_eqb (get_or cs c 0) 0 n) (by (inside ks (c / names) (c % names)))
  where
    by : (b : Bool) → b ≡ pick b true false
    by true = refl
    by false = refl
