-- Refusal 44. Assumes nothing.
use Prim.Native.Nat.{ℕ, ◌^◌, ◌<◌}
use mathlib.Core.Path.{◌≡◌, refl, sym}
use mathlib.Core.Bool.{Bool, true, false}
use mathlib.Core.List.{List}
use native.Mathlib.Omega.{arith}
use lib.ListN.{get_or}
use borrow.Author.Tests.{ltb-true}
use Rattle.cases.specs.Cases.{pick, all}
use Rattle.cases.proofs.Loops.{all_at}
use Rattle.carries.specs.Refusals.{carry_fits, carries_refusal}

pub refused_44 : (g : ℕ) (l : List ℕ) → false ≡ all (carry_fits g l) g 0 → 44 ≡ carries_refusal g l
unfolding carries_refusal
refused_44 g l e = rw (sym e)

pub not_refused : (g : ℕ) (l : List ℕ) → true ≡ all (carry_fits g l) g 0 → 0 ≡ carries_refusal g l
unfolding carries_refusal
not_refused g l e = rw (sym e)

-- where it does not refuse, no right from g on is carried
pub carries_accepted : (g : ℕ) (l : List ℕ) → carries_refusal g l ≡ 0 → (i : ℕ) → i < g → get_or l i 0 < 2 ^ g
unfolding carries_refusal
carries_accepted g l e i h = ltb-true (get_or l i 0) (2 ^ g) (all_at (carry_fits g l) g 0 (passed (all (carry_fits g l) g 0) e) i (omega arith) (omega arith))
  where
    passed : (b : Bool) → ◌≡◌ {A = ℕ} (pick b 0 44) 0 → b ≡ true
    passed true e = refl
    passed false e = absurd (omega arith)
