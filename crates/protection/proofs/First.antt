-- The least number that passes a test. Assumes nothing.
use mathlib.Core.Path.{◌≡◌}
use mathlib.Core.Bool.{Bool, true, false}
use Prim.Native.Nat.{ℕ, zero, suc, ◌+◌, ◌≤◌, ◌<◌}
use native.Mathlib.Omega.{arith}
use native.Mathlib.Decide.{ℕ_discrete}
use lib.Dec.{T}
use Rattle.protection.specs.Judge.{first_in}

pub first_passes : (p : ℕ → Bool) (n x : ℕ) → first_in p n x < x + n → T (p (first_in p n x))
first_passes p zero x h = absurd (omega arith)
first_passes p (suc n) x h = go (p x) (λ b. b) (λ l. first_passes p n (suc x) l) h
  where
    go : (b : Bool) → (T b → T (p x)) → (first_in p n (suc x) < suc x + n → T (p (first_in p n (suc x))))
        → elim b [ true ↦ x | false ↦ first_in p n (suc x) ] < x + suc n → T (p (elim b [ true ↦ x | false ↦ first_in p n (suc x) ]))
    go true k ih h = k tt
    go false k ih h = ih (omega arith)

first_least : (p : ℕ → Bool) (n x t : ℕ) → x ≤ t → t < x + n → T (p t) → first_in p n x ≤ t
first_least p zero x t l h u = absurd (omega arith)
first_least p (suc n) x t l h u = go (p x) (λ b. b) (λ l h. first_least p n (suc x) t l h u)
  where
    go : (b : Bool) → (T (p x) → T b) → (suc x ≤ t → t < suc x + n → first_in p n (suc x) ≤ t) → elim b [ true ↦ x | false ↦ first_in p n (suc x) ] ≤ t
    go true k ih = l
    go false k ih = apart (ℕ_discrete x t)
      where
        apart : Dec (x ≡ t) → first_in p n (suc x) ≤ t
        apart (yes e) = absurd (k (rw e u))
        apart (no e) = ih (omega arith) (omega arith)

-- where one of the first n passes, the least of them is found
pub first_found : (p : ℕ → Bool) (n t : ℕ) → t < n → T (p t) → (first_in p n 0 < n) × T (p (first_in p n 0))
first_found p n t l u =
    let b : first_in p n 0 ≤ t = first_least p n 0 t (omega arith) (omega arith) u in
    (omega arith, first_passes p n 0 (omega arith))
