-- An array that the library makes of a closure's answers, one for each index, is the table of a function. Assumes nothing.
use Prim.Native.Nat.{ℕ, zero, suc, ◌+◌, ◌≤◌, ◌<◌}
use mathlib.Core.Path.{◌≡◌, refl, sym, ◌∙◌}
use mathlib.Core.List.{List}
use native.Mathlib.Decide.{ℕ_discrete}
use native.Mathlib.Omega.{arith}
use denote.Param.Members.{Mut}
use lib.ListN.{get_or}
use lib.Seq.{ext_get_or}
use Rattle.std.specs.Fn.{Called}
use Rattle.std.specs.Array.{IsFromFnResultFrom, IsFromFnResult}
use Rattle.cases.specs.Cases.{tabulate}
use Rattle.cases.proofs.Lists.{length_tabulate}
use Rattle.cases.proofs.Filling.{get_or_table}

-- f is the closure: a call of it leaves it as it was, and answers what h says
module _ {F : Type 0} (g : Mut F (ℕ × Unit {0}) ℕ) (f : F) (h : ℕ → ℕ) (n : ℕ) (says : (x r : ℕ) (q : F) → x < n → Called g f (x, tt) r q → (q ≡ f) × (r ≡ h x)) (ys : List ℕ) where
  made_at : (m i : ℕ) (p : F) → p ≡ f → i + m ≤ n → IsFromFnResultFrom g p ys i m → (k : ℕ) → i ≤ k → k < i + m → get_or ys k 0 ≡ h k
  made_at zero i p e l y k a b = absurd (omega arith)
  made_at (suc m) i p e l y k a b = at (λ c. made_at m (i + 1) y.0 told.0 (omega arith) y.4 k c (omega arith)) (ℕ_discrete k i)
    where
      told : (y.0 ≡ f) × (y.1 ≡ h i)
      told = says i y.1 y.0 (omega arith) (rw e at y.3)

      at : (i + 1 ≤ k → get_or ys k 0 ≡ h k) → Dec (k ≡ i) → get_or ys k 0 ≡ h k
      at more (yes z) = rw z (y.2.1 0 ∙ told.1)
      at more (no z) = more (omega arith)

  pub table_made : IsFromFnResult g f ys n → ys ≡ tabulate h n 0
  table_made r =
      ext_get_or 0 ys (tabulate h n 0) (r.long ∙ sym (length_tabulate h n 0))
      (λ k l. let s = r.long in made_at n 0 f refl (omega arith) r.each k (omega arith) (omega arith) ∙ sym (get_or_table n h k (omega arith)))
