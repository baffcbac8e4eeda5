-- An array of n elements that a loop fills with the values of a function. Assumes nothing.
use Prim.Native.Nat.{ℕ, ◌+◌, ◌≤◌, ◌<◌}
use mathlib.Core.Path.{◌≡◌, refl, sym, ap, ◌∙◌}
use mathlib.Core.List.{List}
use native.Mathlib.Decide.{dec_lt, ℕ_discrete}
use native.Mathlib.Omega.{arith}
use lib.ListN.{length, get_or, set, length-set}
use lib.Seq.{ext_get_or, get_or-set_same, get_or-set_other}
use Rattle.cases.specs.Cases.{tabulate}
use Rattle.cases.proofs.Lists.{length_tabulate, get_d_tabulate}

pub get_or_table : (n : ℕ) (f : ℕ → ℕ) (i : ℕ) → i < n → get_or (tabulate f n 0) i 0 ≡ f i
get_or_table n f i h = let z : 0 + i ≡ i = omega arith in get_d_tabulate f 0 n 0 i h ∙ ap f z

-- the elements before i are the values of f, the others are still those of an older one
pub record Filling (n : ℕ) (f : ℕ → ℕ) (old l : List ℕ) (i : ℕ) : Type 0 where
  pub long : length l ≡ n
  pub done : (k : ℕ) → k < i → get_or l k 0 ≡ f k
  pub rest : (k : ℕ) → i ≤ k → get_or l k 0 ≡ get_or old k 0

pub filling_start : (n : ℕ) (f : ℕ → ℕ) (old : List ℕ) → length old ≡ n → Filling n f old old 0
filling_start n f old e = record { long = e; done = λ k h. absurd (omega arith); rest = λ k h. refl }

pub filling_more : (n : ℕ) (f : ℕ → ℕ) (old l : List ℕ) (i v : ℕ) → i < n → v ≡ f i → Filling n f old l i → Filling n f old (set l i v) (i + 1)
filling_more n f old l i v h e F =
    record {
      long = length-set l i v ∙ F.long;
      done = λ k d. at k d (ℕ_discrete k i);
      rest = λ k d. get_or-set_other l i k v 0 (λ z. omega arith) ∙ F.rest k (omega arith);
    }
  where
    at : (k : ℕ) → k < i + 1 → Dec (k ≡ i) → get_or (set l i v) k 0 ≡ f k
    at k d (yes z) = rw z (get_or-set_same l i v 0 (omega (arith, F.long)) ∙ e)
    at k d (no z) = get_or-set_other l i k v 0 z ∙ F.done k (omega arith)

-- those after i have their values already
pub filling_end : (n : ℕ) (f : ℕ → ℕ) (old l : List ℕ) (i : ℕ) → Filling n f old l i → ((k : ℕ) → i ≤ k → k < n → get_or old k 0 ≡ f k) → l ≡ tabulate f n 0
filling_end n f old l i F h =
    ext_get_or 0 l (tabulate f n 0) (F.long ∙ sym (length_tabulate f n 0)) (λ k d. at k (omega (arith, F.long)) (dec_lt k i) ∙ sym (get_or_table n f k (omega (arith, F.long))))
  where
    at : (k : ℕ) → k < n → Dec (k < i) → get_or l k 0 ≡ f k
    at k d (yes z) = F.done k z
    at k d (no z) = F.rest k (omega arith) ∙ h k (omega arith) d
