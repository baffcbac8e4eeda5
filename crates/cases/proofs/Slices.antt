-- What `all` and `any` of the library say of the elements of a slice, or of the numbers of a range, as `all` and `any` of the definitions. Assumes nothing.
use Prim.Native.Nat.{ℕ, ◌+◌, ◌-◌, ◌<◌, ◌≤◌}
use mathlib.Core.Path.{◌≡◌, sym, subst, ◌∙◌}
use mathlib.Core.Bool.{Bool, true, false}
use mathlib.Core.List.{List}
use native.Mathlib.Omega.{arith}
use lib.ListN.{length, get_or}
use Rattle.std.specs.Bool.{MatchBool}
use Rattle.std.specs.List.{AllWithin, HoldsAt, range_with_len}
use Rattle.std.proofs.lemmas.List.FromFn.{length-range_with_len, get_or-range_with_len}
use Rattle.cases.specs.Cases.{all, any}
use Rattle.cases.proofs.Bools.{is_true, is_false, holds, fails}
use Rattle.cases.proofs.Loops.{all_intro, all_at, any_intro, any_none}

-- a test that fails at one of the n numbers
pub all_fails : (p : ℕ → Bool) (n j i : ℕ) → j ≤ i → i < j + n → p i ≡ false → all p n j ≡ false
all_fails p n j i l h e = is_false (all p n j) (λ t. fails (p i) e (holds (p i) (all_at p n j (is_true (all p n j) t) i l h)))

-- of a slice with n elements: d is the element that the definitions read past the end
module _ {A : Type 0} (p : ℕ → Bool) (Yes No : A → Type 0) (xs : List A) (n : ℕ) (d : A) (r : Bool) where
  pub all_of_slice : length xs ≡ n → ((i : ℕ) → i < n → Yes (get_or xs i d) → p i ≡ true) → ((i : ℕ) → i < n → No (get_or xs i d) → p i ≡ false)
      → MatchBool r (AllWithin Yes xs 0 (length xs)) ((k : ℕ) × (k < length xs) × HoldsAt No xs k) → r ≡ all p n 0
  all_of_slice e pass fail = go r
    where
      go : (b : Bool) → MatchBool b (AllWithin Yes xs 0 (length xs)) ((k : ℕ) × (k < length xs) × HoldsAt No xs k) → b ≡ all p n 0
      go true h = sym (all_intro p n 0 (λ i l k. pass i (omega arith) (h i d (omega arith) (omega arith))))
      go false h = let l = h.1 in sym (all_fails p n 0 h.0 (omega arith) (omega arith) (fail h.0 (omega arith) (h.2 d)))

  pub any_of_slice : length xs ≡ n → ((i : ℕ) → i < n → Yes (get_or xs i d) → p i ≡ true) → ((i : ℕ) → i < n → No (get_or xs i d) → p i ≡ false)
      → MatchBool r ((k : ℕ) × (k < length xs) × HoldsAt Yes xs k) (AllWithin No xs 0 (length xs)) → r ≡ any p n 0
  any_of_slice e pass fail = go r
    where
      go : (b : Bool) → MatchBool b ((k : ℕ) × (k < length xs) × HoldsAt Yes xs k) (AllWithin No xs 0 (length xs)) → b ≡ any p n 0
      go true h = let l = h.1 in sym (is_true (any p n 0) (any_intro p n 0 h.0 (omega arith) (omega arith) (holds (p h.0) (pass h.0 (omega arith) (h.2 d)))))
      go false h = sym (any_none p n 0 (λ i l k. fails (p i) (fail i (omega arith) (h i d (omega arith) (omega arith)))))

-- of the n numbers from j on
module _ (p : ℕ → Bool) (Yes No : ℕ → Type 0) (j n : ℕ) (r : Bool) where
  pub all_of_range : ((i : ℕ) → j ≤ i → i < j + n → Yes i → p i ≡ true) → ((i : ℕ) → j ≤ i → i < j + n → No i → p i ≡ false)
      → MatchBool r (AllWithin Yes (range_with_len j n) 0 (length (range_with_len j n))) ((k : ℕ) × (k < length (range_with_len j n)) × HoldsAt No (range_with_len j n) k) → r ≡ all p n j
  all_of_range pass fail = go r
    where
      size : length (range_with_len j n) ≡ n
      size = length-range_with_len j n

      go : (b : Bool) → MatchBool b (AllWithin Yes (range_with_len j n) 0 (length (range_with_len j n))) ((k : ℕ) × (k < length (range_with_len j n)) × HoldsAt No (range_with_len j n) k) → b ≡ all p n j
      go true h =
          sym (all_intro p n j (λ i l k. pass i l k (let e : j + (i - j) ≡ i = omega arith in subst Yes (get_or-range_with_len j n (i - j) 0 (omega arith) ∙ e) (h (i - j) 0 (omega arith) (omega (arith, size))))))
      go false h =
          let l : h.0 < n = omega (arith, h.1, size) in
          sym (all_fails p n j (j + h.0) (omega arith) (omega arith) (fail (j + h.0) (omega arith) (omega arith) (subst No (get_or-range_with_len j n h.0 0 l) (h.2 0))))

  pub any_of_range : ((i : ℕ) → j ≤ i → i < j + n → Yes i → p i ≡ true) → ((i : ℕ) → j ≤ i → i < j + n → No i → p i ≡ false)
      → MatchBool r ((k : ℕ) × (k < length (range_with_len j n)) × HoldsAt Yes (range_with_len j n) k) (AllWithin No (range_with_len j n) 0 (length (range_with_len j n))) → r ≡ any p n j
  any_of_range pass fail = go r
    where
      size : length (range_with_len j n) ≡ n
      size = length-range_with_len j n

      go : (b : Bool) → MatchBool b ((k : ℕ) × (k < length (range_with_len j n)) × HoldsAt Yes (range_with_len j n) k) (AllWithin No (range_with_len j n) 0 (length (range_with_len j n))) → b ≡ any p n j
      go true h =
          let l : h.0 < n = omega (arith, h.1, size) in
          sym (is_true (any p n j) (any_intro p n j (j + h.0) (omega arith) (omega arith) (holds (p (j + h.0)) (pass (j + h.0) (omega arith) (omega arith) (subst Yes (get_or-range_with_len j n h.0 0 l) (h.2 0))))))
      go false h =
          sym (any_none p n j (λ i l k. fails (p i) (fail i l k (let e : j + (i - j) ≡ i = omega arith in subst No (get_or-range_with_len j n (i - j) 0 (omega arith) ∙ e) (h (i - j) 0 (omega arith) (omega (arith, size)))))))
