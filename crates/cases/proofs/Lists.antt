-- Lists made of a function's values. Assumes nothing.
use Prim.Native.Nat.{ℕ, zero, suc, ◌≤◌, ◌<◌, ◌+◌, ◌-◌}
use mathlib.Core.Path.{◌≡◌, refl, sym, ap, ap₂, ◌∙◌}
use mathlib.Core.Bool.{Bool, true, false, not, ◌&&◌, ◌||◌}
use mathlib.Core.List.{List, [], ◌∷◌}
use native.Mathlib.Nat.{not-suc-le-zero, le_of_suc-le-suc}
use native.Mathlib.Numerals.{add-one}
use native.Mathlib.Omega.{arith}
use borrow.Author.Tests.{not-true, not-false}
use mathlib.Core.Option.{none, some}
use lib.Dec.{T}
use lib.ListN.{length, get_or, get_elem?, take}
use Rattle.cases.specs.Cases.{tabulate}
use Rattle.cases.proofs.Bools.{or_left, or_right}

pub length_tabulate : {A : Type 0} (f : ℕ → A) (n j : ℕ) → length (tabulate f n j) ≡ n
length_tabulate f zero j = refl
length_tabulate f (suc n) j = ap suc (length_tabulate f n (suc j))

pub get_d_tabulate : {A : Type 0} (f : ℕ → A) (d : A) (n j i : ℕ) → i < n → get_or (tabulate f n j) i d ≡ f (j + i)
get_d_tabulate f d zero j i h = absurd (not-suc-le-zero h)
get_d_tabulate f d (suc n) j zero h = ap f (omega arith)
get_d_tabulate f d (suc n) j (suc i) h = get_d_tabulate f d n (suc j) i (le_of_suc-le-suc h) ∙ ap f (omega arith)

pub tabulate_same : {A : Type 0} (f g : ℕ → A) (n j : ℕ) → ((i : ℕ) → j ≤ i → i < j + n → f i ≡ g i) → tabulate f n j ≡ tabulate g n j
tabulate_same f g zero j h = refl
tabulate_same f g (suc n) j h =
    ap₂ ◌∷◌ (h j (omega arith) (omega arith)) (tabulate_same f g n (suc j) (λ i l k. h i (omega arith) (omega arith)))

-- a test that holds of a list if p holds of one of its elements: a loop over the values of f
module _ {A : Type 0} (P : List A → Bool) (p : A → Bool) (split : (x : A) (xs : List A) → P (x ∷ xs) ≡ p x || P xs) (f : ℕ → A) (n j : ℕ) (whole : Bool) where
  unrolled : j < n → P (tabulate f (n - j) j) ≡ p (f j) || P (tabulate f (n - (j + 1)) (j + 1))
  unrolled h =
      let z : n - j ≡ suc (n - (j + 1)) = omega arith in
      ap (λ (k : ℕ). P (tabulate f k j)) z ∙ split (f j) (tabulate f (n - (j + 1)) (suc j)) ∙ rw (add-one j)

  pub any_found : (r : Bool) → r ≡ p (f j) → r ≡ true → j < n → P (tabulate f (n - j) j) ≡ whole → true ≡ whole
  any_found r d t h e = let z : p (f j) ≡ true = sym d ∙ t in sym (unrolled h ∙ rw z) ∙ e

  pub any_next : (r : Bool) → r ≡ p (f j) → r ≡ false → j < n → P (tabulate f (n - j) j) ≡ whole → P (tabulate f (n - (j + 1)) (j + 1)) ≡ whole
  any_next r d t h e = let z : p (f j) ≡ false = sym d ∙ t in sym (unrolled h ∙ rw z) ∙ e

-- such a test holds of the values of f where p holds of one of them
pub any_tabulate : {A : Type 0} (P : List A → Bool) (p : A → Bool) → ((x : A) (xs : List A) → P (x ∷ xs) ≡ p x || P xs) → (f : ℕ → A) (n j i : ℕ) → i < n → T (p (f (j + i))) → T (P (tabulate f n j))
any_tabulate P p split f zero j i l t = absurd (not-suc-le-zero l)
any_tabulate P p split f (suc n) j zero l t =
    let z : j + 0 ≡ j = omega arith in
    rw (split (f j) (tabulate f n (suc j))) (or_left (p (f j)) (P (tabulate f n (suc j))) (rw z at t))
any_tabulate P p split f (suc n) j (suc i) l t =
    let z : j + suc i ≡ suc j + i = omega arith in
    rw (split (f j) (tabulate f n (suc j))) (or_right (p (f j)) (P (tabulate f n (suc j))) (any_tabulate P p split f n (suc j) i (le_of_suc-le-suc l) (rw z at t)))

-- a test that holds of a list if p holds of each of its elements
module _ {A : Type 0} (P : List A → Bool) (p : A → Bool) (split : (x : A) (xs : List A) → P (x ∷ xs) ≡ p x && P xs) (f : ℕ → A) (n j : ℕ) (whole : Bool) where
  unrolled_every : j < n → P (tabulate f (n - j) j) ≡ p (f j) && P (tabulate f (n - (j + 1)) (j + 1))
  unrolled_every h =
      let z : n - j ≡ suc (n - (j + 1)) = omega arith in
      ap (λ (k : ℕ). P (tabulate f k j)) z ∙ split (f j) (tabulate f (n - (j + 1)) (suc j)) ∙ rw (add-one j)

  -- the test is a callee's answer r, and the code branches on `!r`
  pub every_stop : (r : Bool) → r ≡ p (f j) → not r ≡ true → j < n → P (tabulate f (n - j) j) ≡ whole → false ≡ whole
  every_stop r d t h e = let z : p (f j) ≡ false = sym d ∙ not-true r t in sym (unrolled_every h ∙ rw z) ∙ e

  pub every_next : (r : Bool) → r ≡ p (f j) → not r ≡ false → j < n → P (tabulate f (n - j) j) ≡ whole → P (tabulate f (n - (j + 1)) (j + 1)) ≡ whole
  every_next r d t h e = let z : p (f j) ≡ true = sym d ∙ not-false r t in sym (unrolled_every h ∙ rw z) ∙ e

pub found_tabulate : {A : Type 0} (f : ℕ → A) (n j i : ℕ) → i < n → get_elem? (tabulate f n j) i ≡ some (f (j + i))
found_tabulate f zero j i h = absurd (not-suc-le-zero h)
found_tabulate f (suc n) j zero h = ap (λ (k : ℕ). some (f k)) (omega arith)
found_tabulate f (suc n) j (suc i) h = found_tabulate f n (suc j) i (le_of_suc-le-suc h) ∙ ap (λ (k : ℕ). some (f k)) (omega arith)

pub none_tabulate : {A : Type 0} (f : ℕ → A) (n j i : ℕ) → n ≤ i → get_elem? (tabulate f n j) i ≡ none
none_tabulate f zero j i h = refl
none_tabulate f (suc n) j zero h = absurd (not-suc-le-zero h)
none_tabulate f (suc n) j (suc i) h = none_tabulate f n (suc j) i (le_of_suc-le-suc h)

-- inside a list the default does not matter
pub get_or_inside : {A : Type 0} (l : List A) (i : ℕ) (a b : A) → i < length l → get_or l i a ≡ get_or l i b
get_or_inside [] i a b h = absurd (not-suc-le-zero h)
get_or_inside (x ∷ l) zero a b h = refl
get_or_inside (x ∷ l) (suc i) a b h = get_or_inside l i a b (le_of_suc-le-suc h)

pub take_tabulate : {A : Type 0} (f : ℕ → A) (k n j : ℕ) → k ≤ n → take k (tabulate f n j) ≡ tabulate f k j
take_tabulate f zero n j h = refl
take_tabulate f (suc k) zero j h = absurd (not-suc-le-zero h)
take_tabulate {A} f (suc k) (suc n) j h = ap (λ (l : List A). f j ∷ l) (take_tabulate f k n (suc j) (le_of_suc-le-suc h))
