-- Sums and counts over the first n numbers. Assumes nothing.
use mathlib.Core.Path.{◌≡◌, refl, ap}
use mathlib.Core.Bool.{Bool, true, false, not}
use Prim.Native.Nat.{ℕ, zero, suc, ◌+◌, ◌*◌, ◌≤◌, ◌<◌}
use native.Mathlib.Omega.{arith}
use native.Mathlib.Nat.{le_refl}
use native.Mathlib.Decide.{dec_lt, ℕ_discrete}
use lib.Dec.{T}
use Rattle.cases.specs.Cases.{pick}
use Rattle.protection.specs.Size.{count}

abbrev pub one : Bool → ℕ
one b = pick b 1 0

pub sum : (ℕ → ℕ) → ℕ → ℕ
sum f zero = 0
sum f (suc n) = f n + sum f n

pub count_is_sum : (p : ℕ → Bool) (n : ℕ) → count p n ≡ sum (λ i. one (p i)) n
unfolding count sum
count_is_sum p zero = refl
count_is_sum p (suc n) = ap (λ (z : ℕ). one (p n) + z) (count_is_sum p n)

pub sum_mono : (f g : ℕ → ℕ) (n : ℕ) → ((i : ℕ) → i < n → f i ≤ g i) → sum f n ≤ sum g n
unfolding sum
sum_mono f g zero h = le_refl 0
sum_mono f g (suc n) h = omega (arith, h n (omega arith), sum_mono f g n (λ i l. h i (omega arith)))

-- one place where it grows is enough
pub sum_strict : (f g : ℕ → ℕ) (n : ℕ) → ((i : ℕ) → i < n → f i ≤ g i) → (k : ℕ) → k < n → f k < g k → sum f n < sum g n
unfolding sum
sum_strict f g zero h k l s = absurd (omega arith)
sum_strict f g (suc n) h k l s = go (λ b. sum_strict f g n (λ i l. h i (omega arith)) k b s) (dec_lt k n)
  where
    go : (k < n → sum f n < sum g n) → Dec (k < n) → f n + sum f n < g n + sum g n
    go ih (yes b) = omega (arith, h n (omega arith), ih b)
    go ih (no b) = let e : k ≡ n = omega arith in omega (arith, rw e at s, sum_mono f g n (λ i l. h i (omega arith)))

-- above f at the place k alone
pub sum_but_one : (f g : ℕ → ℕ) (k : ℕ) → ((i : ℕ) → (i ≡ k → ⊥) → g i ≤ f i) → (n : ℕ) → sum g n ≤ g k + sum f n
unfolding sum
sum_but_one f g k h zero = omega arith
sum_but_one f g k h (suc n) = go (sum_but_one f g k h n) (ℕ_discrete n k)
  where
    go : sum g n ≤ g k + sum f n → Dec (n ≡ k) → g n + sum g n ≤ g k + (f n + sum f n)
    go ih (yes e) = omega (arith, ap g e, sum_mono g f n (λ i l. h i (λ z. omega arith)))
    go ih (no e) = omega (arith, h n e)

pub sum_const : (f : ℕ → ℕ) (c n : ℕ) → ((i : ℕ) → i < n → f i ≤ c) → sum f n ≤ n * c
unfolding sum
sum_const f c zero h = omega arith
sum_const f c (suc n) h = omega (arith, h n (omega arith), sum_const f c n (λ i l. h i (omega arith)))

-- rows of a matrix: nothing where p fails, at most c where it holds
pub sum_rows : (f : ℕ → ℕ) (p : ℕ → Bool) (c n : ℕ) → ((i : ℕ) → i < n → f i ≤ one (p i) * c) → sum f n ≤ count p n * c
unfolding sum count
sum_rows f p c zero h = omega arith
sum_rows f p c (suc n) h = omega (arith, h n (omega arith), sum_rows f p c n (λ i l. h i (omega arith)))

pub one_mono : (a b : Bool) → (T a → T b) → one a ≤ one b
one_mono true true h = le_refl 1
one_mono true false h = absurd (h tt)
one_mono false b h = omega arith

pub one_strict : (a b : Bool) → T (not a) → T b → one a < one b
one_strict false true s t = omega arith
one_strict true b s t = absurd s
one_strict false false s t = absurd t

pub one_few : (b : Bool) → one b ≤ 1
one_few true = le_refl 1
one_few false = omega arith

pub none_is : (b : Bool) → T (not b) → one b ≡ 0
none_is true t = absurd t
none_is false t = refl

pub count_but_one : (p q : ℕ → Bool) (k : ℕ) → ((i : ℕ) → (i ≡ k → ⊥) → T (q i) → T (p i)) → (n : ℕ) → count q n ≤ one (q k) + count p n
count_but_one p q k h n =
    rw (count_is_sum p n, count_is_sum q n) (sum_but_one (λ i. one (p i)) (λ i. one (q i)) k (λ i d. one_mono (q i) (p i) (h i d)) n)

-- fewer than n of the first n pass: one fails
pub some_fails : (p : ℕ → Bool) (n : ℕ) → count p n < n → (i : ℕ) × (i < n) × T (not (p i))
unfolding count
some_fails p zero h = absurd (omega arith)
some_fails p (suc n) h = go (p n) (λ t. t) (λ l. some_fails p n l) h
  where
    go : (b : Bool) → (T (not b) → T (not (p n))) → (count p n < n → (i : ℕ) × (i < n) × T (not (p i))) → one b + count p n < suc n
        → (i : ℕ) × (i < suc n) × T (not (p i))
    go true z ih h = let r = ih (omega arith) in (r.0, omega (arith, r.1), r.2)
    go false z ih h = (n, omega arith, z tt)
