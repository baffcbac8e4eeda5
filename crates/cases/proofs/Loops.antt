-- Loops that count j up to n, and answer what a definition says of all n turns.
-- The invariant: what is left of the definition, from where the loop stands, is the whole. Assumes nothing.
use Prim.Native.Nat.{ℕ, zero, suc, ◌≤◌, ◌<◌, ◌-◌, ◌+◌}
use mathlib.Core.Path.{◌≡◌, refl, sym, ◌∙◌}
use mathlib.Core.Bool.{Bool, true, false, not}
use native.Mathlib.Nat.{sub-zero}
use native.Mathlib.Numerals.{add-one}
use native.Mathlib.Decide.{ℕ_discrete}
use native.Mathlib.Omega.{arith}
use borrow.Author.Tests.{not-true, not-false}
use lib.Dec.{T}
use Rattle.cases.specs.Cases.{pick, iterate, all, any}
use Rattle.cases.proofs.Bools.{is_true, is_false, holds as test-holds}

left : (n j : ℕ) → j < n → n - j ≡ suc (n - (j + 1))
left n j h = omega arith

module _ {S : Type 0} (f : ℕ → S → S) (n : ℕ) (whole : S) where
  pub iterate_start : (s : S) → iterate f n 0 s ≡ whole → iterate f (n - 0) 0 s ≡ whole
  iterate_start s e = rw sub-zero e

  pub iterate_more : (j : ℕ) (s t : S) → t ≡ f j s → j < n → iterate f (n - j) j s ≡ whole → iterate f (n - (j + 1)) (j + 1) t ≡ whole
  unfolding iterate
  iterate_more j s t d h e = rw (d, add-one j) (rw (left n j h, add-one j) at e)

  pub iterate_end : (j : ℕ) (s : S) → n ≤ j → iterate f (n - j) j s ≡ whole → s ≡ whole
  unfolding iterate
  iterate_end j s h e = let z : n - j ≡ 0 = omega arith in rw z at e

-- a state that no turn changes: what an early return rests on
pub iterate_still : {S : Type 0} (f : ℕ → S → S) (n j : ℕ) (s : S) → ((i : ℕ) → f i s ≡ s) → iterate f n j s ≡ s
unfolding iterate
iterate_still f zero j s h = refl
iterate_still f (suc n) j s h = rw (h j) (iterate_still f n (suc j) s h)

-- what each turn keeps, all turns keep
pub iterate_keep : {S : Type 0} (P : S → Type 0) (f : ℕ → S → S) → ((j : ℕ) (s : S) → P s → P (f j s)) → (n j : ℕ) (s : S) → P s → P (iterate f n j s)
unfolding iterate
iterate_keep P f h zero j s p = p
iterate_keep P f h (suc n) j s p = iterate_keep P f h n (suc j) (f j s) (h j s p)

module _ (p : ℕ → Bool) (n : ℕ) (whole : Bool) where
  unrolled : (j : ℕ) → j < n → all p (n - j) j ≡ pick (p j) (all p (n - (j + 1)) (j + 1)) false
  unfolding all
  unrolled j h = rw (left n j h, add-one j)

  pub all_false : (j : ℕ) → p j ≡ false → j < n → all p (n - j) j ≡ whole → false ≡ whole
  all_false j z h e = (let u : pick (p j) (all p (n - (j + 1)) (j + 1)) false ≡ false = rw z in sym u) ∙ sym (unrolled j h) ∙ e

  pub all_true : (j : ℕ) → p j ≡ true → j < n → all p (n - j) j ≡ whole → all p (n - (j + 1)) (j + 1) ≡ whole
  all_true j z h e = (let u : pick (p j) (all p (n - (j + 1)) (j + 1)) false ≡ all p (n - (j + 1)) (j + 1) = rw z in sym u) ∙ sym (unrolled j h) ∙ e

  -- the loop's test is a callee's answer r, and the code branches on `!r`
  pub all_stop : (j : ℕ) (r : Bool) → r ≡ p j → not r ≡ true → j < n → all p (n - j) j ≡ whole → false ≡ whole
  all_stop j r d t h e = all_false j (sym d ∙ not-true r t) h e

  pub all_more : (j : ℕ) (r : Bool) → r ≡ p j → not r ≡ false → j < n → all p (n - j) j ≡ whole → all p (n - (j + 1)) (j + 1) ≡ whole
  all_more j r d t h e = all_true j (sym d ∙ not-false r t) h e

  pub all_end : (j : ℕ) → n ≤ j → all p (n - j) j ≡ whole → true ≡ whole
  unfolding all
  all_end j h e = let z : n - j ≡ 0 = omega arith in rw z at e

-- a test that holds at each number, at one of them
pub all_at : (p : ℕ → Bool) (n j : ℕ) → all p n j ≡ true → (i : ℕ) → j ≤ i → i < j + n → p i ≡ true
unfolding all
all_at p zero j e i l h = absurd (let a : j ≤ i = l in omega arith)
all_at p (suc n) j e i l h = go (p j) refl (λ d l'. all_at p n (suc j) d i l' (omega arith)) e (ℕ_discrete i j)
  where
    go : (b : Bool) → p j ≡ b → (all p n (suc j) ≡ true → suc j ≤ i → p i ≡ true) → pick b (all p n (suc j)) false ≡ true → Dec (i ≡ j) → p i ≡ true
    go true d ih e (yes q) = rw q d
    go true d ih e (no q) = ih e (omega arith)
    go false d ih e q = absurd (let z : ◌≡◌ {A = Bool} false true = e in elim_false z)
      where
        elim_false : ◌≡◌ {A = Bool} false true → ⊥
        elim_false z = let w : ◌≡◌ {A = ℕ} 0 1 = cc in omega arith

-- and the other way: where it holds at all n numbers
pub all_intro : (p : ℕ → Bool) (n j : ℕ) → ((i : ℕ) → j ≤ i → i < j + n → p i ≡ true) → all p n j ≡ true
unfolding all
all_intro p zero j h = refl
all_intro p (suc n) j h = rw (h j (omega arith) (omega arith)) (all_intro p n (suc j) (λ i l k. h i (omega arith) (omega arith)))

-- tests that agree at all n numbers
pub all_same : (p q : ℕ → Bool) (n j : ℕ) → ((i : ℕ) → j ≤ i → i < j + n → p i ≡ q i) → all p n j ≡ all q n j
unfolding all
all_same p q zero j h = refl
all_same p q (suc n) j h = rw (h j (omega arith) (omega arith), all_same p q n (suc j) (λ i l k. h i (omega arith) (omega arith)))

-- what each numbered turn brings one further, all turns bring to the end
pub iterate_count : {S : Type 0} (P : ℕ → S → Type 0) (f : ℕ → S → S) (n j : ℕ) → ((i : ℕ) (s : S) → j ≤ i → i < j + n → P i s → P (suc i) (f i s)) → (s : S) → P j s → P (j + n) (iterate f n j s)
unfolding iterate
iterate_count P f zero j h s p = let z : j + 0 ≡ j = omega arith in rw z p
iterate_count P f (suc n) j h s p =
    let z : j + suc n ≡ suc j + n = omega arith in
    rw z (iterate_count P f n (suc j) (λ i t l k. h i t (omega arith) (omega arith)) (f j s) (h j s (omega arith) (omega arith) p))

-- the same of tests as types: where one test implies another at all n numbers
pub all_map : (p q : ℕ → Bool) (n j : ℕ) → ((i : ℕ) → j ≤ i → i < j + n → T (p i) → T (q i)) → T (all p n j) → T (all q n j)
unfolding all
all_map p q zero j h t = tt
all_map p q (suc n) j h t = go (p j) (q j) (h j (omega arith) (omega arith)) (all_map p q n (suc j) (λ i l k. h i (omega arith) (omega arith))) t
  where
    go : (b c : Bool) → (T b → T c) → (T (all p n (suc j)) → T (all q n (suc j))) → T (pick b (all p n (suc j)) false) → T (pick c (all q n (suc j)) false)
    go true true f ih t = ih t
    go true false f ih t = f tt
    go false c f ih t = absurd t

-- and at one of them
pub all_one : (p : ℕ → Bool) (n j : ℕ) → T (all p n j) → (i : ℕ) → j ≤ i → i < j + n → T (p i)
all_one p n j t i l h = test-holds (p i) (all_at p n j (is_true (all p n j) t) i l h)

-- ---- a test that holds at some of the n numbers
-- it holds at one of them
pub any_one : (p : ℕ → Bool) (n j : ℕ) → T (any p n j) → (i : ℕ) × (j ≤ i) × (i < j + n) × T (p i)
unfolding any
any_one p zero j t = absurd t
any_one p (suc n) j t = go (p j) refl (any_one p n (suc j)) t
  where
    go : (b : Bool) → p j ≡ b → (T (any p n (suc j)) → (i : ℕ) × (suc j ≤ i) × (i < suc j + n) × T (p i)) → T (pick b true (any p n (suc j)))
        → (i : ℕ) × (j ≤ i) × (i < j + suc n) × T (p i)
    go true e ih t = (j, omega arith, omega arith, test-holds (p j) e)
    go false e ih t = let r = ih t in (r.0, omega (arith, r.1), omega (arith, r.2), r.3)

-- and where it holds at one of them
pub any_intro : (p : ℕ → Bool) (n j i : ℕ) → j ≤ i → i < j + n → T (p i) → T (any p n j)
unfolding any
any_intro p zero j i l h t = absurd (let a : j ≤ i = l in omega arith)
any_intro p (suc n) j i l h t = go (p j) refl (λ l'. any_intro p n (suc j) i l' (omega arith) t) (ℕ_discrete i j)
  where
    go : (b : Bool) → p j ≡ b → (suc j ≤ i → T (any p n (suc j))) → Dec (i ≡ j) → T (pick b true (any p n (suc j)))
    go true e ih q = tt
    go false e ih (yes q) = let z : p i ≡ false = rw q e in absurd (rw z at t)
    go false e ih (no q) = ih (omega arith)

-- the same of the numbers below n
pub any_below : (p : ℕ → Bool) (n : ℕ) → T (any p n 0) → (i : ℕ) × (i < n) × T (p i)
any_below p n t = let r = any_one p n 0 t in (r.0, omega (arith, r.2), r.3)

pub below_any : (p : ℕ → Bool) (n i : ℕ) → i < n → T (p i) → T (any p n 0)
below_any p n i l t = any_intro p n 0 i (omega arith) (omega arith) t

-- where one test implies another at all n numbers
pub any_map : (p q : ℕ → Bool) (n j : ℕ) → ((i : ℕ) → j ≤ i → i < j + n → T (p i) → T (q i)) → T (any p n j) → T (any q n j)
any_map p q n j h t = let r = any_one p n j t in any_intro q n j r.0 r.1 r.2 (h r.0 r.1 r.2 r.3)

-- tests that agree at all n numbers
pub any_same : (p q : ℕ → Bool) (n j : ℕ) → ((i : ℕ) → j ≤ i → i < j + n → p i ≡ q i) → any p n j ≡ any q n j
unfolding any
any_same p q zero j h = refl
any_same p q (suc n) j h = rw (h j (omega arith) (omega arith), any_same p q n (suc j) (λ i l k. h i (omega arith) (omega arith)))

-- a test that fails at all n numbers
pub any_none : (p : ℕ → Bool) (n j : ℕ) → ((i : ℕ) → j ≤ i → i < j + n → T (p i) → ⊥) → any p n j ≡ false
any_none p n j h = is_false (any p n j) (λ t. let r = any_one p n j t in h r.0 r.1 r.2 r.3)

-- a loop that looks for a number at which the test holds; its test is a callee's answer r
module _ (p : ℕ → Bool) (n : ℕ) (whole : Bool) where
  any_unrolled : (j : ℕ) → j < n → any p (n - j) j ≡ pick (p j) true (any p (n - (j + 1)) (j + 1))
  unfolding any
  any_unrolled j h = rw (left n j h, add-one j)

  pub any_start : any p n 0 ≡ whole → any p (n - 0) 0 ≡ whole
  any_start e = rw sub-zero e

  pub any_stop : (j : ℕ) (r : Bool) → r ≡ p j → r ≡ true → j < n → any p (n - j) j ≡ whole → true ≡ whole
  any_stop j r d t h e = let z : p j ≡ true = sym d ∙ t in sym (any_unrolled j h ∙ rw z) ∙ e

  pub any_more : (j : ℕ) (r : Bool) → r ≡ p j → r ≡ false → j < n → any p (n - j) j ≡ whole → any p (n - (j + 1)) (j + 1) ≡ whole
  any_more j r d t h e = let z : p j ≡ false = sym d ∙ t in sym (any_unrolled j h ∙ rw z) ∙ e

  pub any_end : (j : ℕ) → n ≤ j → any p (n - j) j ≡ whole → false ≡ whole
  unfolding any
  any_end j h e = let z : n - j ≡ 0 = omega arith in rw z at e
