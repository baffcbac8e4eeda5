-- The laws of a set of rights held in a number, at any width. Assumes nothing.
use Prim.Native.Nat.{ℕ, zero, suc, ◌+◌, ◌*◌, ◌/◌, ◌%◌, ◌^◌, ◌≤◌, ◌<◌, min, max}
use mathlib.Core.Path.{◌≡◌, refl, sym, ap, ap₂, ◌∙◌}
use mathlib.Core.Bool.{Bool, true, false, ◌&&◌, ◌||◌}
use native.Mathlib.Nat.{div-eq_of_lt, div-div-eq-div-mul, pow-succ', div-lt_iff_lt-mul, pow-le-pow_right, le_trans, div-one}
use native.Mathlib.Decide.{dec_lt, ℕ_discrete}
use native.Mathlib.Omega.{arith}
use lib.Bits.{bit_and, bit_or, or_lt, xor_lt}
use lib.Dec.{T, eqb, lit<}
use lib.Pow.{pow_pos, pow-lt}
use Rattle.cases.specs.Cases.{pick}
use Rattle.rights.specs.Rights.{bit, has, insert, delete, number}
use Rattle.rights.proofs.Bits.{bit_lt, bit-and, bit-or, bit_insert_same, bit_insert_other, bit_delete_same, bit_delete_other}

-- ---- insert and delete
pub has_insert_same : (c i : ℕ) → has (insert c i) i ≡ true
has_insert_same c i = rw (bit_insert_same c i)

pub has_insert_other : (c i j : ℕ) → (i ≡ j → ⊥) → has (insert c i) j ≡ has c j
has_insert_other c i j ne = rw (bit_insert_other c i j ne)

pub has_delete_same : (c i : ℕ) → has (delete c i) i ≡ false
has_delete_same c i = rw (bit_delete_same c i)

pub has_delete_other : (c i j : ℕ) → (i ≡ j → ⊥) → has (delete c i) j ≡ has c j
has_delete_other c i j ne = rw (bit_delete_other c i j ne)

-- ---- both sets, and either
two : (x y : ℕ) → x < 2 → y < 2 → eqb (min x y) 1 ≡ eqb x 1 && eqb y 1
two zero zero p q = refl
two zero (suc zero) p q = refl
two (suc zero) zero p q = refl
two (suc zero) (suc zero) p q = refl
two zero (suc (suc y)) p q = absurd (omega arith)
two (suc zero) (suc (suc y)) p q = absurd (omega arith)
two (suc (suc x)) y p q = absurd (omega arith)

pub has_and : (a b j : ℕ) → has (bit_and a b) j ≡ has a j && has b j
has_and a b j = rw (bit-and a b j) (two (bit a j) (bit b j) (bit_lt a j) (bit_lt b j))

or_two : (x y : ℕ) → x < 2 → y < 2 → eqb (max x y) 1 ≡ eqb x 1 || eqb y 1
or_two zero zero p q = refl
or_two zero (suc zero) p q = refl
or_two (suc zero) zero p q = refl
or_two (suc zero) (suc zero) p q = refl
or_two zero (suc (suc y)) p q = absurd (omega arith)
or_two (suc zero) (suc (suc y)) p q = absurd (omega arith)
or_two (suc (suc x)) y p q = absurd (omega arith)

pub has_or : (a b j : ℕ) → has (bit_or a b) j ≡ has a j || has b j
has_or a b j = rw (bit-or a b j) (or_two (bit a j) (bit b j) (bit_lt a j) (bit_lt b j))

-- no right from g on comes in
pub insert_below : (g c i : ℕ) → i < g → c < 2 ^ g → insert c i < 2 ^ g
insert_below g c i h p = or_lt g c (2 ^ i) p (pow-lt h)

pub delete_below : (g c i : ℕ) → i < g → c < 2 ^ g → delete c i < 2 ^ g
delete_below g c i h p = xor_lt g (bit_or c (2 ^ i)) (2 ^ i) (or_lt g c (2 ^ i) p (pow-lt h)) (pow-lt h)

-- a set with no right from g on has none
pub has_below : (g q c : ℕ) → c < 2 ^ g → T (has c q) → q < g
has_below g q c l t = go (dec_lt q g)
  where
    go : Dec (q < g) → q < g
    go (yes h) = h
    go (no h) =
        let p : 2 ^ g ≤ 2 ^ q = pow-le-pow_right (omega arith) (omega arith) in
        let z : c / 2 ^ q ≡ 0 = div-eq_of_lt (le_trans l p) in
        absurd (rw z at t)

pub has_none : (q : ℕ) → has 0 q ≡ false
has_none q = let z : 0 / 2 ^ q ≡ 0 = div-eq_of_lt (pow_pos q) in rw z

-- ---- the set as a number, digit by digit
bit_suc : (c q : ℕ) → bit c (suc q) ≡ bit (c / 2) q
bit_suc c q = rw (pow-succ' 2 q, ← div-div-eq-div-mul c 2 (2 ^ q))

bit_zero : (c : ℕ) → bit c 0 ≡ c % 2
bit_zero c = rw (div-one c)

low : (b : Bool) (n : ℕ) → (pick b 1 0 + 2 * n) % 2 ≡ pick b 1 0
low true n = omega arith
low false n = omega arith

high : (b : Bool) (n : ℕ) → (pick b 1 0 + 2 * n) / 2 ≡ n
high true n = omega arith
high false n = omega arith

one_is : (b : Bool) → eqb (pick b 1 0) 1 ≡ b
one_is true = refl
one_is false = refl

pub has_number : (p : ℕ → Bool) (w q : ℕ) → q < w → has (number p w) q ≡ p q
unfolding number
has_number p zero q h = absurd (omega arith)
has_number p (suc w) zero h = rw (bit_zero (pick (p 0) 1 0 + 2 * number (λ q. p (suc q)) w), low (p 0) (number (λ q. p (suc q)) w)) (one_is (p 0))
has_number p (suc w) (suc q) h =
    rw (bit_suc (pick (p 0) 1 0 + 2 * number (λ q. p (suc q)) w) q, high (p 0) (number (λ q. p (suc q)) w)) (has_number (λ q. p (suc q)) w q (omega arith))

pub number_below : (p : ℕ → Bool) (w : ℕ) → number p w < 2 ^ w
unfolding number
number_below p zero = lit< tt
number_below p (suc w) = top (p 0) (number (λ q. p (suc q)) w) (number_below (λ q. p (suc q)) w)
  where
    top : (b : Bool) (n : ℕ) → n < 2 ^ w → pick b 1 0 + 2 * n < 2 ^ suc w
    top true n h = rw (pow-succ' 2 w) (omega arith)
    top false n h = rw (pow-succ' 2 w) (omega arith)

pick_bit : (x : ℕ) → x < 2 → pick (eqb x 1) 1 0 ≡ x
pick_bit zero h = refl
pick_bit (suc zero) h = refl
pick_bit (suc (suc x)) h = absurd (omega arith)

pub number_has : (w c : ℕ) → c < 2 ^ w → number (has c) w ≡ c
unfolding number
number_has zero c h = omega arith
number_has (suc w) c h =
    let rest : (λ (q : ℕ). has c (suc q)) ≡ has (c / 2) = λ i q. eqb (bit_suc c q i) 1 in
    let half : c / 2 < 2 ^ w = (div-lt_iff_lt-mul (lit< tt)).1 (let l : c < 2 ^ suc w = h in omega arith) in
    ap₂ (λ (x y : ℕ). x + 2 * y) (pick_bit (bit c 0) (bit_lt c 0)) (ap (λ (p : ℕ → Bool). number p w) rest ∙ number_has w (c / 2) half)
    ∙ rw (bit_zero c) (omega arith)

-- two predicates that agree below w are one number
pub number_same : (p q : ℕ → Bool) (w : ℕ) → ((i : ℕ) → i < w → p i ≡ q i) → number p w ≡ number q w
unfolding number
number_same p q zero e = refl
number_same p q (suc w) e =
    ap₂ (λ (x : Bool) (y : ℕ). pick x 1 0 + 2 * y) (e 0 (omega arith)) (number_same (λ i. p (suc i)) (λ i. q (suc i)) w (λ i l. e (suc i) (omega arith)))

-- two sets with no right from w on that have the same rights are one
pub same_rights : (w c d : ℕ) → c < 2 ^ w → d < 2 ^ w → ((q : ℕ) → q < w → has c q ≡ has d q) → c ≡ d
same_rights w c d lc ld e = sym (number_has w c lc) ∙ number_same (has c) (has d) w e ∙ number_has w d ld

-- deleting from the empty set
pub delete_none : (q : ℕ) → delete 0 q ≡ 0
delete_none q = same_rights (suc q) (delete 0 q) 0 (delete_below (suc q) 0 q (omega arith) (pow_pos (suc q))) (pow_pos (suc q)) (λ i _. by i (ℕ_discrete q i))
  where
    by : (i : ℕ) → Dec (q ≡ i) → has (delete 0 q) i ≡ has 0 i
    by i (yes e) = ap (has (delete 0 q)) (sym e) ∙ has_delete_same 0 q ∙ sym (has_none i)
    by i (no f) = has_delete_other 0 q i f

-- a set of rights below g has no right from g on, however wide the number
pub number_within : (g : ℕ) (p : ℕ → Bool) (w : ℕ) → ((q : ℕ) → T (p q) → q < g) → number p w < 2 ^ g
unfolding number
number_within g p zero h = pow_pos g
number_within zero p (suc w) h = go (p 0) (h 0) (number_within 0 (λ q. p (suc q)) w (λ q t. absurd (omega (arith, h (suc q) t))))
  where
    go : (b : Bool) → (T b → 0 < 0) → number (λ q. p (suc q)) w < 1 → pick b 1 0 + 2 * number (λ q. p (suc q)) w < 1
    go true f l = absurd (omega (arith, f tt))
    go false f l = omega arith
number_within (suc g) p (suc w) h = go (p 0) (number_within g (λ q. p (suc q)) w (λ q t. omega (arith, h (suc q) t)))
  where
    go : (b : Bool) → number (λ q. p (suc q)) w < 2 ^ g → pick b 1 0 + 2 * number (λ q. p (suc q)) w < 2 ^ suc g
    go true l = rw (pow-succ' 2 g) (omega arith)
    go false l = rw (pow-succ' 2 g) (omega arith)
