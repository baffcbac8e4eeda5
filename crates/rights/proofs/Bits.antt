-- The digits of a number to base 2 under `&`, `|`, `^` and `<<`, at any width. Assumes nothing.
use Prim.Native.Nat.{ℕ, zero, suc, ◌+◌, ◌-◌, ◌*◌, ◌/◌, ◌%◌, ◌^◌, ◌<◌, min, max}
use mathlib.Core.Path.{◌≡◌, refl, ◌∙◌}
use native.Mathlib.Nat.{one-mul, div-eq_of_lt, mul-mod_left, mul-add-mod_self_right, mod-eq_of_lt, mod-lt, pow-suc, div_self}
use native.Mathlib.Decide.{dec_lt}
use native.Mathlib.Omega.{arith}
use lib.Dec.{lit<}
use lib.Pow.{pow_pos, pow-lt, pow-add, shl_exact, shl-shr}
use lib.Bits.{bit_and, bit_or, bit_xor, differ, and_step, or_step, xor_step, and_shr, or_shr, xor_shr}
use Rattle.rights.specs.Rights.{bit, insert, delete}

-- what `1 << i` computes to, at a width of w bits
pub one_shl : (w i : ℕ) → i < w → (1 * 2 ^ i) % 2 ^ w ≡ 2 ^ i
one_shl w i h = shl_exact 1 i w (lit< tt) (omega arith) ∙ one-mul (2 ^ i)

pub bit_lt : (c i : ℕ) → bit c i < 2
bit_lt c i = mod-lt (c / 2 ^ i) (lit< tt)

or_low : (a b : ℕ) → bit_or a b % 2 ≡ max (a % 2) (b % 2)
or_low a b =
    rw (or_step a b, mul-add-mod_self_right) (mod-eq_of_lt (let p : a % 2 < 2 = mod-lt a (lit< tt) in let q : b % 2 < 2 = mod-lt b (lit< tt) in omega arith))

pub bit-or : (a b j : ℕ) → bit (bit_or a b) j ≡ max (bit a j) (bit b j)
bit-or a b j = rw (or_shr a b j) (or_low (a / 2 ^ j) (b / 2 ^ j))

and_low : (a b : ℕ) → bit_and a b % 2 ≡ min (a % 2) (b % 2)
and_low a b =
    rw (and_step a b, mul-add-mod_self_right) (mod-eq_of_lt (let p : a % 2 < 2 = mod-lt a (lit< tt) in let q : b % 2 < 2 = mod-lt b (lit< tt) in omega arith))

pub bit-and : (a b j : ℕ) → bit (bit_and a b) j ≡ min (bit a j) (bit b j)
bit-and a b j = rw (and_shr a b j) (and_low (a / 2 ^ j) (b / 2 ^ j))

differ_lt : (x y : ℕ) → x < 2 → y < 2 → differ x y < 2
differ_lt zero y p q = q
differ_lt (suc x) zero p q = p
differ_lt (suc x) (suc y) p q = differ_lt x y (omega arith) (omega arith)

xor_low : (a b : ℕ) → bit_xor a b % 2 ≡ differ (a % 2) (b % 2)
xor_low a b =
    rw (xor_step a b, mul-add-mod_self_right) (mod-eq_of_lt (differ_lt (a % 2) (b % 2) (mod-lt a (lit< tt)) (mod-lt b (lit< tt))))

pub bit-xor : (a b j : ℕ) → bit (bit_xor a b) j ≡ differ (bit a j) (bit b j)
bit-xor a b j = rw (xor_shr a b j) (xor_low (a / 2 ^ j) (b / 2 ^ j))

pub bit_pow_same : (i : ℕ) → bit (2 ^ i) i ≡ 1
bit_pow_same i = rw (div_self (pow_pos i))

bit_pow_above : (i j : ℕ) → i < j → bit (2 ^ i) j ≡ 0
bit_pow_above i j h = rw (div-eq_of_lt (pow-lt h))

bit_pow_below : (d j : ℕ) → bit (2 ^ (suc d + j)) j ≡ 0
bit_pow_below d j = rw (pow-add 2 (suc d) j, shl-shr, pow-suc 2 d) (mul-mod_left (2 ^ d) 2)

pub bit_pow_other : (i j : ℕ) → (i ≡ j → ⊥) → bit (2 ^ i) j ≡ 0
bit_pow_other i j ne = by (dec_lt i j) (dec_lt j i)
  where
    by : Dec (i < j) → Dec (j < i) → bit (2 ^ i) j ≡ 0
    by (yes h) q = bit_pow_above i j h
    by (no n) (yes h) = let e : suc (i - j - 1) + j ≡ i = omega arith in rw e at (bit_pow_below (i - j - 1) j)
    by (no n) (no m) = absurd (ne (omega arith))

differ_zero : (x : ℕ) → differ x 0 ≡ x
differ_zero zero = refl
differ_zero (suc x) = refl

pub bit_insert_same : (c i : ℕ) → bit (insert c i) i ≡ 1
bit_insert_same c i = rw (bit-or c (2 ^ i) i, bit_pow_same) (let h : bit c i < 2 = bit_lt c i in omega arith)

pub bit_insert_other : (c i j : ℕ) → (i ≡ j → ⊥) → bit (insert c i) j ≡ bit c j
bit_insert_other c i j ne = rw (bit-or c (2 ^ i) j, bit_pow_other i j ne) (omega arith)

pub bit_delete_same : (c i : ℕ) → bit (delete c i) i ≡ 0
bit_delete_same c i = rw (bit-xor (bit_or c (2 ^ i)) (2 ^ i) i, bit_insert_same c i, bit_pow_same)

pub bit_delete_other : (c i j : ℕ) → (i ≡ j → ⊥) → bit (delete c i) j ≡ bit c j
bit_delete_other c i j ne =
    rw (bit-xor (bit_or c (2 ^ i)) (2 ^ i) j, bit_insert_other c i j ne, bit_pow_other i j ne) (differ_zero (bit c j))
