-- A set of rights as a number, of any width: "Bit i, worth 2 to the power i, is right i."
use Rattle.std.specs.Prelude.{ℕ, zero, suc, ◌+◌, ◌*◌, ◌/◌, ◌%◌, ◌^◌, Bool, eqb, ltb}
use Rattle.std.specs.Int.Bits.{bit_or, bit_xor}
use Rattle.cases.specs.Cases.{pick}

-- digits of a set in the code, whose type `Set` it is; the definitions below are of any width
abbrev pub width : ℕ
width = 16

abbrev pub bit : ℕ → ℕ → ℕ
bit c i = c / 2 ^ i % 2

abbrev pub has : ℕ → ℕ → Bool
has c i = eqb (bit c i) 1

abbrev pub insert : ℕ → ℕ → ℕ
insert c i = bit_or c (2 ^ i)

abbrev pub delete : ℕ → ℕ → ℕ
delete c i = bit_xor (bit_or c (2 ^ i)) (2 ^ i)

-- no right from g on
abbrev pub within : ℕ → ℕ → Bool
within c g = ltb c (2 ^ g)

-- the set of those rights below w that p holds of
unfoldable pub number : (ℕ → Bool) → ℕ → ℕ
number p zero = 0
number p (suc w) = pick (p 0) 1 0 + 2 * number (λ q. p (suc q)) w
