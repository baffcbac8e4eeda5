-- Definitions by cases and by repetition, from which the other crates' definitions are made.
use Rattle.std.specs.Prelude.{ℕ, zero, suc, Bool, true, false, List, [], ◌∷◌}

-- the first where the test holds, else the second
abbrev pub pick : {A : Type 0} → Bool → A → A → A
pick true a b = a
pick false a b = b

-- n turns, numbered from j on, in order
unfoldable pub iterate : {S : Type 0} → (ℕ → S → S) → ℕ → ℕ → S → S
iterate f zero j s = s
iterate f (suc n) j s = iterate f n (suc j) (f j s)

-- a test holds at each of the n numbers from j on
unfoldable pub all : (ℕ → Bool) → ℕ → ℕ → Bool
all p zero j = true
all p (suc n) j = pick (p j) (all p n (suc j)) false

-- a test holds at some of the n numbers from j on
unfoldable pub any : (ℕ → Bool) → ℕ → ℕ → Bool
any p zero j = false
any p (suc n) j = pick (p j) true (any p n (suc j))

-- the values at the n numbers from j on, as a list
abbrev pub tabulate : {A : Type 0} → (ℕ → A) → ℕ → ℕ → List A
tabulate f zero j = []
tabulate f (suc n) j = f j ∷ tabulate f n (suc j)
