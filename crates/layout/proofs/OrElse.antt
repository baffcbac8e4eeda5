-- One refusal before another. Assumes nothing.
use Prim.Native.Nat.{ℕ}
use mathlib.Core.Path.{◌≡◌}
use borrow.Author.Tests.{eq-eqb, ne_eqb}
use Rattle.layout.specs.Refusals.{or_else}

pub or_first : (a b : ℕ) → (a ≡ 0 → ⊥) → or_else a b ≡ a
or_first a b z = rw (ne_eqb a 0 z)

pub or_second : (a b : ℕ) → a ≡ 0 → or_else a b ≡ b
or_second a b z = rw (eq-eqb a 0 z)
