-- A state that fits into a file with g rights.
use Rattle.std.specs.Prelude.{ℕ, ◌<◌, T}
use Rattle.protection.specs.Limits.{names}
use Rattle.protection.specs.State.{State, object_in, subject_in}

pub record Proper (g : ℕ) (m : State) : Type 0 where
  pub named : (x : ℕ) → T (object_in m x) → x < names
  pub row : (s o q : ℕ) → T (m.cell s o q) → T (subject_in m s)
  pub column : (s o q : ℕ) → T (m.cell s o q) → T (object_in m o)
  pub right : (s o q : ℕ) → T (m.cell s o q) → q < g
