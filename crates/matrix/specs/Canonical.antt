-- Kinds and cells as an accepted file has them: what the functions over a matrix ask of it and keep.
use Rattle.std.specs.Prelude.{ℕ, ◌+◌, ◌*◌, ◌^◌, ◌≤◌, ◌<◌, ◌≡◌, not, List, T, length, get_or}
use Rattle.protection.specs.Limits.{names}
use Rattle.matrix.specs.Bytes.{inside}

-- kinds and cells as a file with g rights may hold them
pub record Canonical (g : ℕ) (ks cs : List ℕ) : Type 0 where
  pub kinds_length : length ks ≡ names
  pub cells_length : length cs ≡ names * names
  pub kinds_fit : (x : ℕ) → get_or ks x 0 ≤ 2
  pub cells_fit : (c : ℕ) → get_or cs c 0 < 2 ^ g
  pub outside : (s o : ℕ) → s < names → o < names → T (not (inside ks s o)) → get_or cs (names * s + o) 0 ≡ 0
