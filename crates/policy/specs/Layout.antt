-- Where the sections lie: what the reader's functions ask of a file whose table of pairs has passed.
use Rattle.std.specs.Prelude.{ℕ, ◌+◌, ◌*◌, ◌≤◌, ◌<◌, ◌≡◌, List, length}
use Rattle.rights.specs.Bytes.{set_bytes}
use Rattle.protection.specs.Limits.{names, commands}
use Rattle.layout.specs.File.{offset_of, length_of, fixed_pairs}

-- section i and its pair
pub record SectionInside (f : List ℕ) (i : ℕ) : Type 0 where
  pub pair : 2 + 4 * i + 4 ≤ length f
  pub end : offset_of f i + length_of f i ≤ length f

pub record MatrixInside (f : List ℕ) : Type 0 where
  pub pairs : 10 ≤ length f
  pub kinds_size : length_of f 0 ≡ names
  pub cells_size : length_of f 1 ≡ set_bytes * (names * names)
  pub kinds_end : offset_of f 0 + length_of f 0 ≤ length f
  pub cells_end : offset_of f 1 + length_of f 1 ≤ length f

pub record CommandsInside (f : List ℕ) (n : ℕ) : Type 0 where
  pub few : n ≤ commands
  pub all : (i : ℕ) → i < n → SectionInside f (fixed_pairs + i)
