-- What a condition tests in a cell, by the sets of those rights that carry the one named.
use Rattle.std.specs.Prelude.{◌≡◌, not, List, ℕ, ◌<◌, eqb, get_or}
use Rattle.std.specs.Int.Bits.{bit_and}
use Rattle.rights.specs.Rights.{has}
use Rattle.protection.specs.Limits.{rights}
use Rattle.protection.specs.Command.{System}
use Rattle.protection.specs.Carrying.{meets}

pub record MetBy (S : System) (carriers : List ℕ) : Type 0 where
  -- the cell c meets a condition on right q if it has a right in common with element q
  pub cell : (c q : ℕ) → q < rights → meets S (has c) q ≡ not (eqb (bit_and c (get_or carriers q 0)) 0)
