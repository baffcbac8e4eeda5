-- What rights carry, as the sets that a file has (document 02, C-19).
use Rattle.std.specs.Prelude.{Bool, List, ℕ, get_or}
use Rattle.rights.specs.Rights.{has}

-- "byte i the set of rights that right i carries"; two bytes (document 02, C-21)
abbrev pub carried_in : List ℕ → ℕ → ℕ → Bool
carried_in l i j = has (get_or l i 0) j
