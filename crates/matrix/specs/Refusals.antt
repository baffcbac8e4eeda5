-- The refusals of a file's kinds and cells (document 01, "Refused, by whom"). 0 is no refusal.
use Rattle.std.specs.Prelude.{ℕ, ◌*◌, ◌/◌, ◌%◌, Bool, true, false, List, leb, eqb, get_or}
use Rattle.cases.specs.Cases.{pick, all}
use Rattle.rights.specs.Rights.{within}
use Rattle.protection.specs.Limits.{names}
use Rattle.matrix.specs.Bytes.{inside}

-- "6 a kind above 2"
abbrev pub kind_fits : List ℕ → ℕ → Bool
kind_fits ks x = leb (get_or ks x 0) 2

-- "7 a cell with a right from g on, or not 0 where it must be 0"
unfoldable pub cell_fits : ℕ → List ℕ → List ℕ → ℕ → Bool
cell_fits g ks cs c = pick (within (get_or cs c 0) g) (pick (inside ks (c / names) (c % names)) true (eqb (get_or cs c 0) 0)) false

unfoldable pub matrix_refusal : ℕ → List ℕ → List ℕ → ℕ
matrix_refusal g ks cs = pick (all (kind_fits ks) names 0) (pick (all (cell_fits g ks cs) (names * names) 0) 0 7) 6
