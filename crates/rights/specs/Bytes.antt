-- Sets of rights in a file: "a cell and a carry entry are two bytes low byte first" (document 02, C-21).
use Rattle.std.specs.Prelude.{ℕ, ◌+◌, ◌*◌, ◌/◌, ◌%◌, List, [], ◌∷◌, get_or}
use Rattle.cases.specs.Cases.{tabulate}

-- bytes of a set, and the values of a byte
abbrev pub set_bytes : ℕ
set_bytes = 2

abbrev pub byte_values : ℕ
byte_values = 256

-- set number c; a byte past the end reads as 0
abbrev pub set_in : List ℕ → ℕ → ℕ
set_in l c = get_or l (set_bytes * c) 0 + byte_values * get_or l (set_bytes * c + 1) 0

-- the first n sets
unfoldable pub sets_in : ℕ → List ℕ → List ℕ
sets_in n l = tabulate (set_in l) n 0

-- the bytes of sets
unfoldable pub bytes_of : List ℕ → List ℕ
bytes_of [] = []
bytes_of (x ∷ xs) = x % byte_values ∷ x / byte_values ∷ bytes_of xs
