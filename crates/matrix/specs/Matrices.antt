-- The struct `Matrix` as a state, and what the functions over it leave.
use Rattle.std.specs.Prelude.{ℕ, ◌+◌, ◌*◌, List, get_or, set, replicate}
use Rattle.cases.specs.Cases.{iterate}
use Rattle.rights.specs.Rights.{insert, delete}
use Rattle.protection.specs.Limits.{names}
use Rattle.protection.specs.State.{State}
use Rattle.matrix.specs.Bytes.{view}
use Rattle.matrix.specs.declared.Matrix.{Matrix}

abbrev pub state_of : Matrix → State
state_of m = view m.kinds m.cells

-- the two arrays as one thing
abbrev pub matrix_of : List ℕ → List ℕ → Matrix
matrix_of ks cs = record { kinds = ks; cells = cs }

abbrev pub empty_matrix : Matrix
empty_matrix = record { kinds = replicate names 0; cells = replicate (names * names) 0 }

abbrev pub place : ℕ → ℕ → ℕ
place s o = names * s + o

-- cells with right q put into the cell (s, o), and taken out of it
abbrev pub with_right : List ℕ → ℕ → ℕ → ℕ → List ℕ
with_right cs q s o = set cs (place s o) (insert (get_or cs (place s o) 0) q)

abbrev pub without_right : List ℕ → ℕ → ℕ → ℕ → List ℕ
without_right cs q s o = set cs (place s o) (delete (get_or cs (place s o) 0) q)

abbrev pub entered : Matrix → ℕ → ℕ → ℕ → Matrix
entered m q s o = record { kinds = m.kinds; cells = with_right m.cells q s o }

abbrev pub deleted : Matrix → ℕ → ℕ → ℕ → Matrix
deleted m q s o = record { kinds = m.kinds; cells = without_right m.cells q s o }

-- cell j of row n and of column n is emptied
abbrev pub emptied : ℕ → ℕ → List ℕ → List ℕ
emptied n j cs = set (set cs (place n j) 0) (place j n) 0

abbrev pub renewed : Matrix → ℕ → ℕ → Matrix
renewed m n k = record { kinds = set m.kinds n k; cells = iterate (emptied n) names 0 m.cells }
