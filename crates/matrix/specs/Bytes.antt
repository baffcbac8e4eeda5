-- Kinds and cells as the numbers of a file (document 01, "The matrix and the house file"), read as a state; and a state written as such.
use Rattle.std.specs.Prelude.{Bool, true, false, ◌&&◌, List, ℕ, zero, suc, ◌+◌, ◌*◌, ◌/◌, ◌%◌, get_or}
use Rattle.cases.specs.Cases.{tabulate}
use Rattle.rights.specs.Rights.{has, number}
use Rattle.protection.specs.Limits.{names, rights}
use Rattle.protection.specs.State.{Kind, absent, object, subject, is_object, is_subject, State}

-- "0 absent, 1 object that is no subject, 2 subject"; a byte above 2 is refused (6), and reads as 2
abbrev pub kind_of : ℕ → Kind
kind_of zero = absent
kind_of (suc zero) = object
kind_of (suc (suc n)) = subject

abbrev pub kind_byte : Kind → ℕ
kind_byte absent = 0
kind_byte object = 1
kind_byte subject = 2

-- the cell (s, o) has a row and a column
abbrev pub inside : List ℕ → ℕ → ℕ → Bool
inside ks s o = is_subject (kind_of (get_or ks s 0)) && is_object (kind_of (get_or ks o 0))

-- "cell (s, o) at 32 × s + o. Bit i, worth 2 to the power i, is right i."
abbrev pub rights_in : List ℕ → List ℕ → ℕ → ℕ → ℕ → Bool
rights_in ks cs s o q = elim (inside ks s o) [ true ↦ has (get_or cs (names * s + o) 0) q | false ↦ false ]

-- "It starts with the file's kinds and cells, every number above 31 absent."
abbrev pub view : List ℕ → List ℕ → State
view ks cs = record { kind = λ x. kind_of (get_or ks x 0); cell = rights_in ks cs }

unfoldable pub kinds_of : State → List ℕ
kinds_of m = tabulate (λ x. kind_byte (m.kind x)) names 0

-- a cell of the state as a set of rights
abbrev pub cell_byte : State → ℕ → ℕ
cell_byte m c = number (m.cell (c / names) (c % names)) rights

unfoldable pub cells_of : State → List ℕ
cells_of m = tabulate (cell_byte m) (names * names) 0
