-- Where a file holds what (document 01, "The matrix and the house file"). A byte past its end reads as 0; each refusal goes by bytes that earlier tests found.
use Rattle.std.specs.Prelude.{ℕ, zero, suc, ◌+◌, ◌*◌, ◌-◌, List, get_or, take, drop}
use Rattle.rights.specs.Bytes.{sets_in}
use Rattle.protection.specs.Limits.{names, rights}

abbrev pub byte : List ℕ → ℕ → ℕ
byte f i = get_or f i 0

-- "16-bit values low byte first"; each is below `words`
abbrev pub words : ℕ
words = 65536

abbrev pub word : List ℕ → ℕ → ℕ
word f i = byte f i + 256 * byte f (i + 1)

-- "byte 0 is g; byte 1 is the number of pairs"
abbrev pub rights_of : List ℕ → ℕ
rights_of f = byte f 0

abbrev pub pairs_of : List ℕ → ℕ
pairs_of f = byte f 1

-- "Then the pairs, .. each an offset (2 bytes, from the file's start) and a length (2 bytes)."
abbrev pub offset_of : List ℕ → ℕ → ℕ
offset_of f i = word f (2 + 4 * i)

abbrev pub length_of : List ℕ → ℕ → ℕ
length_of f i = word f (2 + 4 * i + 2)

abbrev pub pairs_end : List ℕ → ℕ
pairs_end f = 2 + 4 * pairs_of f

-- "The first section begins where the pairs end, each next one where the one before ends, the last ends with the file."
unfoldable pub start_of : List ℕ → ℕ → ℕ
start_of f zero = pairs_end f
start_of f (suc i) = offset_of f i + length_of f i

abbrev pub section : List ℕ → ℕ → List ℕ
section f i = take (length_of f i) (drop (offset_of f i) f)

-- "Pair 0, kinds"; "Pair 1, cells"; "a pair between cells and rules" (document 02, C-19), the carries; "Every further pair is a rule, numbered from 0"
abbrev pub kinds_in : List ℕ → List ℕ
kinds_in f = section f 0

-- "a cell and a carry entry are two bytes low byte first" (document 02, C-21)
abbrev pub cells_in : List ℕ → List ℕ
cells_in f = sets_in (names * names) (section f 1)

-- of each right below the limit; from g on they carry nothing
abbrev pub carries_in : List ℕ → List ℕ
carries_in f = sets_in rights (section f 2)

-- pairs before the first rule's
abbrev pub fixed_pairs : ℕ
fixed_pairs = 3

abbrev pub command_in : List ℕ → ℕ → List ℕ
command_in f i = section f (fixed_pairs + i)

abbrev pub commands_of : List ℕ → ℕ
commands_of f = pairs_of f - fixed_pairs
