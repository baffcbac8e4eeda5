-- A file's bytes from what it says (document 01, "The matrix and the house file"). Document 01's numbers stand here once more, so that no change of the
-- definitions changes a case.
use Rattle.std.specs.Prelude.{ℕ, zero, suc, ◌+◌, ◌-◌, ◌*◌, ◌/◌, ◌%◌, List, [], ◌∷◌, ◌++◌, length, get_or, set, replicate}
use Prim.Native.Char.{code}
use Prim.Native.String.{String, len, char_at}
use Rattle.cases.specs.Cases.{tabulate}
use Rattle.protection.specs.Command.{Call}

-- "16-bit values low byte first"
abbrev pub word_bytes : ℕ → List ℕ → List ℕ
word_bytes n rest = (n % 256) ∷ (n / 256) ∷ rest

-- a pair, "an offset .. and a length", before what follows it
abbrev pub pair : ℕ → ℕ → List ℕ → List ℕ
pair at size rest = word_bytes at (word_bytes size rest)

-- the pairs of sections that stand one behind the other from a place on
abbrev pub pairs_from : ℕ → List (List ℕ) → List ℕ
pairs_from at [] = []
pairs_from at (s ∷ ss) = pair at (length s) (pairs_from (at + length s) ss)

-- lists one behind the other
abbrev pub joined : {A : Type 0} → List (List A) → List A
joined [] = []
joined (s ∷ ss) = s ++ joined ss

-- "byte 0 is g; byte 1 is the number of pairs. Then the pairs"
abbrev pub file_with : ℕ → List (List ℕ) → List ℕ
file_with g ss = g ∷ length ss ∷ (pairs_from (2 + 4 * length ss) ss ++ joined ss)

-- a name with its kind; a cell with its set of rights
pub record KindAt : Type 0 where
  pub name : ℕ
  pub kind : ℕ

pub record CellAt : Type 0 where
  pub subject : ℕ
  pub object : ℕ
  pub rights : ℕ

-- "1 object that is no subject, 2 subject"
abbrev pub an_object : ℕ → KindAt
an_object x = record { name = x; kind = 1 }

abbrev pub a_subject : ℕ → KindAt
a_subject x = record { name = x; kind = 2 }

-- the names below n, all objects; all subjects
abbrev pub objects_below : ℕ → List KindAt
objects_below zero = []
objects_below (suc n) = an_object n ∷ objects_below n

abbrev pub subjects_below : ℕ → List KindAt
subjects_below zero = []
subjects_below (suc n) = a_subject n ∷ subjects_below n

-- the cell (s, o) with its set: "Bit i, worth 2 to the power i, is right i."
abbrev pub cell_with : ℕ → ℕ → ℕ → CellAt
cell_with s o x = record { subject = s; object = o; rights = x }

-- 32 kinds and 1,024 cells of two bytes, 0 where nothing else is said; of two that are said of one name or cell the first stands
abbrev pub kind_bytes : List KindAt → List ℕ
kind_bytes [] = replicate 32 0
kind_bytes (k ∷ ks) = set (kind_bytes ks) k.name k.kind

-- "a cell and a carry entry are two bytes low byte first" (document 02, C-21): a set at a place, and sets one behind the other
abbrev pub set_at : ℕ → ℕ → List ℕ → List ℕ
set_at at x bytes = set (set bytes at (x % 256)) (at + 1) (x / 256)

abbrev pub sets_bytes : List ℕ → List ℕ
sets_bytes [] = []
sets_bytes (x ∷ xs) = word_bytes x (sets_bytes xs)

abbrev pub cell_bytes : List CellAt → List ℕ
cell_bytes [] = replicate 2048 0
cell_bytes (c ∷ cs) = set_at (2 * (32 * c.subject + c.object)) c.rights (cell_bytes cs)

-- "conditions of 3 bytes (right, subject blank, object blank)"
abbrev pub if_in : ℕ → ℕ → ℕ → List ℕ
if_in q s o = q ∷ s ∷ o ∷ []

-- "steps of 4 bytes (kind, right, first blank, second blank)"
abbrev pub step : ℕ → ℕ → ℕ → ℕ → List ℕ
step kind q first second = kind ∷ q ∷ first ∷ second ∷ []

-- "Kinds: 1 enter, 2 delete, 3 create subject, 4 create object, 5 destroy subject, 6 destroy object. Kinds 3 to 6 have right 0 and second blank 0"
abbrev pub enter : ℕ → ℕ → ℕ → List ℕ
enter q s o = step 1 q s o

abbrev pub delete : ℕ → ℕ → ℕ → List ℕ
delete q s o = step 2 q s o

abbrev pub create_subject : ℕ → List ℕ
create_subject x = step 3 0 x 0

abbrev pub create_object : ℕ → List ℕ
create_object x = step 4 0 x 0

abbrev pub destroy_subject : ℕ → List ℕ
destroy_subject x = step 5 0 x 0

abbrev pub destroy_object : ℕ → List ℕ
destroy_object x = step 6 0 x 0

-- a rule's section: blanks, the conditions' bytes, the steps' bytes
abbrev pub rule_bytes : ℕ → List (List ℕ) → List (List ℕ) → List ℕ
rule_bytes k conditions steps = k ∷ length conditions ∷ length steps ∷ (joined conditions ++ joined steps)

-- a rule of one step and no condition: (a), (a,b)
abbrev pub on_name : List ℕ → List ℕ
on_name o = rule_bytes 1 [] (o ∷ [])

abbrev pub on_cell : List ℕ → List ℕ
on_cell o = rule_bytes 2 [] (o ∷ [])

-- (a): enter q into (a,a)
abbrev pub entering : ℕ → List ℕ
entering q = on_name (enter q 0 0)

-- the whole file: rights, kinds, cells, the set that each right carries, rules
abbrev pub file_carrying : ℕ → List KindAt → List CellAt → List ℕ → List (List ℕ) → List ℕ
file_carrying g ks cs carries rules = file_with g (kind_bytes ks ∷ cell_bytes cs ∷ sets_bytes carries ∷ rules)

-- "an all-zero pair" (document 02, C-19): no right carries another
abbrev pub file_of : ℕ → List KindAt → List CellAt → List (List ℕ) → List ℕ
file_of g ks cs rules = file_carrying g ks cs (replicate g 0) rules

-- ---- what a call is given, and what it leaves
-- a rule run: the rule's number and the actuals; "positions from k on hold 255"
abbrev pub call : ℕ → List ℕ → Call
call i xs = record { command = i; a0 = get_or xs 0 255; a1 = get_or xs 1 255; a2 = get_or xs 2 255; a3 = get_or xs 3 255 }

-- "A trace is 5 bytes a step: rule number and four actuals."
abbrev pub trace : List Call → List ℕ
trace [] = []
trace (x ∷ xs) = x.command ∷ x.a0 ∷ x.a1 ∷ x.a2 ∷ x.a3 ∷ trace xs

-- the bytes of a lent buffer from place j on to place n, each of them its place's number modulo 256
abbrev pub buffer : ℕ → ℕ → List ℕ
buffer j n = tabulate (λ i. i % 256) (n - j) j

-- that buffer of n bytes with the steps at its front: "They fill the front of the buffer, under safe too; the rest keeps its bytes."
abbrev pub holding : List Call → ℕ → List ℕ
holding steps n = trace steps ++ buffer (5 * length steps) n

-- a printed text's bytes, in ASCII
abbrev pub text : String → List ℕ
text s = tabulate (λ i. code (char_at s i)) (len s) 0
