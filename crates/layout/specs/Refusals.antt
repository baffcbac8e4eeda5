-- The refusals of a file's first bytes and of its table of pairs (document 01, "Refused, by whom"). 0 is no refusal.
use Rattle.std.specs.Prelude.{ℕ, ◌+◌, ◌*◌, Bool, List, length, ltb, eqb}
use Rattle.cases.specs.Cases.{pick, all}
use Rattle.protection.specs.Limits.{names, rights, commands, file_bytes}
use Rattle.rights.specs.Bytes.{set_bytes}
use Rattle.layout.specs.File.{rights_of, pairs_of, offset_of, length_of, pairs_end, start_of, fixed_pairs}

-- the first of two refusals
abbrev pub or_else : ℕ → ℕ → ℕ
or_else n m = pick (eqb n 0) m n

-- "1 fewer than 2 bytes, more than 4,096"; 2, as "refusal 2 means 1 to 12" (document 02, C-21); 3, as "pairs are 3 to 35" (document 02, C-19); "1 .. shorter than its pairs need"
unfoldable pub header_refusal : List ℕ → ℕ
header_refusal f =
    pick (ltb (length f) 2) 1
    (pick (ltb file_bytes (length f)) 1
    (pick (ltb (rights_of f) 1) 2
    (pick (ltb rights (rights_of f)) 2
    (pick (ltb (pairs_of f) fixed_pairs) 3
    (pick (ltb (fixed_pairs + commands) (pairs_of f)) 3
    (pick (ltb (length f) (pairs_end f)) 1
    0))))))

-- "4 an offset or end not where it must be"
abbrev pub in_place : List ℕ → ℕ → Bool
in_place f i = eqb (offset_of f i) (start_of f i)

unfoldable pub pairs_refusal : List ℕ → ℕ
pairs_refusal f = pick (all (in_place f) (pairs_of f) 0) (pick (eqb (start_of f (pairs_of f)) (length f)) 0 4) 4

-- "5 a section's length wrong (kinds, cells, ..)"; the carries' "length counts under 5 with kinds and cells, before 6" (document 02, C-19);
-- "cells are 2,048 bytes", the carries two for each right (document 02, C-21)
unfoldable pub sizes_refusal : List ℕ → ℕ
sizes_refusal f = pick (eqb (length_of f 0) names) (pick (eqb (length_of f 1) (set_bytes * (names * names))) (pick (eqb (length_of f 2) (set_bytes * rights_of f)) 0 5) 5) 5
