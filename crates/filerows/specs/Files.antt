-- Files and their refusals, 1 to 9 and 44 (document 01, "Refused, by whom"; document 02, C-19): both sides of each bound, and behind each fault a later one that
-- must not win. "Order: 1 (2 and 4,096 bytes), 2, 3, 1 (pairs), 4, 5 for kinds and cells, 6, 7, then rule by rule 5 (under 3), 8, 5, 9."; 44 stands "between 7 and the rules".
use Rattle.std.specs.Prelude.{ℕ, List, [], ◌∷◌, ◌++◌, replicate}
use Rattle.rows.specs.Build.{pair, file_with, an_object, a_subject, CellAt, cell_with, if_in, step, enter, delete, create_subject, create_object, destroy_subject, destroy_object, rule_bytes, on_name, on_cell, file_carrying, file_of}
use Rattle.rows.specs.Cases.{checks, Row, row}

-- kinds, cells and carries of so many bytes, and no rule; each kind is 6, each carried set 44
abbrev pub sections : ℕ → ℕ → ℕ → ℕ → List ℕ
sections g kinds cells carries = file_with g (replicate kinds 3 ∷ replicate cells 0 ∷ replicate carries 4 ∷ [])

-- the first bytes and the pairs alone: no section is there, or they are too short
abbrev pub header_cases : List Row
header_cases =
    -- "1 fewer than 2 bytes, more than 4,096"
    row "1: no byte" (checks [] 1) ∷
    row "1: one byte, before 2" (checks (13 ∷ []) 1) ∷
    row "2: two bytes, g 0, before 3" (checks (0 ∷ 0 ∷ []) 2) ∷
    row "1: 4,097 bytes, before 2" (checks (replicate 4097 0) 1) ∷
    row "2: 4,096 bytes" (checks (replicate 4096 0) 2) ∷
    -- "refusal 2 means 1 to 12" (C-21); "pairs are 3 to 35" (C-19)
    row "2: g 13, before 3" (checks (13 ∷ 36 ∷ []) 2) ∷
    row "3: g 1, two pairs, before 1" (checks (1 ∷ 2 ∷ []) 3) ∷
    row "3: g 12, 36 pairs, before 1" (checks (12 ∷ 36 ∷ []) 3) ∷
    -- "1 .. shorter than its pairs need": 2 + 4 × pairs bytes
    row "1: 3 pairs in 13 bytes, before 4" (checks (1 ∷ 3 ∷ replicate 11 0) 1) ∷
    row "1: 35 pairs in 141 bytes, before 4" (checks (12 ∷ 35 ∷ replicate 139 0) 1) ∷
    -- "4 an offset or end not where it must be"; the sections' lengths, 5, are wrong too
    row "4: 3 pairs in 14 bytes, the first offset 0, before 5" (checks (1 ∷ 3 ∷ replicate 12 0) 4) ∷
    row "4: 35 pairs in 142 bytes" (checks (12 ∷ 35 ∷ replicate 140 0) 4) ∷
    row "4: a byte between two sections, before 5" (checks (1 ∷ 3 ∷ pair 14 1 (pair 16 1 (pair 17 1 (3 ∷ 0 ∷ 0 ∷ 0 ∷ [])))) 4) ∷
    row "4: a byte of two sections, before 5" (checks (1 ∷ 3 ∷ pair 14 1 (pair 15 2 (pair 16 2 (3 ∷ 0 ∷ 0 ∷ 0 ∷ [])))) 4) ∷
    row "4: a byte behind the last section, before 5" (checks (1 ∷ 3 ∷ pair 14 1 (pair 15 1 (pair 16 1 (3 ∷ 0 ∷ 0 ∷ 0 ∷ [])))) 4) ∷
    row "4: the last section cut, before 5" (checks (1 ∷ 3 ∷ pair 14 1 (pair 15 1 (pair 16 1 (3 ∷ 0 ∷ [])))) 4) ∷
    row "4: sums are not taken modulo 65,536, before 5" (checks (1 ∷ 3 ∷ pair 14 65535 (pair 13 1 (pair 14 0 []))) 4) ∷
    -- "5 a section's length wrong (kinds, cells, ..)"; a kind above 2, 6, is there too
    row "5: kinds of 31 bytes, before 6" (checks (sections 1 31 2048 2) 5) ∷
    row "5: kinds of 33 bytes, before 6" (checks (sections 1 33 2048 2) 5) ∷
    -- "cells are 2,048 bytes" (C-21)
    row "5: cells of 1,024 bytes, before 6" (checks (sections 1 32 1024 2) 5) ∷
    row "5: cells of 2,047 bytes, before 6" (checks (sections 1 32 2047 2) 5) ∷
    row "5: cells of 2,049 bytes, before 6" (checks (sections 1 32 2049 2) 5) ∷
    -- two bytes for each right (C-21), and "its length counts under 5 with kinds and cells, before 6" (C-19)
    row "5: carries of g bytes, before 6" (checks (sections 2 32 2048 2) 5) ∷
    row "5: carries of 2 g - 1 bytes, before 6" (checks (sections 2 32 2048 3) 5) ∷
    row "5: carries of 2 g + 1 bytes, before 6" (checks (sections 2 32 2048 5) 5) ∷
    row "5: carries of no byte, g 1" (checks (file_with 1 (replicate 32 0 ∷ replicate 2048 0 ∷ [] ∷ [])) 5) ∷
    []

-- a rule's section of no bytes, which is 5
abbrev pub no_bytes : List ℕ
no_bytes = []

-- g 2, subject 0, object 1, one cell set; its rule is 5
abbrev pub one_cell : CellAt → List ℕ
one_cell c = file_of 2 (a_subject 0 ∷ an_object 1 ∷ []) (c ∷ []) (no_bytes ∷ [])

-- subject 0, and the set of (0,0)
abbrev pub wide_cell : ℕ → ℕ → List ℕ
wide_cell g x = file_of g (a_subject 0 ∷ []) (cell_with 0 0 x ∷ []) []

abbrev pub matrix_cases : List Row
matrix_cases =
    -- "6 a kind above 2"
    row "6: the last kind 3, before 7" (checks (file_of 1 (record { name = 31; kind = 3 } ∷ []) (cell_with 0 0 255 ∷ []) []) 6) ∷
    row "7: the last kind 2" (checks (file_of 1 (record { name = 31; kind = 2 } ∷ []) (cell_with 0 0 255 ∷ []) []) 7) ∷
    -- "7 a cell with a right from g on, or not 0 where it must be 0": "A cell whose row is no subject or whose column is absent is 0."
    row "7: right g in a cell, before a rule's 5" (checks (one_cell (cell_with 0 0 4)) 7) ∷
    row "5: rights below g in a cell" (checks (one_cell (cell_with 0 0 3)) 5) ∷
    row "7: an object's row" (checks (one_cell (cell_with 1 0 1)) 7) ∷
    row "7: an absent name's row" (checks (one_cell (cell_with 2 0 1)) 7) ∷
    row "7: an absent name's column" (checks (one_cell (cell_with 0 2 1)) 7) ∷
    row "5: an object's column" (checks (one_cell (cell_with 0 1 1)) 5) ∷
    row "7: the last cell" (checks (one_cell (cell_with 31 31 1)) 7) ∷
    -- document 02, C-21: 12 rights, and 7 for "bits from g on up to bit 15"
    row "7: g 2, right 8 alone in a cell" (checks (one_cell (cell_with 0 0 256)) 7) ∷
    row "7: g 12, right 8 in an object's row" (checks (file_of 12 (a_subject 0 ∷ an_object 1 ∷ []) (cell_with 1 0 256 ∷ []) []) 7) ∷
    row "7: g 12, right 8 in the last cell" (checks (file_of 12 (a_subject 0 ∷ []) (cell_with 31 31 256 ∷ []) []) 7) ∷
    row "accepted: g 12, right 8 in the last cell" (checks (file_of 12 (a_subject 31 ∷ []) (cell_with 31 31 256 ∷ []) []) 0) ∷
    row "accepted: g 12, right 11 in a cell" (checks (wide_cell 12 2048) 0) ∷
    row "7: g 11, right 11 in a cell" (checks (wide_cell 11 2048) 7) ∷
    row "accepted: g 12, all rights in a cell" (checks (wide_cell 12 4095) 0) ∷
    row "7: g 12, bit 12 in a cell" (checks (wide_cell 12 4096) 7) ∷
    row "7: g 12, bit 15 in a cell" (checks (wide_cell 12 32768) 7) ∷
    row "7: g 12, all bits in a cell" (checks (wide_cell 12 65535) 7) ∷
    []

-- g 2, no names, these carries and this rule
abbrev pub carrying : List ℕ → List ℕ → List ℕ
carrying carries rule = file_carrying 2 [] [] carries (rule ∷ [])

abbrev pub carry_cases : List Row
carry_cases =
    -- "It refuses with 44 .., between 7 and the rules, a carried right from g on"
    row "7: right g in a cell, before 44" (checks (file_carrying 2 (a_subject 0 ∷ []) (cell_with 0 0 4 ∷ []) (4 ∷ 0 ∷ []) []) 7) ∷
    row "44: right g carried, before rule 0's 5" (checks (carrying (4 ∷ 0 ∷ []) no_bytes) 44) ∷
    row "44: right g carried by the last right" (checks (carrying (0 ∷ 4 ∷ []) no_bytes) 44) ∷
    row "44: right 7 carried beside right 0" (checks (carrying (129 ∷ 0 ∷ []) no_bytes) 44) ∷
    row "5: rights below g carried" (checks (carrying (3 ∷ 3 ∷ []) no_bytes) 5) ∷
    row "44: before rule 0's 8" (checks (carrying (4 ∷ 0 ∷ []) (0 ∷ 0 ∷ 1 ∷ [])) 44) ∷
    row "44: before rule 0's 9" (checks (carrying (4 ∷ 0 ∷ []) (on_name (enter 2 0 0))) 44) ∷
    row "44: g 7, right 7 carried" (checks (file_carrying 7 [] [] (128 ∷ replicate 6 0) []) 44) ∷
    -- document 02, C-21: 44 for "bits from g on up to bit 15"
    row "44: g 8, right 8 carried" (checks (file_carrying 8 [] [] (256 ∷ replicate 7 0) []) 44) ∷
    row "44: g 11, right 11 carried" (checks (file_carrying 11 [] [] (2048 ∷ replicate 10 0) []) 44) ∷
    row "44: g 12, bit 12 carried" (checks (file_carrying 12 [] [] (4096 ∷ replicate 11 0) []) 44) ∷
    row "44: g 12, bit 15 carried by the last right" (checks (file_carrying 12 [] [] (replicate 11 0 ++ (32768 ∷ [])) []) 44) ∷
    row "accepted: g 12, each right carries all" (checks (file_carrying 12 [] [] (replicate 12 4095) []) 0) ∷
    []

-- g 2, no names, and these rules
abbrev pub with_rules : List (List ℕ) → List ℕ
with_rules rules = file_of 2 [] [] rules

-- a rule of 2 blanks with one condition, and with one step, before a rule that is 5
abbrev pub condition : List ℕ → List ℕ
condition c = with_rules (rule_bytes 2 (c ∷ []) (enter 0 0 0 ∷ []) ∷ no_bytes ∷ [])

abbrev pub operation : List ℕ → List ℕ
operation o = with_rules (on_cell o ∷ no_bytes ∷ [])

-- the largest rule, on right q
abbrev pub largest_rule : ℕ → List ℕ
largest_rule q =
    rule_bytes 4
    (if_in q 3 3 ∷ if_in q 3 3 ∷ if_in q 3 3 ∷ if_in q 3 3 ∷ [])
    (enter q 3 3 ∷ delete q 3 3 ∷ create_subject 3 ∷ create_object 3 ∷ destroy_subject 3 ∷ destroy_object 3 ∷ [])

abbrev pub longest : List ℕ
longest = file_of 12 [] [] (replicate 32 (largest_rule 11))

abbrev pub rule_cases : List Row
rule_cases =
    -- "rule by rule 5 (under 3), 8, 5, 9"
    row "5: a rule of 2 bytes, before 8" (checks (with_rules ((5 ∷ 5 ∷ []) ∷ [])) 5) ∷
    -- "8 k, c or m out of range": "blanks k, 1 to 4", "conditions c, 0 to 4", "steps m, 1 to 6"; the length, 5, is wrong too
    row "8: no blanks, before 5" (checks (with_rules ((0 ∷ 0 ∷ 1 ∷ []) ∷ [])) 8) ∷
    row "8: 5 blanks, before 5" (checks (with_rules ((5 ∷ 0 ∷ 1 ∷ []) ∷ [])) 8) ∷
    row "8: 5 conditions, before 5" (checks (with_rules ((1 ∷ 5 ∷ 1 ∷ []) ∷ [])) 8) ∷
    row "8: no steps, before 5" (checks (with_rules ((1 ∷ 0 ∷ 0 ∷ 0 ∷ []) ∷ [])) 8) ∷
    row "8: 7 steps, before 5" (checks (with_rules ((1 ∷ 0 ∷ 7 ∷ []) ∷ [])) 8) ∷
    row "5: k 1, c 0, m 1" (checks (with_rules ((1 ∷ 0 ∷ 1 ∷ []) ∷ [])) 5) ∷
    row "5: k 4, c 4, m 6" (checks (with_rules ((4 ∷ 4 ∷ 6 ∷ []) ∷ [])) 5) ∷
    -- "not 3 + 3c + 4m"; the step's kind, 9, is wrong too
    row "5: a rule one byte short, before 9" (checks (with_rules ((1 ∷ 0 ∷ 1 ∷ 7 ∷ 0 ∷ 0 ∷ []) ∷ [])) 5) ∷
    row "5: a rule one byte long, before 9" (checks (with_rules ((1 ∷ 0 ∷ 1 ∷ 7 ∷ 0 ∷ 0 ∷ 0 ∷ 0 ∷ []) ∷ [])) 5) ∷
    row "5: rule 0, before rule 1's 8" (checks (with_rules ((1 ∷ 0 ∷ 1 ∷ []) ∷ (0 ∷ 0 ∷ 0 ∷ []) ∷ [])) 5) ∷
    -- "9 a right from g on, a blank from k on"
    row "9: a condition's right g, before rule 1's 5" (checks (condition (if_in 2 0 0)) 9) ∷
    row "9: a condition's subject blank k" (checks (condition (if_in 0 2 0)) 9) ∷
    row "9: a condition's object blank k" (checks (condition (if_in 0 0 2)) 9) ∷
    row "5: a condition's right g - 1 and blanks k - 1" (checks (condition (if_in 1 1 1)) 5) ∷
    row "9: a step's right g" (checks (operation (enter 2 0 0)) 9) ∷
    row "9: a deleted right g" (checks (operation (delete 2 0 0)) 9) ∷
    row "9: a step's first blank k" (checks (operation (enter 0 2 0)) 9) ∷
    row "9: a step's second blank k" (checks (operation (enter 0 0 2)) 9) ∷
    row "5: a step's right g - 1 and blanks k - 1" (checks (operation (enter 1 1 1)) 5) ∷
    -- "a step kind not 1 to 6, or right or second blank not 0 in kinds 3 to 6"
    row "9: a step of kind 0" (checks (operation (step 0 0 0 0)) 9) ∷
    row "9: a step of kind 7" (checks (operation (step 7 0 0 0)) 9) ∷
    row "9: a right in kind 3" (checks (operation (step 3 1 0 0)) 9) ∷
    row "9: a right in kind 6" (checks (operation (step 6 1 0 0)) 9) ∷
    row "9: a second blank in kind 3" (checks (operation (step 3 0 0 1)) 9) ∷
    row "9: a second blank in kind 6" (checks (operation (step 6 0 0 1)) 9) ∷
    row "9: a created blank k" (checks (operation (create_subject 2)) 9) ∷
    -- all of it at its largest: 4 blanks, 4 conditions, 6 steps of the six kinds; 32 rules
    row "accepted: the largest rule" (checks (with_rules (largest_rule 1 ∷ [])) 0) ∷
    row "accepted: 35 pairs" (checks (with_rules (replicate 32 (on_name (create_subject 0)))) 0) ∷
    -- document 02, C-21: g 12, and 32 rules of 39 bytes: 2 + 4 × 35 + 32 + 2,048 + 24 + 32 × 39
    row "accepted: the longest file, 3,494 bytes" (checks longest 0) ∷
    row "9: g 12, right 12 in the last of 32 rules" (checks (file_of 12 [] [] (replicate 31 (on_name (enter 11 0 0)) ++ (on_name (enter 12 0 0) ∷ []))) 9) ∷
    []
