-- Document 01's own cases ("Proof slips", P1 to P10).
use Rattle.std.specs.Prelude.{ℕ, List, [], ◌∷◌}
use Rattle.safety.specs.Demand3.{Refused, Safe, Unsafe}
use Rattle.rows.specs.Build.{an_object, a_subject, objects_below, cell_with, if_in, enter, delete, create_subject, destroy_subject, rule_bytes, file_of, call, buffer, holding, text}
use Rattle.rows.specs.Cases.{judges, prints, runs, Row, row}

-- P1: "g 2; 0, 1 subjects, 2 object; right 0 in (0,2). Rule 0 (a,b,c): if 0 in (a,c) enter 1 into (b,c)."
abbrev pub file1 : List ℕ
file1 = file_of 2 (a_subject 0 ∷ a_subject 1 ∷ an_object 2 ∷ []) (cell_with 0 2 1 ∷ []) (rule_bytes 3 (if_in 0 0 2 ∷ []) (enter 1 1 2 ∷ []) ∷ [])

-- P2: "g 2; subject 0, cell (0,0) holds 0 and 1. Rule 0 (a,b): delete 0 from (a,b). Rule 1 (a,b): if 1 in (a,b) enter 0 there."; q is the right of that condition
abbrev pub file_with_condition : ℕ → List ℕ
file_with_condition q = file_of 2 (a_subject 0 ∷ []) (cell_with 0 0 3 ∷ []) (rule_bytes 2 [] (delete 0 0 1 ∷ []) ∷ rule_bytes 2 (if_in q 0 1 ∷ []) (enter 0 0 1 ∷ []) ∷ [])

abbrev pub file2 : List ℕ
file2 = file_with_condition 1

-- P3: "As P2 with rule 1's condition on right 0"
abbrev pub file3 : List ℕ
file3 = file_with_condition 0

-- P4: "g 1, no names. Rule 0 (a): create subject a. Rule 1 (a,b): enter 0 into (a,b)."; k is the blanks of rule 0
abbrev pub file_with_blanks : ℕ → List ℕ
file_with_blanks k = file_of 1 [] [] (rule_bytes k [] (create_subject 0 ∷ []) ∷ rule_bytes 2 [] (enter 0 0 1 ∷ []) ∷ [])

abbrev pub file4 : List ℕ
file4 = file_with_blanks 1

-- P5: "As P4, rule 0 with a second, unnamed blank"
abbrev pub file5 : List ℕ
file5 = file_with_blanks 2

-- P6: "g 1, no names, no rules"
abbrev pub file6 : List ℕ
file6 = file_of 1 [] [] []

-- P7: "g 1, names 0 to 29 objects, no rules"
abbrev pub file7 : List ℕ
file7 = file_of 1 (objects_below 30) [] []

-- P8: "name 30 an object too"
abbrev pub file8 : List ℕ
file8 = file_of 1 (objects_below 31) [] []

-- P9 and P10: "g 1, subject 0, cells empty."
abbrev pub one_subject : List (List ℕ) → List ℕ
one_subject rules = file_of 1 (a_subject 0 ∷ []) [] rules

-- P9: "Rule (a,b): enter 0 into (a,b), destroy subject a, enter 0 into (b,b)"
abbrev pub file9 : List ℕ
file9 = one_subject (rule_bytes 2 [] (enter 0 0 1 ∷ destroy_subject 0 ∷ enter 0 1 1 ∷ []) ∷ [])

-- P10: "The same matrix, rule (a): create subject a"
abbrev pub file10 : List ℕ
file10 = one_subject (rule_bytes 1 [] (create_subject 0 ∷ []) ∷ [])

abbrev pub slip_cases : List Row
slip_cases =
    -- "Right 1. Whole listing:" `UNSAFE 1`, `0 0 0 2`
    row "P1 listing" (prints (1 ∷ file1) (text "UNSAFE 1\n0 0 0 2\n")) ∷
    -- "Buffer at least 170 bytes; 169 is refused 24." "A refusal .. changes no lent byte."
    row "P1" (judges file1 1 (buffer 0 170) (Unsafe 1) (holding (call 0 (0 ∷ 0 ∷ 2 ∷ []) ∷ []) 170)) ∷
    row "P1 one byte less" (judges file1 1 (buffer 0 169) (Refused 24) (buffer 0 169)) ∷
    -- "Right 0: UNSAFE 2, steps `0 0 0`, `1 0 0`."
    row "P2" (judges file2 0 (buffer 0 80) (Unsafe 2) (holding (call 0 (0 ∷ 0 ∷ []) ∷ call 1 (0 ∷ 0 ∷ []) ∷ []) 80)) ∷
    row "P2 listing" (prints (0 ∷ file2) (text "UNSAFE 2\n0 0 0\n1 0 0\n")) ∷
    -- "SAFE 0."
    row "P3" (judges file3 0 (buffer 0 80) (Safe 0) (buffer 0 80)) ∷
    row "P3 listing" (prints (0 ∷ file3) (text "SAFE 0\n")) ∷
    -- "Right 0: UNSAFE 2, `0 0`, `1 0 0`."
    row "P4" (judges file4 0 (buffer 0 30) (Unsafe 2) (holding (call 0 (0 ∷ []) ∷ call 1 (0 ∷ 0 ∷ []) ∷ []) 30)) ∷
    row "P4 listing" (prints (0 ∷ file4) (text "UNSAFE 2\n0 0\n1 0 0\n")) ∷
    -- document 02, C-11: "P5 turns into UNSAFE 2 with `0 0 0` and `1 0 0`."
    row "P5" (judges file5 0 (buffer 0 30) (Unsafe 2) (holding (call 0 (0 ∷ 0 ∷ []) ∷ call 1 (0 ∷ 0 ∷ []) ∷ []) 30)) ∷
    row "P5 listing" (prints (0 ∷ file5) (text "UNSAFE 2\n0 0 0\n1 0 0\n")) ∷
    -- "right 0: SAFE 0."
    row "P6" (judges file6 0 (buffer 0 30) (Safe 0) (buffer 0 30)) ∷
    row "P6 listing" (prints (0 ∷ file6) (text "SAFE 0\n")) ∷
    -- "right 0: SAFE 0"
    row "P7" (judges file7 0 (buffer 0 180) (Safe 0) (buffer 0 180)) ∷
    row "P7 listing" (prints (0 ∷ file7) (text "SAFE 0\n")) ∷
    -- "refused 23."
    row "P8" (judges file8 0 (buffer 0 180) (Refused 23) (buffer 0 180)) ∷
    row "P8 listing" (prints (0 ∷ file8) (text "REFUSED 23\n")) ∷
    -- ".. run with a = b = 0: 15, no byte changed."
    row "P9" (runs file9 (call 0 (0 ∷ 0 ∷ [])) 15 file9) ∷
    -- ".. run with a = 0: 15."
    row "P10" (runs file10 (call 0 (0 ∷ [])) 15 file10) ∷
    []
