-- Judgements (document 01, "Leak, replay and judge"): 21 to 24, and files in which the judge's order decides which steps are written.
use Rattle.std.specs.Prelude.{ℕ, List, [], ◌∷◌}
use Rattle.protection.specs.Command.{Call}
use Rattle.safety.specs.Demand3.{Safe, Unsafe}
use Rattle.rows.specs.Build.{an_object, a_subject, objects_below, cell_with, if_in, enter, delete, create_subject, create_object, destroy_subject, destroy_object, rule_bytes, on_name, on_cell, entering, file_of, call, text}
use Rattle.rows.specs.Cases.{prints, Row, row}
use Rattle.rows.specs.Asked.{judge_refused, judge_answers}

-- g 2; names 0 to 30; the last of two rules has two steps
abbrev pub crowded : List ℕ
crowded = file_of 2 (objects_below 31) [] (on_name (create_object 0) ∷ rule_bytes 1 [] (create_object 0 ∷ create_subject 0 ∷ []) ∷ [])

-- g 1; names 0 to 29, subject 29 among them
abbrev pub full : List ℕ
full = file_of 1 (a_subject 29 ∷ objects_below 29) [] []

abbrev pub caller_cases : List Row
caller_cases =
    -- "Whoever wrote the file, in every call, first"
    row "judge: 5 before 21" (judge_refused (file_of 2 [] [] ([] ∷ [])) 2 0 5) ∷
    -- "21 right not below g. Judge only, in this order: 22 a rule with more than one step; 23 more than 30 names exist; 24 buffer shorter than .."
    row "judge: 21, right g, before 22" (judge_refused crowded 2 0 21) ∷
    row "judge: 22, right g - 1, before 23" (judge_refused crowded 1 0 22) ∷
    row "judge: 23, 31 names, before 24" (judge_refused (file_of 1 (a_subject 30 ∷ objects_below 30) [] []) 0 0 23) ∷
    -- "5 × (g × (subjects + 1) × (names + 2) + 4)": 5 × (1 × 2 × 32 + 4)
    row "judge: 24, 339 bytes" (judge_refused full 0 339 24) ∷
    row "judge: 340 bytes" (judge_answers full 0 340 (Safe 0) []) ∷
    -- the desk program: "Empty input: `REFUSED 1`."; the right alone is an empty file
    row "desk: empty input" (prints [] (text "REFUSED 1\n")) ∷
    row "desk: the right alone" (prints (0 ∷ []) (text "REFUSED 1\n")) ∷
    []

-- ---- rounds
-- g 1, subjects 0 and 1, right 0 in (0,0). Rule (a,b): enter 0 into (a,b).
abbrev pub two_subjects : List ℕ
two_subjects = file_of 1 (a_subject 0 ∷ a_subject 1 ∷ []) (cell_with 0 0 1 ∷ []) (on_cell (enter 0 0 1) ∷ [])

-- g 2, subject 0, no rights, and these rules (a) with one step
abbrev pub lone_subject : List (List ℕ) → List ℕ
lone_subject rules = file_of 2 (a_subject 0 ∷ []) [] rules

-- if 1 in (a,a) enter q into (a,a)
abbrev pub entering_if : ℕ → List ℕ
entering_if q = rule_bytes 1 (if_in 1 0 0 ∷ []) (enter q 0 0 ∷ [])

-- g 2, subjects 0, 1 and 2, right 1 in (1,1). Rule (a,b): if 1 in (b,b) enter 1 into (a,a).
abbrev pub handed_on : List ℕ
handed_on = file_of 2 (a_subject 0 ∷ a_subject 1 ∷ a_subject 2 ∷ []) (cell_with 1 1 2 ∷ []) (rule_bytes 2 (if_in 1 1 1 ∷ []) (enter 1 0 0 ∷ []) ∷ [])

-- g 1, subject 31. Rule (a): enter 0 into (a,a).
abbrev pub last_name : List ℕ
last_name = file_of 1 (a_subject 31 ∷ []) [] (entering 0 ∷ [])

abbrev pub round_cases : List Row
round_cases =
    -- "for each rule through all actuals, the first blank slowest, names 0 to 31"
    row "judge: the first blank slowest" (judge_answers two_subjects 0 80 (Unsafe 1) (call 0 (0 ∷ 1 ∷ []) ∷ [])) ∷
    row "judge: name 31" (judge_answers last_name 0 50 (Unsafe 1) (call 0 (31 ∷ []) ∷ [])) ∷
    row "desk: name 31" (prints (0 ∷ last_name) (text "UNSAFE 1\n0 31\n")) ∷
    -- document 02, C-11: "The judge always writes 0 there", whether a name 0 exists or not
    row "judge: spare blanks get 0" (judge_answers (file_of 1 (a_subject 1 ∷ []) [] (rule_bytes 4 [] (enter 0 1 1 ∷ []) ∷ [])) 0 50 (Unsafe 1) (call 0 (0 ∷ 1 ∷ 0 ∷ 0 ∷ []) ∷ [])) ∷
    -- "It goes through the rules in order"; "After the last rule it starts again"
    row "judge: rule 0 before rule 1" (judge_answers (lone_subject (entering 1 ∷ entering 0 ∷ [])) 0 80 (Unsafe 2) (call 0 (0 ∷ []) ∷ call 1 (0 ∷ []) ∷ [])) ∷
    row "judge: rule 0 once more" (judge_answers (lone_subject (entering_if 0 ∷ entering 1 ∷ [])) 0 80 (Unsafe 2) (call 1 (0 ∷ []) ∷ call 0 (0 ∷ []) ∷ [])) ∷
    -- "An enter of r that is useful ends the trace"
    row "judge: nothing behind the leak" (judge_answers (lone_subject (entering 0 ∷ entering 1 ∷ [])) 0 80 (Unsafe 1) (call 0 (0 ∷ []) ∷ [])) ∷
    -- "Whenever an allowed step is useful it is done and written": the next actuals meet it
    row "judge: a step seen by the next actuals" (judge_answers handed_on 0 220 (Safe 2) (call 0 (0 ∷ 1 ∷ []) ∷ call 0 (2 ∷ 0 ∷ []) ∷ [])) ∷
    -- "They fill the front of the buffer, under safe too"
    row "judge: safe, one step" (judge_answers (lone_subject (entering 1 ∷ [])) 0 80 (Safe 1) (call 0 (0 ∷ []) ∷ [])) ∷
    row "desk: safe, one step" (prints (0 ∷ lone_subject (entering 1 ∷ [])) (text "SAFE 1\n")) ∷
    []

-- ---- creates
-- g 2, subject 0 and object 2, right 0 in (0,0), and these rules
abbrev pub gap : List (List ℕ) → List ℕ
gap rules = file_of 2 (a_subject 0 ∷ an_object 2 ∷ []) (cell_with 0 0 1 ∷ []) rules

abbrev pub create_cases : List Row
create_cases =
    -- "A created blank gets only the name that is lowest absent when the judge reaches the rule in that round"
    row "judge: create object, the lowest absent name" (judge_answers (gap (on_name (create_object 0) ∷ [])) 0 100 (Safe 1) (call 0 (1 ∷ []) ∷ [])) ∷
    -- "a create object if the judge has done no create object yet; a create subject likewise, each counted by itself"
    row "judge: one create of each kind, in one round"
    (judge_answers
    (gap (on_name (create_subject 0) ∷ on_name (create_subject 0) ∷ on_name (create_object 0) ∷ on_name (create_object 0) ∷ entering 1 ∷ []))
    0
    100
    (Safe 4)
    (call 0 (1 ∷ []) ∷ call 2 (3 ∷ []) ∷ call 4 (0 ∷ []) ∷ call 4 (1 ∷ []) ∷ [])) ∷
    row "judge: a created object's column"
    (judge_answers
    (gap (on_name (create_object 0) ∷ on_cell (enter 0 0 1) ∷ []))
    0
    100
    (Unsafe 2)
    (call 0 (1 ∷ []) ∷ call 1 (0 ∷ 1 ∷ []) ∷ [])) ∷
    row "judge: a created blank in a condition" (judge_answers (gap (rule_bytes 1 (if_in 0 0 0 ∷ []) (create_subject 0 ∷ []) ∷ [])) 0 100 (Safe 0) []) ∷
    -- "Deletes and destroys are passed by."
    row "judge: deletes and destroys are passed by"
    (judge_answers (gap (on_name (delete 0 0 0) ∷ on_name (destroy_object 0) ∷ on_name (destroy_subject 0) ∷ [])) 0 100 (Safe 0) []) ∷
    []

-- ---- the closing search
-- g 2, subjects 0 and 1; right 0 in (0,0), both in (0,1) and (1,0). Rule 0 (a,b): delete 0 from (a,b). Rule 1 (a,b): if 1 in (a,b) enter 0 there.
abbrev pub start_cells : List ℕ
start_cells =
    file_of 2
    (a_subject 0 ∷ a_subject 1 ∷ [])
    (cell_with 0 0 1 ∷ cell_with 0 1 3 ∷ cell_with 1 0 3 ∷ [])
    (on_cell (delete 0 0 1) ∷ rule_bytes 2 (if_in 1 0 1 ∷ []) (enter 0 0 1 ∷ []) ∷ [])

-- g 1, subject 0, object 1, right 0 in (0,0) and (0,1). Rule 0 (a,b): if 0 in (a,a) enter 0 into (a,b). Rule 1 (a,b): delete 0 from (a,b).
abbrev pub elsewhere : List ℕ
elsewhere =
    file_of 1
    (a_subject 0 ∷ an_object 1 ∷ [])
    (cell_with 0 0 1 ∷ cell_with 0 1 1 ∷ [])
    (rule_bytes 2 (if_in 0 0 0 ∷ []) (enter 0 0 1 ∷ []) ∷ on_cell (delete 0 0 1) ∷ [])

-- g 2, subject 1, both rights in (1,1). Rules (a,b), a spare: 0 deletes 0 from (b,b); 1 enters 0 into it if 1 is there.
abbrev pub closing_spare : List ℕ
closing_spare =
    file_of 2
    (a_subject 1 ∷ [])
    (cell_with 1 1 3 ∷ [])
    (on_cell (delete 0 1 1) ∷ rule_bytes 2 (if_in 1 1 1 ∷ []) (enter 0 1 1 ∷ []) ∷ [])

-- g 2, subjects 0 and 1, right 0 in (0,0), both in (1,1). Rules (a,b): 0 deletes 0 from (b,b) if 0 in (a,a); 1 enters
-- 0 into it if also 1 is there.
abbrev pub first_allowed : List ℕ
first_allowed =
    file_of 2
    (a_subject 0 ∷ a_subject 1 ∷ [])
    (cell_with 0 0 1 ∷ cell_with 1 1 3 ∷ [])
    (rule_bytes 2 (if_in 0 0 0 ∷ []) (delete 0 1 1 ∷ []) ∷ rule_bytes 2 (if_in 0 0 0 ∷ if_in 1 1 1 ∷ []) (enter 0 1 1 ∷ []) ∷ [])

-- g 2, subject 0, right 0 in (0,0). Rules (a): 0 enters 1 into (a,a); 1 and 2 delete 0 from it; 3 and 4 enter 0 if 1 is there.
abbrev pub behind_rounds : List ℕ
behind_rounds =
    file_of 2
    (a_subject 0 ∷ [])
    (cell_with 0 0 1 ∷ [])
    (entering 1 ∷ on_name (delete 0 0 0) ∷ on_name (delete 0 0 0) ∷ entering_if 0 ∷ entering_if 0 ∷ [])

abbrev pub closing_cases : List Row
closing_cases =
    -- "for each start cell (s, o) holding r, row by row: .. the first cell with both adds these two steps: unsafe"
    row "judge: start cells row by row, the first with both" (judge_answers start_cells 0 140 (Unsafe 2) (call 0 (0 ∷ 1 ∷ []) ∷ call 1 (0 ∷ 1 ∷ []) ∷ [])) ∷
    -- "the first enter of r into it allowed once r is gone": from that cell alone
    row "judge: the right is gone from one cell alone" (judge_answers elsewhere 0 60 (Unsafe 2) (call 1 (0 ∷ 1 ∷ []) ∷ call 0 (0 ∷ 1 ∷ []) ∷ [])) ∷
    -- "The judge always writes 0 there" (C-11), though no name 0 exists
    row "judge: the closing search with a spare blank" (judge_answers closing_spare 0 80 (Unsafe 2) (call 0 (0 ∷ 1 ∷ []) ∷ call 1 (0 ∷ 1 ∷ []) ∷ [])) ∷
    -- "the first allowed delete of r from it, and the first enter"
    row "judge: the first of the allowed actuals" (judge_answers first_allowed 0 140 (Unsafe 2) (call 0 (0 ∷ 1 ∷ []) ∷ call 1 (0 ∷ 1 ∷ []) ∷ [])) ∷
    -- behind the rounds' steps, on what they left: "the first allowed delete of r from it", and the first enter
    row "judge: the closing search behind the rounds" (judge_answers behind_rounds 0 80 (Unsafe 3) (call 0 (0 ∷ []) ∷ call 1 (0 ∷ []) ∷ call 3 (0 ∷ []) ∷ [])) ∷
    []
