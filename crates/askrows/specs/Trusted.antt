-- Trusted hands left out (document 02, C-15): 42, and the order of the refusals; the part that stays, and the names that it creates.
use Rattle.std.specs.Prelude.{ℕ, List, [], ◌∷◌}
use Rattle.safety.specs.Demand3.{Safe, Unsafe}
use Rattle.rows.specs.Build.{CellAt, an_object, a_subject, objects_below, cell_with, if_in, enter, delete, create_subject, create_object, rule_bytes, on_name, on_cell, file_of, call}
use Rattle.rows.specs.Cases.{Row, row}
use Rattle.rows.specs.Asked.{part_refused, part_answers}
use Rattle.askrows.specs.Judgements.{crowded, full, two_subjects, last_name, gap}

-- g 2, subjects 0, the office, and 1, and these cells. Rule (a,b): if 1 in (a,b) enter 0 into (b,b).
abbrev pub office : List CellAt → List ℕ
office cells = file_of 2 (a_subject 0 ∷ a_subject 1 ∷ []) cells (rule_bytes 2 (if_in 1 0 1 ∷ []) (enter 0 1 1 ∷ []) ∷ [])

-- right 1 in (0,1)
abbrev pub granting : List ℕ
granting = office (cell_with 0 1 2 ∷ [])

-- g 1, subject 0 and object 1, right 0 in (0,0) and (0,1). Rules (a,b): delete 0 from (a,b); enter 0 into (a,b).
abbrev pub given_back : List ℕ
given_back = file_of 1 (a_subject 0 ∷ an_object 1 ∷ []) (cell_with 0 0 1 ∷ cell_with 0 1 1 ∷ []) (on_cell (delete 0 0 1) ∷ on_cell (enter 0 0 1) ∷ [])

abbrev pub trusted_cases : List Row
trusted_cases =
    -- the file's refusals and the judge's, "23 and 24 count the whole", "42, after 24"
    row "part: 5 before 21" (part_refused (file_of 2 [] [] ([] ∷ [])) 2 (31 ∷ []) 0 5) ∷
    row "part: 21, right g, before 22" (part_refused crowded 2 (31 ∷ []) 0 21) ∷
    row "part: 22, before 23" (part_refused crowded 1 (31 ∷ []) 0 22) ∷
    row "part: 23, 31 names, one of them left out" (part_refused (file_of 1 (a_subject 30 ∷ objects_below 30) [] []) 0 (0 ∷ []) 0 23) ∷
    row "part: 24, 339 bytes, where the part asks for 175" (part_refused full 0 (29 ∷ []) 339 24) ∷
    row "part: 24, before 42" (part_refused full 0 (31 ∷ []) 339 24) ∷
    row "part: 340 bytes" (part_answers full 0 (29 ∷ []) 340 (Safe 0) []) ∷
    -- "a listed name that is absent, above 31 or listed before"
    row "part: 42, an absent name" (part_refused full 0 (31 ∷ []) 340 42) ∷
    row "part: 42, name 32" (part_refused last_name 0 (32 ∷ []) 50 42) ∷
    row "part: 42, name 255" (part_refused last_name 0 (255 ∷ []) 50 42) ∷
    row "part: name 31" (part_answers last_name 0 (31 ∷ []) 50 (Safe 0) []) ∷
    row "part: 42, a name twice" (part_refused two_subjects 0 (0 ∷ 0 ∷ []) 80 42) ∷
    row "part: 42, a name twice, another between" (part_refused two_subjects 0 (0 ∷ 1 ∷ 0 ∷ []) 80 42) ∷
    row "part: 42, an absent name behind others" (part_refused two_subjects 0 (1 ∷ 0 ∷ 2 ∷ []) 80 42) ∷
    -- "Our own office appears in most matrices and can of course grant": an empty list gives what the judge gives
    row "part: an empty list" (part_answers granting 0 [] 140 (Unsafe 1) (call 0 (0 ∷ 1 ∷ []) ∷ [])) ∷
    -- "drop their rows and columns, and judge the part that stays"
    row "part: the office grants, without its row safe" (part_answers granting 0 (0 ∷ []) 140 (Safe 0) []) ∷
    row "part: without its column safe" (part_answers granting 0 (1 ∷ []) 140 (Safe 0) []) ∷
    row "part: all names left out" (part_answers granting 0 (0 ∷ 1 ∷ []) 140 (Safe 0) []) ∷
    row "part: unsafe without the office" (part_answers (office (cell_with 0 1 2 ∷ cell_with 1 1 2 ∷ [])) 0 (0 ∷ []) 140 (Unsafe 1) (call 0 (1 ∷ 1 ∷ []) ∷ [])) ∷
    row "part: what others hold stays" (part_answers two_subjects 0 (1 ∷ []) 80 (Safe 0) []) ∷
    -- "created names are the lowest absent in the whole matrix"
    row "part: a created name is none left out" (part_answers (file_of 2 (a_subject 0 ∷ a_subject 1 ∷ []) [] (on_name (create_object 0) ∷ [])) 0 (0 ∷ []) 140 (Safe 1) (call 0 (2 ∷ []) ∷ [])) ∷
    row "part: two created names beside two left out" (part_answers (gap (on_name (create_subject 0) ∷ on_name (create_object 0) ∷ [])) 0 (2 ∷ 0 ∷ []) 100 (Safe 2) (call 0 (1 ∷ []) ∷ call 1 (3 ∷ []) ∷ [])) ∷
    -- the closing search goes through the part's start cells
    row "part: given back in a cell of the whole" (part_answers given_back 0 [] 60 (Unsafe 2) (call 0 (0 ∷ 0 ∷ []) ∷ call 1 (0 ∷ 0 ∷ []) ∷ [])) ∷
    row "part: not in one of the part" (part_answers given_back 0 (0 ∷ []) 60 (Safe 0) []) ∷
    row "part: given back in a cell of the part" (part_answers given_back 0 (1 ∷ []) 60 (Unsafe 2) (call 0 (0 ∷ 0 ∷ []) ∷ call 1 (0 ∷ 0 ∷ []) ∷ [])) ∷
    []
