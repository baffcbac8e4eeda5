-- What a press needs (document 02, C-14): 41, and the order of the refusals; held, and never.
use Rattle.std.specs.Prelude.{ℕ, zero, suc, List, [], ◌∷◌}
use Rattle.needs.specs.Needed.{Held, Never}
use Rattle.rows.specs.Build.{an_object, a_subject, objects_below, cell_with, enter, create_object, on_name, on_cell, entering, file_of, call}
use Rattle.rows.specs.Cases.{Row, row}
use Rattle.rows.specs.Asked.{need_refused, need_answers}
use Rattle.askrows.specs.Judgements.{crowded, full, two_subjects, lone_subject, last_name}

-- right 0 in (0,0), so many times
abbrev pub cell_times : ℕ → List ℕ
cell_times zero = []
cell_times (suc n) = 0 ∷ 0 ∷ 0 ∷ cell_times n

-- g 1, subject 0 and object 1; no rights, no rules
abbrev pub subject_and_object : List ℕ
subject_and_object = file_of 1 (a_subject 0 ∷ an_object 1 ∷ []) [] []

-- g 2, subjects 0 and 1; no rights. Rule (a,b): enter 0 into (a,b).
abbrev pub half_open : List ℕ
half_open = file_of 2 (a_subject 0 ∷ a_subject 1 ∷ []) [] (on_cell (enter 0 0 1) ∷ [])

abbrev pub need_cases : List Row
need_cases =
    -- "after 22 to 24", and the file's refusals first
    row "need: 5 before 22" (need_refused (file_of 2 [] [] ([] ∷ [])) (0 ∷ []) 0 5) ∷
    row "need: 22, before 23" (need_refused crowded (0 ∷ []) 0 22) ∷
    row "need: 23, 31 names, before 24" (need_refused (file_of 1 (a_subject 30 ∷ objects_below 30) [] []) (0 ∷ []) 0 23) ∷
    row "need: 24, 339 bytes, before 41" (need_refused full (0 ∷ []) 339 24) ∷
    -- "41 .. a list that is not whole cells, more than 8 cells, a right not below g, a first name that is no subject at the start, or a second that is absent then"
    row "need: 41, one byte" (need_refused full (0 ∷ []) 340 41) ∷
    row "need: 41, 5 bytes" (need_refused two_subjects (0 ∷ 0 ∷ 0 ∷ 0 ∷ 0 ∷ []) 80 41) ∷
    row "need: 8 cells" (need_answers two_subjects (cell_times 8) 80 (Held 0) []) ∷
    row "need: 41, 9 cells" (need_refused two_subjects (cell_times 9) 80 41) ∷
    row "need: 41, right g" (need_refused two_subjects (1 ∷ 0 ∷ 0 ∷ []) 80 41) ∷
    row "need: 41, right g in the last of two cells" (need_refused two_subjects (0 ∷ 0 ∷ 0 ∷ 1 ∷ 0 ∷ 0 ∷ []) 80 41) ∷
    row "need: 41, an object as first name" (need_refused subject_and_object (0 ∷ 1 ∷ 0 ∷ []) 60 41) ∷
    row "need: an object as second name" (need_answers subject_and_object (0 ∷ 0 ∷ 1 ∷ []) 60 (Never 0) []) ∷
    row "need: 41, an absent first name" (need_refused subject_and_object (0 ∷ 2 ∷ 0 ∷ []) 60 41) ∷
    row "need: 41, an absent second name" (need_refused subject_and_object (0 ∷ 0 ∷ 2 ∷ []) 60 41) ∷
    row "need: names 31" (need_answers last_name (0 ∷ 31 ∷ 31 ∷ []) 50 (Held 1) (call 0 (31 ∷ []) ∷ [])) ∷
    row "need: 41, 32 as first name" (need_refused last_name (0 ∷ 32 ∷ 31 ∷ []) 50 41) ∷
    row "need: 41, 32 as second name" (need_refused last_name (0 ∷ 31 ∷ 32 ∷ []) 50 41) ∷
    -- "0 steps if the start does"
    row "need: the empty list" (need_answers two_subjects [] 80 (Held 0) []) ∷
    row "need: held at the start" (need_answers two_subjects (0 ∷ 0 ∷ 0 ∷ []) 80 (Held 0) []) ∷
    -- "the judge's steps, in its order, up to the first matrix that holds them all"; "no enter ends the steps early"
    row "need: held after two steps, the enter before them ends nothing" (need_answers two_subjects (0 ∷ 1 ∷ 0 ∷ []) 80 (Held 2) (call 0 (0 ∷ 1 ∷ []) ∷ call 0 (1 ∷ 0 ∷ []) ∷ [])) ∷
    row "need: a cell is no other one turned round" (need_answers two_subjects (0 ∷ 0 ∷ 1 ∷ []) 80 (Held 1) (call 0 (0 ∷ 1 ∷ []) ∷ [])) ∷
    row "need: all cells, not one of them" (need_answers two_subjects (0 ∷ 0 ∷ 1 ∷ 0 ∷ 0 ∷ 0 ∷ 0 ∷ 1 ∷ 0 ∷ []) 80 (Held 2) (call 0 (0 ∷ 1 ∷ []) ∷ call 0 (1 ∷ 0 ∷ []) ∷ [])) ∷
    row "need: held after a create" (need_answers (lone_subject (on_name (create_object 0) ∷ entering 1 ∷ [])) (1 ∷ 0 ∷ 0 ∷ []) 80 (Held 2) (call 0 (1 ∷ []) ∷ call 1 (0 ∷ []) ∷ [])) ∷
    -- "all the steps of the rounds then stand in the buffer, as under safe"
    row "need: never, one of two cells cannot come" (need_answers half_open (0 ∷ 0 ∷ 1 ∷ 1 ∷ 0 ∷ 0 ∷ []) 140 (Never 4) (call 0 (0 ∷ 0 ∷ []) ∷ call 0 (0 ∷ 1 ∷ []) ∷ call 0 (1 ∷ 0 ∷ []) ∷ call 0 (1 ∷ 1 ∷ []) ∷ [])) ∷
    row "need: never, no rule" (need_answers (file_of 1 (a_subject 0 ∷ []) [] []) (0 ∷ 0 ∷ 0 ∷ []) 50 (Never 0) []) ∷
    []
