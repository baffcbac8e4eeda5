-- Rule runs on a lent file (document 01, "Running a rule"): 11, 12, 14 and 15, each with a later refusal behind it where one can follow, and what a done run leaves.
use Rattle.std.specs.Prelude.{ℕ, List, [], ◌∷◌}
use Rattle.protection.specs.Command.{Call}
use Rattle.rows.specs.Build.{KindAt, an_object, a_subject, CellAt, cell_with, if_in, enter, delete, create_subject, create_object, destroy_subject, destroy_object, rule_bytes, on_name, on_cell, file_of, call}
use Rattle.rows.specs.Cases.{Case, runs, Row, row}

-- g 2; 0 and 1 subjects, 2 an object; right 0 in (0,2), right 1 in (1,0), both in (1,2)
abbrev pub kinds : List KindAt
kinds = a_subject 0 ∷ a_subject 1 ∷ an_object 2 ∷ []

abbrev pub cells : List CellAt
cells = cell_with 0 2 1 ∷ cell_with 1 0 2 ∷ cell_with 1 2 3 ∷ []

abbrev pub file_with_rule : List ℕ → List ℕ
file_with_rule rule = file_of 2 kinds cells (rule ∷ [])

-- the rule run with rule 0 and these actuals is refused, and no byte changed; or done, and these are the kinds and the cells then
abbrev pub run_refused : List ℕ → List ℕ → ℕ → Case
run_refused rule xs n = runs (file_with_rule rule) (call 0 xs) n (file_with_rule rule)

abbrev pub run_done : List ℕ → List ℕ → List KindAt → List CellAt → Case
run_done rule xs ks cs = runs (file_with_rule rule) (call 0 xs) 0 (file_of 2 ks cs (rule ∷ []))

-- (a,b): if 0 in (a,a) enter 1 into (a,a), b spare
abbrev pub spare : List ℕ
spare = rule_bytes 2 (if_in 0 0 0 ∷ []) (enter 1 0 0 ∷ [])

-- (a,b): if 0 in (a,b) enter 1 into (a,b), create subject a
abbrev pub impossible : List ℕ
impossible = rule_bytes 2 (if_in 0 0 1 ∷ []) (enter 1 0 1 ∷ create_subject 0 ∷ [])

abbrev pub refused_cases : List Row
refused_cases =
    -- "Whoever wrote the file, in every call, first"
    row "5 before 11" (runs (file_with_rule []) (call 1 []) 5 (file_with_rule [])) ∷
    -- "11 no such rule"
    row "11: rule 1 of one, before 12" (runs (file_with_rule spare) (call 1 (32 ∷ [])) 11 (file_with_rule spare)) ∷
    -- document 02, C-11: "12 looks at named blanks and at positions from k on"
    row "12: 32 for a named blank, before 14" (run_refused spare (32 ∷ 3 ∷ []) 12) ∷
    row "12: 255 for a named blank, before 14" (run_refused spare (255 ∷ 3 ∷ []) 12) ∷
    row "12: 254 in an unused position, before 14" (run_refused spare (0 ∷ 3 ∷ 254 ∷ []) 12) ∷
    row "12: a name in the last position, before 14" (run_refused spare (0 ∷ 3 ∷ 255 ∷ 0 ∷ []) 12) ∷
    -- "14 a condition not held": "the subject blank's name is a subject, the object blank's exists, the right is in the cell"
    row "14: 31 for a named blank" (run_refused spare (31 ∷ 0 ∷ []) 14) ∷
    row "14: 32 for a spare blank" (run_refused spare (0 ∷ 32 ∷ []) 14) ∷
    row "14: 255 for a spare blank" (run_refused spare (0 ∷ []) 14) ∷
    row "14: the cell lacks the right, before 15" (run_refused impossible (0 ∷ 1 ∷ []) 14) ∷
    row "14: the subject is an object, before 15" (run_refused impossible (2 ∷ 2 ∷ []) 14) ∷
    row "14: the object is absent, before 15" (run_refused impossible (0 ∷ 3 ∷ []) 14) ∷
    row "14: the last of two conditions" (run_refused (rule_bytes 2 (if_in 0 0 1 ∷ if_in 1 0 1 ∷ []) (enter 1 0 1 ∷ [])) (0 ∷ 2 ∷ []) 14) ∷
    -- "All conditions are tested before the first step"
    row "14: the first step would make it hold" (run_refused (rule_bytes 2 (if_in 1 0 1 ∷ []) (enter 1 0 1 ∷ [])) (0 ∷ 2 ∷ []) 14) ∷
    -- "15 a step that cannot be done"; "the whole rule is refused"
    row "15: behind a step that is done" (run_refused impossible (0 ∷ 2 ∷ []) 15) ∷
    -- "enter, delete: the first name is a subject and the second exists"
    row "15: enter, the first an object" (run_refused (on_cell (enter 0 0 1)) (2 ∷ 0 ∷ []) 15) ∷
    row "15: enter, the second absent" (run_refused (on_cell (enter 0 0 1)) (0 ∷ 3 ∷ []) 15) ∷
    row "15: delete, the first an object" (run_refused (on_cell (delete 0 0 1)) (2 ∷ 0 ∷ []) 15) ∷
    row "15: delete, the second absent" (run_refused (on_cell (delete 0 0 1)) (0 ∷ 3 ∷ []) 15) ∷
    -- "create subject, create object: the name must be absent"
    row "15: create subject, an object" (run_refused (on_name (create_subject 0)) (2 ∷ []) 15) ∷
    row "15: create object, an object" (run_refused (on_name (create_object 0)) (2 ∷ []) 15) ∷
    row "15: create object, a subject" (run_refused (on_name (create_object 0)) (0 ∷ []) 15) ∷
    -- "destroy subject: it must be a subject; destroy object: it must exist and be no subject"
    row "15: destroy subject, an object" (run_refused (on_name (destroy_subject 0)) (2 ∷ []) 15) ∷
    row "15: destroy subject, absent" (run_refused (on_name (destroy_subject 0)) (3 ∷ []) 15) ∷
    row "15: destroy object, a subject" (run_refused (on_name (destroy_object 0)) (0 ∷ []) 15) ∷
    row "15: destroy object, absent" (run_refused (on_name (destroy_object 0)) (3 ∷ []) 15) ∷
    []

abbrev pub done_cases : List Row
done_cases =
    -- "the right is added or taken out. Entering a right already there, or deleting one that is not, is allowed."
    row "done: enter" (run_done (on_cell (enter 1 0 1)) (0 ∷ 2 ∷ []) kinds (cell_with 0 2 3 ∷ cells)) ∷
    row "done: enter a right already there" (run_done (on_cell (enter 0 0 1)) (0 ∷ 2 ∷ []) kinds cells) ∷
    row "done: delete" (run_done (on_cell (delete 0 0 1)) (1 ∷ 2 ∷ []) kinds (cell_with 1 2 2 ∷ cells)) ∷
    row "done: delete a right that is not there" (run_done (on_cell (delete 1 0 1)) (0 ∷ 2 ∷ []) kinds cells) ∷
    -- "Two blanks may get the same name."
    row "done: two blanks with one name" (run_done (on_cell (enter 1 0 1)) (0 ∷ 0 ∷ []) kinds (cell_with 0 0 2 ∷ cells)) ∷
    -- "its row (if a subject) and column start empty"
    row "done: create subject 31" (run_done (on_name (create_subject 0)) (31 ∷ []) (a_subject 31 ∷ kinds) cells) ∷
    row "done: create object" (run_done (on_name (create_object 0)) (3 ∷ []) (an_object 3 ∷ kinds) cells) ∷
    -- "Row and column go and their cells become 0."
    row "done: destroy subject" (run_done (on_name (destroy_subject 0)) (0 ∷ []) (a_subject 1 ∷ an_object 2 ∷ []) (cell_with 1 2 3 ∷ [])) ∷
    row "done: destroy object" (run_done (on_name (destroy_object 0)) (2 ∷ []) (a_subject 0 ∷ a_subject 1 ∷ []) (cell_with 1 0 2 ∷ [])) ∷
    -- "The name may be created again."; "steps, each on what the one before left"
    row "done: destroyed, created again, entered"
    (run_done
    (rule_bytes 2 [] (destroy_subject 0 ∷ create_object 0 ∷ enter 0 1 0 ∷ []))
    (0 ∷ 1 ∷ [])
    (an_object 0 ∷ a_subject 1 ∷ an_object 2 ∷ [])
    (cell_with 1 0 1 ∷ cell_with 1 2 3 ∷ [])) ∷
    row "done: the conditions held, four blanks, one spare"
    (run_done
    (rule_bytes 4 (if_in 0 0 1 ∷ if_in 1 2 0 ∷ []) (enter 1 0 1 ∷ delete 1 2 1 ∷ []))
    (0 ∷ 2 ∷ 1 ∷ 2 ∷ [])
    kinds
    (cell_with 0 2 3 ∷ cell_with 1 0 2 ∷ cell_with 1 2 1 ∷ [])) ∷
    -- document 02, C-11: a blank that no condition and no step names "takes any byte"
    row "done: an absent name for a spare blank" (run_done (on_cell (create_subject 0)) (3 ∷ 4 ∷ []) (a_subject 3 ∷ kinds) cells) ∷
    row "done: 117 for a spare blank" (run_done (on_cell (create_subject 0)) (3 ∷ 117 ∷ []) (a_subject 3 ∷ kinds) cells) ∷
    row "done: 255 for a spare blank" (run_done (on_cell (create_subject 0)) (3 ∷ []) (a_subject 3 ∷ kinds) cells) ∷
    row "done: three spare blanks" (run_done (rule_bytes 4 [] (enter 1 2 2 ∷ [])) (32 ∷ 254 ∷ 0 ∷ 31 ∷ []) kinds (cell_with 0 0 2 ∷ cells)) ∷
    -- "Kinds 3 to 6 have right 0 and second blank 0; that 0 names no blank."
    row "done: the 0 behind a created blank names none" (run_done (on_cell (create_subject 1)) (117 ∷ 3 ∷ []) (a_subject 3 ∷ kinds) cells) ∷
    []
