-- Twelve rights (document 02, C-21): "a cell and a carry entry are two bytes low byte first"; rights on both sides of the byte's end in every call.
use Rattle.std.specs.Prelude.{ℕ, List, [], ◌∷◌, ◌++◌, replicate}
use Rattle.trace.specs.Replays.{NoLeak, Leak}
use Rattle.safety.specs.Demand3.{Safe, Unsafe}
use Rattle.needs.specs.Needed.{Held, Never}
use Rattle.rows.specs.Build.{KindAt, an_object, a_subject, subjects_below, CellAt, cell_with, if_in, enter, delete, destroy_subject, destroy_object, rule_bytes, on_name, on_cell, entering, file_carrying, file_of, call, trace, text}
use Rattle.rows.specs.Cases.{Case, runs, replays, prints, Row, row}
use Rattle.rows.specs.Asked.{judge_refused, judge_answers, need_refused, need_answers, part_answers, ask, entry, part, sheet_fills}

-- ---- rule runs
-- g 12; 0 and 1 subjects, 2 an object; rights 0 and 7 in (0,2), 8 and 11 in (1,0), 0, 7, 8 and 11 in (1,2)
abbrev pub wide_kinds : List KindAt
wide_kinds = a_subject 0 ∷ a_subject 1 ∷ an_object 2 ∷ []

abbrev pub wide_cells : List CellAt
wide_cells = cell_with 0 2 129 ∷ cell_with 1 0 2304 ∷ cell_with 1 2 2433 ∷ []

abbrev pub wide_file : List ℕ → List ℕ
wide_file rule = file_of 12 wide_kinds wide_cells (rule ∷ [])

-- the rule run is done, and these are the kinds and the cells then; or refused, and no byte changed
abbrev pub wide_done : List ℕ → List ℕ → List KindAt → List CellAt → Case
wide_done rule xs ks cs = runs (wide_file rule) (call 0 xs) 0 (file_of 12 ks cs (rule ∷ []))

abbrev pub wide_refused : List ℕ → List ℕ → ℕ → Case
wide_refused rule xs n = runs (wide_file rule) (call 0 xs) n (wide_file rule)

-- (a,b): if q in (a,b) delete q from (a,b)
abbrev pub delete_if : ℕ → List ℕ
delete_if q = rule_bytes 2 (if_in q 0 1 ∷ []) (delete q 0 1 ∷ [])

-- g 12, subject 0 and object 1, the set of (0,1), and right 11 carries this. Rule (a,b): if 8 in (a,b) enter 0 there.
abbrev pub wide_carrying : ℕ → ℕ → List ℕ
wide_carrying x carried =
    file_carrying 12
    (a_subject 0 ∷ an_object 1 ∷ [])
    (cell_with 0 1 x ∷ [])
    (replicate 11 0 ++ (carried ∷ []))
    (rule_bytes 2 (if_in 8 0 1 ∷ []) (enter 0 0 1 ∷ []) ∷ [])

abbrev pub wide_run_cases : List Row
wide_run_cases =
    row "done: enter right 8, the low byte stays" (wide_done (on_cell (enter 8 0 1)) (0 ∷ 2 ∷ []) wide_kinds (cell_with 0 2 385 ∷ wide_cells)) ∷
    row "done: enter right 11 into an empty cell" (wide_done (on_cell (enter 11 0 1)) (0 ∷ 1 ∷ []) wide_kinds (cell_with 0 1 2048 ∷ wide_cells)) ∷
    row "done: enter right 7, the high byte stays" (wide_done (on_cell (enter 7 0 1)) (1 ∷ 0 ∷ []) wide_kinds (cell_with 1 0 2432 ∷ wide_cells)) ∷
    row "done: delete right 8, the low byte stays" (wide_done (delete_if 8) (1 ∷ 2 ∷ []) wide_kinds (cell_with 1 2 2177 ∷ wide_cells)) ∷
    row "done: delete right 0, the high byte stays" (wide_done (delete_if 0) (1 ∷ 2 ∷ []) wide_kinds (cell_with 1 2 2432 ∷ wide_cells)) ∷
    row "done: destroy object, both bytes" (wide_done (on_name (destroy_object 0)) (2 ∷ []) (a_subject 0 ∷ a_subject 1 ∷ []) (cell_with 1 0 2304 ∷ [])) ∷
    row "done: destroy subject, both bytes" (wide_done (on_name (destroy_subject 0)) (1 ∷ []) (a_subject 0 ∷ an_object 2 ∷ []) (cell_with 0 2 129 ∷ [])) ∷
    row "14: right 0 is there, not right 8" (wide_refused (delete_if 8) (0 ∷ 2 ∷ []) 14) ∷
    row "14: right 8 is there, not right 0" (wide_refused (delete_if 0) (1 ∷ 0 ∷ []) 14) ∷
    row "done: right 11 carries right 8" (runs (wide_carrying 2048 256) (call 0 (0 ∷ 1 ∷ [])) 0 (wide_carrying 2049 256)) ∷
    row "14: right 11 carries right 0, not right 8" (runs (wide_carrying 2048 1) (call 0 (0 ∷ 1 ∷ [])) 14 (wide_carrying 2048 1)) ∷
    []

-- ---- replay, judge, needs, parts and sheets
-- g 12, subject 0, right 0 in (0,0). Rules (a): 0 enters 8 into (a,a); 1 enters 11 if 8 is there.
abbrev pub up_to11 : List ℕ
up_to11 = file_of 12 (a_subject 0 ∷ []) (cell_with 0 0 1 ∷ []) (entering 8 ∷ rule_bytes 1 (if_in 8 0 0 ∷ []) (enter 11 0 0 ∷ []) ∷ [])

-- g 12, subject 0, rights 8 and 11 in (0,0). Rules (a): 0 deletes 8 from (a,a); 1 enters 8 if q is there.
abbrev pub given_back_if : ℕ → List ℕ
given_back_if q = file_of 12 (a_subject 0 ∷ []) (cell_with 0 0 2304 ∷ []) (on_name (delete 8 0 0) ∷ rule_bytes 1 (if_in q 0 0 ∷ []) (enter 8 0 0 ∷ []) ∷ [])

-- 5 × (12 × 31 × 32 + 4): "at its largest it is 11,908 steps, 59,540 bytes". g 12; names 0 to 29, all subjects; right 11 in (0,0)
abbrev pub largest : List ℕ
largest = file_of 12 (subjects_below 30) (cell_with 0 0 2048 ∷ []) []

abbrev pub wide_question_cases : List Row
wide_question_cases =
    row "leak at step 1, of right 11" (replays up_to11 (trace (call 0 (0 ∷ []) ∷ call 1 (0 ∷ []) ∷ [])) 11 (Leak 1)) ∷
    row "no leak: right 8 is not right 0" (replays up_to11 (trace (call 0 (0 ∷ []) ∷ [])) 0 NoLeak) ∷
    row "judge: right 11" (judge_answers up_to11 11 380 (Unsafe 2) (call 0 (0 ∷ []) ∷ call 1 (0 ∷ []) ∷ [])) ∷
    row "judge: 24, right 11, 379 bytes" (judge_refused up_to11 11 379 24) ∷
    row "judge: right 8 given back, right 11 stays" (judge_answers (given_back_if 11) 8 380 (Unsafe 2) (call 0 (0 ∷ []) ∷ call 1 (0 ∷ []) ∷ [])) ∷
    row "judge: right 8 gone, and asked for" (judge_answers (given_back_if 8) 8 380 (Safe 0) []) ∷
    row "need: right 11" (need_answers up_to11 (11 ∷ 0 ∷ 0 ∷ []) 380 (Held 2) (call 0 (0 ∷ []) ∷ call 1 (0 ∷ []) ∷ [])) ∷
    row "need: never, right 9" (need_answers up_to11 (9 ∷ 0 ∷ 0 ∷ []) 380 (Never 2) (call 0 (0 ∷ []) ∷ call 1 (0 ∷ []) ∷ [])) ∷
    row "need: 41, right 12 of 12" (need_refused up_to11 (12 ∷ 0 ∷ 0 ∷ []) 380 41) ∷
    row "part: right 11" (part_answers up_to11 11 [] 380 (Unsafe 2) (call 0 (0 ∷ []) ∷ call 1 (0 ∷ []) ∷ [])) ∷
    row "part: right 11, all names left out" (part_answers up_to11 11 (0 ∷ []) 380 (Safe 0) []) ∷
    row "sheet: rights 8 and 11" (sheet_fills up_to11 (ask 8 ∷ ask 11 ∷ []) 760 (entry 8 255 1 ∷ entry 11 255 2 ∷ []) (part 0 380 (call 0 (0 ∷ []) ∷ []) ++ part 380 760 (call 0 (0 ∷ []) ∷ call 1 (0 ∷ []) ∷ []))) ∷
    row "desk: right 11" (prints (11 ∷ up_to11) (text "UNSAFE 2\n0 0\n1 0\n")) ∷
    []

-- ---- the largest bound
abbrev pub largest_cases : List Row
largest_cases =
    row "judge: 21, right 12 of 12, before 24" (judge_refused largest 12 0 21) ∷
    row "judge: 24, 59,539 bytes" (judge_refused largest 11 59539 24) ∷
    row "judge: 59,540 bytes" (judge_answers largest 11 59540 (Safe 0) []) ∷
    row "desk: the largest bound" (prints (11 ∷ largest) (text "SAFE 0\n")) ∷
    []
