-- Replays (document 01, "Leak, replay and judge"): "answers with the number of the first leaking step from 0, or no leak, or the refusal of the first refused
-- step and that step's number. It reports the first of leak and refusal."
use Rattle.std.specs.Prelude.{ℕ, List, [], ◌∷◌, ◌++◌}
use Rattle.protection.specs.Command.{Call}
use Rattle.trace.specs.Replays.{Replay, NoLeak, Leak, Refused}
use Rattle.rows.specs.Build.{an_object, a_subject, objects_below, cell_with, if_in, enter, delete, create_subject, rule_bytes, on_name, on_cell, file_of, call, trace}
use Rattle.rows.specs.Cases.{Case, replays, Row, row}

-- g 2; 0 and 1 subjects, 2 an object; right 0 in (0,2)
abbrev pub file_with_rules : List (List ℕ) → List ℕ
file_with_rules rules = file_of 2 (a_subject 0 ∷ a_subject 1 ∷ an_object 2 ∷ []) (cell_with 0 2 1 ∷ []) rules

-- rules (a,b): 0 enters 0 into (a,b); 1 enters 1; 2 deletes 0 and enters it again; 3 enters 1 and deletes it again; 4 enters 1, and then a is created, which
-- cannot be done; 5 enters 1 if 0 is there; and rule 6 (a) creates subject a
abbrev pub seven_rules : List ℕ
seven_rules =
    file_with_rules
    (on_cell (enter 0 0 1) ∷
    on_cell (enter 1 0 1) ∷
    rule_bytes 2 [] (delete 0 0 1 ∷ enter 0 0 1 ∷ []) ∷
    rule_bytes 2 [] (enter 1 0 1 ∷ delete 1 0 1 ∷ []) ∷
    rule_bytes 2 [] (enter 1 0 1 ∷ create_subject 0 ∷ []) ∷
    rule_bytes 2 (if_in 0 0 1 ∷ []) (enter 1 0 1 ∷ []) ∷
    on_name (create_subject 0) ∷ [])

-- the steps, and what their replay answers
abbrev pub replay_answers : List Call → ℕ → Replay → Case
replay_answers steps r answer = replays seven_rules (trace steps) r answer

abbrev pub replay_cases : List Row
replay_cases =
    -- "Whoever wrote the file, in every call, first"; "in replay also the step, 0 for 1 to 9, 21 and 31"
    row "replay: 5 before 21" (replays (file_with_rules ([] ∷ [])) (0 ∷ []) 2 (Refused 5 0)) ∷
    -- "replay included for 21, which there precedes 31: 21 right not below g"
    row "replay: 21, right g, before 31" (replays seven_rules (0 ∷ []) 2 (Refused 21 0)) ∷
    -- "31 trace length not a multiple of 5, before any step"; the first step leaks
    row "replay: 31, 6 bytes, before a leak" (replays seven_rules (trace (call 1 (0 ∷ 2 ∷ []) ∷ []) ++ (0 ∷ [])) 1 (Refused 31 0)) ∷
    row "replay: 31, 4 bytes, before 11" (replays seven_rules (7 ∷ 0 ∷ 0 ∷ 255 ∷ []) 1 (Refused 31 0)) ∷
    -- "it may be empty"
    row "replay: no step" (replay_answers [] 1 NoLeak) ∷
    -- "Judge only": rules of two steps are in every row here, 31 names in this one
    row "replay: no 23" (replays (file_of 1 (objects_below 31) [] []) [] 0 NoLeak) ∷
    -- "some step enters r into a cell that lacks r at that step, even if a later step removes it"
    row "leak: an enter" (replay_answers (call 1 (0 ∷ 2 ∷ []) ∷ []) 1 (Leak 0)) ∷
    row "leak: a delete and an enter in one rule" (replay_answers (call 2 (0 ∷ 2 ∷ []) ∷ []) 0 (Leak 0)) ∷
    row "leak: an enter and a delete in one rule" (replay_answers (call 3 (0 ∷ 2 ∷ []) ∷ []) 1 (Leak 0)) ∷
    row "no leak: the right is there already" (replay_answers (call 0 (0 ∷ 2 ∷ []) ∷ []) 0 NoLeak) ∷
    row "no leak: another right" (replay_answers (call 1 (0 ∷ 2 ∷ []) ∷ []) 0 NoLeak) ∷
    -- "in a rule carried out whole"
    row "no leak: an enter in a rule refused later" (replay_answers (call 4 (0 ∷ 2 ∷ []) ∷ call 1 (0 ∷ 2 ∷ []) ∷ []) 1 (Refused 15 0)) ∷
    -- "the first of leak and refusal"
    row "leak at step 1, before a refusal" (replay_answers (call 0 (0 ∷ 2 ∷ []) ∷ call 1 (0 ∷ 2 ∷ []) ∷ call 7 [] ∷ []) 1 (Leak 1)) ∷
    row "refusal at step 1, before a leak" (replay_answers (call 0 (0 ∷ 2 ∷ []) ∷ call 7 [] ∷ call 1 (0 ∷ 2 ∷ []) ∷ []) 1 (Refused 11 1)) ∷
    row "leak at step 0, before another" (replay_answers (call 1 (0 ∷ 2 ∷ []) ∷ call 1 (1 ∷ 2 ∷ []) ∷ []) 1 (Leak 0)) ∷
    -- the refusals of a step, with its number
    row "replay: 12 at step 1" (replay_answers (call 0 (0 ∷ 2 ∷ []) ∷ call 1 (0 ∷ 2 ∷ 0 ∷ []) ∷ []) 1 (Refused 12 1)) ∷
    row "replay: 14 at step 1" (replay_answers (call 0 (0 ∷ 2 ∷ []) ∷ call 5 (1 ∷ 2 ∷ []) ∷ []) 1 (Refused 14 1)) ∷
    row "replay: 15 at step 1" (replay_answers (call 0 (0 ∷ 2 ∷ []) ∷ call 1 (3 ∷ 2 ∷ []) ∷ []) 1 (Refused 15 1)) ∷
    -- document 02, C-11: job numbers in spare blanks
    row "replay: job numbers in a spare blank" (replays (file_with_rules (rule_bytes 3 [] (enter 1 0 2 ∷ []) ∷ [])) (trace (call 0 (0 ∷ 117 ∷ 0 ∷ []) ∷ call 0 (0 ∷ 255 ∷ 2 ∷ []) ∷ call 0 (0 ∷ 32 ∷ 32 ∷ []) ∷ [])) 0 (Refused 12 2)) ∷
    row "leak at step 1, job numbers in a spare blank" (replays (file_with_rules (rule_bytes 3 [] (enter 0 0 2 ∷ []) ∷ [])) (trace (call 0 (0 ∷ 254 ∷ 2 ∷ []) ∷ call 0 (0 ∷ 33 ∷ 0 ∷ []) ∷ [])) 0 (Leak 1)) ∷
    -- each step meets what the one before left
    row "leak at step 2, by what the steps before left" (replay_answers (call 6 (3 ∷ []) ∷ call 0 (3 ∷ 2 ∷ []) ∷ call 5 (3 ∷ 2 ∷ []) ∷ []) 1 (Leak 2)) ∷
    []
