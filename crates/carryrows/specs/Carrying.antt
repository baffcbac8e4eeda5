-- Rights that carry others (document 02, C-19): conditions met by what a cell's rights carry; and what looks at the cell's own bits.
use Rattle.std.specs.Prelude.{ℕ, List, [], ◌∷◌, ◌++◌, replicate}
use Rattle.trace.specs.Replays.{Replay, NoLeak, Leak, Refused as RefusedAt}
use Rattle.safety.specs.Demand3.{Safe, Unsafe}
use Rattle.needs.specs.Needed.{Held, Never}
use Rattle.protection.specs.Command.{Call}
use Rattle.rows.specs.Build.{an_object, a_subject, cell_with, if_in, enter, delete, create_subject, rule_bytes, on_name, on_cell, entering, file_carrying, call, trace, text}
use Rattle.rows.specs.Cases.{Case, runs, replays, prints, Row, row}
use Rattle.rows.specs.Asked.{judge_refused, judge_answers, need_refused, need_answers, part_refused, part_answers, ask, entry, part, sheet_leaves, sheet_fills}

-- ---- rule runs
-- g 5, subject 0 and object 1, the byte of (0,1), and the carries of rights 0 to 3, 4 carrying none; right 0 is read, right 1 approve
abbrev pub with_cell : ℕ → List ℕ → List ℕ → List ℕ
with_cell byte carries rule = file_carrying 5 (a_subject 0 ∷ an_object 1 ∷ []) (cell_with 0 1 byte ∷ []) (carries ++ (0 ∷ [])) (rule ∷ [])

-- (a,b): if 0 in (a,b) enter 4 into (a,b)
abbrev pub if_read : List ℕ
if_read = rule_bytes 2 (if_in 0 0 1 ∷ []) (enter 4 0 1 ∷ [])

-- the rule run with (0,1) is done, and this is the cell then; or refused 14
abbrev pub cell_done : ℕ → List ℕ → List ℕ → ℕ → Case
cell_done byte carries rule after = runs (with_cell byte carries rule) (call 0 (0 ∷ 1 ∷ [])) 0 (with_cell after carries rule)

abbrev pub not_met : ℕ → List ℕ → Case
not_met byte carries = runs (with_cell byte carries if_read) (call 0 (0 ∷ 1 ∷ [])) 14 (with_cell byte carries if_read)

-- no carries; approve carries read
abbrev pub none : List ℕ
none = replicate 4 0

abbrev pub approve_reads : List ℕ
approve_reads = 0 ∷ 1 ∷ 0 ∷ 0 ∷ []

-- g 2, no names, right 2 carried: 44; the rule's section is 5
abbrev pub over : List ℕ
over = file_carrying 2 [] [] (4 ∷ 0 ∷ []) ([] ∷ [])

abbrev pub met_cases : List Row
met_cases =
    -- "A condition holds if some right in the cell carries the one named."
    row "done: approve carries read" (cell_done 2 approve_reads if_read 18) ∷
    row "14: approve without carries" (not_met 2 none) ∷
    row "14: read carries approve, and approve is there" (not_met 2 (2 ∷ 0 ∷ 0 ∷ 0 ∷ [])) ∷
    row "14: approve carries another right" (not_met 2 (0 ∷ 4 ∷ 0 ∷ 0 ∷ [])) ∷
    row "14: another right is there" (not_met 4 approve_reads) ∷
    row "14: no right is there" (not_met 0 (replicate 4 31)) ∷
    row "done: the last of two rights carries read" (cell_done 10 (0 ∷ 0 ∷ 0 ∷ 1 ∷ []) if_read 26) ∷
    -- "Carrying goes on through further rights"
    row "done: a chain of three" (cell_done 8 (0 ∷ 1 ∷ 2 ∷ 4 ∷ []) if_read 24) ∷
    row "14: a chain that breaks" (not_met 8 (0 ∷ 1 ∷ 0 ∷ 4 ∷ [])) ∷
    row "done: a cycle" (cell_done 2 (2 ∷ 4 ∷ 1 ∷ 0 ∷ []) if_read 18) ∷
    row "14: a cycle without read" (not_met 2 (0 ∷ 4 ∷ 2 ∷ 0 ∷ [])) ∷
    -- "and each right carries itself"
    row "done: read without carries" (cell_done 1 none if_read 17) ∷
    row "done: read carries itself" (cell_done 1 (1 ∷ 0 ∷ 0 ∷ 0 ∷ []) if_read 17) ∷
    row "14: approve carries itself" (not_met 2 (0 ∷ 2 ∷ 0 ∷ 0 ∷ [])) ∷
    -- "Enter, delete .. still look at the cell's own bits."
    row "done: enter a right already carried" (cell_done 2 approve_reads (on_cell (enter 0 0 1)) 3) ∷
    row "done: enter a right that carries another" (cell_done 0 approve_reads (on_cell (enter 1 0 1)) 2) ∷
    row "done: delete a right that carries another" (cell_done 3 approve_reads (on_cell (delete 1 0 1)) 1) ∷
    row "done: delete a right that another carries" (cell_done 3 approve_reads (on_cell (delete 0 0 1)) 2) ∷
    row "44 before 11" (runs over (call 1 []) 44 over) ∷
    []

-- ---- replay
-- g 3, subject 0, no rights; right 1 carries this. Rules (a): 0 enters 1 into (a,a); 1 enters 2 if 0 is there; 2 enters 0.
abbrev pub three_rules : ℕ → List ℕ
three_rules carried =
    file_carrying 3
    (a_subject 0 ∷ [])
    []
    (0 ∷ carried ∷ 0 ∷ [])
    (entering 1 ∷ rule_bytes 1 (if_in 0 0 0 ∷ []) (enter 2 0 0 ∷ []) ∷ entering 0 ∷ [])

abbrev pub replay_carrying : ℕ → List Call → ℕ → Replay → Case
replay_carrying carried steps r answer = replays (three_rules carried) (trace steps) r answer

abbrev pub carried_replay_cases : List Row
carried_replay_cases =
    -- "in replay with step 0"
    row "replay: 44 before 21" (replays over (0 ∷ []) 2 (RefusedAt 44 0)) ∷
    row "leak at step 1, met by what step 0 entered" (replay_carrying 1 (call 0 (0 ∷ []) ∷ call 1 (0 ∷ []) ∷ []) 2 (Leak 1)) ∷
    row "replay: 14 at step 1, without carries" (replay_carrying 0 (call 0 (0 ∷ []) ∷ call 1 (0 ∷ []) ∷ []) 2 (RefusedAt 14 1)) ∷
    -- "leak .. still look at the cell's own bits"
    row "no leak: what carries the right is entered" (replay_carrying 1 (call 0 (0 ∷ []) ∷ []) 0 NoLeak) ∷
    row "leak at step 1, of a right already carried" (replay_carrying 1 (call 0 (0 ∷ []) ∷ call 2 (0 ∷ []) ∷ []) 0 (Leak 1)) ∷
    []

-- ---- judgements
-- g 3, subject 0, right 1 in (0,0); right 1 carries this. Rule (a): if 0 in (a,a) enter 2 into (a,a).
abbrev pub only_carried : ℕ → List ℕ
only_carried carried = file_carrying 3 (a_subject 0 ∷ []) (cell_with 0 0 2 ∷ []) (0 ∷ carried ∷ 0 ∷ []) (rule_bytes 1 (if_in 0 0 0 ∷ []) (enter 2 0 0 ∷ []) ∷ [])

-- g 2, subject 0, the byte of (0,0), right 1 carries 0, and this rule
abbrev pub carried_read : ℕ → List ℕ → List ℕ
carried_read byte rule = file_carrying 2 (a_subject 0 ∷ []) (cell_with 0 0 byte ∷ []) (0 ∷ 1 ∷ []) (rule ∷ [])

-- P2's rules with the condition on q, its byte of (0,0), and these carries: "g 2; subject 0 .. Rule 0 (a,b): delete 0 from (a,b). Rule 1 (a,b): if 1 in (a,b) enter 0 there."
abbrev pub slip : ℕ → ℕ → List ℕ → List ℕ
slip q byte carries =
    file_carrying 2
    (a_subject 0 ∷ [])
    (cell_with 0 0 byte ∷ [])
    carries
    (on_cell (delete 0 0 1) ∷ rule_bytes 2 (if_in q 0 1 ∷ []) (enter 0 0 1 ∷ []) ∷ [])

-- g 3, subject 0, the byte of (0,0); rights 0 and 2 carry 1. Rule 0 (a): delete 0 from (a,a). Rule 1 (a): if 1 in (a,a) enter 0 there.
abbrev pub met_twice : ℕ → List ℕ
met_twice byte =
    file_carrying 3
    (a_subject 0 ∷ [])
    (cell_with 0 0 byte ∷ [])
    (2 ∷ 0 ∷ 2 ∷ [])
    (on_name (delete 0 0 0) ∷ rule_bytes 1 (if_in 1 0 0 ∷ []) (enter 0 0 0 ∷ []) ∷ [])

-- g 3, no names; right 1 carries 0. Rule 0 (a): create subject a. Rule 1 (a): enter 1 into (a,a). Rule 2 (a): if 0 in (a,a) enter 2 there.
abbrev pub created_meets : List ℕ
created_meets = file_carrying 3 [] [] (0 ∷ 1 ∷ 0 ∷ []) (on_name (create_subject 0) ∷ entering 1 ∷ rule_bytes 1 (if_in 0 0 0 ∷ []) (enter 2 0 0 ∷ []) ∷ [])

-- the two steps of P2
abbrev pub delete_and_enter : List Call
delete_and_enter = call 0 (0 ∷ 0 ∷ []) ∷ call 1 (0 ∷ 0 ∷ []) ∷ []

abbrev pub carried_judge_cases : List Row
carried_judge_cases =
    row "judge: 44 before 21" (judge_refused over 2 0 44) ∷
    row "desk: 44" (prints (0 ∷ over) (text "REFUSED 44\n")) ∷
    -- "the judge's verdict are about runs under this reading"
    row "judge: unsafe only through carrying" (judge_answers (only_carried 1) 2 110 (Unsafe 1) (call 0 (0 ∷ []) ∷ [])) ∷
    row "judge: safe without it" (judge_answers (only_carried 0) 2 110 (Safe 0) []) ∷
    row "desk: unsafe only through carrying" (prints (2 ∷ only_carried 1) (text "UNSAFE 1\n0 0\n")) ∷
    row "judge: met by what a step entered" (judge_answers (three_rules 1) 2 110 (Unsafe 2) (call 0 (0 ∷ []) ∷ call 1 (0 ∷ []) ∷ [])) ∷
    row "judge: met in a created name's cell" (judge_answers created_meets 2 50 (Unsafe 3) (call 0 (0 ∷ []) ∷ call 1 (0 ∷ []) ∷ call 2 (0 ∷ []) ∷ [])) ∷
    -- "leak .. still look at the cell's own bits", and so does "a right that the cell lacks"
    row "judge: safe although carrying" (judge_answers (carried_read 0 (entering 1)) 0 80 (Safe 1) (call 0 (0 ∷ []) ∷ [])) ∷
    row "judge: unsafe by a right already carried" (judge_answers (carried_read 2 (entering 0)) 0 80 (Unsafe 1) (call 0 (0 ∷ []) ∷ [])) ∷
    row "judge: a right already carried is useful" (judge_answers (carried_read 2 (entering 0)) 1 80 (Safe 1) (call 0 (0 ∷ []) ∷ [])) ∷
    -- P2 and P3, where right 1 stays in the cell and carries r; and where r carries right 1
    row "P2, right 1 carries right 0" (judge_answers (slip 1 3 (0 ∷ 1 ∷ [])) 0 80 (Unsafe 2) delete_and_enter) ∷
    row "P3, right 1 carries right 0" (judge_answers (slip 0 3 (0 ∷ 1 ∷ [])) 0 80 (Unsafe 2) delete_and_enter) ∷
    row "P3, right 0 carries right 1" (judge_answers (slip 0 3 (2 ∷ 0 ∷ [])) 0 80 (Safe 0) []) ∷
    row "P2, right 0 alone in the cell carries right 1" (judge_answers (slip 1 1 (2 ∷ 0 ∷ [])) 0 80 (Safe 0) []) ∷
    row "judge: met through two rights, one of them gone" (judge_answers (met_twice 5) 0 110 (Unsafe 2) (call 0 (0 ∷ []) ∷ call 1 (0 ∷ []) ∷ [])) ∷
    row "judge: met through one right, and that gone" (judge_answers (met_twice 1) 0 110 (Safe 0) []) ∷
    []

-- ---- needs, parts and sheets
-- g 3, subjects 0 and 1, right 1 in (0,0) and (1,1), and right 1 carries 0. Rule (a): if 0 in (a,a) enter 2 into (a,a).
abbrev pub two_approve : List ℕ
two_approve =
    file_carrying 3
    (a_subject 0 ∷ a_subject 1 ∷ [])
    (cell_with 0 0 2 ∷ cell_with 1 1 2 ∷ [])
    (0 ∷ 1 ∷ 0 ∷ [])
    (rule_bytes 1 (if_in 0 0 0 ∷ []) (enter 2 0 0 ∷ []) ∷ [])

abbrev pub carried_question_cases : List Row
carried_question_cases =
    row "need: 44 before 41" (need_refused over (0 ∷ []) 0 44) ∷
    -- "a press's cells still look at the cell's own bits"
    row "need: met is not held" (need_answers (only_carried 1) (0 ∷ 0 ∷ 0 ∷ []) 110 (Never 1) (call 0 (0 ∷ []) ∷ [])) ∷
    row "need: what carries it is held" (need_answers (only_carried 1) (1 ∷ 0 ∷ 0 ∷ []) 110 (Held 0) []) ∷
    row "need: held through carrying" (need_answers (only_carried 1) (2 ∷ 0 ∷ 0 ∷ []) 110 (Held 1) (call 0 (0 ∷ []) ∷ [])) ∷
    row "part: 44 before 21" (part_refused over 2 (31 ∷ []) 0 44) ∷
    row "part: carrying without the office" (part_answers two_approve 2 (0 ∷ []) 200 (Unsafe 1) (call 0 (1 ∷ []) ∷ [])) ∷
    row "sheet: 44 in each entry" (sheet_leaves over (ask 0 ∷ ask 2 ∷ []) 60 0 (entry 0 44 0 ∷ entry 2 44 0 ∷ [])) ∷
    row "sheet: each right under carrying" (sheet_fills (only_carried 1) (ask 0 ∷ ask 2 ∷ []) 220 (entry 0 0 1 ∷ entry 2 255 1 ∷ []) (part 0 110 (call 0 (0 ∷ []) ∷ []) ++ part 110 220 (call 0 (0 ∷ []) ∷ []))) ∷
    []
