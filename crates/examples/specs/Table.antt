-- The table of cases, and what is claimed of it: "P1 to P10, proved together as a table with a claim over all its rows", and cases for what document 01
-- says besides, so that a sentence read otherwise, in the definitions and in the code together, fails a row. Most names begin with what the row answers.
use Rattle.std.specs.Prelude.{ℕ, ◌≡◌, Bool, false, ◌||◌, List, [], ◌∷◌, ◌++◌, eqb}
use Prim.Native.String.{String}
use Rattle.cases.specs.Cases.{pick}
use Rattle.trace.specs.Replays.{Replay, NoLeak, Leak, Refused as RefusedAt}
use Rattle.safety.specs.Demand3.{Judgement, Refused, Safe, Unsafe}
use Rattle.needs.specs.Needed.{Need, Refused as NeedRefused, Held, Never}
use Rattle.rows.specs.Build.{joined}
use Rattle.rows.specs.Cases.{Case, checks, runs, replays, judges, judges_part, needs, asks, prints, Row, row_names, AllHold}
use Rattle.sliprows.specs.Slips.{slip_cases}
use Rattle.filerows.specs.Files.{header_cases, matrix_cases, carry_cases, rule_cases}
use Rattle.runrows.specs.Runs.{refused_cases, done_cases}
use Rattle.runrows.specs.Replays.{replay_cases}
use Rattle.askrows.specs.Judgements.{caller_cases, round_cases, create_cases, closing_cases}
use Rattle.askrows.specs.Needs.{need_cases}
use Rattle.askrows.specs.Trusted.{trusted_cases}
use Rattle.askrows.specs.Sheets.{sheet_cases}
use Rattle.carryrows.specs.Carrying.{met_cases, carried_replay_cases, carried_judge_cases, carried_question_cases}
use Rattle.widerows.specs.Wide.{wide_run_cases, wide_question_cases, largest_cases}

abbrev pub parts : List (List Row)
parts = slip_cases ∷ header_cases ∷ matrix_cases ∷ carry_cases ∷ rule_cases ∷ refused_cases ∷ done_cases ∷ replay_cases ∷ caller_cases ∷ round_cases ∷ create_cases ∷ closing_cases ∷ need_cases ∷ trusted_cases ∷ sheet_cases ∷ met_cases ∷ carried_replay_cases ∷ carried_judge_cases ∷ carried_question_cases ∷ wide_run_cases ∷ wide_question_cases ∷ largest_cases ∷ []

abbrev pub table : List Row
table = joined parts

-- ---- what it must have
-- the names of its rows
abbrev pub required : List String
required =
    "P1 listing" ∷
    "P1" ∷
    "P1 one byte less" ∷
    "P2" ∷
    "P2 listing" ∷
    "P3" ∷
    "P3 listing" ∷
    "P4" ∷
    "P4 listing" ∷
    "P5" ∷
    "P5 listing" ∷
    "P6" ∷
    "P6 listing" ∷
    "P7" ∷
    "P7 listing" ∷
    "P8" ∷
    "P8 listing" ∷
    "P9" ∷
    "P10" ∷
    "1: no byte" ∷
    "1: one byte, before 2" ∷
    "2: two bytes, g 0, before 3" ∷
    "1: 4,097 bytes, before 2" ∷
    "2: 4,096 bytes" ∷
    "2: g 13, before 3" ∷
    "3: g 1, two pairs, before 1" ∷
    "3: g 12, 36 pairs, before 1" ∷
    "1: 3 pairs in 13 bytes, before 4" ∷
    "1: 35 pairs in 141 bytes, before 4" ∷
    "4: 3 pairs in 14 bytes, the first offset 0, before 5" ∷
    "4: 35 pairs in 142 bytes" ∷
    "4: a byte between two sections, before 5" ∷
    "4: a byte of two sections, before 5" ∷
    "4: a byte behind the last section, before 5" ∷
    "4: the last section cut, before 5" ∷
    "4: sums are not taken modulo 65,536, before 5" ∷
    "5: kinds of 31 bytes, before 6" ∷
    "5: kinds of 33 bytes, before 6" ∷
    "5: cells of 1,024 bytes, before 6" ∷
    "5: cells of 2,047 bytes, before 6" ∷
    "5: cells of 2,049 bytes, before 6" ∷
    "5: carries of g bytes, before 6" ∷
    "5: carries of 2 g - 1 bytes, before 6" ∷
    "5: carries of 2 g + 1 bytes, before 6" ∷
    "5: carries of no byte, g 1" ∷
    "6: the last kind 3, before 7" ∷
    "7: the last kind 2" ∷
    "7: right g in a cell, before a rule's 5" ∷
    "5: rights below g in a cell" ∷
    "7: an object's row" ∷
    "7: an absent name's row" ∷
    "7: an absent name's column" ∷
    "5: an object's column" ∷
    "7: the last cell" ∷
    "7: g 2, right 8 alone in a cell" ∷
    "7: g 12, right 8 in an object's row" ∷
    "7: g 12, right 8 in the last cell" ∷
    "accepted: g 12, right 8 in the last cell" ∷
    "accepted: g 12, right 11 in a cell" ∷
    "7: g 11, right 11 in a cell" ∷
    "accepted: g 12, all rights in a cell" ∷
    "7: g 12, bit 12 in a cell" ∷
    "7: g 12, bit 15 in a cell" ∷
    "7: g 12, all bits in a cell" ∷
    "7: right g in a cell, before 44" ∷
    "44: right g carried, before rule 0's 5" ∷
    "44: right g carried by the last right" ∷
    "44: right 7 carried beside right 0" ∷
    "5: rights below g carried" ∷
    "44: before rule 0's 8" ∷
    "44: before rule 0's 9" ∷
    "44: g 7, right 7 carried" ∷
    "44: g 8, right 8 carried" ∷
    "44: g 11, right 11 carried" ∷
    "44: g 12, bit 12 carried" ∷
    "44: g 12, bit 15 carried by the last right" ∷
    "accepted: g 12, each right carries all" ∷
    "5: a rule of 2 bytes, before 8" ∷
    "8: no blanks, before 5" ∷
    "8: 5 blanks, before 5" ∷
    "8: 5 conditions, before 5" ∷
    "8: no steps, before 5" ∷
    "8: 7 steps, before 5" ∷
    "5: k 1, c 0, m 1" ∷
    "5: k 4, c 4, m 6" ∷
    "5: a rule one byte short, before 9" ∷
    "5: a rule one byte long, before 9" ∷
    "5: rule 0, before rule 1's 8" ∷
    "9: a condition's right g, before rule 1's 5" ∷
    "9: a condition's subject blank k" ∷
    "9: a condition's object blank k" ∷
    "5: a condition's right g - 1 and blanks k - 1" ∷
    "9: a step's right g" ∷
    "9: a deleted right g" ∷
    "9: a step's first blank k" ∷
    "9: a step's second blank k" ∷
    "5: a step's right g - 1 and blanks k - 1" ∷
    "9: a step of kind 0" ∷
    "9: a step of kind 7" ∷
    "9: a right in kind 3" ∷
    "9: a right in kind 6" ∷
    "9: a second blank in kind 3" ∷
    "9: a second blank in kind 6" ∷
    "9: a created blank k" ∷
    "accepted: the largest rule" ∷
    "accepted: 35 pairs" ∷
    "accepted: the longest file, 3,494 bytes" ∷
    "9: g 12, right 12 in the last of 32 rules" ∷
    "5 before 11" ∷
    "11: rule 1 of one, before 12" ∷
    "12: 32 for a named blank, before 14" ∷
    "12: 255 for a named blank, before 14" ∷
    "12: 254 in an unused position, before 14" ∷
    "12: a name in the last position, before 14" ∷
    "14: 31 for a named blank" ∷
    "14: 32 for a spare blank" ∷
    "14: 255 for a spare blank" ∷
    "14: the cell lacks the right, before 15" ∷
    "14: the subject is an object, before 15" ∷
    "14: the object is absent, before 15" ∷
    "14: the last of two conditions" ∷
    "14: the first step would make it hold" ∷
    "15: behind a step that is done" ∷
    "15: enter, the first an object" ∷
    "15: enter, the second absent" ∷
    "15: delete, the first an object" ∷
    "15: delete, the second absent" ∷
    "15: create subject, an object" ∷
    "15: create object, an object" ∷
    "15: create object, a subject" ∷
    "15: destroy subject, an object" ∷
    "15: destroy subject, absent" ∷
    "15: destroy object, a subject" ∷
    "15: destroy object, absent" ∷
    "done: enter" ∷
    "done: enter a right already there" ∷
    "done: delete" ∷
    "done: delete a right that is not there" ∷
    "done: two blanks with one name" ∷
    "done: create subject 31" ∷
    "done: create object" ∷
    "done: destroy subject" ∷
    "done: destroy object" ∷
    "done: destroyed, created again, entered" ∷
    "done: the conditions held, four blanks, one spare" ∷
    "done: an absent name for a spare blank" ∷
    "done: 117 for a spare blank" ∷
    "done: 255 for a spare blank" ∷
    "done: three spare blanks" ∷
    "done: the 0 behind a created blank names none" ∷
    "replay: 5 before 21" ∷
    "replay: 21, right g, before 31" ∷
    "replay: 31, 6 bytes, before a leak" ∷
    "replay: 31, 4 bytes, before 11" ∷
    "replay: no step" ∷
    "replay: no 23" ∷
    "leak: an enter" ∷
    "leak: a delete and an enter in one rule" ∷
    "leak: an enter and a delete in one rule" ∷
    "no leak: the right is there already" ∷
    "no leak: another right" ∷
    "no leak: an enter in a rule refused later" ∷
    "leak at step 1, before a refusal" ∷
    "refusal at step 1, before a leak" ∷
    "leak at step 0, before another" ∷
    "replay: 12 at step 1" ∷
    "replay: 14 at step 1" ∷
    "replay: 15 at step 1" ∷
    "replay: job numbers in a spare blank" ∷
    "leak at step 1, job numbers in a spare blank" ∷
    "leak at step 2, by what the steps before left" ∷
    "judge: 5 before 21" ∷
    "judge: 21, right g, before 22" ∷
    "judge: 22, right g - 1, before 23" ∷
    "judge: 23, 31 names, before 24" ∷
    "judge: 24, 339 bytes" ∷
    "judge: 340 bytes" ∷
    "desk: empty input" ∷
    "desk: the right alone" ∷
    "judge: the first blank slowest" ∷
    "judge: name 31" ∷
    "desk: name 31" ∷
    "judge: spare blanks get 0" ∷
    "judge: rule 0 before rule 1" ∷
    "judge: rule 0 once more" ∷
    "judge: nothing behind the leak" ∷
    "judge: a step seen by the next actuals" ∷
    "judge: safe, one step" ∷
    "desk: safe, one step" ∷
    "judge: create object, the lowest absent name" ∷
    "judge: one create of each kind, in one round" ∷
    "judge: a created object's column" ∷
    "judge: a created blank in a condition" ∷
    "judge: deletes and destroys are passed by" ∷
    "judge: start cells row by row, the first with both" ∷
    "judge: the right is gone from one cell alone" ∷
    "judge: the closing search with a spare blank" ∷
    "judge: the first of the allowed actuals" ∷
    "judge: the closing search behind the rounds" ∷
    "need: 5 before 22" ∷
    "need: 22, before 23" ∷
    "need: 23, 31 names, before 24" ∷
    "need: 24, 339 bytes, before 41" ∷
    "need: 41, one byte" ∷
    "need: 41, 5 bytes" ∷
    "need: 8 cells" ∷
    "need: 41, 9 cells" ∷
    "need: 41, right g" ∷
    "need: 41, right g in the last of two cells" ∷
    "need: 41, an object as first name" ∷
    "need: an object as second name" ∷
    "need: 41, an absent first name" ∷
    "need: 41, an absent second name" ∷
    "need: names 31" ∷
    "need: 41, 32 as first name" ∷
    "need: 41, 32 as second name" ∷
    "need: the empty list" ∷
    "need: held at the start" ∷
    "need: held after two steps, the enter before them ends nothing" ∷
    "need: a cell is no other one turned round" ∷
    "need: all cells, not one of them" ∷
    "need: held after a create" ∷
    "need: never, one of two cells cannot come" ∷
    "need: never, no rule" ∷
    "part: 5 before 21" ∷
    "part: 21, right g, before 22" ∷
    "part: 22, before 23" ∷
    "part: 23, 31 names, one of them left out" ∷
    "part: 24, 339 bytes, where the part asks for 175" ∷
    "part: 24, before 42" ∷
    "part: 340 bytes" ∷
    "part: 42, an absent name" ∷
    "part: 42, name 32" ∷
    "part: 42, name 255" ∷
    "part: name 31" ∷
    "part: 42, a name twice" ∷
    "part: 42, a name twice, another between" ∷
    "part: 42, an absent name behind others" ∷
    "part: an empty list" ∷
    "part: the office grants, without its row safe" ∷
    "part: without its column safe" ∷
    "part: all names left out" ∷
    "part: unsafe without the office" ∷
    "part: what others hold stays" ∷
    "part: a created name is none left out" ∷
    "part: two created names beside two left out" ∷
    "part: given back in a cell of the whole" ∷
    "part: not in one of the part" ∷
    "part: given back in a cell of the part" ∷
    "sheet: no entry" ∷
    "sheet: no entry, and a bad file" ∷
    "sheet: one entry, the whole buffer" ∷
    "sheet: two entries, each on its half" ∷
    "sheet: the same right twice" ∷
    "sheet: an old answer is written over" ∷
    "sheet: 161 bytes, the last one stays" ∷
    "sheet: 21 in one entry, its neighbours answered" ∷
    "sheet: 24 in both, parts of 79 bytes" ∷
    "sheet: 8 entries" ∷
    "sheet: 43, 9 entries" ∷
    "sheet: 43 before the file's refusal" ∷
    "sheet: a bad file, its refusal in each entry" ∷
    "done: approve carries read" ∷
    "14: approve without carries" ∷
    "14: read carries approve, and approve is there" ∷
    "14: approve carries another right" ∷
    "14: another right is there" ∷
    "14: no right is there" ∷
    "done: the last of two rights carries read" ∷
    "done: a chain of three" ∷
    "14: a chain that breaks" ∷
    "done: a cycle" ∷
    "14: a cycle without read" ∷
    "done: read without carries" ∷
    "done: read carries itself" ∷
    "14: approve carries itself" ∷
    "done: enter a right already carried" ∷
    "done: enter a right that carries another" ∷
    "done: delete a right that carries another" ∷
    "done: delete a right that another carries" ∷
    "44 before 11" ∷
    "replay: 44 before 21" ∷
    "leak at step 1, met by what step 0 entered" ∷
    "replay: 14 at step 1, without carries" ∷
    "no leak: what carries the right is entered" ∷
    "leak at step 1, of a right already carried" ∷
    "judge: 44 before 21" ∷
    "desk: 44" ∷
    "judge: unsafe only through carrying" ∷
    "judge: safe without it" ∷
    "desk: unsafe only through carrying" ∷
    "judge: met by what a step entered" ∷
    "judge: met in a created name's cell" ∷
    "judge: safe although carrying" ∷
    "judge: unsafe by a right already carried" ∷
    "judge: a right already carried is useful" ∷
    "P2, right 1 carries right 0" ∷
    "P3, right 1 carries right 0" ∷
    "P3, right 0 carries right 1" ∷
    "P2, right 0 alone in the cell carries right 1" ∷
    "judge: met through two rights, one of them gone" ∷
    "judge: met through one right, and that gone" ∷
    "need: 44 before 41" ∷
    "need: met is not held" ∷
    "need: what carries it is held" ∷
    "need: held through carrying" ∷
    "part: 44 before 21" ∷
    "part: carrying without the office" ∷
    "sheet: 44 in each entry" ∷
    "sheet: each right under carrying" ∷
    "done: enter right 8, the low byte stays" ∷
    "done: enter right 11 into an empty cell" ∷
    "done: enter right 7, the high byte stays" ∷
    "done: delete right 8, the low byte stays" ∷
    "done: delete right 0, the high byte stays" ∷
    "done: destroy object, both bytes" ∷
    "done: destroy subject, both bytes" ∷
    "14: right 0 is there, not right 8" ∷
    "14: right 8 is there, not right 0" ∷
    "done: right 11 carries right 8" ∷
    "14: right 11 carries right 0, not right 8" ∷
    "leak at step 1, of right 11" ∷
    "no leak: right 8 is not right 0" ∷
    "judge: right 11" ∷
    "judge: 24, right 11, 379 bytes" ∷
    "judge: right 8 given back, right 11 stays" ∷
    "judge: right 8 gone, and asked for" ∷
    "need: right 11" ∷
    "need: never, right 9" ∷
    "need: 41, right 12 of 12" ∷
    "part: right 11" ∷
    "part: right 11, all names left out" ∷
    "sheet: rights 8 and 11" ∷
    "desk: right 11" ∷
    "judge: 21, right 12 of 12, before 24" ∷
    "judge: 24, 59,539 bytes" ∷
    "judge: 59,540 bytes" ∷
    "desk: the largest bound" ∷
    []

-- every refusal of document 01 and of document 02 as far as it is built is the answer of some row; 13 is given by nobody since document 02, C-11
abbrev pub refusals : List ℕ
refusals = 1 ∷ 2 ∷ 3 ∷ 4 ∷ 5 ∷ 6 ∷ 7 ∷ 8 ∷ 9 ∷ 11 ∷ 12 ∷ 14 ∷ 15 ∷ 21 ∷ 22 ∷ 23 ∷ 24 ∷ 31 ∷ 41 ∷ 42 ∷ 43 ∷ 44 ∷ []

abbrev pub replay_refused : Replay → ℕ
replay_refused NoLeak = 0
replay_refused (Leak i) = 0
replay_refused (RefusedAt n i) = n

abbrev pub judgement_refused : Judgement → ℕ
judgement_refused (Refused n) = n
judgement_refused (Safe n) = 0
judgement_refused (Unsafe n) = 0

abbrev pub need_refused_by : Need → ℕ
need_refused_by (NeedRefused n) = n
need_refused_by (Held n) = 0
need_refused_by (Never n) = 0

-- the refusal that a row answers; 0 for none
abbrev pub refused_by : Case → ℕ
refused_by (checks f n) = n
refused_by (runs f x n f') = n
refused_by (replays f t r answer) = replay_refused answer
refused_by (judges f r b answer b') = judgement_refused answer
refused_by (judges_part f r l b answer b') = judgement_refused answer
refused_by (needs f l b answer b') = need_refused_by answer
refused_by (asks f s b r s' b') = r
refused_by (prints input out) = 0

abbrev pub answered : ℕ → List Row → Bool
answered n [] = false
answered n (w ∷ ws) = eqb (refused_by w.case) n || answered n ws

-- those of the numbers that no row answers
abbrev pub unanswered : List ℕ → List Row → List ℕ
unanswered [] ws = []
unanswered (n ∷ ns) ws = pick (answered n ws) [] (n ∷ []) ++ unanswered ns ws

-- ---- the claim
pub record AllCases (rows : List Row) : Type 0 where
  pub named : row_names rows ≡ required
  pub every_refusal : unanswered refusals rows ≡ []
  pub hold : AllHold rows
