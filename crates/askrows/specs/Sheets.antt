-- A sheet of questions (document 02, C-17): 43, and each entry with the answer and the part that a call of its own would give.
use Rattle.std.specs.Prelude.{ℕ, zero, suc, List, [], ◌∷◌, ◌++◌}
use Rattle.protection.specs.Command.{Call}
use Rattle.sheets.specs.declared.Entry.{Entry}
use Rattle.rows.specs.Build.{entering, file_of, call}
use Rattle.rows.specs.Cases.{Row, row}
use Rattle.rows.specs.Asked.{ask, entry, part, sheet_leaves, sheet_fills}
use Rattle.askrows.specs.Judgements.{lone_subject}

-- a right that is asked so many times
abbrev pub ask_times : ℕ → ℕ → List Entry
ask_times zero r = []
ask_times (suc n) r = ask r ∷ ask_times n r

-- g 2, subject 0, no rights. Rule (a): enter 1 into (a,a). A part of 5 × (2 × 2 × 3 + 4) bytes is long enough.
abbrev pub one_enter : List ℕ
one_enter = lone_subject (entering 1 ∷ [])

abbrev pub its_step : List Call
its_step = call 0 (0 ∷ []) ∷ []

-- g 1, no names, no rules: 30 bytes
abbrev pub nobody : List ℕ
nobody = file_of 1 [] [] []

-- a rule of no byte: 5
abbrev pub bad : List ℕ
bad = file_of 2 [] [] ([] ∷ [])

abbrev pub sheet_cases : List Row
sheet_cases =
    -- "An empty sheet does nothing."
    row "sheet: no entry" (sheet_leaves one_enter [] 100 0 []) ∷
    row "sheet: no entry, and a bad file" (sheet_leaves bad [] 100 0 []) ∷
    -- "Each entry, refused or not, gets the answer and buffer part that a call of its own would give."
    row "sheet: one entry, the whole buffer" (sheet_fills one_enter (ask 1 ∷ []) 80 (entry 1 255 1 ∷ []) (part 0 80 its_step)) ∷
    row "sheet: two entries, each on its half" (sheet_fills one_enter (ask 1 ∷ ask 0 ∷ []) 160 (entry 1 255 1 ∷ entry 0 0 1 ∷ []) (part 0 80 its_step ++ part 80 160 its_step)) ∷
    row "sheet: the same right twice" (sheet_fills one_enter (ask 1 ∷ ask 1 ∷ []) 160 (entry 1 255 1 ∷ entry 1 255 1 ∷ []) (part 0 80 its_step ++ part 80 160 its_step)) ∷
    row "sheet: an old answer is written over" (sheet_leaves nobody (entry 0 255 7 ∷ entry 1 255 7 ∷ []) 60 0 (entry 0 0 0 ∷ entry 1 21 0 ∷ [])) ∷
    -- "divided into equal parts from the front, one an entry, left-over bytes untouched"
    row "sheet: 161 bytes, the last one stays" (sheet_fills one_enter (ask 0 ∷ ask 1 ∷ []) 161 (entry 0 0 1 ∷ entry 1 255 1 ∷ []) (part 0 80 its_step ++ part 80 161 its_step)) ∷
    row "sheet: 21 in one entry, its neighbours answered" (sheet_fills one_enter (ask 0 ∷ ask 2 ∷ ask 1 ∷ []) 240 (entry 0 0 1 ∷ entry 2 21 0 ∷ entry 1 255 1 ∷ []) (part 0 160 its_step ++ part 160 240 its_step)) ∷
    row "sheet: 24 in both, parts of 79 bytes" (sheet_leaves one_enter (ask 0 ∷ ask 1 ∷ []) 159 0 (entry 0 24 0 ∷ entry 1 24 0 ∷ [])) ∷
    -- "It refuses with 43, even before the file's refusals, a sheet of more than 8; a bad file is otherwise each entry's answer."
    row "sheet: 8 entries" (sheet_leaves nobody (ask 1 ∷ ask_times 7 0) 240 0 (entry 1 21 0 ∷ ask_times 7 0)) ∷
    row "sheet: 43, 9 entries" (sheet_leaves nobody (ask 1 ∷ ask_times 8 0) 270 43 (ask 1 ∷ ask_times 8 0)) ∷
    row "sheet: 43 before the file's refusal" (sheet_leaves bad (ask_times 9 0) 270 43 (ask_times 9 0)) ∷
    row "sheet: a bad file, its refusal in each entry" (sheet_leaves bad (ask 0 ∷ ask 2 ∷ []) 60 0 (entry 0 5 0 ∷ entry 2 5 0 ∷ [])) ∷
    []
