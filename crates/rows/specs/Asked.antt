-- Rows that ask a question: the judge of a file, a need, a part, a sheet, each with a buffer of n bytes.
use Rattle.std.specs.Prelude.{ℕ, ◌+◌, ◌*◌, List, ◌++◌, length}
use Rattle.protection.specs.Command.{Call}
use Rattle.safety.specs.Demand3.{Judgement, Refused}
use Rattle.needs.specs.Needed.{Need, Refused as NeedRefused}
use Rattle.sheets.specs.declared.Entry.{Entry}
use Rattle.rows.specs.Build.{trace, buffer, holding}
use Rattle.rows.specs.Cases.{Case, judges, judges_part, needs, asks}

-- the judge of a file, a right and a buffer of n bytes is refused; or answers, and these are the steps
abbrev pub judge_refused : List ℕ → ℕ → ℕ → ℕ → Case
judge_refused f r n by = judges f r (buffer 0 n) (Refused by) (buffer 0 n)

abbrev pub judge_answers : List ℕ → ℕ → ℕ → Judgement → List Call → Case
judge_answers f r n answer steps = judges f r (buffer 0 n) answer (holding steps n)

-- the need of a file, a list and a buffer of n bytes is refused; or is answered, and these are the steps
abbrev pub need_refused : List ℕ → List ℕ → ℕ → ℕ → Case
need_refused f l n by = needs f l (buffer 0 n) (NeedRefused by) (buffer 0 n)

abbrev pub need_answers : List ℕ → List ℕ → ℕ → Need → List Call → Case
need_answers f l n answer steps = needs f l (buffer 0 n) answer (holding steps n)

-- the judge of a file, a right and a buffer of n bytes without the names of a list is refused; or answers, and these are the steps
abbrev pub part_refused : List ℕ → ℕ → List ℕ → ℕ → ℕ → Case
part_refused f r l n by = judges_part f r l (buffer 0 n) (Refused by) (buffer 0 n)

abbrev pub part_answers : List ℕ → ℕ → List ℕ → ℕ → Judgement → List Call → Case
part_answers f r l n answer steps = judges_part f r l (buffer 0 n) answer (holding steps n)

-- a right that is asked; an entry with its answer
abbrev pub ask : ℕ → Entry
ask r = record { right = r; verdict = 0; count = 0 }

abbrev pub entry : ℕ → ℕ → ℕ → Entry
entry r verdict count = record { right = r; verdict = verdict; count = count }

-- the bytes of the buffer from place j on to place n, with the steps at their front
abbrev pub part : ℕ → ℕ → List Call → List ℕ
part j n steps = trace steps ++ buffer (j + 5 * length steps) n

-- a sheet that changes nothing of the buffer; one that is answered
abbrev pub sheet_leaves : List ℕ → List Entry → ℕ → ℕ → List Entry → Case
sheet_leaves f s n code s' = asks f s (buffer 0 n) code s' (buffer 0 n)

abbrev pub sheet_fills : List ℕ → List Entry → ℕ → List Entry → List ℕ → Case
sheet_fills f s n s' b' = asks f s (buffer 0 n) 0 s' b'
