-- A sheet at the C boundary: its entries as bytes, four an entry: right, code of the answer, number of steps low byte first.
use Rattle.std.specs.Prelude.{ℕ, ◌*◌, ◌/◌, ◌%◌, ◌≡◌, List, [], ◌∷◌, ◌++◌, ltb, length, get_or, drop}
use Rattle.cases.specs.Cases.{pick, tabulate}
use Rattle.sheets.specs.Sheets.{sheet_limit, sheet_after, Sheeted}
use Rattle.sheets.specs.declared.Entry.{Entry}

-- what an entry asks; its answer is not given yet
abbrev pub entry_at : List ℕ → ℕ → Entry
entry_at e i = record { right = get_or e (4 * i) 0; verdict = 0; count = 0 }

-- entries are length / 4 in number
abbrev pub entries_in : List ℕ → List Entry
entries_in e = tabulate (entry_at e) (length e / 4) 0

abbrev pub entry_bytes : List Entry → List ℕ
entry_bytes [] = []
entry_bytes (q ∷ s) = q.right ∷ q.verdict ∷ q.count % 256 ∷ q.count / 256 ∷ entry_bytes s

-- bytes past the last whole entry stay
abbrev pub entries_written : List Entry → List ℕ → List ℕ
entries_written s e = entry_bytes s ++ drop (4 * length s) e

-- 43 changes nothing
unfoldable pub entries_after : List ℕ → List ℕ → List ℕ → List ℕ
entries_after f e b = pick (ltb sheet_limit (length e / 4)) e (entries_written (sheet_after f (entries_in e) b) e)

-- the entries after the call, and the whole promise of the sheet, `Sheeted`, with the buffer b' after it
pub record SheetAnswer (f e b : List ℕ) (r : ℕ) (e' b' : List ℕ) : Type 0 where
  pub entries_are : e' ≡ entries_after f e b
  pub sheeted : Sheeted f (entries_in e) b r (sheet_after f (entries_in e) b) b'
