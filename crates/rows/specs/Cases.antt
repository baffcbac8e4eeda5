-- Cases as rows of a table, and what a row claims of the library's calls.
use Rattle.std.specs.Prelude.{ℕ, ◌≡◌, List, [], ◌∷◌, length}
use Prim.Native.String.{String}
use Rattle.protection.specs.Command.{Call}
use Rattle.policy.specs.Refusals.{refusal}
use Rattle.update.specs.Files.{run_code, run_file}
use Rattle.trace.specs.Replays.{file_replay, Replay}
use Rattle.safety.specs.Judgement.{file_judgement, file_buffer}
use Rattle.safety.specs.Demand3.{Judgement}
use Rattle.needs.specs.Needed.{file_need, need_buffer, Need}
use Rattle.parts.specs.Parts.{part_judgement, part_buffer}
use Rattle.sheets.specs.Sheets.{sheet_refusal, sheet_after, buffer_after}
use Rattle.sheets.specs.declared.Entry.{Entry}
use Rattle.listing.specs.Listing.{listing}

pub data Case : Type 0 where
  -- a file; its refusal, 0 where it is accepted
  checks : List ℕ → ℕ → Case
  -- the rule run on the lent file; its answer, and the file after it
  runs : List ℕ → Call → ℕ → List ℕ → Case
  -- file, trace and right; what replay answers
  replays : List ℕ → List ℕ → ℕ → Replay → Case
  -- the judge is lent the file, the right and the buffer; its answer, and the buffer after it
  judges : List ℕ → ℕ → List ℕ → Judgement → List ℕ → Case
  -- the same with a list of names that are left out, behind the right
  judges_part : List ℕ → ℕ → List ℕ → List ℕ → Judgement → List ℕ → Case
  -- a need is lent the file, the list of cells and the buffer; its answer, and the buffer after it
  needs : List ℕ → List ℕ → List ℕ → Need → List ℕ → Case
  -- a sheet of questions on the file, with the buffer; its code, and the sheet and the buffer after it
  asks : List ℕ → List Entry → List ℕ → ℕ → List Entry → List ℕ → Case
  -- what the desk program reads, and what it prints
  prints : List ℕ → List ℕ → Case

-- the two equations of the contract of `run`; demand 2 is one theorem for every input
pub record FileRan (f : List ℕ) (x : Call) (answer : ℕ) (f' : List ℕ) : Type 0 where
  pub answer_is : answer ≡ run_code f x
  pub file_is : f' ≡ run_file f x

-- the two equations of the judge's contract; demand 3 is one theorem for every input
pub record FileJudged (f : List ℕ) (r : ℕ) (b : List ℕ) (answer : Judgement) (b' : List ℕ) : Type 0 where
  pub answer_is : answer ≡ file_judgement f r (length b)
  pub buffer_is : b' ≡ file_buffer f r b

-- the two equations of the contract for a part; the rest is one theorem for every input
pub record FilePartJudged (f : List ℕ) (r : ℕ) (l b : List ℕ) (answer : Judgement) (b' : List ℕ) : Type 0 where
  pub answer_is : answer ≡ part_judgement f r l (length b)
  pub buffer_is : b' ≡ part_buffer f r l b

-- the two equations of a need's contract; the rest is one theorem for every input
pub record FileNeeded (f l b : List ℕ) (answer : Need) (b' : List ℕ) : Type 0 where
  pub answer_is : answer ≡ file_need f l (length b)
  pub buffer_is : b' ≡ need_buffer f l b

-- the three equations of a sheet's contract; the rest is one theorem for every input
pub record FileSheeted (f : List ℕ) (s : List Entry) (b : List ℕ) (r : ℕ) (s' : List Entry) (b' : List ℕ) : Type 0 where
  pub code_is : r ≡ sheet_refusal s
  pub sheet_is : s' ≡ sheet_after f s b
  pub buffer_is : b' ≡ buffer_after f s b

abbrev pub Holds : Case → Type 0
Holds (checks f n) = n ≡ refusal f
Holds (runs f x n f') = FileRan f x n f'
Holds (replays f t r answer) = answer ≡ file_replay f t r
Holds (judges f r b answer b') = FileJudged f r b answer b'
Holds (judges_part f r l b answer b') = FilePartJudged f r l b answer b'
Holds (needs f l b answer b') = FileNeeded f l b answer b'
Holds (asks f s b r s' b') = FileSheeted f s b r s' b'
Holds (prints input out) = out ≡ listing input

-- ---- rows
pub record Row : Type 0 where
  pub name : String
  pub case : Case

abbrev pub row : String → Case → Row
row name case = record { name = name; case = case }

abbrev pub row_names : List Row → List String
row_names [] = []
row_names (w ∷ ws) = w.name ∷ row_names ws

abbrev pub AllHold : List Row → Type 0
AllHold [] = Unit {0}
AllHold (w ∷ ws) = Holds w.case × AllHold ws
