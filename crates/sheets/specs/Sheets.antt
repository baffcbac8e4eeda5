-- A sheet of questions on a file (document 02, C-17): its refusal, its entries and the buffer after the call, and what is promised of each entry.
use Rattle.std.specs.Prelude.{ℕ, ◌*◌, ◌/◌, ◌≤◌, ◌<◌, ◌≡◌, List, [], ◌∷◌, ◌++◌, ltb, length, get_or, take, drop, Result, IfOk}
use Rattle.cases.specs.Cases.{pick}
use Rattle.safety.specs.Demand3.{Judgement, steps_written}
use Rattle.safety.specs.Judgement.{file_judgement, judgement_code, file_buffer, Judged}
use Rattle.sheets.specs.declared.Entry.{Entry}
use Rattle.refusals.specs.Numbers.{code}
use Rattle.refusals.specs.declared.Refusal.{Refusal}

-- ---- refusal
-- "It refuses with 43 .. a sheet of more than 8"
abbrev pub sheet_limit : ℕ
sheet_limit = 8

unfoldable pub sheet_refusal : List Entry → ℕ
sheet_refusal s = pick (ltb sheet_limit (length s)) 43 0

-- ---- entries
-- "each a right and the place for its answer": the verdict as at the C boundary, 0 safe, 255 unsafe, else the refusal, and the number of steps written
abbrev pub entry_of : ℕ → Judgement → Entry
entry_of r j = record { right = r; verdict = judgement_code j; count = steps_written j }

-- "the answer .. that a call of its own would give", with a buffer of k bytes
abbrev pub answered : List ℕ → ℕ → ℕ → Entry
answered f k r = entry_of r (file_judgement f r k)

abbrev pub answers : List ℕ → ℕ → List Entry → List Entry
answers f k [] = []
answers f k (q ∷ s) = answered f k q.right ∷ answers f k s

-- ---- the buffer
-- "the trace buffer is divided into equal parts from the front, one an entry"
abbrev pub part_length : List Entry → List ℕ → ℕ
part_length s b = length b / length s

-- "the .. buffer part that a call of its own would give"; "left-over bytes untouched"
abbrev pub parts_filled : List ℕ → ℕ → List Entry → List ℕ → List ℕ
parts_filled f k [] b = b
parts_filled f k (q ∷ s) b = file_buffer f q.right (take k b) ++ parts_filled f k s (drop k b)

-- one part, of k bytes from number o on
abbrev pub part_filled : List ℕ → ℕ → ℕ → ℕ → List ℕ → List ℕ
part_filled f r o k b = take o b ++ (file_buffer f r (take k (drop o b)) ++ drop k (drop o b))

-- ---- after the call; 43 changes nothing
unfoldable pub sheet_after : List ℕ → List Entry → List ℕ → List Entry
sheet_after f s b = pick (ltb sheet_limit (length s)) s (answers f (part_length s b) s)

unfoldable pub buffer_after : List ℕ → List Entry → List ℕ → List ℕ
buffer_after f s b = pick (ltb sheet_limit (length s)) b (parts_filled f (part_length s b) s b)

-- ---- the promise, for every input
-- of entry i: its right, and its part, the k bytes from i × k on
abbrev pub right_at : List Entry → ℕ → ℕ
right_at s i = (get_or s i (record { right = 0; verdict = 0; count = 0 })).right

abbrev pub part_at : List ℕ → ℕ → ℕ → List ℕ
part_at b k i = take k (drop (i * k) b)

pub record Sheeted (f : List ℕ) (s : List Entry) (b : List ℕ) (r : ℕ) (s' : List Entry) (b' : List ℕ) : Type 0 where
  pub code_is : r ≡ sheet_refusal s
  pub sheet_is : s' ≡ sheet_after f s b
  pub buffer_is : b' ≡ buffer_after f s b
  -- an entry's answer and its part have the promise of a call of its own: demand 3, wherever it is not a refusal
  pub judged : length s ≤ sheet_limit → (i : ℕ) → i < length s → Judged f (right_at s i) (part_at b (part_length s b) i) (file_judgement f (right_at s i) (part_length s b)) (part_at b' (part_length s b) i)
  -- "left-over bytes untouched"
  pub left_over : drop (length s * part_length s b) b' ≡ drop (length s * part_length s b) b

-- ---- the same by value: a sheet of n entries, of which e has the first eight
pub record FirstSheeted (f : List ℕ) (e : List Entry) (n : ℕ) (b : List ℕ) (x : Result (List Entry) Refusal) (b' : List ℕ) : Type 0 where
  pub refused_is : code x ≡ pick (ltb sheet_limit n) 43 0
  pub entries_are : IfOk x (λ e'. e' ≡ sheet_after f (take n e) b ++ drop n e)
  pub buffer_is : b' ≡ pick (ltb sheet_limit n) b (buffer_after f (take n e) b)
