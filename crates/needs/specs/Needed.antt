-- What a press needs, on a file (document 02, C-14): its refusals, its answer, what it leaves of the buffer, and what it promises.
use Rattle.std.specs.Prelude.{ℕ, ◌/◌, ◌%◌, ◌≤◌, ◌≡◌, Bool, true, not, ◌&&◌, List, [], ◌∷◌, eqb, ltb, length, Result, Ok, Err}
use Rattle.cases.specs.Cases.{pick}
use Rattle.protection.specs.State.{State, object_in, subject_in}
use Rattle.protection.specs.Size.{step_bound}
use Rattle.protection.specs.Command.{System}
use Rattle.protection.specs.Judge.{Progress, all_rounds, Settled}
use Rattle.protection.specs.Need.{Cell, held_of, HeldAfter, NeverHeld}
use Rattle.layout.specs.Refusals.{or_else}
use Rattle.policy.specs.Refusals.{refusal}
use Rattle.policy.specs.Contents.{file_state, file_system}
use Rattle.goals.specs.Goals.{cell_limit, cells_in}
use Rattle.trace.specs.Traces.{calls}
use Rattle.questions.specs.Refusals.{size_refusal}
use Rattle.safety.specs.Judgement.{filled}
use Rattle.refusals.specs.Numbers.{number_of}
use Rattle.refusals.specs.declared.Refusal.{Refusal}
use Rattle.needs.specs.declared.Need.{Need as CodeNeed}
use Rattle.needs.specs.declared.Need.TheVariants as code

-- ---- refusals
-- not "a right not below g, a first name that is no subject at the start, or a second that is absent then"; a name above 31 is absent
abbrev pub cell_taken : ℕ → State → Cell → Bool
cell_taken g m c = ltb c.right g && (subject_in m c.subject && object_in m c.object)

abbrev pub cells_taken : ℕ → State → List Cell → Bool
cells_taken g m [] = true
cells_taken g m (c ∷ cs) = cell_taken g m c && cells_taken g m cs

-- "41 .. a list that is not whole cells, more than 8 cells, .."
unfoldable pub list_refusal : System → State → List ℕ → ℕ
list_refusal S m l =
    pick (not (eqb (length l % 3) 0)) 41
    (pick (ltb cell_limit (length l / 3)) 41
    (pick (not (cells_taken S.rights m (cells_in l))) 41
    0))

-- "after 22 to 24": the file's refusals, then those of every question that the rounds answer, then the list's. n is the buffer's length; 0 is no refusal.
unfoldable pub need_refusal : List ℕ → List ℕ → ℕ → ℕ
need_refusal f l n = or_else (refusal f) (or_else (size_refusal (file_system f) (file_state f) n) (list_refusal (file_system f) (file_state f) l))

-- ---- the answer
-- what the judge's rounds come to, ended by the first matrix that holds all cells
abbrev pub file_rounds : List ℕ → List ℕ → Progress
file_rounds f l = all_rounds (file_system f) (held_of (cells_in l)) (file_state f)

-- whether all cells are held at some moment, with the number of steps written; or a refusal
pub data Need : Type 0 where
  Refused : ℕ → Need
  Held : ℕ → Need
  Never : ℕ → Need

-- as the code answers it
abbrev pub needed_told : CodeNeed → Need
needed_told (code.Held n) = Held n
needed_told (code.Never n) = Never n

abbrev pub need_told : Result CodeNeed Refusal → Need
need_told (Ok x) = needed_told x
need_told (Err r) = Refused (number_of r)

abbrev pub need_of : Progress → Need
need_of j = pick j.ended (Held (length j.steps)) (Never (length j.steps))

unfoldable pub file_need : List ℕ → List ℕ → ℕ → Need
file_need f l n = pick (eqb (need_refusal f l n) 0) (need_of (file_rounds f l)) (Refused (need_refusal f l n))

-- at the C boundary: 255 all held, 0 never, else the refusal
abbrev pub need_code : Need → ℕ
need_code (Refused n) = n
need_code (Held n) = 255
need_code (Never n) = 0

abbrev pub steps_taken : Need → ℕ
steps_taken (Refused n) = 0
steps_taken (Held n) = n
steps_taken (Never n) = n

-- ---- the buffer: the steps fill its front, and a refusal changes no byte
unfoldable pub need_buffer : List ℕ → List ℕ → List ℕ → List ℕ
need_buffer f l b = pick (eqb (need_refusal f l (length b)) 0) (filled (file_rounds f l).steps b) b

-- ---- the promise, for every input
pub record Needed (f l b : List ℕ) (answer : Need) (b' : List ℕ) : Type 0 where
  pub answer_is : answer ≡ file_need f l (length b)
  pub buffer_is : b' ≡ need_buffer f l b
  -- "the judge's steps, in its order, up to the first matrix that holds them all"
  pub held : (n : ℕ) → answer ≡ Held n → HeldAfter (file_system f) (cells_in l) (file_state f) (calls b' n)
  -- "no finite run that destroys no starting name ends with all of them held"
  pub never : (n : ℕ) → answer ≡ Never n → NeverHeld (file_system f) (cells_in l) (file_state f) (calls b' n)
  -- no more than 24 makes room for
  pub within : need_refusal f l (length b) ≡ 0 → steps_taken answer ≤ step_bound (file_system f).rights (file_state f)
  -- the rounds end by the cells or by a round that does nothing, and not by the fuel
  pub settled : need_refusal f l (length b) ≡ 0 → Settled (file_system f) (held_of (cells_in l)) (file_state f)
