-- The reader of a step (document 02, C-12): the six primitive operations, as document 000 lists them, and refusal 9.
use Rattle.std.specs.Prelude.{ℕ, Bool, true, false, ◌&&◌, ltb, eqb}
use Rattle.cases.specs.Cases.{pick}

-- what a step says: one of the six operations, over a right and parameters; or that it is refused, by 9
pub data StepRead : Type 0 where
  Enter : (right subject object : ℕ) → StepRead
  Delete : (right subject object : ℕ) → StepRead
  CreateSubject : ℕ → StepRead
  CreateObject : ℕ → StepRead
  DestroySubject : ℕ → StepRead
  DestroyObject : ℕ → StepRead
  Refused : StepRead

-- ---- of a step with right, first and second blank, in a rule of k blanks and a file of g rights
-- kinds 1 and 2: refused are "a right from g on, a blank from k on"
abbrev pub on_cell : ℕ → ℕ → ℕ → ℕ → ℕ → StepRead → StepRead
on_cell k g right first second step = pick ((ltb right g && ltb first k) && ltb second k) step Refused

-- kinds 3 to 6: refused are "a blank from k on", and "right or second blank not 0"
abbrev pub on_name : ℕ → ℕ → ℕ → ℕ → StepRead → StepRead
on_name k right first second step = pick ((eqb right 0 && ltb first k) && eqb second 0) step Refused

-- "Kinds: 1 enter, 2 delete, 3 create subject, 4 create object, 5 destroy subject, 6 destroy object."; refused is "a step kind not 1 to 6"
unfoldable pub step_read : ℕ → ℕ → ℕ → ℕ → ℕ → ℕ → StepRead
step_read k g kind right first second =
    pick (eqb kind 1) (on_cell k g right first second (Enter right first second))
    (pick (eqb kind 2) (on_cell k g right first second (Delete right first second))
    (pick (eqb kind 3) (on_name k right first second (CreateSubject first))
    (pick (eqb kind 4) (on_name k right first second (CreateObject first))
    (pick (eqb kind 5) (on_name k right first second (DestroySubject first))
    (pick (eqb kind 6) (on_name k right first second (DestroyObject first))
    Refused)))))

abbrev pub is_read : StepRead → Bool
is_read (Enter q s o) = true
is_read (Delete q s o) = true
is_read (CreateSubject s) = true
is_read (CreateObject o) = true
is_read (DestroySubject s) = true
is_read (DestroyObject o) = true
is_read Refused = false
