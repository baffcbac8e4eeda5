-- A rule run on the lent file (document 01, "Running a rule"): "A done rule run returns 0 and writes only kinds and cells of the lent file."
use Rattle.std.specs.Prelude.{ℕ, ◌≡◌, List, eqb}
use Rattle.cases.specs.Cases.{pick}
use Rattle.protection.specs.Command.{Call}
use Rattle.protection.specs.Execution.{bounded, Outcome, refused, done, execute}
use Rattle.layout.specs.Refusals.{or_else}
use Rattle.policy.specs.Refusals.{refusal}
use Rattle.policy.specs.Contents.{file_state, file_system, written}
use Rattle.update.specs.Demand2.{Demand2}

-- the call on the file's matrix
abbrev pub file_outcome : List ℕ → Call → Outcome
file_outcome f x = execute bounded (file_system f) (file_state f) x

-- the refusal's number, or 0
abbrev pub code_of : Outcome → ℕ
code_of (refused n) = n
code_of (done m new) = 0

-- the file as it was, or with the next state's kinds and cells
abbrev pub rewritten : List ℕ → Outcome → List ℕ
rewritten f (refused n) = f
rewritten f (done m new) = written f m

-- "Whoever wrote the file, in every call, first"; then 11 to 15
unfoldable pub run_code : List ℕ → Call → ℕ
run_code f x = or_else (refusal f) (code_of (file_outcome f x))

unfoldable pub run_file : List ℕ → Call → List ℕ
run_file f x = pick (eqb (refusal f) 0) (rewritten f (file_outcome f x)) f

-- what a rule run promises: of every input the answer and every byte of the file after it, and demand 2
pub record FileRun (f : List ℕ) (x : Call) (r : ℕ) (f' : List ℕ) : Type 0 where
  pub code : r ≡ run_code f x
  pub file : f' ≡ run_file f x
  pub demand2 : Demand2 f x r f'
