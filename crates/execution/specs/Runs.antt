-- What a rule run answers and leaves.
use Rattle.std.specs.Prelude.{ℕ, ◌<◌, ◌≡◌, Bool, true, false, List, Option, Some, None, Result, Ok, Err}
use Rattle.std.proofs.Math.Option.{some}
use Rattle.std.proofs.Math.ListN.{get_elem?}
use Rattle.cases.specs.Cases.{pick}
use Rattle.refusals.specs.Numbers.{number_of}
use Rattle.refusals.specs.declared.Refusal.{Refusal}
use Rattle.protection.specs.Limits.{rights}
use Rattle.protection.specs.Command.{System, values_of}
use Rattle.protection.specs.Execution.{can_do_all, effect_all, enters_any_new, Outcome, refused, done, bounded, execute_command}
use Rattle.protection.specs.Leak.{after}
use Rattle.matrix.specs.Canonical.{Canonical}
use Rattle.matrix.specs.Matrices.{state_of}
use Rattle.matrix.specs.declared.Matrix.{Matrix}
use Rattle.carries.specs.Meeting.{MetBy}
use Rattle.commands.specs.Contents.{operation_at, step_of, operations_from, meaning}
use Rattle.commands.specs.Fits.{Fits}
use Rattle.commands.specs.declared.Command.{Command}
use Rattle.commands.specs.declared.Operation.{Operation as CodeOperation}
use Rattle.policy.specs.Contents.{system_of}
use Rattle.policy.specs.declared.Policy.{Policy}
use Rattle.operations.specs.Operations.{Applies}
use Rattle.execution.specs.declared.Done.{Done as CodeDone}
use Rattle.execution.specs.declared.Done.TheVariants.{NoLeak, Leak}

-- the operations have rights that a cell can hold, and their parameters have names
pub record OperationsApply (a : List ℕ) (c : Command) : Type 0 where
  pub fits : Fits rights c
  pub all : (j : ℕ) (o : CodeOperation) → j < c.operations → step_of o ≡ operation_at c j → Applies a o

-- whether all operations were done, and if so whether one of them entered the right into a cell that lacked it
pub record Ran : Type 0 where
  pub done : Bool
  pub leaked : Bool

-- as the code answers it: with nothing, where one could not be done
abbrev pub ran_told : Option Bool → Ran
ran_told None = record { done = false; leaked = false }
ran_told (Some b) = record { done = true; leaked = b }

-- all operations of the command were done, and y is what they left; or one could not be done, and where `Back` holds y is the matrix as it was
pub record RanAs (right : ℕ) (m : Matrix) (a : List ℕ) (c : Command) (y : Matrix) (x : Ran) (Back : Type 0) : Type 0 where
  pub able : x.done ≡ can_do_all (state_of m) (values_of a) (operations_from c c.operations 0)
  pub leak : x.done ≡ true → x.leaked ≡ enters_any_new (state_of m) (values_of a) (operations_from c c.operations 0) right
  pub state : x.done ≡ true → state_of y ≡ effect_all (state_of m) (values_of a) (operations_from c c.operations 0)
  pub canonical : Canonical rights y.kinds y.cells
  pub none : x.done ≡ false → Back → y ≡ m

-- document 01's refusal, or done, with or without a leak of the right
pub data Answer : Type 0 where
  Refused : ℕ → Answer
  Done : Answer
  Leaked : Answer

-- as the code answers it
abbrev pub answer_told : Result CodeDone Refusal → Answer
answer_told (Err r) = Refused (number_of r)
answer_told (Ok NoLeak) = Done
answer_told (Ok Leak) = Leaked

-- an answer, and the matrix that was left
pub record Executed : Type 0 where
  pub answer : Answer
  pub matrix : Matrix

abbrev pub answer_of : ℕ → Outcome → Answer
answer_of right (refused n) = Refused n
answer_of right (done m new) = pick (new right) Leaked Done

abbrev pub executed_of : Answer → Matrix → Executed
executed_of r m = record { answer = r; matrix = m }

-- a call on a matrix: a command's number and the four actuals
abbrev pub outcome_of : Policy → Matrix → ℕ → List ℕ → Outcome
outcome_of p m i a = execute_command bounded (system_of p) (state_of m) (get_elem? (system_of p).commands i) (values_of a)

pub record ExecutedAs (right : ℕ) (o : Outcome) (m : Matrix) (x : Executed) : Type 0 where
  pub answer : x.answer ≡ answer_of right o
  pub state : state_of x.matrix ≡ after o (state_of m)
  pub canonical : Canonical rights x.matrix.kinds x.matrix.cells

-- a command was run so in every system whose conditions the sets of carriers test
pub record RunBy (carriers : List ℕ) (right : ℕ) (m : Matrix) (c : Command) (a : List ℕ) (x : Executed) : Type 0 where
  pub is : (S : System) → MetBy S carriers → ExecutedAs right (execute_command bounded S (state_of m) (some (meaning c)) (values_of a)) m x
