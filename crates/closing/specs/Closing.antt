-- The closing search at one cell, and what its functions answer.
use Rattle.std.specs.Prelude.{ℕ, ◌/◌, ◌%◌, ◌≤◌, ◌<◌, ◌≡◌, Bool, true, false, List, [], ◌∷◌, eqb, get_or, Option, Some, None}
use Rattle.cases.specs.Cases.{pick}
use Rattle.rights.specs.Rights.{has}
use Rattle.protection.specs.Limits.{names}
use Rattle.protection.specs.State.{State}
use Rattle.protection.specs.Command.{System, Call}
use Rattle.protection.specs.Judge.{lowest_free, takes, returns, first_call, both, closing}
use Rattle.matrix.specs.Matrices.{state_of}
use Rattle.matrix.specs.declared.Matrix.{Matrix}
use Rattle.masks.specs.declared.Tables.{Tables}
use Rattle.commands.specs.Contents.{missing, operation_at}
use Rattle.commands.specs.Steps.{StepRead, Enter, Delete, CreateSubject, CreateObject, DestroySubject, DestroyObject, Refused}
use Rattle.policy.specs.Contents.{system_of}
use Rattle.policy.specs.declared.Policy.{Policy}
use Rattle.calls.specs.Calls.{call_of, Closable}
use Rattle.closing.specs.declared.Pair.{Pair}
use Rattle.closing.specs.declared.Sought.{Sought}
use Rattle.closing.specs.Asks.{AskedBy}

-- ---- the struct `Pair`: two steps that were found, or nothing
abbrev pub pair_of : Option Pair → List Call
pair_of (Some x) = call_of x.taken ∷ call_of x.returned ∷ []
pair_of None = []

-- ---- which commands are looked through
-- the operation enters r into some cell, or deletes it from one
abbrev pub concerns_right : Bool → ℕ → StepRead → Bool
concerns_right enters r (Enter q x y) = pick enters (eqb q r) false
concerns_right enters r (Delete q x y) = pick enters false (eqb q r)
concerns_right enters r (CreateSubject x) = false
concerns_right enters r (CreateObject x) = false
concerns_right enters r (DestroySubject x) = false
concerns_right enters r (DestroyObject x) = false
concerns_right enters r Refused = false

unfoldable pub concerns_in : Policy → Bool → ℕ → ℕ → Bool
concerns_in p enters r i = concerns_right enters r (operation_at (get_or p.command i missing) 0)

-- digit i is set for command number i
pub record ConcernedBy (p : Policy) (enters : Bool) (r mask : ℕ) : Type 0 where
  pub says : (i : ℕ) → i < p.commands → has mask i ≡ concerns_in p enters r i

-- ---- what is found
-- the two steps for cell number c; nothing, if one of them is not found
unfoldable pub both_at : System → Sought → State → ℕ → List Call
both_at S w m c = both (first_call (takes S m w.right (c / names) (c % names)) w.name 0 S.commands) (first_call (returns S m w.right (c / names) (c % names)) w.name 0 S.commands)

-- those of the closing search, whichever names a create may not take, if the one sought is the lowest that it may
pub record FirstPair (p : Policy) (w : Sought) (m : State) (x : Option Pair) : Type 0 where
  pub of : (R : ℕ → Bool) → w.name ≡ lowest_free R m → pair_of x ≡ closing (system_of p) R w.right (state_of p.matrix) m

-- ---- what is asked, for every cell
pub record SoughtIn (p : Policy) (w : Sought) (asks : List ℕ) (m : Matrix) (t : Tables) : Type 0 where
  pub closable : Closable p w.right m t
  pub name : w.name ≤ names
  pub taken_by : ConcernedBy p false w.right w.taking
  pub returned_by : ConcernedBy p true w.right w.returning
  pub asked_by : AskedBy p asks
