-- Commands (document 01: rules) and calls of them (rule runs). Parameters are document 01's blanks, operations its steps.
use Rattle.std.specs.Prelude.{Bool, false, not, ◌&&◌, ◌||◌, List, [], ◌∷◌, ◌≡◌, ℕ, T, eqb, ltb, get_or}
use Rattle.std.proofs.Math.Option.{some}
use Rattle.std.proofs.Math.ListN.{get_elem?}

-- the right is in the cell of the two parameters
pub record Condition : Type 0 where
  pub right : ℕ
  pub subject : ℕ
  pub object : ℕ

-- the six primitive operations; the last numbers are parameters
pub data Operation : Type 0 where
  enter delete : ℕ → ℕ → ℕ → Operation
  create_subject create_object destroy_subject destroy_object : ℕ → Operation

pub record Command : Type 0 where
  pub parameters : ℕ
  pub conditions : List Condition
  pub operations : List Operation

-- a protection system: the number of rights, which right the file says that a right carries (document 02, C-19), and the commands
pub record System : Type 0 where
  pub rights : ℕ
  pub carried : ℕ → ℕ → Bool
  pub commands : List Command

-- "each rule run is a rule number and four actuals, all whole numbers from 0 up"
pub record Call : Type 0 where
  pub command : ℕ
  pub a0 : ℕ
  pub a1 : ℕ
  pub a2 : ℕ
  pub a3 : ℕ

abbrev pub Actuals : Type 0
Actuals = ℕ → ℕ

-- a call gives four; past these nothing is asked, and 0 stands there
abbrev pub values_of : List ℕ → Actuals
values_of l b = get_or l b 0

abbrev pub actuals : Call → Actuals
actuals x = values_of (x.a0 ∷ x.a1 ∷ x.a2 ∷ x.a3 ∷ [])

-- ---- which parameters a command names
abbrev pub in_conditions : ℕ → List Condition → Bool
in_conditions b [] = false
in_conditions b (c ∷ cs) = (eqb b c.subject || eqb b c.object) || in_conditions b cs

abbrev pub in_operation : ℕ → Operation → Bool
in_operation b (enter q s o) = eqb b s || eqb b o
in_operation b (delete q s o) = eqb b s || eqb b o
in_operation b (create_subject s) = eqb b s
in_operation b (create_object o) = eqb b o
in_operation b (destroy_subject s) = eqb b s
in_operation b (destroy_object o) = eqb b o

abbrev pub in_operations : ℕ → List Operation → Bool
in_operations b [] = false
in_operations b (c ∷ cs) = in_operation b c || in_operations b cs

abbrev pub named : Command → ℕ → Bool
named C b = in_conditions b C.conditions || in_operations b C.operations

-- a parameter that no condition and no operation names (document 02, C-11: a spare blank)
abbrev pub spare : Command → ℕ → Bool
spare C b = ltb b C.parameters && not (named C b)

-- two calls of one command of S that differ in actuals of its spare parameters alone
pub record DifferInSpare (S : System) (x y : Call) : Type 0 where
  pub same_command : y.command ≡ x.command
  pub same_actual : (C : Command) → get_elem? S.commands x.command ≡ some C → (b : ℕ) → T (not (spare C b)) → actuals y b ≡ actuals x b
