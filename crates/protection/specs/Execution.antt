-- Running a command (document 01, "Running a rule"), on names with or without a bound.
use Rattle.std.specs.Prelude.{Bool, true, false, not, ◌&&◌, ◌||◌, List, [], ◌∷◌, ℕ, eqb, ltb}
use Rattle.std.proofs.Math.Option.{Option, none, some}
use Rattle.std.proofs.Math.ListN.{get_elem?}
use Rattle.cases.specs.Cases.{pick, all}
use Rattle.protection.specs.Limits.{names, parameters, unused}
use Rattle.protection.specs.State.{Kind, absent, object, subject, State, object_in, subject_in}
use Rattle.protection.specs.Command.{Condition, Operation, enter, delete, create_subject, create_object, destroy_subject, destroy_object, Command, System, Call, Actuals, actuals, spare}
use Rattle.protection.specs.Carrying.{meets}

-- which numbers a call may give as names: on the file's matrix those below 32, on the printer's machine all
abbrev pub bounded : ℕ → Bool
bounded x = ltb x names

abbrev pub unbounded : ℕ → Bool
unbounded x = true

-- ---- conditions
-- "the subject blank's name is a subject, the object blank's exists", and "some right in the cell carries the one named" (document 02, C-19)
abbrev pub holds : System → State → Actuals → Condition → Bool
holds S m a c = (subject_in m (a c.subject) && object_in m (a c.object)) && meets S (m.cell (a c.subject) (a c.object)) c.right

abbrev pub hold_all : System → State → Actuals → List Condition → Bool
hold_all S m a [] = true
hold_all S m a (c ∷ cs) = holds S m a c && hold_all S m a cs

-- a blank that no condition and no step names "takes any byte" (document 02, C-11); the others have names, and "positions from k on hold 255"
abbrev pub actual_fits : (ℕ → Bool) → Command → Actuals → ℕ → Bool
actual_fits nameable C a b = spare C b || pick (ltb b C.parameters) (nameable (a b)) (eqb (a b) unused)

-- ---- operations
-- "enter, delete: the first name is a subject and the second exists"; create: "the name must be absent";
-- "destroy subject: it must be a subject; destroy object: it must exist and be no subject"
abbrev pub can_do : State → Actuals → Operation → Bool
can_do m a (enter q s o) = subject_in m (a s) && object_in m (a o)
can_do m a (delete q s o) = subject_in m (a s) && object_in m (a o)
can_do m a (create_subject s) = not (object_in m (a s))
can_do m a (create_object o) = not (object_in m (a o))
can_do m a (destroy_subject s) = subject_in m (a s)
can_do m a (destroy_object o) = object_in m (a o) && not (subject_in m (a o))

abbrev pub same_cell : ℕ → ℕ → ℕ → ℕ → Bool
same_cell s o s' o' = eqb s s' && eqb o o'

abbrev pub put : State → ℕ → ℕ → ℕ → State
put m q s o = record { kind = m.kind; cell = λ s' o' q'. (same_cell s' o' s o && eqb q' q) || m.cell s' o' q' }

abbrev pub take_out : State → ℕ → ℕ → ℕ → State
take_out m q s o = record { kind = m.kind; cell = λ s' o' q'. not (same_cell s' o' s o && eqb q' q) && m.cell s' o' q' }

-- name n gets the kind k, and its row and its column are empty
abbrev pub renew : State → ℕ → Kind → State
renew m n k = record { kind = λ x. pick (eqb x n) k (m.kind x); cell = λ s o q. not (eqb s n || eqb o n) && m.cell s o q }

abbrev pub effect : State → Actuals → Operation → State
effect m a (enter q s o) = put m q (a s) (a o)
effect m a (delete q s o) = take_out m q (a s) (a o)
effect m a (create_subject s) = renew m (a s) subject
effect m a (create_object o) = renew m (a o) object
effect m a (destroy_subject s) = renew m (a s) absent
effect m a (destroy_object o) = renew m (a o) absent

-- the operation enters r into a cell that lacks it
abbrev pub enters_new : State → Actuals → Operation → ℕ → Bool
enters_new m a (enter q s o) r = eqb q r && not (m.cell (a s) (a o) r)
enters_new m a (delete q s o) r = false
enters_new m a (create_subject s) r = false
enters_new m a (create_object o) r = false
enters_new m a (destroy_subject s) r = false
enters_new m a (destroy_object o) r = false

-- "Then steps, each on what the one before left"
abbrev pub can_do_all : State → Actuals → List Operation → Bool
can_do_all m a [] = true
can_do_all m a (c ∷ cs) = can_do m a c && can_do_all (effect m a c) a cs

abbrev pub effect_all : State → Actuals → List Operation → State
effect_all m a [] = m
effect_all m a (c ∷ cs) = effect_all (effect m a c) a cs

abbrev pub enters_any_new : State → Actuals → List Operation → ℕ → Bool
enters_any_new m a [] r = false
enters_any_new m a (c ∷ cs) r = enters_new m a c r || enters_any_new (effect m a c) a cs r

-- ---- a rule run
-- refused with document 01's number; or done, with the next state and, of each right, whether some operation entered it into a cell that lacked it
pub data Outcome : Type 0 where
  refused : ℕ → Outcome
  done : State → (ℕ → Bool) → Outcome

abbrev pub gate : Bool → ℕ → Outcome → Outcome
gate true n o = o
gate false n o = refused n

-- 11 no such rule; 12 an actual above 31 in a named blank or not 255 from k on; 14 a condition not held; 15 a step that cannot be done. 13 is given by nobody
-- since a spare blank takes any byte.
abbrev pub execute_command : (ℕ → Bool) → System → State → Option Command → Actuals → Outcome
execute_command nameable S m none a = refused 11
execute_command nameable S m (some C) a =
    gate (all (actual_fits nameable C a) parameters 0) 12
    (gate (hold_all S m a C.conditions) 14
    (gate (can_do_all m a C.operations) 15
    (done (effect_all m a C.operations) (enters_any_new m a C.operations))))

abbrev pub execute : (ℕ → Bool) → System → State → Call → Outcome
execute nameable S m x = execute_command nameable S m (get_elem? S.commands x.command) (actuals x)
