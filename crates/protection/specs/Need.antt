-- What a press needs (document 02, C-14): cells that are held at the same moment, and runs that destroy no name of the start.
use Rattle.std.specs.Prelude.{◌≡◌, Bool, true, false, not, ◌&&◌, ◌||◌, List, [], ◌∷◌, ◌++◌, ℕ, T}
use Rattle.std.proofs.Math.Option.{Option, none, some}
use Rattle.std.proofs.Math.ListN.{get_elem?}
use Rattle.protection.specs.State.{State, object_in, subject_in}
use Rattle.protection.specs.Command.{Operation, enter, delete, create_subject, create_object, destroy_subject, destroy_object, Command, System, Call, Actuals, actuals}
use Rattle.protection.specs.Execution.{unbounded, Outcome, refused, done, execute}
use Rattle.protection.specs.Leak.{after, is_refused, any_refused}
use Rattle.protection.specs.Judge.{none_reserved, Question, all_rounds}

-- "cells .. each given as three bytes: right, subject, name"
pub record Cell : Type 0 where
  pub right : ℕ
  pub subject : ℕ
  pub object : ℕ

-- none is refused for "a first name that is no subject at the start, or a second that is absent then"
abbrev pub CellsThere : List Cell → State → Type 0
CellsThere [] m = Unit {0}
CellsThere (c ∷ cs) m = T (subject_in m c.subject) × T (object_in m c.object) × CellsThere cs m

-- the state "holds them all"
abbrev pub holds_all : List Cell → State → Bool
holds_all [] m = true
holds_all (c ∷ cs) m = m.cell c.subject c.object c.right && holds_all cs m

-- ---- what ends the rounds
abbrev pub holds_then : List Cell → Outcome → Bool
holds_then cs (refused n) = false
holds_then cs (done m new) = holds_all cs m

-- "up to the first matrix that holds them all (0 steps if the start does)"
abbrev pub held_beside : (ℕ → Bool) → List Cell → Question
held_beside R cs = record { at_start = holds_all cs; by_step = holds_then cs; reserved = R }

abbrev pub held_of : List Cell → Question
held_of cs = held_beside none_reserved cs

-- "no right is judged, so no enter ends the steps early"
abbrev pub nothing_beside : (ℕ → Bool) → Question
nothing_beside R = record { at_start = λ m. false; by_step = λ o. false; reserved = R }

abbrev pub nothing : Question
nothing = nothing_beside none_reserved

-- ---- runs
-- the state that a run leaves
unfoldable pub final : (ℕ → Bool) → System → State → List Call → State
final nameable S m [] = m
final nameable S m (x ∷ xs) = final nameable S (after (execute nameable S m x) m) xs

-- the operation destroys a name that exists at the start m₀
abbrev pub destroys_old : State → Actuals → Operation → Bool
destroys_old m₀ a (enter q s o) = false
destroys_old m₀ a (delete q s o) = false
destroys_old m₀ a (create_subject s) = false
destroys_old m₀ a (create_object o) = false
destroys_old m₀ a (destroy_subject s) = object_in m₀ (a s)
destroys_old m₀ a (destroy_object o) = object_in m₀ (a o)

abbrev pub destroys_any_old : State → Actuals → List Operation → Bool
destroys_any_old m₀ a [] = false
destroys_any_old m₀ a (c ∷ cs) = destroys_old m₀ a c || destroys_any_old m₀ a cs

-- the operations of a command; a number without one is refused, and does nothing
abbrev pub operations_of : Option Command → List Operation
operations_of none = []
operations_of (some C) = C.operations

-- some call of the run that is carried out destroys a name that exists at the start m₀
unfoldable pub destroys_start : (ℕ → Bool) → System → State → State → List Call → Bool
destroys_start nameable S m₀ m [] = false
destroys_start nameable S m₀ m (x ∷ xs) =
    (not (is_refused (execute nameable S m x)) && destroys_any_old m₀ (actuals x) (operations_of (get_elem? S.commands x.command)))
    || destroys_start nameable S m₀ (after (execute nameable S m x) m) xs

-- ---- the answers, of the rules S, the cells cs and the start m
-- "the judge's steps, in its order, up to the first matrix that holds them all"
pub record HeldAfter (S : System) (cs : List Cell) (m : State) (steps : List Call) : Type 0 where
  -- a front of the rounds' steps, which nothing ended
  pub front : (rest : List Call) × ((all_rounds S nothing m).steps ≡ steps ++ rest)
  -- none of which is refused
  pub carried : T (any_refused unbounded S m steps) → ⊥
  pub held : T (holds_all cs (final unbounded S m steps))
  -- the shortest such front
  pub sooner : (ys zs : List Call) → steps ≡ ys ++ zs → T (holds_all cs (final unbounded S m ys)) → zs ≡ []

-- "no finite run that destroys no starting name ends with all of them held; all the steps of the rounds then stand in the buffer"
pub record NeverHeld (S : System) (cs : List Cell) (m : State) (steps : List Call) : Type 0 where
  pub all-steps : steps ≡ (all_rounds S nothing m).steps
  pub never : (xs : List Call) → (T (destroys_start unbounded S m m xs) → ⊥) → T (holds_all cs (final unbounded S m xs)) → ⊥
