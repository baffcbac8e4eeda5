-- The model of document 000 (Harrison, Ruzzo, Ullman), section III, as a relation between configurations, clause by clause.
use Rattle.std.specs.Prelude.{◌≡◌, Bool, false, not, ◌&&◌, ◌||◌, List, [], ◌∷◌, ℕ, T, eqb}
use Rattle.protection.specs.State.{Kind, absent, object, subject, is_object, is_subject, State, object_in, subject_in}
use Rattle.protection.specs.Command.{Condition, Operation, enter, delete, create_subject, create_object, destroy_subject, destroy_object, Command, System, Actuals}
use Rattle.protection.specs.Carrying.{Carries}

-- "A configuration of a protection system is a triple (S, O, P), where S is the set of current subjects, O is the set of current objects, S ⊆ O, and
-- P is an access matrix, with a row for every subject in S and a column for every object in O." What P says elsewhere is no part of it.
pub record Configuration : Type 0 where
  pub S : ℕ → Bool
  pub O : ℕ → Bool
  pub P : ℕ → ℕ → ℕ → Bool
  pub subset : (x : ℕ) → T (S x) → T (O x)

pub subject_is_object : (k : Kind) → T (is_subject k) → T (is_object k)
subject_is_object absent t = t
subject_is_object object t = tt
subject_is_object subject t = tt

-- the machine's state as a configuration
abbrev pub configuration : State → Configuration
configuration m = record { S = subject_in m; O = object_in m; P = m.cell; subset = λ x. subject_is_object (m.kind x) }

abbrev pub Equal : (ℕ → Bool) → (ℕ → Bool) → Type 0
Equal A B = (x : ℕ) → A x ≡ B x

abbrev pub with : (ℕ → Bool) → ℕ → ℕ → Bool
with A y x = A x || eqb x y

abbrev pub without : (ℕ → Bool) → ℕ → ℕ → Bool
without A y x = A x && not (eqb x y)

abbrev pub none : ℕ → Bool
none x = false

-- the two are one configuration
pub record Same (C D : Configuration) : Type 0 where
  pub subjects : Equal D.S C.S
  pub objects : Equal D.O C.O
  pub matrix : (s o : ℕ) → T (C.S s) → T (C.O o) → Equal (D.P s o) (C.P s o)

-- "(1) c = enter r into (s,o) and S = S', O = O', s ∈ S, o ∈ O, P'[s₁,o₁] = P[s₁,o₁] if (s₁,o₁) ≠ (s,o) and P'[s,o] = P[s,o] ∪ {r}"
pub record Enter (r s o : ℕ) (C D : Configuration) : Type 0 where
  pub subjects : Equal D.S C.S
  pub objects : Equal D.O C.O
  pub row : T (C.S s)
  pub column : T (C.O o)
  pub others : (s₁ o₁ : ℕ) → T (C.S s₁) → T (C.O o₁) → ((s₁ ≡ s) × (o₁ ≡ o) → ⊥) → Equal (D.P s₁ o₁) (C.P s₁ o₁)
  pub changed : Equal (D.P s o) (with (C.P s o) r)

-- "(2) c = delete r from (s,o) and S = S', O = O', s ∈ S, o ∈ O, P'[s₁,o₁] = P[s₁,o₁] if (s₁,o₁) ≠ (s,o) and P'[s,o] = P[s,o] - {r}"
pub record Delete (r s o : ℕ) (C D : Configuration) : Type 0 where
  pub subjects : Equal D.S C.S
  pub objects : Equal D.O C.O
  pub row : T (C.S s)
  pub column : T (C.O o)
  pub others : (s₁ o₁ : ℕ) → T (C.S s₁) → T (C.O o₁) → ((s₁ ≡ s) × (o₁ ≡ o) → ⊥) → Equal (D.P s₁ o₁) (C.P s₁ o₁)
  pub changed : Equal (D.P s o) (without (C.P s o) r)

-- "(3) c = create subject s', s' is a new symbol not in O, S' = S ∪ {s'}, O' = O ∪ {s'}, P'[s,o] = P[s,o] for all (s,o) in S×O,
-- P'[s',o] = ∅ for all o ∈ O', and P'[s,s'] = ∅ for all s ∈ S'"
pub record CreateSubject (s' : ℕ) (C D : Configuration) : Type 0 where
  pub new : T (C.O s') → ⊥
  pub subjects : Equal D.S (with C.S s')
  pub objects : Equal D.O (with C.O s')
  pub kept : (s o : ℕ) → T (C.S s) → T (C.O o) → Equal (D.P s o) (C.P s o)
  pub row : (o : ℕ) → T (D.O o) → Equal (D.P s' o) none
  pub column : (s : ℕ) → T (D.S s) → Equal (D.P s s') none

-- "(4) c = create object o', o' is a new symbol not in O, S' = S, O' = O ∪ {o'}, P'[s,o] = P[s,o] for all (s,o) in S×O and P'[s,o'] = ∅ for all s ∈ S"
pub record CreateObject (o' : ℕ) (C D : Configuration) : Type 0 where
  pub new : T (C.O o') → ⊥
  pub subjects : Equal D.S C.S
  pub objects : Equal D.O (with C.O o')
  pub kept : (s o : ℕ) → T (C.S s) → T (C.O o) → Equal (D.P s o) (C.P s o)
  pub column : (s : ℕ) → T (C.S s) → Equal (D.P s o') none

-- "(5) c = destroy subject s', where s' ∈ S, S' = S - {s'}, O' = O - {s'}, and P'[s,o] = P[s,o] for all (s,o) ∈ S'×O'"
pub record DestroySubject (s' : ℕ) (C D : Configuration) : Type 0 where
  pub there : T (C.S s')
  pub subjects : Equal D.S (without C.S s')
  pub objects : Equal D.O (without C.O s')
  pub kept : (s o : ℕ) → T (D.S s) → T (D.O o) → Equal (D.P s o) (C.P s o)

-- "(6) c = destroy object o', where o' ∈ O-S, S' = S, O' = O - {o'}, and P'[s,o] = P[s,o] for all (s,o) ∈ S'×O'"
pub record DestroyObject (o' : ℕ) (C D : Configuration) : Type 0 where
  pub there : T (C.O o')
  pub no_subject : T (C.S o') → ⊥
  pub subjects : Equal D.S C.S
  pub objects : Equal D.O (without C.O o')
  pub kept : (s o : ℕ) → T (D.S s) → T (D.O o) → Equal (D.P s o) (C.P s o)

-- (S,O,P) ⇒ (S',O',P') under c, its formal parameters replaced by actual ones
abbrev pub Yields : Operation → Actuals → Configuration → Configuration → Type 0
Yields (enter r s o) a = Enter r (a s) (a o)
Yields (delete r s o) a = Delete r (a s) (a o)
Yields (create_subject s) a = CreateSubject (a s)
Yields (create_object o) a = CreateObject (a o)
Yields (destroy_subject s) a = DestroySubject (a s)
Yields (destroy_object o) a = DestroyObject (a o)

-- "there exist configurations (Sᵢ,Oᵢ,Pᵢ) such that (a) (S,O,P) = (S₀,O₀,P₀), (b) (Sᵢ₋₁,Oᵢ₋₁,Pᵢ₋₁) ⇒ (Sᵢ,Oᵢ,Pᵢ) under cᵢ, and (c) (Sₘ,Oₘ,Pₘ) = (S',O',P')"
abbrev pub YieldsAll : List Operation → Actuals → Configuration → Configuration → Type 0
YieldsAll [] a C D = Same C D
YieldsAll (c ∷ cs) a C D = (E : Configuration) × Yields c a C E × YieldsAll cs a E D

-- "for each (r,s,o) .. we have r ∈ P[s,o]", where P has a row s and a column o
pub record Satisfied (C : Configuration) (r s o : ℕ) : Type 0 where
  pub row : T (C.S s)
  pub column : T (C.O o)
  pub right : T (C.P s o r)

abbrev pub SatisfiedAll : List Condition → Actuals → Configuration → Type 0
SatisfiedAll [] a C = Unit {0}
SatisfiedAll (c ∷ cs) a C = Satisfied C c.right (a c.subject) (a c.object) × SatisfiedAll cs a C

-- (S,O,P) ⊢ (S',O',P') under the command, its formal parameters replaced by actual ones
pub record Executes (C : Command) (a : Actuals) (D E : Configuration) : Type 0 where
  pub conditions : SatisfiedAll C.conditions a D
  pub operations : YieldsAll C.operations a D E

-- ---- with rights that carry others (document 02, C-19): the same relation, but that a condition is read over what the cell's rights carry
-- "some right in the cell carries the one named", where P has a row s and a column o
pub record Met (S : System) (C : Configuration) (r s o : ℕ) : Type 0 where
  pub row : T (C.S s)
  pub column : T (C.O o)
  pub right : (i : ℕ) × T (C.P s o i) × Carries S i r

abbrev pub MetAll : System → List Condition → Actuals → Configuration → Type 0
MetAll S [] a C = Unit {0}
MetAll S (c ∷ cs) a C = Met S C c.right (a c.subject) (a c.object) × MetAll S cs a C

-- without carries it is `Executes` (`executes-plain`)
pub record ExecutesUnder (S : System) (C : Command) (a : Actuals) (D E : Configuration) : Type 0 where
  pub conditions : MetAll S C.conditions a D
  pub operations : YieldsAll C.operations a D E
