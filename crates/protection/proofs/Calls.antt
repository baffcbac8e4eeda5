-- A call of a command of one operation: it is carried out exactly where its actuals fit, its conditions hold and its operation can be done, with or
-- without a bound on names. Assumes nothing.
use mathlib.Core.Path.{◌≡◌, refl, sym, ap, ◌∙◌, subst}
use mathlib.Core.Bool.{Bool, true, false, not, ◌||◌, or-false}
use mathlib.Core.List.{List, [], ◌∷◌}
use mathlib.Core.Option.{Option, none, some}
use mathlib.Core.Logic.{⊎_elim}
use Prim.Native.Nat.{ℕ, ◌≤◌, ◌<◌}
use lib.Dec.{T, eqb, eqb→eq, ltb→lt}
use lib.ListN.{get_elem?}
use Rattle.cases.specs.Cases.{all}
use Rattle.cases.proofs.Bools.{and_left, and_intro, or_cases, or_left}
use Rattle.protection.specs.Limits.{names, parameters}
use Rattle.protection.specs.State.{State}
use Rattle.protection.specs.Command.{Condition, Operation, enter, delete, create_subject, create_object, destroy_subject, destroy_object, Command, System, Call, Actuals, actuals, in_conditions, in_operation, in_operations}
use Rattle.protection.specs.Execution.{bounded, hold_all, actual_fits, can_do, effect, enters_new, can_do_all, effect_all, enters_any_new, Outcome, refused, done, execute_command, execute}
use Rattle.protection.specs.Leak.{is_refused}
use Rattle.protection.specs.Judge.{operation_in, allowed}
use Rattle.protection.proofs.Model.{gates_open, gates_elim}
use Rattle.protection.proofs.Spare.{operation_used, fits_name}

-- ---- commands as the judge takes them
abbrev pub ConditionsBelow : ℕ → List Condition → Type 0
ConditionsBelow k [] = Unit {0}
ConditionsBelow k (c ∷ cs) = (c.subject < k) × (c.object < k) × ConditionsBelow k cs

-- the operation's parameters are below k, its right below g
abbrev pub OperationBelow : ℕ → ℕ → Operation → Type 0
OperationBelow k g (enter q s o) = (q < g) × (s < k) × (o < k)
OperationBelow k g (delete q s o) = (q < g) × (s < k) × (o < k)
OperationBelow k g (create_subject s) = s < k
OperationBelow k g (create_object o) = o < k
OperationBelow k g (destroy_subject s) = s < k
OperationBelow k g (destroy_object o) = o < k

-- a command of one operation, in a system with g rights
pub record Single (g : ℕ) (C : Command) : Type 0 where
  pub few : C.parameters ≤ parameters
  pub conditions_fit : ConditionsBelow C.parameters C.conditions
  pub one-operation : C.operations ≡ operation_in C ∷ []
  pub operation-fits : OperationBelow C.parameters g (operation_in C)

abbrev pub Singles : System → Type 0
Singles S = (i : ℕ) (C : Command) → get_elem? S.commands i ≡ some C → Single S.rights C

-- C is a command of S, and c its operation
pub record Has (S : System) (C : Command) (c : Operation) : Type 0 where
  pub place : ℕ
  pub found : get_elem? S.commands place ≡ some C
  pub is : operation_in C ≡ c

-- ---- what a call needs to be carried out
-- its conditions hold
abbrev pub ready : System → Command → State → Actuals → Bool
ready S C m a = hold_all S m a C.conditions

pub record Carried (nameable : ℕ → Bool) (S : System) (C : Command) (m : State) (a : Actuals) : Type 0 where
  pub fits : T (all (actual_fits nameable C a) parameters 0)
  pub able : T (ready S C m a)
  pub can : T (can_do m a (operation_in C))

-- ---- the parameters that a command names are its own, and none of them is spare
pub conditions_below : (k b : ℕ) (cs : List Condition) → ConditionsBelow k cs → T (in_conditions b cs) → b < k
conditions_below k b [] l t = absurd t
conditions_below k b (c ∷ cs) l t =
    ⊎_elim (λ u. ⊎_elim (λ s. rw (eqb→eq b c.subject s) l.0) (λ o. rw (eqb→eq b c.object o) l.1) (or_cases (eqb b c.subject) (eqb b c.object) u))
    (conditions_below k b cs l.2) (or_cases (eqb b c.subject || eqb b c.object) (in_conditions b cs) t)

pub operation_below : (k g b : ℕ) (c : Operation) → OperationBelow k g c → T (in_operation b c) → b < k
operation_below k g b (enter q s o) l t = ⊎_elim (λ u. rw (eqb→eq b s u) l.1) (λ u. rw (eqb→eq b o u) l.2) (or_cases (eqb b s) (eqb b o) t)
operation_below k g b (delete q s o) l t = ⊎_elim (λ u. rw (eqb→eq b s u) l.1) (λ u. rw (eqb→eq b o u) l.2) (or_cases (eqb b s) (eqb b o) t)
operation_below k g b (create_subject s) l t = rw (eqb→eq b s t) l
operation_below k g b (create_object o) l t = rw (eqb→eq b o t) l
operation_below k g b (destroy_subject s) l t = rw (eqb→eq b s t) l
operation_below k g b (destroy_object o) l t = rw (eqb→eq b o t) l

pub one_named : (g : ℕ) (C : Command) → Single g C → (b : ℕ) → T (in_operation b (operation_in C)) → T (in_operations b C.operations)
one_named g C F b t = rw F.one-operation (or_left (in_operation b (operation_in C)) false t)

-- bounded names: a parameter of the operation has a name below 32
pub carried_small : (S : System) (C : Command) → Single S.rights C → (m : State) (a : Actuals) → Carried bounded S C m a → (b : ℕ) → T (in_operation b (operation_in C)) → a b < names
carried_small S C F m a K b op =
    ltb→lt (a b) names
    (fits_name bounded C a K.fits F.few b (operation_below C.parameters S.rights b (operation_in C) F.operation-fits op) (operation_used C b (one_named S.rights C F b op)))

-- ---- what it comes to
abbrev pub outcome : Command → State → Actuals → Outcome
outcome C m a = done (effect m a (operation_in C)) (enters_new m a (operation_in C))

module _ (S : System) (singles : Singles S) (nameable : ℕ → Bool) (m : State) (x : Call) where
  abbrev a : Actuals
  a = actuals x

  -- the operations of a command, as the one that there is
  alone : (C : Command) → Single S.rights C → done (effect_all m a C.operations) (enters_any_new m a C.operations) ≡ outcome C m a
  alone C F = rw F.one-operation (λ i. done (effect m a (operation_in C)) (λ r. or-false (enters_new m a (operation_in C) r) i))

  pub call_cases : (P : Outcome → Type 0) → ((n : ℕ) → P (refused n))
      → ((C : Command) → get_elem? S.commands x.command ≡ some C → Carried nameable S C m a → P (outcome C m a)) → P (execute nameable S m x)
  call_cases P no_run run = go (get_elem? S.commands x.command) refl
    where
      go : (w : Option Command) → get_elem? S.commands x.command ≡ w → P (execute_command nameable S m w a)
      go none e = no_run 11
      go (some C) e =
          let F = singles x.command C e in
          gates_elim P (all (actual_fits nameable C a) parameters 0) (hold_all S m a C.conditions) (can_do_all m a C.operations)
          (done (effect_all m a C.operations) (enters_any_new m a C.operations)) no_run
          (λ fit hold can. subst P (sym (alone C F)) (run C e (record {
            fits = fit;
            able = hold;
            can = and_left (can_do m a (operation_in C)) true (rw F.one-operation at can);
          })))

  module _ (C : Command) (found : get_elem? S.commands x.command ≡ some C) where
    pub call_done : Carried nameable S C m a → execute nameable S m x ≡ outcome C m a
    call_done K =
        let F = singles x.command C found in
        ap (λ (w : Option Command). execute_command nameable S m w a) found
        ∙ gates_open (all (actual_fits nameable C a) parameters 0) (hold_all S m a C.conditions) (can_do_all m a C.operations)
        (done (effect_all m a C.operations) (enters_any_new m a C.operations)) K.fits K.able
        (rw F.one-operation (and_intro (can_do m a (operation_in C)) true K.can tt))
        ∙ alone C F

    pub call_carried : T (not (is_refused (execute nameable S m x))) → Carried nameable S C m a
    call_carried = call_cases (λ o. T (not (is_refused o)) → Carried nameable S C m a) (λ n t. absurd t) (λ D e K _. let same : D ≡ C = cc in rw same at K)

-- ---- a call that the judge allows
module _ (S : System) (singles : Singles S) (m : State) (x : Call) (C : Command) (found : get_elem? S.commands x.command ≡ some C) where
  pub allowed_carried : T (allowed S m x) → Carried bounded S C m (actuals x)
  allowed_carried = call_carried S singles bounded m x C found

  pub carried_allowed : Carried bounded S C m (actuals x) → T (allowed S m x)
  carried_allowed K = rw (call_done S singles bounded m x C found K) tt
