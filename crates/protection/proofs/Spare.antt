-- A command sees of its actuals what its conditions and operations name: calls that differ in spare parameters alone come to the same, on names with and
-- without a bound. Assumes nothing.
use mathlib.Core.Path.{◌≡◌, refl, ap, ap₂, ◌∙◌}
use mathlib.Core.Bool.{Bool, true, false, not, ◌&&◌, ◌||◌}
use mathlib.Core.List.{List, [], ◌∷◌}
use mathlib.Core.Option.{Option, none, some}
use mathlib.Core.Logic.{⊎_elim}
use Prim.Native.Nat.{ℕ, ◌≤◌, ◌<◌}
use native.Mathlib.Omega.{arith}
use borrow.Author.Tests.{lt-ltb, le-ltb}
use lib.Dec.{T, eqb, eqb→eq, eqb_refl, ltb, T_not}
use lib.ListN.{get_elem?}
use Rattle.cases.specs.Cases.{pick, all}
use Rattle.cases.proofs.Bools.{or_cases, or_left, or_right}
use Rattle.cases.proofs.Loops.{all_one, all_same}
use Rattle.protection.specs.Limits.{parameters, unused}
use Rattle.protection.specs.State.{State, subject_in, object_in}
use Rattle.protection.specs.Command.{Condition, Operation, enter, delete, create_subject, create_object, destroy_subject, destroy_object, Command, System, Call, Actuals, actuals, in_conditions, in_operation, in_operations, named, spare, DifferInSpare}
use Rattle.protection.specs.Carrying.{meets}
use Rattle.protection.specs.Execution.{hold_all, actual_fits, can_do, put, take_out, effect, enters_new, can_do_all, effect_all, enters_any_new, Outcome, done, gate, execute_command, execute}

-- ---- what names a parameter is not spare
pub named_used : (C : Command) (b : ℕ) → T (named C b) → T (not (spare C b))
named_used C b = go (ltb b C.parameters) (named C b)
  where
    go : (u v : Bool) → T v → T (not (u && not v))
    go true true t = tt
    go true false t = absurd t
    go false v t = tt

pub condition_used : (C : Command) (b : ℕ) → T (in_conditions b C.conditions) → T (not (spare C b))
condition_used C b t = named_used C b (or_left (in_conditions b C.conditions) (in_operations b C.operations) t)

pub operation_used : (C : Command) (b : ℕ) → T (in_operations b C.operations) → T (not (spare C b))
operation_used C b t = named_used C b (or_right (in_conditions b C.conditions) (in_operations b C.operations) t)

-- ---- actuals that fit
module _ (nameable : ℕ → Bool) (C : Command) (a : Actuals) (fit : T (all (actual_fits nameable C a) parameters 0)) where
  used_fits : (b : ℕ) → b < parameters → T (not (spare C b)) → T (pick (ltb b C.parameters) (nameable (a b)) (eqb (a b) unused))
  used_fits b l u =
      ⊎_elim (λ s. absurd (T_not (spare C b) u s)) (λ t. t)
      (or_cases (spare C b) (pick (ltb b C.parameters) (nameable (a b)) (eqb (a b) unused)) (all_one (actual_fits nameable C a) parameters 0 fit b (omega arith) (omega arith)))

  -- a parameter that is not spare has a name
  pub fits_name : C.parameters ≤ parameters → (b : ℕ) → b < C.parameters → T (not (spare C b)) → T (nameable (a b))
  fits_name few b l u = rw (lt-ltb b C.parameters l) at (used_fits b (omega arith) u)

  -- a position that the command does not use holds 255
  pub fits_rest : (b : ℕ) → C.parameters ≤ b → b < parameters → a b ≡ unused
  fits_rest b l h =
      let z : ltb b C.parameters ≡ false = le-ltb b C.parameters l in
      eqb→eq (a b) unused (rw z at (used_fits b h (rw z tt)))

-- ---- two choices of actuals
module _ (a b : Actuals) where
  -- the conditions see what they name
  pub hold_same : (S : System) (m : State) (cs : List Condition) → ((i : ℕ) → T (in_conditions i cs) → b i ≡ a i) → hold_all S m b cs ≡ hold_all S m a cs
  hold_same S m [] e = refl
  hold_same S m (c ∷ cs) e =
      let s : b c.subject ≡ a c.subject = e c.subject
      (or_left (eqb c.subject c.subject || eqb c.subject c.object) (in_conditions c.subject cs) (or_left (eqb c.subject c.subject) (eqb c.subject c.object) (eqb_refl c.subject))) in
      let o : b c.object ≡ a c.object = e c.object
      (or_left (eqb c.object c.subject || eqb c.object c.object) (in_conditions c.object cs) (or_right (eqb c.object c.subject) (eqb c.object c.object) (eqb_refl c.object))) in
      ap₂ ◌&&◌ (ap₂ (λ (x y : ℕ). (subject_in m x && object_in m y) && meets S (m.cell x y) c.right) s o)
      (hold_same S m cs (λ i t. e i (or_right (eqb i c.subject || eqb i c.object) (in_conditions i cs) t)))

  -- an operation does, with b, what it does with a
  pub record Alike (c : Operation) : Type 0 where
    pub can : (m : State) → can_do m b c ≡ can_do m a c
    pub left : (m : State) → effect m b c ≡ effect m a c
    pub new : (m : State) (r : ℕ) → enters_new m b c r ≡ enters_new m a c r

  pub operation_alike : (c : Operation) → ((i : ℕ) → T (in_operation i c) → b i ≡ a i) → Alike c
  operation_alike (enter q s o) e =
      let es : b s ≡ a s = e s (or_left (eqb s s) (eqb s o) (eqb_refl s)) in
      let eo : b o ≡ a o = e o (or_right (eqb o s) (eqb o o) (eqb_refl o)) in
      record {
        can = λ m. ap₂ (λ (x y : ℕ). subject_in m x && object_in m y) es eo;
        left = λ m. ap₂ (put m q) es eo;
        new = λ m r. ap₂ (λ (x y : ℕ). eqb q r && not (m.cell x y r)) es eo;
      }
  operation_alike (delete q s o) e =
      let es : b s ≡ a s = e s (or_left (eqb s s) (eqb s o) (eqb_refl s)) in
      let eo : b o ≡ a o = e o (or_right (eqb o s) (eqb o o) (eqb_refl o)) in
      record { can = λ m. ap₂ (λ (x y : ℕ). subject_in m x && object_in m y) es eo; left = λ m. ap₂ (take_out m q) es eo; new = λ m r. refl }
  operation_alike (create_subject s) e = let es = e s (eqb_refl s) in record { can = λ m. rw es; left = λ m. rw es; new = λ m r. refl }
  operation_alike (create_object o) e = let eo = e o (eqb_refl o) in record { can = λ m. rw eo; left = λ m. rw eo; new = λ m r. refl }
  operation_alike (destroy_subject s) e = let es = e s (eqb_refl s) in record { can = λ m. rw es; left = λ m. rw es; new = λ m r. refl }
  operation_alike (destroy_object o) e = let eo = e o (eqb_refl o) in record { can = λ m. rw eo; left = λ m. rw eo; new = λ m r. refl }

  record AllAlike (cs : List Operation) : Type 0 where
    can : (m : State) → can_do_all m b cs ≡ can_do_all m a cs
    left : (m : State) → effect_all m b cs ≡ effect_all m a cs
    new : (m : State) (r : ℕ) → enters_any_new m b cs r ≡ enters_any_new m a cs r

  operations_alike : (cs : List Operation) → ((i : ℕ) → T (in_operations i cs) → b i ≡ a i) → AllAlike cs
  operations_alike [] e = record { can = λ m. refl; left = λ m. refl; new = λ m r. refl }
  operations_alike (c ∷ cs) e =
      let one = operation_alike c (λ i t. e i (or_left (in_operation i c) (in_operations i cs) t)) in
      let rest = operations_alike cs (λ i t. e i (or_right (in_operation i c) (in_operations i cs) t)) in
      record {
        can = λ m. ap₂ ◌&&◌ (one.can m) (ap (λ (n : State). can_do_all n b cs) (one.left m) ∙ rest.can (effect m a c));
        left = λ m. ap (λ (n : State). effect_all n b cs) (one.left m) ∙ rest.left (effect m a c);
        new = λ m r. ap₂ ◌||◌ (one.new m r) (ap (λ (n : State). enters_any_new n b cs r) (one.left m) ∙ rest.new (effect m a c) r);
      }

-- ---- a command with actuals that differ in its spare parameters alone
module _ (nameable : ℕ → Bool) (S : System) (m : State) (C : Command) (a b : Actuals) (e : (i : ℕ) → T (not (spare C i)) → b i ≡ a i) where
  fits_same : (i : ℕ) → actual_fits nameable C b i ≡ actual_fits nameable C a i
  fits_same i = go (spare C i) (λ t. e i t)
    where
      go : (s : Bool) → (T (not s) → b i ≡ a i)
          → s || pick (ltb i C.parameters) (nameable (b i)) (eqb (b i) unused) ≡ s || pick (ltb i C.parameters) (nameable (a i)) (eqb (a i) unused)
      go true h = refl
      go false h = ap (λ (x : ℕ). pick (ltb i C.parameters) (nameable x) (eqb x unused)) (h tt)

  pub command_same : execute_command nameable S m (some C) b ≡ execute_command nameable S m (some C) a
  command_same =
      let ops = operations_alike a b C.operations (λ i t. e i (operation_used C i t)) in
      let out : done (effect_all m b C.operations) (enters_any_new m b C.operations) ≡ done (effect_all m a C.operations) (enters_any_new m a C.operations) =
      λ i. done (ops.left m i) (λ r. ops.new m r i) in
      ap₂ (λ (u v : Bool). gate u 12 (gate v 14 (gate (can_do_all m b C.operations) 15 (done (effect_all m b C.operations) (enters_any_new m b C.operations)))))
      (all_same (actual_fits nameable C b) (actual_fits nameable C a) parameters 0 (λ i _ _. fits_same i)) (hold_same a b S m C.conditions (λ i t. e i (condition_used C i t)))
      ∙ ap₂ (λ (u : Bool) (o : Outcome). gate (all (actual_fits nameable C a) parameters 0) 12 (gate (hold_all S m a C.conditions) 14 (gate u 15 o))) (ops.can m) out

-- Document 02, C-11: job numbers in spare blanks change nothing of what a call comes to.
pub spare_ignored : (nameable : ℕ → Bool) (S : System) (m : State) (x y : Call) → DifferInSpare S x y → execute nameable S m y ≡ execute nameable S m x
spare_ignored nameable S m x y D =
    ap (λ (i : ℕ). execute_command nameable S m (get_elem? S.commands i) (actuals y)) D.same_command ∙ go (get_elem? S.commands x.command) refl
  where
    go : (w : Option Command) → get_elem? S.commands x.command ≡ w → execute_command nameable S m w (actuals y) ≡ execute_command nameable S m w (actuals x)
    go none d = refl
    go (some C) d = command_same nameable S m C (actuals x) (actuals y) (D.same_actual C d)
