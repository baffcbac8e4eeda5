-- The loop over a command's operations, and a whole call. Assumes nothing.
use Rattle.std.specs.Prelude.{Option, Some, None, is_some}
use Prim.Native.Nat.{ℕ, ◌+◌, ◌-◌, ◌≤◌, ◌<◌}
use mathlib.Core.Path.{◌≡◌, refl, sym, ap, ap₂, ◌∙◌, subst}
use mathlib.Core.Bool.{Bool, true, false, not, ◌||◌, or-false}
use mathlib.Core.List.{List, [], ◌∷◌}
use mathlib.Core.Option.{some}
use native.Mathlib.Nat.{sub-zero}
use native.Mathlib.Omega.{arith}
use borrow.Author.Tests.{not-true, not-false}
use lib.Dec.{T, eqb, eqb_refl, ltb→lt}
use lib.ListN.{get_or}
use Rattle.cases.specs.Cases.{pick, all, tabulate}
use Rattle.cases.proofs.Bools.{holds as test-holds, or_left, or_right}
use Rattle.protection.specs.Limits.{names, rights, parameters}
use Rattle.protection.specs.State.{State}
use Rattle.protection.specs.Command.{Operation as ModelOperation, System, values_of, in_operation, named}
use Rattle.protection.specs.Execution.{bounded, hold_all, actual_fits, can_do, effect, enters_new, can_do_all, effect_all, enters_any_new, Outcome, refused, done, execute_command}
use Rattle.protection.specs.Leak.{after}
use Rattle.matrix.specs.Bytes.{view}
use Rattle.matrix.specs.Canonical.{Canonical}
use Rattle.matrix.specs.Matrices.{state_of}
use Rattle.matrix.specs.declared.Matrix.{Matrix}
use Rattle.carries.specs.Meeting.{MetBy}
use Rattle.commands.specs.Contents.{operation_at, step_of, operations_from, model_of, condition_of, meaning}
use Rattle.commands.specs.Fits.{Fits}
use Rattle.commands.specs.declared.Command.{Command}
use Rattle.commands.specs.declared.Operation.{Operation}
use Rattle.commands.specs.declared.Operation.TheVariants.{Enter, Delete, CreateSubject, CreateObject, DestroySubject, DestroyObject}
use Rattle.operations.specs.Operations.{HasName, Applies, performed}
use Rattle.execution.specs.Conditions.{ConditionsApply, AllHeldBy}
use Rattle.execution.specs.Runs.{OperationsApply, ran_told, RanAs, Answer, Refused, Done, Leaked, answer_of, executed_of, ExecutedAs, RunBy}
use Rattle.protection.proofs.Spare.{named_used, fits_name}
use Rattle.protection.proofs.Calls.{OperationBelow}
use Rattle.commands.proofs.Names.{condition_names, operation_names}
use Rattle.commands.proofs.Reading.{operation_more, operation_limits}
use Rattle.operations.proofs.Applied.{Grants, can_by_kinds, performed_state, performed_canonical}

-- ---- operations that apply
grants : (a : List ℕ) (op : Operation) → Applies a op → Grants rights op
grants a (Enter q s o) h = h.0
grants a (Delete q s o) h = h.0
grants a (CreateSubject s) h = tt
grants a (CreateObject o) h = tt
grants a (DestroySubject s) h = tt
grants a (DestroyObject o) h = tt

pub applies_at : (a : List ℕ) (c : Command) (j : ℕ) (op : Operation) → OperationsApply a c → j < c.operations → step_of op ≡ operation_at c j → Applies a op
applies_at a c j op h l e = h.all j op l e

-- ---- what is left of the operations, from where the loop stands, is the whole
pub record Going (right : ℕ) (m : Matrix) (a : List ℕ) (c : Command) (j : ℕ) (x : Matrix) (leaked : Bool) : Type 0 where
  pub able : can_do_all (state_of x) (values_of a) (operations_from c (c.operations - j) j) ≡ can_do_all (state_of m) (values_of a) (operations_from c c.operations 0)
  pub leak : leaked || enters_any_new (state_of x) (values_of a) (operations_from c (c.operations - j) j) right ≡ enters_any_new (state_of m) (values_of a) (operations_from c c.operations 0) right
  pub state : effect_all (state_of x) (values_of a) (operations_from c (c.operations - j) j) ≡ effect_all (state_of m) (values_of a) (operations_from c c.operations 0)
  pub canonical : Canonical rights x.kinds x.cells
  pub first : j ≡ 0 → x ≡ m

pub going_start : (right : ℕ) (m : Matrix) (a : List ℕ) (c : Command) → Canonical rights m.kinds m.cells → Going right m a c 0 m false
going_start right m a c K = record { able = rw sub-zero; leak = rw sub-zero; state = rw sub-zero; canonical = K; first = λ _. refl }

module _ (right : ℕ) (m : Matrix) (a : List ℕ) (c : Command) (j : ℕ) (x : Matrix) (leaked : Bool) (G : Going right m a c j x leaked)
    (l : j < c.operations) (op : Operation) (e : step_of op ≡ operation_at c j) (r : Bool) (d : r ≡ can_do (view x.kinds []) (values_of a) (model_of op)) where
  unrolled : operations_from c (c.operations - j) j ≡ model_of op ∷ operations_from c (c.operations - (j + 1)) (j + 1)
  unrolled = operation_more c c.operations j l op e

  can_here : r ≡ can_do (state_of x) (values_of a) (model_of op)
  can_here = d ∙ can_by_kinds x.kinds [] x.cells (values_of a) op

  pub going_stop : not r ≡ true → RanAs right m a c x (ran_told None) (c.operations ≡ 1)
  going_stop t =
      let z : can_do (state_of x) (values_of a) (model_of op) ≡ false = sym can_here ∙ not-true r t in
      let w : can_do_all (state_of x) (values_of a) (operations_from c (c.operations - j) j) ≡ false = ap (can_do_all (state_of x) (values_of a)) unrolled ∙ rw z in
      record { able = sym w ∙ G.able; leak = λ q. absurd (never q); state = λ q. absurd (never q); canonical = G.canonical; none = λ _ one. G.first (omega arith) }
    where
      never : ◌≡◌ {A = Bool} false true → ⊥
      never q = let z : ◌≡◌ {A = ℕ} 0 1 = cc in omega arith

  pub going_more : OperationsApply a c → not r ≡ false → (b : Bool) → b ≡ enters_new (view x.kinds x.cells) (values_of a) (model_of op) right → (y : Matrix) → y ≡ performed x (values_of a) op
      → Going right m a c (j + 1) y (leaked || b)
  going_more h t b db y dy =
      let z : can_do (state_of x) (values_of a) (model_of op) ≡ true = sym can_here ∙ not-false r t in
      let can : T (can_do (state_of x) (values_of a) (model_of op)) = test-holds (can_do (state_of x) (values_of a) (model_of op)) z in
      let ap-op = applies_at a c j op h l e in
      let gr = grants a op ap-op in
      let st : state_of y ≡ effect (state_of x) (values_of a) (model_of op) =
      ap state_of dy ∙ performed_state rights x G.canonical a op ap-op gr can in
      let nw : b ≡ enters_new (state_of x) (values_of a) (model_of op) right = db in
      record {
        able = ap (λ (s : State). can_do_all s (values_of a) rest) st ∙ sym (ap (can_do_all (state_of x) (values_of a)) unrolled ∙ rw z) ∙ G.able;
        leak =
            ap₂ (λ (u : Bool) (s : State). (leaked || u) || enters_any_new s (values_of a) rest right) nw st
            ∙ or_assoc leaked (enters_new (state_of x) (values_of a) (model_of op) right) (enters_any_new (effect (state_of x) (values_of a) (model_of op)) (values_of a) rest right)
            ∙ ap (λ (ops : List ModelOperation). leaked || enters_any_new (state_of x) (values_of a) ops right) (sym unrolled) ∙ G.leak;
        state = ap (λ (s : State). effect_all s (values_of a) rest) st ∙ ap (effect_all (state_of x) (values_of a)) (sym unrolled) ∙ G.state;
        canonical = subst (λ (w : Matrix). Canonical rights w.kinds w.cells) (sym dy) (performed_canonical rights x G.canonical a op ap-op gr can);
        first = λ q. absurd (omega arith);
      }
    where
      rest : List ModelOperation
      rest = operations_from c (c.operations - (j + 1)) (j + 1)

      or_assoc : (u v w : Bool) → (u || v) || w ≡ u || (v || w)
      or_assoc true v w = refl
      or_assoc false v w = refl

pub going_end : (right : ℕ) (m : Matrix) (a : List ℕ) (c : Command) (j : ℕ) (x : Matrix) (leaked : Bool) → Going right m a c j x leaked → c.operations ≤ j
    → RanAs right m a c x (ran_told (Some leaked)) (c.operations ≡ 1)
going_end right m a c j x leaked G h =
    let z : c.operations - j ≡ 0 = omega arith in
    record {
      able = rw z at G.able;
      leak = λ _. sym (or-false leaked) ∙ (rw z at G.leak);
      state = λ _. rw z at G.state;
      canonical = G.canonical;
      none = λ q. absurd (let y : ◌≡◌ {A = ℕ} 0 1 = cc in omega arith);
    }

-- ---- all or none
module _ (right : ℕ) (m : Matrix) (a : List ℕ) (c : Command) (y : Matrix) (w : Option Bool) (h : RanAs right m a c y (ran_told w) (c.operations ≡ 1)) where
  pub all_one : c.operations ≡ 1 → RanAs right m a c y (ran_told w) (Unit {0})
  all_one one = record { able = h.able; leak = h.leak; state = h.state; canonical = h.canonical; none = λ q _. h.none q one }

  module _ (b : Bool) (e : is_some w ≡ not b) where
    told : (v : Option Bool) → (ran_told v).done ≡ is_some v
    told None = refl
    told (Some leaked) = refl

    both : (u : Bool) → u ≡ false → u ≡ true → ⊥
    both u f t = let z : ◌≡◌ {A = ℕ} 0 1 = cc in omega arith

    pub all_back : b ≡ true → Canonical rights m.kinds m.cells → RanAs right m a c m (ran_told w) (Unit {0})
    all_back t K =
        let f : (ran_told w).done ≡ false = told w ∙ e ∙ rw t in
        record { able = h.able; leak = h.leak; state = λ q. absurd (both (ran_told w).done f q); canonical = K; none = λ _ _. refl }

    pub all_done : b ≡ false → RanAs right m a c y (ran_told w) (Unit {0})
    all_done t =
        let f : (ran_told w).done ≡ true = told w ∙ e ∙ rw t in
        record { able = h.able; leak = h.leak; state = h.state; canonical = h.canonical; none = λ q _. absurd (both (ran_told w).done q f) }

-- ---- what a call that passed the test of its actuals may rest on
module _ (a : List ℕ) (c : Command) (F : Fits rights c) (r : Bool) (d : r ≡ all (actual_fits bounded (meaning c) (values_of a)) parameters 0) (t : not r ≡ false) where
  has_name : (b : ℕ) → b < c.parameters → T (named (meaning c) b) → HasName a b
  has_name b l n = record {
    parameter = omega (arith, F.few_parameters);
    name = ltb→lt (get_or a b 0) names (fits_name bounded (meaning c) (values_of a)
        (test-holds (all (actual_fits bounded (meaning c) (values_of a)) parameters 0) (sym d ∙ not-false r t)) F.few_parameters b l (named_used (meaning c) b n));
  }

  pub conditions_apply : ConditionsApply a c
  conditions_apply = record {
    few = F.few_conditions;
    all = λ j l.
        let s = (condition_of c j).subject in
        let o = (condition_of c j).object in
        record {
          number = omega (arith, F.few_conditions);
          right = F.condition_right j l;
          subject = has_name s (F.condition_subject j l) (condition_names c s j l (or_left (eqb s s) (eqb s o) (eqb_refl s)));
          object = has_name o (F.condition_object j l) (condition_names c o j l (or_right (eqb o s) (eqb o o) (eqb_refl o)));
        };
  }

  pub operations_apply : OperationsApply a c
  operations_apply = record { fits = F; all = λ j o l e. by o (operation_limits rights c F (omega arith) j l o e) (λ b k n. has_name b k (operation_names c b j o l e n)) }
    where
      by : (op : Operation) → OperationBelow c.parameters rights (model_of op) → ((b : ℕ) → b < c.parameters → T (in_operation b (model_of op)) → HasName a b) → Applies a op
      by (Enter q s o) l n = (l.0, n s l.1 (or_left (eqb s s) (eqb s o) (eqb_refl s)), n o l.2 (or_right (eqb o s) (eqb o o) (eqb_refl o)))
      by (Delete q s o) l n = (l.0, n s l.1 (or_left (eqb s s) (eqb s o) (eqb_refl s)), n o l.2 (or_right (eqb o s) (eqb o o) (eqb_refl o)))
      by (CreateSubject s) l n = n s l (eqb_refl s)
      by (CreateObject o) l n = n o l (eqb_refl o)
      by (DestroySubject s) l n = n s l (eqb_refl s)
      by (DestroyObject o) l n = n o l (eqb_refl o)

-- ---- what a call answers
pub executed_refused : (right n : ℕ) (m y : Matrix) (o : Outcome) → Canonical rights m.kinds m.cells → o ≡ refused n → y ≡ m → ExecutedAs right o m (executed_of (Refused n) y)
executed_refused right n m y o K e d =
    subst (λ (w : Matrix). ExecutedAs right o m (executed_of (Refused n) w)) (sym d)
    (subst (λ (z : Outcome). ExecutedAs right z m (executed_of (Refused n) m)) (sym e) (record { answer = refl; state = refl; canonical = K }))

-- in every system whose conditions the sets test
module _ (carriers : List ℕ) (right : ℕ) (m : Matrix) (c : Command) (a : List ℕ) (K : Canonical rights m.kinds m.cells) where
  abbrev outcome : System → Outcome
  outcome S = execute_command bounded S (state_of m) (some (meaning c)) (values_of a)

  abbrev end : Outcome
  end = done (effect_all (state_of m) (values_of a) (operations_from c c.operations 0)) (enters_any_new (state_of m) (values_of a) (operations_from c c.operations 0))

  module _ (r₁ : Bool) (d₁ : r₁ ≡ all (actual_fits bounded (meaning c) (values_of a)) parameters 0) where
    pub refused_12 : not r₁ ≡ true → RunBy carriers right m c a (executed_of (Refused 12) m)
    refused_12 t = record { is = λ S M. executed_refused right 12 m m (outcome S) K (let z = sym d₁ ∙ not-true r₁ t in rw z) refl }

    module _ (t₁ : not r₁ ≡ false) (r₃ : Bool) (d₃ : AllHeldBy m.kinds m.cells carriers a c r₃) where
      passed_12 : all (actual_fits bounded (meaning c) (values_of a)) parameters 0 ≡ true
      passed_12 = sym d₁ ∙ not-false r₁ t₁

      pub refused_14 : not r₃ ≡ true → RunBy carriers right m c a (executed_of (Refused 14) m)
      refused_14 t = record { is = λ S M. executed_refused right 14 m m (outcome S) K (let z = sym (d₃.is S M) ∙ not-true r₃ t in rw (passed_12, z)) refl }

      module _ (t₃ : not r₃ ≡ false) (y : Matrix) (w : Option Bool) (d₄ : RanAs right m a c y (ran_told w) (Unit {0})) where
        passed_14 : (S : System) → MetBy S carriers → hold_all S (view m.kinds m.cells) (values_of a) (tabulate (condition_of c) c.conditions 0) ≡ true
        passed_14 S M = sym (d₃.is S M) ∙ not-false r₃ t₃

        pub refused_15 : w ≡ None → RunBy carriers right m c a (executed_of (Refused 15) y)
        refused_15 e =
            let d = rw e at d₄ in
            record { is = λ S M. executed_refused right 15 m y (outcome S) K (let z = sym d.able in rw (passed_12, passed_14 S M, z)) (d.none refl tt) }

        module _ (b : Bool) (e : w ≡ Some b) where
          did : RanAs right m a c y (ran_told (Some b)) (Unit {0})
          did = rw e at d₄

          ended : (S : System) → MetBy S carriers → outcome S ≡ end
          ended S M = let z = sym did.able in rw (passed_12, passed_14 S M, z)

          finished : (r : Answer) → r ≡ pick b Leaked Done → RunBy carriers right m c a (executed_of r y)
          finished r ea =
              let u : r ≡ answer_of right end = ea ∙ ap (λ (z : Bool). pick z Leaked Done) (did.leak refl) in
              record {
                is = λ S M. record {
                  answer = u ∙ ap (answer_of right) (sym (ended S M));
                  state = did.state refl ∙ ap (λ (o : Outcome). after o (state_of m)) (sym (ended S M));
                  canonical = did.canonical;
                };
              }

          pub done_leaked : b ≡ true → RunBy carriers right m c a (executed_of Leaked y)
          done_leaked t = finished Leaked (rw t)

          pub done_quiet : b ≡ false → RunBy carriers right m c a (executed_of Done y)
          done_quiet t = finished Done (rw t)
