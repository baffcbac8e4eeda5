-- What the reader of a step answers: it is `step_read`; what it does not refuse is an operation within the limits. Assumes nothing.
use Prim.Native.Nat.{ℕ, zero, suc, ◌+◌, ◌-◌, ◌≤◌, ◌<◌}
use mathlib.Core.Path.{◌≡◌, refl, sym, ap, ap₂, ◌∙◌, subst}
use mathlib.Core.Bool.{Bool, true, false, ◌&&◌}
use mathlib.Core.List.{List, [], ◌∷◌, ◌++◌}
use Rattle.std.specs.Prelude.{Option, Some, None, is_some}
use mathlib.Core.Logic.{◌⊎◌, inl, inr, ⊎_elim}
use native.Mathlib.Omega.{arith}
use native.Mathlib.Decide.{dec_lt, ℕ_discrete}
use native.Mathlib.Numerals.{add-one}
use borrow.Author.Tests.{eq-eqb, ne_eqb, lt-ltb}
use lib.Dec.{T, eqb, ltb, ltb→lt}
use lib.ListN.{length, length-append}
use Rattle.cases.specs.Cases.{pick}
use Rattle.cases.proofs.Bools.{both, and_intro, or_left, holds as test-holds}
use Rattle.protection.specs.Limits.{rights}
use Rattle.protection.specs.Command.{Operation as ModelOperation, enter, delete, create_subject, create_object, destroy_subject, destroy_object, in_operation, in_operations}
use Rattle.protection.specs.Judge.{first_operation, operation_in}
use Rattle.protection.proofs.Calls.{OperationBelow}
use Rattle.commands.specs.Steps.{StepRead, Enter, Delete, CreateSubject, CreateObject, DestroySubject, DestroyObject, Refused, on_cell, on_name, step_read, is_read}
use Rattle.layout.specs.File.{byte}
use Rattle.commands.specs.Refusals.{operation_fits}
use Rattle.commands.specs.Contents.{operation_at, operations_of, operations_from, model_of, step_of, step_told, meaning}
use Rattle.commands.specs.Fits.{Fits}
use Rattle.commands.specs.declared.Command.{Command}
use Rattle.commands.specs.declared.Operation.{Operation}
use Rattle.commands.specs.declared.Operation.TheVariants as op

-- ---- the reader's contract says that its answer is `step_read`
module _ (k g kind q x y : ℕ) (r : StepRead) where
  -- its seven lines
  abbrev Answered : Type 0
  Answered =
      record {
        enter : kind ≡ 1 → r ≡ on_cell k g q x y (Enter q x y);
        delete : kind ≡ 2 → r ≡ on_cell k g q x y (Delete q x y);
        create_subject : kind ≡ 3 → r ≡ on_name k q x y (CreateSubject x);
        create_object : kind ≡ 4 → r ≡ on_name k q x y (CreateObject x);
        destroy_subject : kind ≡ 5 → r ≡ on_name k q x y (DestroySubject x);
        destroy_object : kind ≡ 6 → r ≡ on_name k q x y (DestroyObject x);
        any_other : (kind < 1) ⊎ (6 < kind) → r ≡ Refused;
      }

  pub read_is : Answered → r ≡ step_read k g kind q x y
  unfolding step_read
  read_is e =
      by 1 (on_cell k g q x y (Enter q x y)) _ e.enter (λ n1.
      by 2 (on_cell k g q x y (Delete q x y)) _ e.delete (λ n2.
      by 3 (on_name k q x y (CreateSubject x)) _ e.create_subject (λ n3.
      by 4 (on_name k q x y (CreateObject x)) _ e.create_object (λ n4.
      by 5 (on_name k q x y (DestroySubject x)) _ e.destroy_subject (λ n5.
      by 6 (on_name k q x y (DestroyObject x)) _ e.destroy_object (λ n6. e.any_other (other n1 n2 n3 n4 n5 n6 (dec_lt kind 1))))))))
    where
      by : (n : ℕ) (s t : StepRead) → (kind ≡ n → r ≡ s) → ((kind ≡ n → ⊥) → r ≡ t) → r ≡ pick (eqb kind n) s t
      by n s t e f = go (ℕ_discrete kind n)
        where
          go : Dec (kind ≡ n) → r ≡ pick (eqb kind n) s t
          go (yes z) = rw (eq-eqb kind n z) (e z)
          go (no z) = rw (ne_eqb kind n z) (f z)

      other : (kind ≡ 1 → ⊥) → (kind ≡ 2 → ⊥) → (kind ≡ 3 → ⊥) → (kind ≡ 4 → ⊥) → (kind ≡ 5 → ⊥) → (kind ≡ 6 → ⊥) → Dec (kind < 1) → (kind < 1) ⊎ (6 < kind)
      other n1 n2 n3 n4 n5 n6 (yes l) = inl l
      other n1 n2 n3 n4 n5 n6 (no l) = inr (omega arith)

  -- and from `step_read` the seven lines follow
  pub answers : r ≡ step_read k g kind q x y → Answered
  unfolding step_read
  answers e =
      record {
        enter = at 1;
        delete = at 2;
        create_subject = at 3;
        create_object = at 4;
        destroy_subject = at 5;
        destroy_object = at 6;
        any_other = λ h. e ∙ ⊎_elim (λ l. none (λ n a b z. omega arith)) (λ l. none (λ n a b z. omega arith)) h;
      }
    where
      at : (n : ℕ) → kind ≡ n → r ≡ step_read k g n q x y
      at n z = e ∙ ap (λ (i : ℕ). step_read k g i q x y) z

      none : ((n : ℕ) → 1 ≤ n → n ≤ 6 → kind ≡ n → ⊥) → step_read k g kind q x y ≡ Refused
      none f =
          rw (
            ne_eqb kind 1 (f 1 (omega arith) (omega arith)),
            ne_eqb kind 2 (f 2 (omega arith) (omega arith)),
            ne_eqb kind 3 (f 3 (omega arith) (omega arith)),
            ne_eqb kind 4 (f 4 (omega arith) (omega arith)),
            ne_eqb kind 5 (f 5 (omega arith) (omega arith)),
            ne_eqb kind 6 (f 6 (omega arith) (omega arith)),
          )

-- ---- whether a step is read
-- an answer with an operation is a step that is read
some_told : (o : Option Operation) → is_some o ≡ is_read (step_told o)
some_told None = refl
some_told (Some (op.Enter q x y)) = refl
some_told (Some (op.Delete q x y)) = refl
some_told (Some (op.CreateSubject x)) = refl
some_told (Some (op.CreateObject x)) = refl
some_told (Some (op.DestroySubject x)) = refl
some_told (Some (op.DestroyObject x)) = refl

pub some_read : (g : ℕ) (p : List ℕ) (i : ℕ) (s : Option Operation) (r : Bool) → Answered (byte p 0) g (byte p i) (byte p (i + 1)) (byte p (i + 2)) (byte p (i + 3)) (step_told s)
    → r ≡ is_some s → r ≡ operation_fits g p i
unfolding operation_fits
some_read g p i s r h d = d ∙ some_told s ∙ ap is_read (read_is (byte p 0) g (byte p i) (byte p (i + 1)) (byte p (i + 2)) (byte p (i + 3)) (step_told s) h)

-- ---- an operation, and what the reader says where it says it
pub operations-of : (c : Operation) → operations_of (step_of c) ≡ model_of c ∷ []
operations-of (op.Enter q s o) = refl
operations-of (op.Delete q s o) = refl
operations-of (op.CreateSubject s) = refl
operations-of (op.CreateObject o) = refl
operations-of (op.DestroySubject s) = refl
operations-of (op.DestroyObject o) = refl

head_is : (a b : ModelOperation) → a ∷ [] ≡ b ∷ [] → a ≡ b
head_is a b e = cc

pub says : (s : StepRead) (m : ModelOperation) (c : Operation) → operations_of s ≡ m ∷ [] → s ≡ step_of c → m ≡ model_of c
says s m c h e = head_is m (model_of c) (sym h ∙ ap operations_of e ∙ operations-of c)

pub says_none : (c : Operation) → Refused ≡ step_of c → ⊥
says_none c e = go (model_of c) (ap operations_of e ∙ operations-of c)
  where
    go : (m : ModelOperation) → [] ≡ m ∷ [] → ⊥
    go m z = let w : ◌≡◌ {A = ℕ} 0 1 = cc in omega arith

pub model_same : (a b : Operation) → step_of a ≡ step_of b → model_of a ≡ model_of b
model_same a b e = says (step_of a) (model_of a) b (operations-of a) e

-- what the reader does not refuse is an operation
pub read_operation : (s : StepRead) → is_read s ≡ true → (c : Operation) × (s ≡ step_of c)
read_operation (Enter q x y) e = (op.Enter q x y, refl)
read_operation (Delete q x y) e = (op.Delete q x y, refl)
read_operation (CreateSubject x) e = (op.CreateSubject x, refl)
read_operation (CreateObject x) e = (op.CreateObject x, refl)
read_operation (DestroySubject x) e = (op.DestroySubject x, refl)
read_operation (DestroyObject x) e = (op.DestroyObject x, refl)
read_operation Refused e = absurd (let w : ◌≡◌ {A = ℕ} 0 1 = cc in omega arith)

-- ---- the limits
module _ (k g kind q x y : ℕ) (c : Operation) where
  in_cell : T ((ltb q g && ltb x k) && ltb y k) → (q < g) × (x < k) × (y < k)
  in_cell t = (ltb→lt q g (search both), ltb→lt x k (search both), ltb→lt y k (search both))

  in_name : T ((eqb q 0 && ltb x k) && eqb y 0) → x < k
  in_name t = ltb→lt x k (search both)

  pub read_below : step_read k g kind q x y ≡ step_of c → OperationBelow k g (model_of c)
  unfolding step_read
  read_below = go (eqb kind 1) (eqb kind 2) (eqb kind 3) (eqb kind 4) (eqb kind 5) (eqb kind 6) ((ltb q g && ltb x k) && ltb y k) ((eqb q 0 && ltb x k) && eqb y 0) in_cell in_name
    where
      to : (s : StepRead) (m : ModelOperation) → operations_of s ≡ m ∷ [] → OperationBelow k g m → s ≡ step_of c → OperationBelow k g (model_of c)
      to s m h l e = subst (OperationBelow k g) (says s m c h e) l

      go : (a₁ a₂ a₃ a₄ a₅ a₆ t u : Bool) → (T t → (q < g) × (x < k) × (y < k)) → (T u → x < k)
          → pick a₁ (pick t (Enter q x y) Refused) (pick a₂ (pick t (Delete q x y) Refused) (pick a₃ (pick u (CreateSubject x) Refused) (pick a₄ (pick u (CreateObject x) Refused)
          (pick a₅ (pick u (DestroySubject x) Refused) (pick a₆ (pick u (DestroyObject x) Refused) Refused))))) ≡ step_of c → OperationBelow k g (model_of c)
      go true a₂ a₃ a₄ a₅ a₆ true u h n e = to (Enter q x y) (enter q x y) refl (h tt) e
      go true a₂ a₃ a₄ a₅ a₆ false u h n e = absurd (says_none c e)
      go false true a₃ a₄ a₅ a₆ true u h n e = to (Delete q x y) (delete q x y) refl (h tt) e
      go false true a₃ a₄ a₅ a₆ false u h n e = absurd (says_none c e)
      go false false true a₄ a₅ a₆ t true h n e = to (CreateSubject x) (create_subject x) refl (n tt) e
      go false false true a₄ a₅ a₆ t false h n e = absurd (says_none c e)
      go false false false true a₅ a₆ t true h n e = to (CreateObject x) (create_object x) refl (n tt) e
      go false false false true a₅ a₆ t false h n e = absurd (says_none c e)
      go false false false false true a₆ t true h n e = to (DestroySubject x) (destroy_subject x) refl (n tt) e
      go false false false false true a₆ t false h n e = absurd (says_none c e)
      go false false false false false true t true h n e = to (DestroyObject x) (destroy_object x) refl (n tt) e
      go false false false false false true t false h n e = absurd (says_none c e)
      go false false false false false false t u h n e = absurd (says_none c e)

  -- with more rights the same
  pub read_wider : (g' : ℕ) → g ≤ g' → step_read k g kind q x y ≡ step_of c → step_read k g' kind q x y ≡ step_of c
  unfolding step_read
  read_wider g' l = go (eqb kind 1) (eqb kind 2) ((ltb q g && ltb x k) && ltb y k) ((ltb q g' && ltb x k) && ltb y k) wider
    where
      wider : T ((ltb q g && ltb x k) && ltb y k) → T ((ltb q g' && ltb x k) && ltb y k)
      wider t =
          let (lq, lx, ly) = in_cell t in
          and_intro (ltb q g' && ltb x k) (ltb y k) (and_intro (ltb q g') (ltb x k) (test-holds (ltb q g') (lt-ltb q g' (omega arith))) (test-holds (ltb x k) (lt-ltb x k lx))) (test-holds (ltb y k) (lt-ltb y k ly))

      rest : StepRead
      rest =
          pick (eqb kind 3) (on_name k q x y (CreateSubject x)) (pick (eqb kind 4) (on_name k q x y (CreateObject x)) (pick (eqb kind 5) (on_name k q x y (DestroySubject x)) (pick (eqb kind 6) (on_name k q x y (DestroyObject x)) Refused)))

      go : (a b t t' : Bool) → (T t → T t') → pick a (pick t (Enter q x y) Refused) (pick b (pick t (Delete q x y) Refused) rest) ≡ step_of c
          → pick a (pick t' (Enter q x y) Refused) (pick b (pick t' (Delete q x y) Refused) rest) ≡ step_of c
      go true b true true h e = e
      go true b true false h e = absurd (h tt)
      go true b false t' h e = absurd (says_none c e)
      go false true true true h e = e
      go false true true false h e = absurd (h tt)
      go false true false t' h e = absurd (says_none c e)
      go false false t t' h e = e

-- ---- the steps of a command
module _ (c : Command) (n j : ℕ) (l : j < n) where
  pub steps_more : operations_from c (n - j) j ≡ operations_of (operation_at c j) ++ operations_from c (n - (j + 1)) (j + 1)
  steps_more = let z : n - j ≡ suc (n - (j + 1)) = omega arith in ap (λ (m : ℕ). operations_from c m j) z ∙ rw (add-one j)

  pub operation_more : (o : Operation) → step_of o ≡ operation_at c j → operations_from c (n - j) j ≡ model_of o ∷ operations_from c (n - (j + 1)) (j + 1)
  operation_more o e = steps_more ∙ ap (λ (w : List ModelOperation). w ++ operations_from c (n - (j + 1)) (j + 1)) (ap operations_of (sym e) ∙ operations-of o)

module _ (g : ℕ) (c : Command) (F : Fits g c) (few : g ≤ rights) (j : ℕ) (l : j < c.operations) where
  -- read with all rights that there may be
  abbrev pub reads_at : (o : Operation) × (operation_at c j ≡ step_of o)
  reads_at = let R = F.operation_read j l in (R.operation, read_wider c.parameters g _ _ _ _ R.operation rights few R.is)

  pub operation_limits : (o : Operation) → step_of o ≡ operation_at c j → OperationBelow c.parameters g (model_of o)
  operation_limits o e =
      let R = F.operation_read j l in
      subst (OperationBelow c.parameters g) (model_same R.operation o (sym reads_at.1 ∙ sym e)) (read_below c.parameters g _ _ _ _ R.operation R.is)

-- what fits with g rights fits with more
pub fits_wider : (g h : ℕ) (c : Command) → g ≤ h → Fits g c → Fits h c
fits_wider g h c l F = record {
  some_parameter = F.some_parameter;
  few_parameters = F.few_parameters;
  few_conditions = F.few_conditions;
  some_operation = F.some_operation;
  few_operations = F.few_operations;
  condition_right = λ j k. omega (arith, F.condition_right j k);
  condition_subject = F.condition_subject;
  condition_object = F.condition_object;
  operation_read = λ j k. let R = F.operation_read j k in record { operation = R.operation; is = read_wider c.parameters g _ _ _ _ R.operation h l R.is };
}

-- as many operations as steps
pub operations_length : (g : ℕ) (c : Command) → Fits g c → g ≤ rights → length (meaning c).operations ≡ c.operations
operations_length g c F few = go c.operations 0 (omega arith)
  where
    go : (n j : ℕ) → j + n ≤ c.operations → length (operations_from c n j) ≡ n
    go zero j h = refl
    go (suc n) j h =
        let R = reads_at g c F few j (omega arith) in
        length-append (operations_of (operation_at c j)) (operations_from c n (suc j))
        ∙ ap₂ ◌+◌ (ap length (ap operations_of R.1 ∙ operations-of R.0)) (go n (suc j) (omega arith)) ∙ omega arith

-- ---- a command of one operation
-- the operation that the reader says of its step; one that it refuses reads as no operation at all
abbrev pub model_by : StepRead → ModelOperation
model_by s = first_operation (operations_of s)

pub model-by : (o : Operation) (s : StepRead) → step_of o ≡ s → model_by s ≡ model_of o
model-by o s e = ap model_by (sym e) ∙ ap first_operation (operations-of o)

pub operation_one : (c : Command) → c.operations ≡ 1 → operation_in (meaning c) ≡ model_by (operation_at c 0)
operation_one c e = ap (λ (n : ℕ). first_operation (operations_from c n 0)) e ∙ go (operation_at c 0)
  where
    go : (s : StepRead) → first_operation (operations_of s ++ []) ≡ model_by s
    go (Enter q x y) = refl
    go (Delete q x y) = refl
    go (CreateSubject x) = refl
    go (CreateObject x) = refl
    go (DestroySubject x) = refl
    go (DestroyObject x) = refl
    go Refused = refl

module _ (g : ℕ) (c : Command) (F : Fits g c) (few : g ≤ rights) (one : c.operations ≡ 1) where
  pub one-operation : (meaning c).operations ≡ model_by (operation_at c 0) ∷ []
  one-operation =
      let R = reads_at g c F few 0 (omega arith) in
      ap (λ (n : ℕ). operations_from c n 0) one ∙ ap (λ (s : StepRead). operations_of s ++ []) R.1 ∙ ap (λ (l : List ModelOperation). l ++ []) (operations-of R.0)
      ∙ ap (λ (m : ModelOperation). m ∷ []) (sym (model-by R.0 (operation_at c 0) (sym R.1)))

  pub one_limits : OperationBelow c.parameters g (model_by (operation_at c 0))
  one_limits =
      let R = reads_at g c F few 0 (omega arith) in
      subst (OperationBelow c.parameters g) (sym (model-by R.0 (operation_at c 0) (sym R.1))) (operation_limits g c F few 0 (omega arith) R.0 (sym R.1))

  pub one_names : (b : ℕ) → T (in_operation b (model_by (operation_at c 0))) → T (in_operations b (meaning c).operations)
  one_names b t = subst (λ (l : List ModelOperation). T (in_operations b l)) (sym one-operation) (or_left (in_operation b (model_by (operation_at c 0))) false t)
