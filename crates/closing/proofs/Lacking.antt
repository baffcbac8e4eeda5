-- A command that asks in a cell of its operation's own names for a right that the cell does not meet has no call there. Assumes nothing.
use Prim.Native.Nat.{ℕ, ◌+◌, ◌-◌, ◌*◌, ◌/◌, ◌%◌, ◌^◌, ◌≤◌, ◌<◌}
use mathlib.Core.Path.{◌≡◌, refl, sym, ap, ap₂, ◌∙◌, subst}
use mathlib.Core.Bool.{Bool, true, false, not, ◌&&◌, ◌||◌}
use mathlib.Core.List.{List}
use mathlib.Core.Logic.{◌⊎◌, inl, inr, ⊎_elim}
use mathlib.Core.Option.{none}
use native.Mathlib.Omega.{arith}
use lib.Bits.{bit_or, bit_and}
use lib.Dec.{T, eqb, eqb→eq, ltb}
use lib.ListN.{get_or}
use Rattle.cases.specs.Cases.{pick, all}
use Rattle.cases.proofs.Bools.{and_left, and_right, or_cases, holds, fails, is_true, is_false}
use Rattle.cases.proofs.Loops.{all_at}
use Rattle.rights.specs.Rights.{has}
use Rattle.rights.proofs.Sets.{has_none}
use Rattle.protection.specs.Limits.{names, rights}
use Rattle.protection.specs.State.{State, subject_in, object_in}
use Rattle.protection.specs.Command.{Operation as ModelOperation, System, Actuals}
use Rattle.protection.specs.Carrying.{meets}
use Rattle.protection.proofs.Carrying.{meets_more}
use Rattle.carries.proofs.Meeting.{meets_cell}
use Rattle.protection.specs.Execution.{take_out, same_cell, hold_all, holds as conditionHolds}
use Rattle.protection.specs.Judge.{deletes_at, enters_at}
use Rattle.matrix.specs.Bytes.{inside}
use Rattle.matrix.specs.Matrices.{state_of}
use Rattle.matrix.specs.declared.Matrix.{Matrix}
use Rattle.masks.proofs.Digits.{has_and, has_or, has_not}
use Rattle.search.specs.Narrowing.{Says}
use Rattle.commands.specs.Contents.{missing, condition_of, operation_at, meaning}
use Rattle.commands.specs.Steps.{StepRead, Enter, Delete, CreateSubject, CreateObject, DestroySubject, DestroyObject, Refused, step_read}
use Rattle.commands.proofs.Reading.{model_by}
use Rattle.commands.specs.declared.Command.{Command}
use Rattle.queries.specs.Useful.{doable, names_of_place, touched_by, Tried}
use Rattle.queries.specs.declared.Touch.{Touch}
use Rattle.queries.proofs.Goodness.{doable_holds, hold-all}
use Rattle.queries.proofs.Shapes.{operation_is}
use Rattle.policy.specs.Contents.{system_of}
use Rattle.policy.specs.Fits.{PolicyFits}
use Rattle.policy.specs.declared.Policy.{Policy}
use Rattle.visits.specs.Engine.{SingleSteps}
use Rattle.calls.specs.Calls.{touching_in, Covers}
use Rattle.closing.specs.Closing.{ConcernedBy}
use Rattle.closing.proofs.PassedBy.{never_touching, concerned_covers}
use Rattle.calls.proofs.Looking.{command_tried}
use Rattle.closing.specs.Asks.{on_side, first_of, second_of, Asks, AskedBy, LackingIn, LackingAt, left_in}

or_has : (a b j : ℕ) → has (bit_or a b) j ≡ true → (has a j ≡ true) ⊎ (has b j ≡ true)
or_has a b j t =
    ⊎_elim (λ (u : T (has a j)). inl (is_true (has a j) u)) (λ (u : T (has b j)). inr (is_true (has b j) u))
    (or_cases (has a j) (has b j) (holds (has a j || has b j) (sym (has_or a b j) ∙ t)))

clash : (b : Bool) → b ≡ false → b ≡ true → ⊥
clash b x y = let z : ◌≡◌ {A = Bool} true false = cc in let w : ◌≡◌ {A = ℕ} 0 1 = cc in omega arith

-- ---- the loop of `lacking_in`
module _ (asks carriers : List ℕ) (k set : ℕ) where
  pub lacking_start : LackingIn asks carriers k set 0
  lacking_start = record { says = λ i t. absurd (clash (has 0 i) (has_none i) t) }

  module _ (mask q : ℕ) (K : LackingIn asks carriers k set mask) (l : q < rights) where
    pub lacking_more : bit_and set (get_or carriers q 0) ≡ 0 → (new : ℕ) → new ≡ bit_or mask (get_or asks (rights * k + q) 0) → LackingIn asks carriers k set new
    lacking_more e new f = record {
      says = λ (i : ℕ) (t : has new i ≡ true). ⊎_elim (K.says i)
          (λ (u : has (get_or asks (rights * k + q) 0) i ≡ true). record { right = q; small = l; lacks = e; asked = u })
          (or_has mask (get_or asks (rights * k + q) 0) i (ap (λ (w : ℕ). has w i) (sym f) ∙ t));
    }

    pub lacking_same : (bit_and set (get_or carriers q 0) ≡ 0 → ⊥) → (new : ℕ) → new ≡ mask → LackingIn asks carriers k set new
    lacking_same e new f = subst (LackingIn asks carriers k set) (sym f) K

-- ---- the four cells, one after the other
module _ (asks carriers cells : List ℕ) (s o : ℕ) where
  lacking_also : (k mask a : ℕ) → k < 4 → LackingAt asks carriers cells s o mask → LackingIn asks carriers k (get_or cells (names * on_side (k / 2) s o + on_side (k % 2) s o) 0) a
      → LackingAt asks carriers cells s o (bit_or mask a)
  lacking_also k mask a l M A = record {
    says = λ (i : ℕ) (t : has (bit_or mask a) i ≡ true). ⊎_elim (M.says i) (λ (v : has a i ≡ true). record { cell = k; few = l; lacks = A.says i v }) (or_has mask a i t);
  }

  pub cell_lacking : (a : ℕ) → LackingIn asks carriers 1 (get_or cells (names * s + o) 0) a → LackingAt asks carriers cells s o a
  cell_lacking a A = record { says = λ (i : ℕ) (t : has a i ≡ true). record { cell = 1; few = omega arith; lacks = A.says i t } }

  module _ (mask a : ℕ) (M : LackingAt asks carriers cells s o mask) where
    pub row_lacking : LackingIn asks carriers 0 (get_or cells (names * s + s) 0) a → LackingAt asks carriers cells s o (bit_or mask a)
    row_lacking = lacking_also 0 mask a (omega arith) M

    pub column_lacking : LackingIn asks carriers 3 (get_or cells (names * o + o) 0) a → LackingAt asks carriers cells s o (bit_or mask a)
    column_lacking = lacking_also 3 mask a (omega arith) M

    pub turned_lacking : LackingIn asks carriers 2 (get_or cells (names * o + s) 0) a → LackingAt asks carriers cells s o (bit_or mask a)
    turned_lacking = lacking_also 2 mask a (omega arith) M

pub left_says : (which lacking : ℕ) → lacking < 2 ^ 32 → Says (bit_and which ((2 ^ 32 - 1) - lacking)) (left_in which lacking)
unfolding left_in
left_says which lacking l = record { says = λ n h. has_and which ((2 ^ 32 - 1) - lacking) n ∙ ap (λ (b : Bool). has which n && b) (has_not 32 lacking n l h) }

-- ---- what does not meet a right does not meet it with fewer rights
fewer_meet : (S : System) (f f' : ℕ → Bool) → ((i : ℕ) → T (f' i) → T (f i)) → (q : ℕ) → meets S f q ≡ false → meets S f' q ≡ false
fewer_meet S f f' h q e = is_false (meets S f' q) (λ t. fails (meets S f q) e (meets_more S f' f h q t))

pub out_lacks : (S : System) (m : State) (r s o u v q : ℕ) → meets S (m.cell u v) q ≡ false → meets S ((take_out m r s o).cell u v) q ≡ false
out_lacks S m r s o u v q e = fewer_meet S (m.cell u v) ((take_out m r s o).cell u v) (λ i t. and_right (not (same_cell u v s o && eqb i r)) (m.cell u v i) t) q e

-- a right in a cell of the state is one of the cell's set
in_byte : (m : Matrix) (u v i : ℕ) → T ((state_of m).cell u v i) → T (has (get_or m.cells (names * u + v) 0) i)
in_byte m u v i = go (inside m.kinds u v)
  where
    go : (b : Bool) → T (elim b [ true ↦ has (get_or m.cells (names * u + v) 0) i | false ↦ false ]) → T (has (get_or m.cells (names * u + v) 0) i)
    go true t = t
    go false t = absurd t

cell_lacks : (p : Policy) → PolicyFits p → (m : Matrix) (u v q : ℕ) → q < rights → bit_and (get_or m.cells (names * u + v) 0) (get_or p.carriers q 0) ≡ 0
    → meets (system_of p) ((state_of m).cell u v) q ≡ false
cell_lacks p F m u v q l e =
    let set : ℕ = get_or m.cells (names * u + v) 0 in
    fewer_meet (system_of p) (has set) ((state_of m).cell u v) (in_byte m u v) q
    (meets_cell (system_of p) p.carries refl F.few_rights set q l ∙ ap (λ (y : ℕ). not (eqb y 0)) (ap (λ (z : List ℕ). bit_and set (get_or z q 0)) (sym F.carriers_is) ∙ e))

-- ---- one command
on_sides : (f : ℕ → ℕ) (a x y : ℕ) → f (on_side a x y) ≡ on_side a (f x) (f y)
on_sides f a x y = go (eqb a 0)
  where
    go : (b : Bool) → f (pick b x y) ≡ pick b (f x) (f y)
    go true = refl
    go false = refl

-- where an asked right is not met the command cannot be carried out
unheld : (c : Command) (S : System) (m : State) (a : Actuals) (k q : ℕ) → Asks c k q
    → meets S (m.cell (on_side (k / 2) (a (first_of c)) (a (second_of c))) (on_side (k % 2) (a (first_of c)) (a (second_of c)))) q ≡ false → doable S (meaning c) m a ≡ false
unheld c S m a k q A e = is_false (doable S (meaning c) m a) (λ t.
    let j = A.at in
    let whole : all (λ i. conditionHolds S m a (condition_of c i)) c.conditions 0 ≡ true =
    sym (hold-all S m a (condition_of c) c.conditions 0) ∙ is_true (hold_all S m a (meaning c).conditions) (doable_holds S (meaning c) m a t) in
    let h : conditionHolds S m a (condition_of c j) ≡ true = all_at (λ i. conditionHolds S m a (condition_of c i)) c.conditions 0 whole j (omega arith) (omega (arith, A.inside)) in
    let held : T (meets S (m.cell (a (condition_of c j).subject) (a (condition_of c j).object)) (condition_of c j).right) =
    and_right (subject_in m (a (condition_of c j).subject) && object_in m (a (condition_of c j).object)) (meets S (m.cell (a (condition_of c j).subject) (a (condition_of c j).object)) (condition_of c j).right) (holds (conditionHolds S m a (condition_of c j)) h) in
    let gone : meets S (m.cell (a (condition_of c j).subject) (a (condition_of c j).object)) (condition_of c j).right ≡ false =
    ap₂ (λ (u v : ℕ). meets S (m.cell (a u) (a v)) (condition_of c j).right) A.subject_is A.object_is
    ∙ ap (λ (w : ℕ). meets S (m.cell (a (on_side (k / 2) (first_of c) (second_of c))) (a (on_side (k % 2) (first_of c) (second_of c)))) w) A.right_is
    ∙ ap₂ (λ (u v : ℕ). meets S (m.cell u v) q) (on_sides a (k / 2) (first_of c) (second_of c)) (on_sides a (k % 2) (first_of c) (second_of c)) ∙ e in
    subst T gone held)

-- on the cell (s, o) its operation's parameters have these names
on-cell : (b : Bool) (r s o : ℕ) (c : Command) (a : Actuals) → T (pick b (enters_at r s o a (model_by (operation_at c 0))) (deletes_at r s o a (model_by (operation_at c 0)))) → (a (first_of c) ≡ s) × (a (second_of c) ≡ o)
unfolding step_read
on-cell b r s o c a =
    go b (eqb kind 1) (eqb kind 2) (eqb kind 3) (eqb kind 4) (eqb kind 5) (eqb kind 6) ((ltb q rights && ltb x c.parameters) && ltb y c.parameters) ((eqb q 0 && ltb x c.parameters) && eqb y 0)
  where
    kind : ℕ
    kind = get_or c.operation 0 0

    q : ℕ
    q = get_or c.operation 1 0

    x : ℕ
    x = first_of c

    y : ℕ
    y = second_of c

    named : T ((eqb q r && eqb (a x) s) && eqb (a y) o) → (a x ≡ s) × (a y ≡ o)
    named t =
        (eqb→eq (a x) s (and_right (eqb q r) (eqb (a x) s) (and_left (eqb q r && eqb (a x) s) (eqb (a y) o) t)), eqb→eq (a y) o (and_right (eqb q r && eqb (a x) s) (eqb (a y) o) t))

    Touches : Bool → StepRead → Type 0
    Touches b w = T (pick b (enters_at r s o a (model_by w)) (deletes_at r s o a (model_by w)))

    by : (b : Bool) (w : StepRead) → (T (enters_at r s o a (model_by w)) → (a x ≡ s) × (a y ≡ o)) → (T (deletes_at r s o a (model_by w)) → (a x ≡ s) × (a y ≡ o)) → Touches b w → (a x ≡ s) × (a y ≡ o)
    by true w f g t = f t
    by false w f g t = g t

    none : (b : Bool) (w : StepRead) → (T (enters_at r s o a (model_by w)) → ⊥) → (T (deletes_at r s o a (model_by w)) → ⊥) → Touches b w → (a x ≡ s) × (a y ≡ o)
    none b w f g = by b w (λ t. absurd (f t)) (λ t. absurd (g t))

    go : (b a₁ a₂ a₃ a₄ a₅ a₆ t u : Bool)
        → Touches b (pick a₁ (pick t (Enter q x y) Refused) (pick a₂ (pick t (Delete q x y) Refused) (pick a₃ (pick u (CreateSubject x) Refused) (pick a₄ (pick u (CreateObject x) Refused)
        (pick a₅ (pick u (DestroySubject x) Refused) (pick a₆ (pick u (DestroyObject x) Refused) Refused)))))) → (a x ≡ s) × (a y ≡ o)
    go b true a₂ a₃ a₄ a₅ a₆ true u = by b (Enter q x y) named (λ t. absurd t)
    go b true a₂ a₃ a₄ a₅ a₆ false u = none b Refused (λ t. t) (λ t. t)
    go b false true a₃ a₄ a₅ a₆ true u = by b (Delete q x y) (λ t. absurd t) named
    go b false true a₃ a₄ a₅ a₆ false u = none b Refused (λ t. t) (λ t. t)
    go b false false true a₄ a₅ a₆ t true = none b (CreateSubject x) (λ t. t) (λ t. t)
    go b false false true a₄ a₅ a₆ t false = none b Refused (λ t. t) (λ t. t)
    go b false false false true a₅ a₆ t true = none b (CreateObject x) (λ t. t) (λ t. t)
    go b false false false true a₅ a₆ t false = none b Refused (λ t. t) (λ t. t)
    go b false false false false true a₆ t true = none b (DestroySubject x) (λ t. t) (λ t. t)
    go b false false false false true a₆ t false = none b Refused (λ t. t) (λ t. t)
    go b false false false false false true t true = none b (DestroyObject x) (λ t. t) (λ t. t)
    go b false false false false false true t false = none b Refused (λ t. t) (λ t. t)
    go b false false false false false false t u = none b Refused (λ t. t) (λ t. t)

asked_lacks : (S : System) (m : State) (w : Touch) (n i : ℕ) (c : Command) → Tried c n → (k q : ℕ) → Asks c k q
    → meets S (m.cell (on_side (k / 2) w.subject w.object) (on_side (k % 2) w.subject w.object)) q ≡ false → touching_in S m w n i (meaning c) ≡ none
asked_lacks S m w n i c H k q A e = never_touching S m w n i (meaning c) (λ p.
    let a = names_of_place (meaning c) n p in
    ap (λ (v : ModelOperation). elim (touched_by w a v) [ true ↦ doable S (meaning c) m a | false ↦ false ]) (operation_is c n H)
    ∙ go a (touched_by w a (model_by (operation_at c 0))) (on-cell w.enters w.right w.subject w.object c a))
  where
    go : (a : Actuals) (u : Bool) → (T u → (a (first_of c) ≡ w.subject) × (a (second_of c) ≡ w.object)) → ◌≡◌ {A = Bool} (elim u [ true ↦ doable S (meaning c) m a | false ↦ false ]) false
    go a true f = unheld c S m a k q A (ap₂ (λ (u v : ℕ). meets S (m.cell (on_side (k / 2) u v) (on_side (k % 2) u v)) q) (f tt).0 (f tt).1 ∙ e)
    go a false f = refl

-- ---- the commands that are left: st is m, or m without some rights
module _ (p : Policy) (F : PolicyFits p) (single : SingleSteps p) (n : ℕ) (small : n ≤ names) (m : Matrix) (st : State)
    (less : (u v q : ℕ) → meets (system_of p) ((state_of m).cell u v) q ≡ false → meets (system_of p) (st.cell u v) q ≡ false) (asks : List ℕ) (A : AskedBy p asks) (w : Touch) (lacking : ℕ)
    (L : LackingAt asks p.carriers m.cells w.subject w.object lacking) where
  abbrev s : ℕ
  s = w.subject

  abbrev o : ℕ
  o = w.object

  lacks_none : (i : ℕ) → i < p.commands → has lacking i ≡ true → touching_in (system_of p) st w n i (meaning (get_or p.command i missing)) ≡ none
  lacks_none i l t =
      let X = L.says i t in
      let k = X.cell in
      let q = X.lacks.right in
      let lk : k < 4 = X.few in
      let lq : q < rights = X.lacks.small in
      let zk : (rights * k + q) / rights ≡ k = omega arith in
      let zq : (rights * k + q) % rights ≡ q = omega arith in
      asked_lacks (system_of p) st w n i (get_or p.command i missing) (command_tried p F single n small i l (get_or p.command i missing) refl) k q
      (subst (λ (z : ℕ). Asks (get_or p.command i missing) k z) zq (subst (λ (z : ℕ). Asks (get_or p.command i missing) z ((rights * k + q) % rights)) zk (A.says (rights * k + q) i (omega arith) X.lacks.asked)))
      (less (on_side (k / 2) s o) (on_side (k % 2) s o) q (cell_lacks p F m (on_side (k / 2) s o) (on_side (k % 2) s o) q lq X.lacks.lacks))

  pub left_covers : (which left : ℕ) → ConcernedBy p w.enters w.right which → Says left (left_in which lacking) → Covers p n w st left
  unfolding left_in
  left_covers which left W E = record {
    none_else = λ (i : ℕ) (l : i < p.commands) (e : has left i ≡ false). go i l (has which i) (has lacking i) refl refl (sym (E.says i (omega (arith, F.few_commands))) ∙ e);
  }
    where
      go : (i : ℕ) → i < p.commands → (u v : Bool) → has which i ≡ u → has lacking i ≡ v → u && not v ≡ false → touching_in (system_of p) st w n i (meaning (get_or p.command i missing)) ≡ none
      go i l false v f g e = (concerned_covers p F single n small w st which W).none_else i l f
      go i l true true f g e = lacks_none i l g
      go i l true false f g e = absurd (clash true e refl)
