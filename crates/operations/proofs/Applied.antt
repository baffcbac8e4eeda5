-- An operation taken apart: what its parameters have, and what doing it leaves, seen as a state. Assumes nothing.
use Prim.Native.Nat.{ℕ, ◌+◌, ◌*◌, ◌<◌}
use mathlib.Core.Path.{◌≡◌, refl, sym, ap, ◌∙◌, subst}
use mathlib.Core.Bool.{Bool, true, false, not, ◌&&◌}
use mathlib.Core.List.{List, []}
use mathlib.Core.Logic.{◌⊎◌, inl, inr}
use native.Mathlib.Omega.{arith}
use borrow.Author.Tests.{eq-eqb, ne_eqb}
use lib.Dec.{T, eqb}
use lib.ListN.{get_or}
use Rattle.cases.proofs.Bools.{is_false, holds as test-holds, fails}
use Rattle.rights.specs.Rights.{has}
use Rattle.protection.specs.Limits.{rights}
use Rattle.protection.specs.State.{is_object, is_subject}
use Rattle.protection.specs.Command.{Actuals, values_of}
use Rattle.protection.specs.Execution.{can_do, effect, enters_new}
use Rattle.matrix.specs.Bytes.{kind_of, inside, rights_in, view}
use Rattle.matrix.specs.Canonical.{Canonical}
use Rattle.matrix.specs.Matrices.{state_of, entered, deleted, renewed}
use Rattle.matrix.specs.declared.Matrix.{Matrix}
use Rattle.matrix.proofs.Operations.{entered_state, deleted_state, renewed_state, entered_canonical, deleted_canonical, renewed_canonical}
use Rattle.matrix.proofs.Inverse.{within_inside, in_bit}
use Rattle.commands.specs.Contents.{model_of}
use Rattle.commands.specs.declared.Operation.{Operation}
use Rattle.commands.specs.declared.Operation.TheVariants.{Enter, Delete, CreateSubject, CreateObject, DestroySubject, DestroyObject}
use Rattle.operations.specs.Operations.{HasName, Applies, performed}

-- ---- the parameters of an operation that is known by its case
module _ (a : List ℕ) (op : Operation) (q s o : ℕ) (h : Applies a op) where
  pub enter_right : op ≡ Enter q s o → q < rights
  enter_right e = (subst (Applies a) e h).0

  pub enter_subject : op ≡ Enter q s o → HasName a s
  enter_subject e = (subst (Applies a) e h).1

  pub enter_object : op ≡ Enter q s o → HasName a o
  enter_object e = (subst (Applies a) e h).2

  pub delete_right : op ≡ Delete q s o → q < rights
  delete_right e = (subst (Applies a) e h).0

  pub delete_subject : op ≡ Delete q s o → HasName a s
  delete_subject e = (subst (Applies a) e h).1

  pub delete_object : op ≡ Delete q s o → HasName a o
  delete_object e = (subst (Applies a) e h).2

-- one of two cases
module _ (a : List ℕ) (op : Operation) (s o : ℕ) (h : Applies a op) where
  pub cell_subject : ((q : ℕ) × (op ≡ Enter q s o)) ⊎ ((q : ℕ) × (op ≡ Delete q s o)) → HasName a s
  cell_subject (inl w) = enter_subject a op w.0 s o h w.1
  cell_subject (inr w) = delete_subject a op w.0 s o h w.1

  pub cell_object : ((q : ℕ) × (op ≡ Enter q s o)) ⊎ ((q : ℕ) × (op ≡ Delete q s o)) → HasName a o
  cell_object (inl w) = enter_object a op w.0 s o h w.1
  cell_object (inr w) = delete_object a op w.0 s o h w.1

module _ (a : List ℕ) (op : Operation) (s : ℕ) (h : Applies a op) where
  pub create-subject : op ≡ CreateSubject s → HasName a s
  create-subject e = subst (Applies a) e h

  pub create-object : op ≡ CreateObject s → HasName a s
  create-object e = subst (Applies a) e h

  pub destroy-subject : op ≡ DestroySubject s → HasName a s
  destroy-subject e = subst (Applies a) e h

  pub destroy-object : op ≡ DestroyObject s → HasName a s
  destroy-object e = subst (Applies a) e h

  pub created : (op ≡ CreateSubject s) ⊎ (op ≡ CreateObject s) → HasName a s
  created (inl e) = create-subject e
  created (inr e) = create-object e

  pub destroyed : (op ≡ DestroySubject s) ⊎ (op ≡ DestroyObject s) → HasName a s
  destroyed (inl e) = destroy-subject e
  destroyed (inr e) = destroy-object e

pub ruleset applied = (enter_right, enter_subject, enter_object, delete_right, delete_subject, delete_object, create-subject, create-object, destroy-subject, destroy-object, created, destroyed)

-- ---- whether it can be done
module _ (ks a : List ℕ) (op : Operation) (r : Bool) where
  pub can_change_cell : (s o x y : ℕ) → ((q : ℕ) × (op ≡ Enter q s o)) ⊎ ((q : ℕ) × (op ≡ Delete q s o)) → x ≡ get_or a s 0 → y ≡ get_or a o 0 → r ≡ inside ks x y
      → r ≡ can_do (view ks []) (values_of a) (model_of op)
  can_change_cell s o x y (inl w) ex ey d = d ∙ rw (ex, ey, w.1)
  can_change_cell s o x y (inr w) ex ey d = d ∙ rw (ex, ey, w.1)

  pub can_create : (s x : ℕ) → (op ≡ CreateSubject s) ⊎ (op ≡ CreateObject s) → x ≡ get_or a s 0 → r ≡ is_object (kind_of (get_or ks x 0))
      → not r ≡ can_do (view ks []) (values_of a) (model_of op)
  can_create s x (inl e) ex d = ap not d ∙ rw (ex, e)
  can_create s x (inr e) ex d = ap not d ∙ rw (ex, e)

  pub can_destroy_subject : (s x : ℕ) → op ≡ DestroySubject s → x ≡ get_or a s 0 → r ≡ is_subject (kind_of (get_or ks x 0)) → r ≡ can_do (view ks []) (values_of a) (model_of op)
  can_destroy_subject s x e ex d = d ∙ rw (ex, e)

  pub can_destroy_object : (s x : ℕ) → op ≡ DestroyObject s → x ≡ get_or a s 0 → r ≡ is_object (kind_of (get_or ks x 0)) && not (is_subject (kind_of (get_or ks x 0))) → r ≡ can_do (view ks []) (values_of a) (model_of op)
  can_destroy_object s x e ex d = d ∙ rw (ex, e)

pub ruleset can-be-done = (can_change_cell, can_create, can_destroy_subject, can_destroy_object)

-- ---- a right in a cell, asked of a cell with row and column, or of another
pub held_in : (ks cs : List ℕ) (s o q : ℕ) (r b : Bool) → r ≡ inside ks s o → r ≡ true → b ≡ has (get_or cs (32 * s + o) 0) q → b ≡ rights_in ks cs s o q
held_in ks cs s o q r b d t e = e ∙ sym (in_bit ks cs s o q (test-holds (inside ks s o) (sym d ∙ t)))

pub held_out : (ks cs : List ℕ) (s o q : ℕ) (r : Bool) → r ≡ inside ks s o → r ≡ false → r ≡ rights_in ks cs s o q
held_out ks cs s o q r d t = t ∙ sym (is_false (rights_in ks cs s o q) (λ u. fails (inside ks s o) (sym d ∙ t) (within_inside ks cs s o q u)))

-- ---- whether it enters a right anew
module _ (ks cs a : List ℕ) (op : Operation) (r : ℕ) where
  pub enters_here : (q s o x y : ℕ) (b : Bool) → op ≡ Enter q s o → x ≡ get_or a s 0 → y ≡ get_or a o 0 → q ≡ r → b ≡ rights_in ks cs x y q → not b ≡ enters_new (view ks cs) (values_of a) (model_of op) r
  enters_here q s o x y b e ex ey eq d = ap not d ∙ rw (ex, ey, e, eq, eq-eqb r r refl)

  pub enters_other : (q s o : ℕ) (b : Bool) → op ≡ Enter q s o → b ≡ eqb q r → (q ≡ r → ⊥) → b ≡ enters_new (view ks cs) (values_of a) (model_of op) r
  enters_other q s o b e d ne = d ∙ rw (e, ne_eqb q r ne)

-- ---- what doing it leaves
module _ (m : Matrix) (a : List ℕ) (op : Operation) (x : Matrix) where
  pub did_enter : (q s o y z : ℕ) → op ≡ Enter q s o → y ≡ get_or a s 0 → z ≡ get_or a o 0 → x ≡ entered m q y z → x ≡ performed m (values_of a) op
  did_enter q s o y z e ey ez d = d ∙ rw (ey, ez, e)

  pub did_delete : (q s o y z : ℕ) → op ≡ Delete q s o → y ≡ get_or a s 0 → z ≡ get_or a o 0 → x ≡ deleted m q y z → x ≡ performed m (values_of a) op
  did_delete q s o y z e ey ez d = d ∙ rw (ey, ez, e)

  pub did_create_subject : (s y : ℕ) → op ≡ CreateSubject s → y ≡ get_or a s 0 → x ≡ renewed m y 2 → x ≡ performed m (values_of a) op
  did_create_subject s y e ey d = d ∙ rw (ey, e)

  pub did_create_object : (s y : ℕ) → op ≡ CreateObject s → y ≡ get_or a s 0 → x ≡ renewed m y 1 → x ≡ performed m (values_of a) op
  did_create_object s y e ey d = d ∙ rw (ey, e)

  pub did_destroy : (s y : ℕ) → (op ≡ DestroySubject s) ⊎ (op ≡ DestroyObject s) → y ≡ get_or a s 0 → x ≡ renewed m y 0 → x ≡ performed m (values_of a) op
  did_destroy s y (inl e) ey d = d ∙ rw (ey, e)
  did_destroy s y (inr e) ey d = d ∙ rw (ey, e)

pub ruleset did = (did_enter, did_delete, did_create_subject, did_create_object, did_destroy)

-- ---- seen as a state
pub can_by_kinds : (ks cs ds : List ℕ) (a : Actuals) (op : Operation) → can_do (view ks cs) a (model_of op) ≡ can_do (view ks ds) a (model_of op)
can_by_kinds ks cs ds a (Enter q s o) = refl
can_by_kinds ks cs ds a (Delete q s o) = refl
can_by_kinds ks cs ds a (CreateSubject s) = refl
can_by_kinds ks cs ds a (CreateObject o) = refl
can_by_kinds ks cs ds a (DestroySubject s) = refl
can_by_kinds ks cs ds a (DestroyObject o) = refl

-- the operation's right is below g
abbrev pub Grants : ℕ → Operation → Type 0
Grants g (Enter q s o) = q < g
Grants g (Delete q s o) = q < g
Grants g (CreateSubject s) = Unit {0}
Grants g (CreateObject o) = Unit {0}
Grants g (DestroySubject s) = Unit {0}
Grants g (DestroyObject o) = Unit {0}

module _ (g : ℕ) (m : Matrix) (K : Canonical g m.kinds m.cells) (a : List ℕ) where
  pub performed_state : (op : Operation) → Applies a op → Grants g op → T (can_do (state_of m) (values_of a) (model_of op)) → state_of (performed m (values_of a) op) ≡ effect (state_of m) (values_of a) (model_of op)
  performed_state (Enter q s o) h l t = entered_state g m K q (get_or a s 0) (get_or a o 0) l h.1.name h.2.name t
  performed_state (Delete q s o) h l t = deleted_state g m K q (get_or a s 0) (get_or a o 0) l h.1.name h.2.name
  performed_state (CreateSubject s) h l t = renewed_state g m K (get_or a s 0) 2 h.name
  performed_state (CreateObject o) h l t = renewed_state g m K (get_or a o 0) 1 h.name
  performed_state (DestroySubject s) h l t = renewed_state g m K (get_or a s 0) 0 h.name
  performed_state (DestroyObject o) h l t = renewed_state g m K (get_or a o 0) 0 h.name

  pub performed_canonical : (op : Operation) → Applies a op → Grants g op → T (can_do (state_of m) (values_of a) (model_of op))
      → Canonical g (performed m (values_of a) op).kinds (performed m (values_of a) op).cells
  performed_canonical (Enter q s o) h l t = entered_canonical g m K q (get_or a s 0) (get_or a o 0) l h.1.name h.2.name t
  performed_canonical (Delete q s o) h l t = deleted_canonical g m K q (get_or a s 0) (get_or a o 0) l h.1.name h.2.name
  performed_canonical (CreateSubject s) h l t = renewed_canonical g m K (get_or a s 0) 2 h.name (omega arith)
  performed_canonical (CreateObject o) h l t = renewed_canonical g m K (get_or a o 0) 1 h.name (omega arith)
  performed_canonical (DestroySubject s) h l t = renewed_canonical g m K (get_or a s 0) 0 h.name (omega arith)
  performed_canonical (DestroyObject o) h l t = renewed_canonical g m K (get_or a o 0) 0 h.name (omega arith)
