-- The machine carries out a command's operations exactly where the paper's relation executes the command, and ends in the same configuration.
-- Assumes nothing.
use mathlib.Core.Path.{◌≡◌, refl, sym, ap, ap₂, ◌∙◌, subst}
use mathlib.Core.Bool.{Bool, true, false, not, ◌&&◌, ◌||◌, or-false}
use mathlib.Core.List.{List, [], ◌∷◌}
use mathlib.Core.Option.{Option, none, some}
use Prim.Native.Nat.{ℕ}
use native.Mathlib.Omega.{arith}
use lib.Dec.{T, eqb, eqb→eq, eqb_refl, T_not, not_T}
use lib.ListN.{get_elem?}
use Rattle.cases.specs.Cases.{pick, all}
use Rattle.cases.proofs.Bools.{and_left, and_right, and_intro, both, is_true, is_false, holds as test-holds, fails}
use Rattle.protection.specs.Limits.{parameters}
use Rattle.protection.specs.State.{Kind, absent, object, subject, is_object, is_subject, State, object_in, subject_in}
use Rattle.protection.specs.Command.{Condition, Operation, enter, delete, create_subject, create_object, destroy_subject, destroy_object, Command, System, Call, Actuals, actuals}
use Rattle.protection.specs.Carrying.{meets}
use Rattle.protection.specs.Execution.{hold_all, actual_fits, can_do, same_cell, renew, effect, can_do_all, effect_all, enters_any_new, Outcome, refused, done, gate, execute_command, execute}
use Rattle.protection.specs.Paper.{Configuration, subject_is_object, configuration, Equal, Same, Yields, YieldsAll, MetAll, ExecutesUnder}
use Rattle.protection.specs.Agreement.{Admitted, Agrees}
use Rattle.protection.proofs.Carrying.{meets_exactly}

-- ---- a kind at the name that is created or destroyed, and elsewhere
made_subject : (b : Bool) (k : Kind) → is_subject (pick b subject k) ≡ is_subject k || b
made_subject true absent = refl
made_subject true object = refl
made_subject true subject = refl
made_subject false k = sym (or-false (is_subject k))

made_object : (b : Bool) (k k' : Kind) → T (is_object k') → is_object (pick b k' k) ≡ is_object k || b
made_object true absent k' t = is_true (is_object k') t
made_object true object k' t = is_true (is_object k') t
made_object true subject k' t = is_true (is_object k') t
made_object false k k' t = sym (or-false (is_object k))

-- a kind that is no subject, put where none stands, makes no subject
unmade_subject : (b : Bool) (k k' : Kind) → (T (is_subject k') → ⊥) → (T b → T (is_subject k) → ⊥) → is_subject (pick b k' k) ≡ is_subject k
unmade_subject true k k' n f = is_false (is_subject k') n ∙ sym (is_false (is_subject k) (f tt))
unmade_subject false k k' n f = refl

gone : (f : Kind → Bool) → f absent ≡ false → (b : Bool) (k : Kind) → f (pick b absent k) ≡ f k && not b
gone f e true k = e ∙ sym (none_and (f k))
  where
    none_and : (a : Bool) → a && false ≡ false
    none_and true = refl
    none_and false = refl
gone f e false k = sym (and_all (f k))
  where
    and_all : (a : Bool) → a && true ≡ a
    and_all true = refl
    and_all false = refl

-- ---- a cell at the place that is changed, and elsewhere
here : (x y : ℕ) → T (same_cell x y x y)
here x y = and_intro (eqb x x) (eqb y y) (eqb_refl x) (eqb_refl y)

put_here : (b e v : Bool) → T b → (b && e) || v ≡ v || e
put_here true true true t = refl
put_here true true false t = refl
put_here true false v t = sym (or-false v)
put_here false e v t = absurd t

put_other : (b e v : Bool) → (T b → ⊥) → (b && e) || v ≡ v
put_other true e v f = absurd (f tt)
put_other false e v f = refl

take_here : (b e v : Bool) → T b → not (b && e) && v ≡ v && not e
take_here true true true t = refl
take_here true true false t = refl
take_here true false true t = refl
take_here true false false t = refl
take_here false e v t = absurd t

take_other : (b e v : Bool) → (T b → ⊥) → not (b && e) && v ≡ v
take_other true e v f = absurd (f tt)
take_other false e v f = refl

kept_cell : (b c v : Bool) → (T b → ⊥) → (T c → ⊥) → not (b || c) && v ≡ v
kept_cell true c v f g = absurd (f tt)
kept_cell false true v f g = absurd (g tt)
kept_cell false false v f g = refl

empty_row : (b c v : Bool) → T b → not (b || c) && v ≡ false
empty_row true c v t = refl
empty_row false c v t = absurd t

empty_column : (b c v : Bool) → T c → not (b || c) && v ≡ false
empty_column true c v t = refl
empty_column false true v t = refl
empty_column false false v t = absurd t

apart : (s o x y : ℕ) → ((s ≡ x) × (o ≡ y) → ⊥) → T (same_cell s o x y) → ⊥
apart s o x y f t = f (eqb→eq s x (and_left (eqb s x) (eqb o y) t), eqb→eq o y (and_right (eqb s x) (eqb o y) t))

-- a name that exists is not one that does not
differs : (m : State) (n x : ℕ) → T (object_in m x) → (T (object_in m n) → ⊥) → T (eqb x n) → ⊥
differs m n x t f e = f (subst (λ (z : ℕ). T (object_in m z)) (eqb→eq x n e) t)

-- nor is a name that is left over the one that was destroyed
left_over : (f : Kind → Bool) → f absent ≡ false → (m : State) (n x : ℕ) → T (f (pick (eqb x n) absent (m.kind x))) → T (eqb x n) → ⊥
left_over f e m n x = go (eqb x n)
  where
    go : (b : Bool) → T (f (pick b absent (m.kind x))) → T b → ⊥
    go true t u = fails (f absent) e t
    go false t u = u

-- ---- what the machine does is what the relation allows
done_yields : (m : State) (a : Actuals) (c : Operation) → T (can_do m a c) → Yields c a (configuration m) (configuration (effect m a c))
done_yields m a (enter r s o) t = record {
  subjects = λ x. refl;
  objects = λ x. refl;
  row = search both;
  column = search both;
  others = λ s₁ o₁ _ _ ne q. put_other (same_cell s₁ o₁ (a s) (a o)) (eqb q r) (m.cell s₁ o₁ q) (apart s₁ o₁ (a s) (a o) ne);
  changed = λ q. put_here (same_cell (a s) (a o) (a s) (a o)) (eqb q r) (m.cell (a s) (a o) q) (here (a s) (a o));
}
done_yields m a (delete r s o) t = record {
  subjects = λ x. refl;
  objects = λ x. refl;
  row = search both;
  column = search both;
  others = λ s₁ o₁ _ _ ne q. take_other (same_cell s₁ o₁ (a s) (a o)) (eqb q r) (m.cell s₁ o₁ q) (apart s₁ o₁ (a s) (a o) ne);
  changed = λ q. take_here (same_cell (a s) (a o) (a s) (a o)) (eqb q r) (m.cell (a s) (a o) q) (here (a s) (a o));
}
done_yields m a (create_subject s) t =
    let new : T (object_in m (a s)) → ⊥ = T_not (object_in m (a s)) t in
    record {
      new = new;
      subjects = λ x. made_subject (eqb x (a s)) (m.kind x);
      objects = λ x. made_object (eqb x (a s)) (m.kind x) subject tt;
      kept = λ s₁ o₁ hs ho q. kept_cell (eqb s₁ (a s)) (eqb o₁ (a s)) (m.cell s₁ o₁ q) (differs m (a s) s₁ (subject_is_object (m.kind s₁) hs) new) (differs m (a s) o₁ ho new);
      row = λ o₁ _ q. empty_row (eqb (a s) (a s)) (eqb o₁ (a s)) (m.cell (a s) o₁ q) (eqb_refl (a s));
      column = λ s₁ _ q. empty_column (eqb s₁ (a s)) (eqb (a s) (a s)) (m.cell s₁ (a s) q) (eqb_refl (a s));
    }
done_yields m a (create_object o) t =
    let new : T (object_in m (a o)) → ⊥ = T_not (object_in m (a o)) t in
    record {
      new = new;
      subjects = λ x. unmade_subject (eqb x (a o)) (m.kind x) object (λ z. z) (λ e h. differs m (a o) x (subject_is_object (m.kind x) h) new e);
      objects = λ x. made_object (eqb x (a o)) (m.kind x) object tt;
      kept = λ s₁ o₁ hs ho q. kept_cell (eqb s₁ (a o)) (eqb o₁ (a o)) (m.cell s₁ o₁ q) (differs m (a o) s₁ (subject_is_object (m.kind s₁) hs) new) (differs m (a o) o₁ ho new);
      column = λ s₁ _ q. empty_column (eqb s₁ (a o)) (eqb (a o) (a o)) (m.cell s₁ (a o) q) (eqb_refl (a o));
    }
done_yields m a (destroy_subject s) t = record {
  there = t;
  subjects = λ x. gone is_subject refl (eqb x (a s)) (m.kind x);
  objects = λ x. gone is_object refl (eqb x (a s)) (m.kind x);
  kept = λ s₁ o₁ hs ho q. kept_cell (eqb s₁ (a s)) (eqb o₁ (a s)) (m.cell s₁ o₁ q) (left_over is_subject refl m (a s) s₁ hs) (left_over is_object refl m (a s) o₁ ho);
}
done_yields m a (destroy_object o) t =
    let no-subject : T (subject_in m (a o)) → ⊥ = T_not (subject_in m (a o)) (search both) in
    record {
      there = search both;
      no_subject = no-subject;
      subjects = λ x. unmade_subject (eqb x (a o)) (m.kind x) absent (λ z. z) (λ e h. no-subject (subst (λ (z : ℕ). T (subject_in m z)) (eqb→eq x (a o) e) h));
      objects = λ x. gone is_object refl (eqb x (a o)) (m.kind x);
      kept = λ s₁ o₁ hs ho q. kept_cell (eqb s₁ (a o)) (eqb o₁ (a o)) (m.cell s₁ o₁ q) (left_over is_subject refl m (a o) s₁ hs) (left_over is_object refl m (a o) o₁ ho);
    }

-- ---- what the relation allows is what the machine does
-- C is the state m as a configuration, whatever its matrix says of names that do not exist
module _ (m : State) (C : Configuration) (h : Same (configuration m) C) where
  subject-of : (x : ℕ) → T (C.S x) → T (subject_in m x)
  subject-of x t = subst T (h.subjects x) t

  object-of : (x : ℕ) → T (C.O x) → T (object_in m x)
  object-of x t = subst T (h.objects x) t

  subject_to : (x : ℕ) → T (subject_in m x) → T (C.S x)
  subject_to x t = subst T (sym (h.subjects x)) t

  object_to : (x : ℕ) → T (object_in m x) → T (C.O x)
  object_to x t = subst T (sym (h.objects x)) t

  new_of : (x : ℕ) → (T (C.O x) → ⊥) → T (object_in m x) → ⊥
  new_of x f t = f (object_to x t)

  -- a cell of the next configuration that is as it was
  stays : (E : Configuration) (s o : ℕ) → T (subject_in m s) → T (object_in m o) → Equal (E.P s o) (C.P s o) → (q : ℕ) (b c : Bool)
      → (T b → ⊥) → (T c → ⊥) → E.P s o q ≡ not (b || c) && m.cell s o q
  stays E s o hs ho e q b c f g = e q ∙ h.matrix s o hs ho q ∙ sym (kept_cell b c (m.cell s o q) f g)

  -- what an enter or a delete leaves in each cell: f is what it does to the cell's truth value, upd the machine's way to say it
  changes : (E : Configuration) (r x y : ℕ) (f : Bool → Bool → Bool) (upd : Bool → Bool → Bool → Bool)
      → ((e v : Bool) → upd true e v ≡ f v e) → ((e v : Bool) → upd false e v ≡ v)
      → ((s o : ℕ) → T (C.S s) → T (C.O o) → ((s ≡ x) × (o ≡ y) → ⊥) → Equal (E.P s o) (C.P s o)) → Equal (E.P x y) (λ q. f (C.P x y q) (eqb q r))
      → (s o : ℕ) → T (subject_in m s) → T (object_in m o) → (q : ℕ) → E.P s o q ≡ upd (same_cell s o x y) (eqb q r) (m.cell s o q)
  changes E r x y f upd on off others changed s o hs ho q = go (same_cell s o x y) refl
    where
      was : C.P s o q ≡ m.cell s o q
      was = h.matrix s o hs ho q

      go : (b : Bool) → same_cell s o x y ≡ b → E.P s o q ≡ upd b (eqb q r) (m.cell s o q)
      go true e =
          let t : T (same_cell s o x y) = test-holds (same_cell s o x y) e in
          let es : s ≡ x = eqb→eq s x (and_left (eqb s x) (eqb o y) t) in
          let eo : o ≡ y = eqb→eq o y (and_right (eqb s x) (eqb o y) t) in
          ap₂ (λ (u v : ℕ). E.P u v q) es eo ∙ changed q ∙ ap₂ (λ (u v : ℕ). f (C.P u v q) (eqb q r)) (sym es) (sym eo)
          ∙ ap (λ (v : Bool). f v (eqb q r)) was ∙ sym (on (eqb q r) (m.cell s o q))
      go false e =
          others s o (subject_to s hs) (object_to o ho)
          (λ z. fails (same_cell s o x y) e (subst (λ (n : ℕ). T (eqb s n && eqb o y)) z.0 (subst (λ (n : ℕ). T (eqb s s && eqb o n)) z.1 (here s o)))) q
          ∙ was ∙ sym (off (eqb q r) (m.cell s o q))

  -- a create: the new row and column are empty, the old cells are kept; and so where the new name is no subject and has no row
  creates : (E : Configuration) (n : ℕ) (k : Kind) → (T (C.O n) → ⊥) → Equal E.S (subject_in (renew m n k)) → Equal E.O (object_in (renew m n k))
      → ((s o : ℕ) → T (C.S s) → T (C.O o) → Equal (E.P s o) (C.P s o)) → ((o : ℕ) → T (E.S n) → T (E.O o) → (q : ℕ) → E.P n o q ≡ false)
      → ((s : ℕ) → T (E.S s) → (T (eqb s n) → ⊥) → (q : ℕ) → E.P s n q ≡ false) → Same (configuration (renew m n k)) E
  creates E n k new es eo kept row column = record { subjects = es; objects = eo; matrix = λ s o hs ho q. go s o q (eqb s n) (eqb o n) refl refl hs ho }
    where
      go : (s o q : ℕ) (b c : Bool) → eqb s n ≡ b → eqb o n ≡ c → T (subject_in (renew m n k) s) → T (object_in (renew m n k) o) → E.P s o q ≡ not (b || c) && m.cell s o q
      go s o q true c e d hs ho =
          let z : s ≡ n = eqb→eq s n (test-holds (eqb s n) e) in
          ap (λ (u : ℕ). E.P u o q) z ∙ row o (subst (λ (u : ℕ). T (E.S u)) z (subst T (sym (es s)) hs)) (subst T (sym (eo o)) ho) q
      go s o q false true e d hs ho =
          let z : o ≡ n = eqb→eq o n (test-holds (eqb o n) d) in
          ap (λ (u : ℕ). E.P s u q) z ∙ column s (subst T (sym (es s)) hs) (fails (eqb s n) e) q
      go s o q false false e d hs ho =
          let hs' : T (subject_in m s) = subst (λ (b : Bool). T (is_subject (pick b k (m.kind s)))) e hs in
          let ho' : T (object_in m o) = subst (λ (b : Bool). T (is_object (pick b k (m.kind o)))) d ho in
          kept s o (subject_to s hs') (object_to o ho') q ∙ h.matrix s o hs' ho' q

  destroys : (E : Configuration) (n : ℕ) → Equal E.S (subject_in (renew m n absent)) → Equal E.O (object_in (renew m n absent))
      → ((s o : ℕ) → T (E.S s) → T (E.O o) → Equal (E.P s o) (C.P s o)) → Same (configuration (renew m n absent)) E
  destroys E n es eo kept = record { subjects = es; objects = eo; matrix = λ s o hs ho q. go s o q hs ho }
    where
      old : (f : Kind → Bool) → f absent ≡ false → (x : ℕ) (b : Bool) → T (f (pick b absent (m.kind x))) → T (f (m.kind x))
      old f e x true t = absurd (fails (f absent) e t)
      old f e x false t = t

      go : (s o q : ℕ) → T (subject_in (renew m n absent) s) → T (object_in (renew m n absent) o) → E.P s o q ≡ not (eqb s n || eqb o n) && m.cell s o q
      go s o q hs ho =
          kept s o (subst T (sym (es s)) hs) (subst T (sym (eo o)) ho) q
          ∙ h.matrix s o (old is_subject refl s (eqb s n) hs) (old is_object refl o (eqb o n) ho) q
          ∙ sym (kept_cell (eqb s n) (eqb o n) (m.cell s o q) (left_over is_subject refl m n s hs) (left_over is_object refl m n o ho))

  yields_done : (E : Configuration) (a : Actuals) (c : Operation) → Yields c a C E → T (can_do m a c) × Same (configuration (effect m a c)) E
  yields_done E a (enter r s o) y = (
    and_intro (subject_in m (a s)) (object_in m (a o)) (subject-of (a s) y.row) (object-of (a o) y.column),
    record {
      subjects = λ x. y.subjects x ∙ h.subjects x;
      objects = λ x. y.objects x ∙ h.objects x;
      matrix = changes E r (a s) (a o) (λ v e. v || e) (λ b e v. (b && e) || v) (λ e v. put_here true e v tt) (λ e v. refl) y.others y.changed;
    },
  )
  yields_done E a (delete r s o) y = (
    and_intro (subject_in m (a s)) (object_in m (a o)) (subject-of (a s) y.row) (object-of (a o) y.column),
    record {
      subjects = λ x. y.subjects x ∙ h.subjects x;
      objects = λ x. y.objects x ∙ h.objects x;
      matrix = changes E r (a s) (a o) (λ v e. v && not e) (λ b e v. not (b && e) && v) (λ e v. take_here true e v tt) (λ e v. refl) y.others y.changed;
    },
  )
  yields_done E a (create_subject s) y = (
    not_T (object_in m (a s)) (new_of (a s) y.new),
    creates E (a s) subject y.new
        (λ x. y.subjects x ∙ ap (λ (v : Bool). v || eqb x (a s)) (h.subjects x) ∙ sym (made_subject (eqb x (a s)) (m.kind x)))
        (λ x. y.objects x ∙ ap (λ (v : Bool). v || eqb x (a s)) (h.objects x) ∙ sym (made_object (eqb x (a s)) (m.kind x) subject tt))
        y.kept (λ o _ t. y.row o t) (λ s₁ t _. y.column s₁ t),
  )
  yields_done E a (create_object o) y = (
    not_T (object_in m (a o)) new,
    creates E (a o) object y.new es eo y.kept
        (λ o₁ t _ q. absurd (y.new (C.subset (a o) (subst T (y.subjects (a o)) t))))
        (λ s t _. y.column s (subst T (y.subjects s) t)),
  )
    where
      new : T (object_in m (a o)) → ⊥
      new = new_of (a o) y.new

      es : Equal E.S (subject_in (renew m (a o) object))
      es x = y.subjects x ∙ h.subjects x
          ∙ sym (unmade_subject (eqb x (a o)) (m.kind x) object (λ z. z) (λ e t. differs m (a o) x (subject_is_object (m.kind x) t) new e))

      eo : Equal E.O (object_in (renew m (a o) object))
      eo x = y.objects x ∙ ap (λ (v : Bool). v || eqb x (a o)) (h.objects x) ∙ sym (made_object (eqb x (a o)) (m.kind x) object tt)
  yields_done E a (destroy_subject s) y = (
    subject-of (a s) y.there,
    destroys E (a s)
        (λ x. y.subjects x ∙ ap (λ (v : Bool). v && not (eqb x (a s))) (h.subjects x) ∙ sym (gone is_subject refl (eqb x (a s)) (m.kind x)))
        (λ x. y.objects x ∙ ap (λ (v : Bool). v && not (eqb x (a s))) (h.objects x) ∙ sym (gone is_object refl (eqb x (a s)) (m.kind x)))
        y.kept,
  )
  yields_done E a (destroy_object o) y = (
    and_intro (object_in m (a o)) (not (subject_in m (a o))) (object-of (a o) y.there) (not_T (subject_in m (a o)) no-subject),
    destroys E (a o)
        (λ x. y.subjects x ∙ h.subjects x
        ∙ sym (unmade_subject (eqb x (a o)) (m.kind x) absent (λ z. z) (λ e t. no-subject (subst (λ (z : ℕ). T (subject_in m z)) (eqb→eq x (a o) e) t))))
        (λ x. y.objects x ∙ ap (λ (v : Bool). v && not (eqb x (a o))) (h.objects x) ∙ sym (gone is_object refl (eqb x (a o)) (m.kind x)))
        y.kept,
  )
    where
      no-subject : T (subject_in m (a o)) → ⊥
      no-subject t = y.no_subject (subject_to (a o) t)

-- ---- all operations of a command
same_self : (C : Configuration) → Same C C
same_self C = record { subjects = λ x. refl; objects = λ x. refl; matrix = λ s o _ _ q. refl }

same_trans : (B C D : Configuration) → Same B C → Same C D → Same B D
same_trans B C D h k = record {
  subjects = λ x. k.subjects x ∙ h.subjects x;
  objects = λ x. k.objects x ∙ h.objects x;
  matrix = λ s o hs ho q. k.matrix s o (subst T (sym (h.subjects s)) hs) (subst T (sym (h.objects o)) ho) q ∙ h.matrix s o hs ho q;
}

done_yields_all : (cs : List Operation) (m : State) (a : Actuals) → T (can_do_all m a cs) → YieldsAll cs a (configuration m) (configuration (effect_all m a cs))
done_yields_all [] m a t = same_self (configuration m)
done_yields_all (c ∷ cs) m a t =
    (configuration (effect m a c), done_yields m a c (search both), done_yields_all cs (effect m a c) a (search both))

yields_done_all : (cs : List Operation) (m : State) (a : Actuals) (C : Configuration) → Same (configuration m) C → (E : Configuration) → YieldsAll cs a C E
    → T (can_do_all m a cs) × Same (configuration (effect_all m a cs)) E
yields_done_all [] m a C h E y = (tt, same_trans (configuration m) C E h y)
yields_done_all (c ∷ cs) m a C h E y =
    let one = yields_done m C h y.0 a c y.1 in
    let rest = yields_done_all cs (effect m a c) a y.0 one.1 E y.2 in
    (and_intro (can_do m a c) (can_do_all (effect m a c) a cs) one.0 rest.0, rest.1)

-- ---- conditions
hold_met : (S : System) (m : State) (a : Actuals) (cs : List Condition) → T (hold_all S m a cs) → MetAll S cs a (configuration m)
hold_met S m a [] t = tt
hold_met S m a (c ∷ cs) t =
    let met : T (meets S (m.cell (a c.subject) (a c.object)) c.right) = search both in
    (record { row = search both; column = search both; right = (meets_exactly S (m.cell (a c.subject) (a c.object)) c.right).0 met }, hold_met S m a cs (search both))

met_hold : (S : System) (m : State) (a : Actuals) (cs : List Condition) → MetAll S cs a (configuration m) → T (hold_all S m a cs)
met_hold S m a [] h = tt
met_hold S m a (c ∷ cs) h =
    let row = h.0.row in let column = h.0.column in let rest = met_hold S m a cs h.1 in
    let met = (meets_exactly S (m.cell (a c.subject) (a c.object)) c.right).1 h.0.right in
    search both

-- ---- the theorem
not_both : (m : State) (new : ℕ → Bool) (n : ℕ) → done m new ≡ refused n → ⊥
not_both m new n e = let z : ◌≡◌ {A = ℕ} 0 1 = cc in omega arith

pub gates_open : (b c d : Bool) (o : Outcome) → T b → T c → T d → gate b 12 (gate c 14 (gate d 15 o)) ≡ o
gates_open true true true o p q s = refl
gates_open true true false o p q s = absurd s
gates_open true false d o p q s = absurd q
gates_open false c d o p q s = absurd p

pub gates_elim : (P : Outcome → Type 0) (b c d : Bool) (o : Outcome) → ((n : ℕ) → P (refused n)) → (T b → T c → T d → P o) → P (gate b 12 (gate c 14 (gate d 15 o)))
gates_elim P false c d o z h = z 12
gates_elim P true false d o z h = z 14
gates_elim P true true false o z h = z 15
gates_elim P true true true o z h = h tt tt tt

module _ (nameable : ℕ → Bool) (S : System) (m : State) (x : Call) where
  abbrev a : Actuals
  a = actuals x

  execution : (C : Command) → get_elem? S.commands x.command ≡ some C → execute nameable S m x ≡ execute_command nameable S m (some C) a
  execution C e = ap (λ (w : Option Command). execute_command nameable S m w a) e

  done_executes : (m' : State) (new : ℕ → Bool) → execute nameable S m x ≡ done m' new
      → (C : Command) × Admitted nameable S x C × ExecutesUnder S C a (configuration m) (configuration m')
  done_executes m' new = go (get_elem? S.commands x.command) refl
    where
      go : (w : Option Command) → get_elem? S.commands x.command ≡ w → execute_command nameable S m w a ≡ done m' new
          → (C : Command) × Admitted nameable S x C × ExecutesUnder S C a (configuration m) (configuration m')
      go none e = λ d. absurd (not_both m' new 11 (sym d))
      go (some C) e =
          gates_elim (λ o. o ≡ done m' new → (C : Command) × Admitted nameable S x C × ExecutesUnder S C a (configuration m) (configuration m'))
          (all (actual_fits nameable C a) parameters 0) (hold_all S m a C.conditions) (can_do_all m a C.operations)
          (done (effect_all m a C.operations) (enters_any_new m a C.operations))
          (λ n d. absurd (not_both m' new n (sym d)))
          (λ fit hold can d.
          let z : effect_all m a C.operations ≡ m' = cc in (
            C,
            record { found = e; fit = fit },
            record { conditions = hold_met S m a C.conditions hold; operations = subst (λ (k : State). YieldsAll C.operations a (configuration m) (configuration k)) z (done_yields_all C.operations m a can) },
          ))

  executes_done : (C : Command) (E : Configuration) → Admitted nameable S x C → ExecutesUnder S C a (configuration m) E
      → (m' : State) × (new : ℕ → Bool) × (execute nameable S m x ≡ done m' new) × Same (configuration m') E
  executes_done C E A y =
      let d = yields_done_all C.operations m a (configuration m) (same_self (configuration m)) E y.operations in (
        effect_all m a C.operations,
        enters_any_new m a C.operations,
        execution C A.found
            ∙ gates_open (all (actual_fits nameable C a) parameters 0) (hold_all S m a C.conditions) (can_do_all m a C.operations)
            (done (effect_all m a C.operations) (enters_any_new m a C.operations)) A.fit (met_hold S m a C.conditions y.conditions) d.0,
        d.1,
      )

  refused_or_done : (o : Outcome) → ((m' : State) (new : ℕ → Bool) → o ≡ done m' new → ⊥) → (n : ℕ) × (o ≡ refused n)
  refused_or_done (refused n) f = (n, refl)
  refused_or_done (done m' new) f = absurd (f m' new refl)

  pub machine_is_model : Agrees nameable S m x
  machine_is_model = record {
    done_executes = done_executes;
    executes_done = executes_done;
    refused_exactly = (
      λ r C E A y. let d = executes_done C E A y in not_both d.0 d.1 r.0 (sym d.2 ∙ r.1),
      λ f. refused_or_done (execute nameable S m x) (λ m' new e. let d = done_executes m' new e in f d.0 (configuration m') d.1 d.2),
    );
  }
