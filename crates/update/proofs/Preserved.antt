-- A call on a state that fits into a file leaves a state that fits. Assumes nothing.
use Prim.Native.Nat.{ℕ, zero, suc, ◌+◌, ◌≤◌, ◌<◌}
use mathlib.Core.Path.{◌≡◌, sym, ap, ◌∙◌, subst}
use mathlib.Core.Bool.{Bool, true, false, not, ◌&&◌, ◌||◌}
use mathlib.Core.List.{List, [], ◌∷◌, ◌++◌}
use mathlib.Core.Logic.{◌⊎◌, ⊎_elim}
use native.Mathlib.Omega.{arith}
use lib.Dec.{T, eqb, eqb→eq, T_not}
use Rattle.cases.specs.Cases.{pick}
use Rattle.cases.proofs.Bools.{and_left, and_right, both, or_cases, or_left, or_right}
use Rattle.protection.specs.Limits.{names}
use Rattle.protection.specs.State.{Kind, absent, object, subject, is_object, is_subject, State, object_in, subject_in}
use Rattle.protection.specs.Command.{Operation, enter, delete, create_subject, create_object, destroy_subject, destroy_object, Actuals}
use Rattle.protection.specs.Execution.{can_do, same_cell, put, take_out, renew, effect, can_do_all, effect_all}
use Rattle.protection.specs.Proper.{Proper}
use Rattle.commands.specs.Contents.{operation_at, operations_of, operations_from, model_of, step_of}
use Rattle.commands.specs.declared.Command.{Command}
use Rattle.commands.specs.declared.Operation.{Operation as CodeOperation}
use Rattle.commands.proofs.Reading.{operations-of}

-- the right that the operation enters is below g, the name that it creates is one of a file
abbrev pub Sound : ℕ → Actuals → Operation → Type 0
Sound g a (enter q s o) = q < g
Sound g a (delete q s o) = Unit {0}
Sound g a (create_subject s) = a s < names
Sound g a (create_object o) = a o < names
Sound g a (destroy_subject s) = Unit {0}
Sound g a (destroy_object o) = Unit {0}

abbrev pub SoundAll : ℕ → Actuals → List Operation → Type 0
SoundAll g a [] = Unit {0}
SoundAll g a (c ∷ cs) = Sound g a c × SoundAll g a cs

-- the steps of a command, each read and sound
pub sound_steps : (g : ℕ) (a : Actuals) (c : Command) (n j : ℕ) → ((i : ℕ) → j ≤ i → i < j + n → (o : CodeOperation) × (step_of o ≡ operation_at c i) × Sound g a (model_of o)) → SoundAll g a (operations_from c n j)
sound_steps g a c zero j h = tt
sound_steps g a c (suc n) j h =
    let (o, e, s) = h j (omega arith) (omega arith) in
    subst (λ (w : List Operation). SoundAll g a (w ++ operations_from c n (suc j))) (sym (operations-of o) ∙ ap operations_of e)
    (s, sound_steps g a c n (suc j) (λ i l k. h i (omega arith) (omega arith)))

module _ (g : ℕ) (m : State) (P : Proper g m) where
  proper_put : (q s o : ℕ) → q < g → T (subject_in m s) → T (object_in m o) → Proper g (put m q s o)
  proper_put q s o lq hs ho = record {
    named = P.named;
    row = λ s' o' q' t. ⊎_elim (λ e. subst (λ (z : ℕ). T (subject_in m z)) (sym (at_s s' o' q' e)) hs) (P.row s' o' q') (split s' o' q' t);
    column = λ s' o' q' t. ⊎_elim (λ e. subst (λ (z : ℕ). T (object_in m z)) (sym (at_o s' o' q' e)) ho) (P.column s' o' q') (split s' o' q' t);
    right = λ s' o' q' t. ⊎_elim (λ e. subst (λ (z : ℕ). z < g) (sym (at_q s' o' q' e)) lq) (P.right s' o' q') (split s' o' q' t);
  }
    where
      split : (s' o' q' : ℕ) → T ((same_cell s' o' s o && eqb q' q) || m.cell s' o' q') → T (same_cell s' o' s o && eqb q' q) ⊎ T (m.cell s' o' q')
      split s' o' q' t = or_cases (same_cell s' o' s o && eqb q' q) (m.cell s' o' q') t

      at_s : (s' o' q' : ℕ) → T (same_cell s' o' s o && eqb q' q) → s' ≡ s
      at_s s' o' q' e = eqb→eq s' s (and_left (eqb s' s) (eqb o' o) (and_left (same_cell s' o' s o) (eqb q' q) e))

      at_o : (s' o' q' : ℕ) → T (same_cell s' o' s o && eqb q' q) → o' ≡ o
      at_o s' o' q' e = eqb→eq o' o (and_right (eqb s' s) (eqb o' o) (and_left (same_cell s' o' s o) (eqb q' q) e))

      at_q : (s' o' q' : ℕ) → T (same_cell s' o' s o && eqb q' q) → q' ≡ q
      at_q s' o' q' e = eqb→eq q' q (and_right (same_cell s' o' s o) (eqb q' q) e)

  proper_take : (q s o : ℕ) → Proper g (take_out m q s o)
  proper_take q s o = record {
    named = P.named;
    row = λ s' o' q' t. P.row s' o' q' (was s' o' q' t);
    column = λ s' o' q' t. P.column s' o' q' (was s' o' q' t);
    right = λ s' o' q' t. P.right s' o' q' (was s' o' q' t);
  }
    where
      was : (s' o' q' : ℕ) → T (not (same_cell s' o' s o && eqb q' q) && m.cell s' o' q') → T (m.cell s' o' q')
      was s' o' q' t = and_right (not (same_cell s' o' s o && eqb q' q)) (m.cell s' o' q') t

  proper_renew : (n : ℕ) (k : Kind) → (T (is_object k) → n < names) → Proper g (renew m n k)
  proper_renew n k ln = record {
    named = λ x. name x (eqb x n) (eqb→eq x n);
    row = λ s o q t. kept is_subject s (eqb s n) (λ e. gone s o q t (or_left (eqb s n) (eqb o n) e)) (P.row s o q (was s o q t));
    column = λ s o q t. kept is_object o (eqb o n) (λ e. gone s o q t (or_right (eqb s n) (eqb o n) e)) (P.column s o q (was s o q t));
    right = λ s o q t. P.right s o q (was s o q t);
  }
    where
      name : (x : ℕ) (b : Bool) → (T b → x ≡ n) → T (is_object (pick b k (m.kind x))) → x < names
      name x true e t = subst (λ (z : ℕ). z < names) (sym (e tt)) (ln t)
      name x false e t = P.named x t

      was : (s o q : ℕ) → T (not (eqb s n || eqb o n) && m.cell s o q) → T (m.cell s o q)
      was s o q t = and_right (not (eqb s n || eqb o n)) (m.cell s o q) t

      gone : (s o q : ℕ) → T (not (eqb s n || eqb o n) && m.cell s o q) → T (eqb s n || eqb o n) → ⊥
      gone s o q t = T_not (eqb s n || eqb o n) (and_left (not (eqb s n || eqb o n)) (m.cell s o q) t)

      kept : (f : Kind → Bool) (x : ℕ) (b : Bool) → (T b → ⊥) → T (f (m.kind x)) → T (f (pick b k (m.kind x)))
      kept f x true e t = absurd (e tt)
      kept f x false e t = t

  proper_effect : (a : Actuals) (c : Operation) → Sound g a c → T (can_do m a c) → Proper g (effect m a c)
  proper_effect a (enter q s o) l t = proper_put q (a s) (a o) l (search both) (search both)
  proper_effect a (delete q s o) l t = proper_take q (a s) (a o)
  proper_effect a (create_subject s) l t = proper_renew (a s) subject (λ _. l)
  proper_effect a (create_object o) l t = proper_renew (a o) object (λ _. l)
  proper_effect a (destroy_subject s) l t = proper_renew (a s) absent (λ z. absurd z)
  proper_effect a (destroy_object o) l t = proper_renew (a o) absent (λ z. absurd z)

pub proper_all : (g : ℕ) (cs : List Operation) (m : State) (a : Actuals) → Proper g m → SoundAll g a cs → T (can_do_all m a cs) → Proper g (effect_all m a cs)
proper_all g [] m a P l t = P
proper_all g (c ∷ cs) m a P l t = proper_all g cs (effect m a c) a (proper_effect g m P a c l.0 (search both)) l.1 (search both)
