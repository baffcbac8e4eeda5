-- A run that destroys no name of the start, seen in a saturated state: each name of the start keeps its kind and stands for itself. So the saturated state
-- holds what such a run holds in cells of the start. Assumes nothing.
use mathlib.Core.Path.{◌≡◌, refl, subst}
use mathlib.Core.Bool.{Bool, false, not, ◌&&◌}
use mathlib.Core.List.{List, [], ◌∷◌}
use Prim.Native.Nat.{ℕ}
use lib.Dec.{T, eqb, eqb→eq, T_not}
use lib.ListN.{get_elem?}
use Rattle.cases.specs.Cases.{pick}
use Rattle.cases.proofs.Bools.{and_left, and_right, and_intro, or_left, or_right, is_false}
use Rattle.protection.specs.State.{Kind, absent, object, subject, is_object, is_subject, State, object_in, subject_in}
use Rattle.protection.specs.Command.{Operation, enter, delete, create_subject, create_object, destroy_subject, destroy_object, Command, System, Call, Actuals, actuals}
use Rattle.protection.specs.Execution.{unbounded, can_do, renew, effect, Outcome, execute}
use Rattle.protection.specs.Leak.{after, is_refused}
use Rattle.protection.specs.Judge.{operation_in}
use Rattle.protection.specs.Paper.{subject_is_object}
use Rattle.protection.specs.Need.{Cell, holds_all, CellsThere, final, destroys_old, destroys_any_old, operations_of, destroys_start}
use Rattle.protection.proofs.Calls.{Singles, Has, ready, call_cases}
use Rattle.protection.proofs.Saturated.{Maps, Newcomer, Saturated, maps_enter, maps_delete, maps_renamed, newcomer_subject, newcomer_object}

module _ (S : System) (singles : Singles S) (m₀ M : State) (fresh : ℕ) (K : Saturated S m₀ M fresh) where
  -- what holds along such a run
  record Spared (m : State) (f : ℕ → ℕ) : Type 0 where
    maps : Maps m M f
    fixed : (x : ℕ) → T (object_in m₀ x) → (m.kind x ≡ m₀.kind x) × (f x ≡ x)

  start : Spared m₀ (λ x. x)
  start = record { maps = K.grows; fixed = λ x _. (refl, refl) }

  -- it is seen through some map
  abbrev Seen : State → Type 0
  Seen m = (f : ℕ → ℕ) × Spared m f

  -- the call x, with the outcome o, is carried out and destroys a name of the start
  abbrev destroys : Call → Outcome → Bool
  destroys x o = not (is_refused o) && destroys_any_old m₀ (actuals x) (operations_of (get_elem? S.commands x.command))

  module _ (m : State) (f : ℕ → ℕ) (σ : Spared m f) where
    -- a name n that is none of the start is created or destroyed: from now on it stands for n'
    renamed : (n n' : ℕ) (k : Kind) → (T (object_in m₀ n) → ⊥) → (T (is_subject k) → T (subject_in M n')) → (T (is_object k) → T (object_in M n')) → Seen (renew m n k)
    renamed n n' k new hs ho = (
      λ x. pick (eqb x n) n' (f x),
      record {
        maps = maps_renamed S m₀ M fresh K m f σ.maps n n' k hs ho;
        fixed = λ x t. rw (other x t) (σ.fixed x t);
      },
    )
      where
        other : (x : ℕ) → T (object_in m₀ x) → eqb x n ≡ false
        other x t = is_false (eqb x n) (λ e. new (subst (λ (z : ℕ). T (object_in m₀ z)) (eqb→eq x n e) t))

    created : (n : ℕ) (k : Kind) → T (not (object_in m n)) → Newcomer m₀ M k → Seen (renew m n k)
    created n k gone N = renamed n N.name k (λ t. T_not (object_in m n) gone (rw (σ.fixed n t).0 t)) N.subject_too (λ _. N.exists)

    destroyed : (n : ℕ) → (T (object_in m₀ n) → ⊥) → Seen (renew m n absent)
    destroyed n new = renamed n 0 absent new (λ t. absurd t) (λ t. absurd t)

    step : (C : Command) (c : Operation) → Has S C c → (a : Actuals) → T (ready S C m a) → T (can_do m a c) → (T (destroys_old m₀ a c) → ⊥) → Seen (effect m a c)
    step C (enter q s o) H a able can spared = (f, record { maps = maps_enter S m₀ M fresh K m f σ.maps C q s o H a able can; fixed = σ.fixed })
    step C (delete q s o) H a able can spared = (f, record { maps = maps_delete S m₀ M fresh K m f σ.maps q (a s) (a o); fixed = σ.fixed })
    step C (create_subject s) H a able can spared = created (a s) subject can (newcomer_subject S m₀ M fresh K m f σ.maps C s H a able can)
    step C (create_object o) H a able can spared = created (a o) object can (newcomer_object S m₀ M fresh K m f σ.maps C o H a able can)
    step C (destroy_subject s) H a able can spared = destroyed (a s) spared
    step C (destroy_object o) H a able can spared = destroyed (a o) spared

    one_call : (x : Call) → (T (destroys x (execute unbounded S m x)) → ⊥) → Seen (after (execute unbounded S m x) m)
    one_call x = call_cases S singles unbounded m x (λ o. (T (destroys x o) → ⊥) → Seen (after o m)) (λ n _. (f, σ)) (λ C e G spared.
        step C (operation_in C) (record { place = x.command; found = e; is = refl }) (actuals x) G.able G.can
        (λ t. spared (rw (e, (singles x.command C e).one-operation) (or_left (destroys_old m₀ (actuals x) (operation_in C)) false t))))

  along : (xs : List Call) (m : State) (f : ℕ → ℕ) → Spared m f → (T (destroys_start unbounded S m₀ m xs) → ⊥) → Seen (final unbounded S m xs)
  unfolding destroys_start final
  along [] m f σ spared = (f, σ)
  along (x ∷ xs) m f σ spared =
      let out = execute unbounded S m x in
      let (g, τ) = one_call m f σ x (λ t. spared (or_left (destroys x out) (destroys_start unbounded S m₀ (after out m) xs) t)) in
      along xs (after out m) g τ (λ t. spared (or_right (destroys x out) (destroys_start unbounded S m₀ (after out m) xs) t))

  -- ---- cells of the start
  module _ (m : State) (f : ℕ → ℕ) (σ : Spared m f) where
    held_too : (cs : List Cell) → CellsThere cs m₀ → T (holds_all cs m) → T (holds_all cs M)
    held_too [] there t = tt
    held_too (c ∷ cs) there t =
        let s = c.subject in
        let o = c.object in
        let q = c.right in
        let fs = σ.fixed s (subject_is_object (m₀.kind s) there.0) in
        let fo = σ.fixed o there.1 in
        let here : T (M.cell (f s) (f o) q) = σ.maps.cell_to s o q (rw fs.0 there.0) (rw fo.0 there.1) (and_left (m.cell s o q) (holds_all cs m) t) in
        and_intro (M.cell s o q) (holds_all cs M) (rw (fs.1, fo.1) at here) (held_too cs there.2 (and_right (m.cell s o q) (holds_all cs m) t))

  pub spared_held : (cs : List Cell) → CellsThere cs m₀ → (xs : List Call) → (T (destroys_start unbounded S m₀ m₀ xs) → ⊥) → T (holds_all cs (final unbounded S m₀ xs)) → T (holds_all cs M)
  spared_held cs there xs spared =
      let (f, σ) = along xs m₀ (λ x. x) start spared in
      held_too (final unbounded S m₀ xs) f σ cs there
