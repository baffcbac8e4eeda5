-- What a press needs: where the rounds end by the cells, their steps come to hold them all, and no sooner; where they do not, no run that destroys no name of
-- the start ends with all of them held. Assumes nothing.
use mathlib.Core.Path.{◌≡◌, refl, sym, ap, ◌∙◌, subst}
use mathlib.Core.Bool.{Bool, false, not, ◌&&◌, ◌||◌}
use mathlib.Core.List.{List, [], ◌∷◌, ◌++◌, append_assoc, append-nil}
use mathlib.Core.Logic.{◌⊎◌, inl, inr, ⊎_elim, ◌↔◌}
use mathlib.Core.Option.{some}
use Prim.Native.Nat.{ℕ, ◌≤◌}
use native.Mathlib.Omega.{arith}
use lib.Dec.{T, T_not}
use lib.ListN.{length, get_elem?}
use Rattle.cases.proofs.Bools.{and_right, or_cases, or_map, stable}
use Rattle.protection.specs.State.{State}
use Rattle.protection.specs.Size.{step_bound}
use Rattle.protection.specs.Command.{Operation, enter, delete, create_subject, create_object, destroy_subject, destroy_object, Command, System, Call, Actuals, actuals}
use Rattle.protection.specs.Execution.{unbounded, execute}
use Rattle.protection.specs.Leak.{after, is_refused, any_refused}
use Rattle.protection.specs.Judge.{none_reserved, lowest_free, operation_in, call_at, Progress, opened, wanted, visit, all_rounds}
use Rattle.protection.specs.Need.{Cell, CellsThere, holds_all, held_of, final, destroys_old, destroys_any_old, operations_of, destroys_start, HeldAfter, NeverHeld}
use Rattle.protection.proofs.Widening.{call_unbounded}
use Rattle.protection.proofs.Rounds.{visit_cases, keep_rounds}
use Rattle.protection.proofs.Invariant.{Goes, stays, more}
use Rattle.protection.proofs.Saturation.{Taken, kept_rounds, steps_bound, last_saturated}
use Rattle.protection.proofs.Fronts.{front_steps, same_steps}
use Rattle.protection.proofs.Spared.{spared_held}

-- ---- lists
nothing_left : (ys zs : List Call) → [] ≡ ys ++ zs → zs ≡ []
nothing_left [] zs e = sym e
nothing_left (y ∷ ys) zs e = cc

-- a front of a list with one more is all of it, or a front of the list
shorter : (xs ys zs : List Call) (x : Call) → xs ++ (x ∷ []) ≡ ys ++ zs → (zs ≡ []) ⊎ ((rest : List Call) × (xs ≡ ys ++ rest))
shorter xs [] zs x e = inr (xs, refl)
shorter [] (y ∷ ys) zs x e = inl (nothing_left ys zs (cc))
shorter (w ∷ xs) (y ∷ ys) zs x e = ⊎_elim inl (λ h. inr (h.0, cc)) (shorter xs ys zs x (cc))

-- ---- the judge's steps, as a run on names without number
module _ (S : System) (cs : List Cell) (m₀ : State) where
  abbrev Run : List Call → State → Bool → Type 0
  Run = Goes S (held_of cs) m₀

  -- the flag says that all cells are held
  flag_held : (xs : List Call) (m : State) (l : Bool) → Run xs m l → l ≡ holds_all cs m
  flag_held xs m l (stays e) = sym e
  flag_held xs m l (more x G new e d) = sym d

  final_past : (xs : List Call) (m : State) (l : Bool) → Run xs m l → (ys : List Call) → final unbounded S m₀ (xs ++ ys) ≡ final unbounded S m ys
  unfolding final
  final_past xs m l (stays e) ys = refl
  final_past xs m l (more {xs = zs} {m = n} x G new e d) ys =
      ap (final unbounded S m₀) (append_assoc zs (x ∷ []) ys) ∙ final_past zs n false G (x ∷ ys) ∙ rw (call_unbounded S x n m new e)

  refused_past : (xs : List Call) (m : State) (l : Bool) → Run xs m l → (ys : List Call) → any_refused unbounded S m₀ (xs ++ ys) ≡ any_refused unbounded S m ys
  unfolding any_refused
  refused_past xs m l (stays e) ys = refl
  refused_past xs m l (more {xs = zs} {m = n} x G new e d) ys =
      ap (any_refused unbounded S m₀) (append_assoc zs (x ∷ []) ys) ∙ refused_past zs n false G (x ∷ ys) ∙ rw (call_unbounded S x n m new e)

  ends_in : (xs : List Call) (m : State) (l : Bool) → Run xs m l → final unbounded S m₀ xs ≡ m
  unfolding final
  ends_in xs m l G = ap (final unbounded S m₀) (sym (append-nil xs)) ∙ final_past xs m l G []

  none_refused : (xs : List Call) (m : State) (l : Bool) → Run xs m l → any_refused unbounded S m₀ xs ≡ false
  unfolding any_refused
  none_refused xs m l G = ap (any_refused unbounded S m₀) (sym (append-nil xs)) ∙ refused_past xs m l G []

  no_sooner : (xs : List Call) (m : State) (l : Bool) → Run xs m l → (ys zs : List Call) → xs ≡ ys ++ zs → T (holds_all cs (final unbounded S m₀ ys)) → zs ≡ []
  no_sooner xs m l (stays e) ys zs d t = nothing_left ys zs d
  no_sooner xs m l (more {xs = ws} {m = n} x G new e d) ys zs f t = ⊎_elim (λ h. h) (λ h. absurd (before h.0 h.1 (no_sooner ws n false G ys h.0 h.1 t))) (shorter ws ys zs x f)
    where
      -- the state before the last call does not hold them
      before : (rest : List Call) → ws ≡ ys ++ rest → rest ≡ [] → ⊥
      before rest d e =
          let all : ys ≡ ws = sym (append-nil ys) ∙ ap (λ (l : List Call). ys ++ l) (sym e) ∙ sym d in
          subst T (sym (flag_held ws n false G)) (rw (all, ends_in ws n false G) at t)

-- ---- the judge destroys nothing
module _ (S : System) (m₀ : State) where
  abbrev destroys : Call → Bool
  destroys x = destroys_any_old m₀ (actuals x) (operations_of (get_elem? S.commands x.command))

  -- a call that destroys no name of the start, behind a run
  spared_behind : (x : Call) → (T (destroys x) → ⊥) → (xs : List Call) (m : State)
      → T (destroys_start unbounded S m₀ m (xs ++ (x ∷ []))) → T (destroys_start unbounded S m₀ m xs)
  unfolding destroys_start
  spared_behind x spared [] m t =
      ⊎_elim (λ u. absurd (spared (and_right (not (is_refused (execute unbounded S m x))) (destroys x) u))) (λ u. u)
      (or_cases (not (is_refused (execute unbounded S m x)) && destroys x) false t)
  spared_behind x spared (y ∷ ys) m t =
      let m' = after (execute unbounded S m y) m in
      or_map (not (is_refused (execute unbounded S m y)) && destroys y) (destroys_start unbounded S m₀ m' (ys ++ (x ∷ []))) (destroys_start unbounded S m₀ m' ys)
      (spared_behind x spared ys m') t

  wanted_spares : (j : Progress) (a : Actuals) (c : Operation) → T (wanted j a c) → T (destroys_old m₀ a c) → ⊥
  wanted_spares j a (enter q s o) want t = t
  wanted_spares j a (delete q s o) want t = t
  wanted_spares j a (create_subject s) want t = t
  wanted_spares j a (create_object o) want t = t
  wanted_spares j a (destroy_subject s) want t = want
  wanted_spares j a (destroy_object o) want t = want

-- ---- the theorem
module _ (S : System) (cs : List Cell) (m : State) (K : Taken S none_reserved m) where
  abbrev last : Progress
  last = all_rounds S (held_of cs) m

  run : Goes S (held_of cs) m last.steps last.state last.ended
  run = (kept_rounds S (held_of cs) m K (step_bound S.rights m)).course.goes

  ended_held : last.ended ≡ holds_all cs last.state
  ended_held = flag_held S cs m last.steps last.state last.ended run

  pub need_held : T last.ended → HeldAfter S cs m last.steps
  need_held over = record {
    front = front_steps S (held_of cs) m;
    carried = λ t. subst T (none_refused S cs m last.steps last.state last.ended run) t;
    held = rw (ends_in S cs m last.steps last.state last.ended run) (rw ended_held at over);
    sooner = no_sooner S cs m last.steps last.state last.ended run;
  }

  -- and they destroy no name of the start
  pub need_spares : T (destroys_start unbounded S m m last.steps) → ⊥
  unfolding destroys_start
  need_spares = keep_rounds S (held_of cs) Spares visit_spares (step_bound S.rights m) (opened (held_of cs) m) (λ t. t)
    where
      Spares : Progress → Type 0
      Spares j = T (destroys_start unbounded S m m j.steps) → ⊥

      visit_spares : (i : ℕ) (C : Command) → get_elem? S.commands i ≡ some C → (n p : ℕ) (j : Progress) → Spares j → Spares (visit S (held_of cs) i C n p j)
      visit_spares i C found n p j h = visit_cases S K.singles (held_of cs) i C found n p j Spares (λ _ want _ t.
          let x = call_at i C n p in
          let one : destroys S m x ≡ destroys_old m (actuals x) (operation_in C) || false = rw (found, (K.singles i C found).one-operation) in
          h (spared_behind S m x (λ u. ⊎_elim (wanted_spares S m j (actuals x) (operation_in C) want) (λ v. v)
          (or_cases (destroys_old m (actuals x) (operation_in C)) false (subst T one u))) j.steps m t)) h

  pub need_never : CellsThere cs m → T (not last.ended) → NeverHeld S cs m last.steps
  need_never there going = record {
    all-steps = same_steps S (held_of cs) m going;
    never = λ xs spared t.
        T_not last.ended going (rw ended_held
        (spared_held S K.singles m last.state (lowest_free none_reserved last.state) (last_saturated S (held_of cs) m K going) cs there xs spared t));
  }

  -- so the cells are held in the end exactly where some run that destroys no name of the start ends with all of them held
  pub need_decides : CellsThere cs m → T last.ended ↔ ((xs : List Call) × (T (destroys_start unbounded S m m xs) → ⊥) × T (holds_all cs (final unbounded S m xs)))
  need_decides there = (λ over. (last.steps, need_spares, (need_held over).held), λ w. stable last.ended (λ going. (need_never there going).never w.0 w.1 w.2))

  pub need_bound : length last.steps ≤ step_bound S.rights m
  need_bound = omega (arith, steps_bound S (held_of cs) m K (step_bound S.rights m))
