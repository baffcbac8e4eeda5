-- Demand 3: the judge says unsafe exactly where some run leaks r, and then its steps are a run that leaks at its last step and nowhere sooner.
-- Assumes nothing.
use mathlib.Core.Path.{◌≡◌, refl}
use mathlib.Core.Bool.{Bool, true, false, not}
use mathlib.Core.List.{List, ◌++◌}
use mathlib.Core.Logic.{◌↔◌}
use mathlib.Core.Option.{some}
use Prim.Native.Nat.{ℕ, ◌+◌, ◌≤◌}
use native.Mathlib.Omega.{arith}
use lib.Dec.{T, T_not}
use lib.ListN.{length, get_elem?, length-append}
use Rattle.cases.proofs.Bools.{stable, not_not}
use Rattle.protection.specs.State.{State}
use Rattle.protection.specs.Command.{Command, System, Call}
use Rattle.protection.specs.Execution.{bounded, unbounded}
use Rattle.protection.specs.Leak.{leaks, LeaksLast}
use Rattle.protection.specs.Size.{step_bound}
use Rattle.protection.specs.Judge.{lowest_free, operation_in, call_at, leak_beside, Progress, opened, visit, is_empty, closing, Verdict, all_rounds, judge_beside}
use Rattle.protection.specs.Paper.{subject_is_object}
use Rattle.protection.proofs.Closed.{Closed, closed_safe}
use Rattle.protection.proofs.Rounds.{visit_cases, keep_rounds}
use Rattle.protection.proofs.Widening.{last_unbounded}
use Rattle.protection.proofs.Invariant.{Goes, goes_last}
use Rattle.protection.proofs.Old.{Old, old_opened, old_step}
use Rattle.protection.proofs.Saturation.{Taken, Kept, kept_rounds, steps_bound, last_saturated}
use Rattle.protection.proofs.ClosingSearch.{closing_none, closing_few, closing_sound}

module _ (S : System) (R : ℕ → Bool) (r : ℕ) (m : State) (K : Taken S R m) where
  abbrev last : Progress
  last = all_rounds S (leak_beside R r) m

  kept : Kept S (leak_beside R r) m last
  kept = kept_rounds S (leak_beside R r) m K (step_bound S.rights m)

  few : length last.steps + 2 ≤ step_bound S.rights m
  few = steps_bound S (leak_beside R r) m K (step_bound S.rights m)

  -- what holds of a judged right, beside what holds whatever is asked
  old_visit : (i : ℕ) (C : Command) → get_elem? S.commands i ≡ some C → (n p : ℕ) (j : Progress) → Old r m j → Old r m (visit S (leak_beside R r) i C n p j)
  old_visit i C found n p j h = visit_cases S K.singles (leak_beside R r) i C found n p j (Old r m) (λ going want _. old_step R r m j h (call_at i C n p) going (operation_in C) want) h

  old_last : Old r m last
  old_last = keep_rounds S (leak_beside R r) (Old r m) old_visit (step_bound S.rights m) (opened (leak_beside R r) m) (old_opened R r m)

  -- a fixpoint with no closing pair is closed
  last_closed : T (not last.ended) → T (is_empty (closing S R r m last.state)) → Closed S r m last.state (lowest_free R last.state)
  last_closed going empty = record {
    saturated = last_saturated S (leak_beside R r) m K going;
    clean = λ x y t. (subject_is_object (m.kind x) (K.proper.row x y r t), K.proper.column x y r t);
    old = old_last.only (T_not last.ended going);
    closing = λ x y t. closing_none S K.singles R r m last.state kept.proper.named empty x y
        (K.proper.named x (subject_is_object (m.kind x) (K.proper.row x y r t))) (K.proper.named y (K.proper.column x y r t)) t;
  }

  -- ---- the verdict, by how the rounds ended
  abbrev verdict : Bool → Verdict
  verdict b = elim b [ true ↦ record { unsafe = true; steps = last.steps } | false ↦ let c = closing S R r m last.state in record { unsafe = not (is_empty c); steps = last.steps ++ c } ]

  verdict_goes : (b : Bool) → last.ended ≡ b → T (verdict b).unsafe → (m' : State) × Goes S (leak_beside R r) m (verdict b).steps m' true
  verdict_goes true e t = (last.state, rw e at kept.course.goes)
  verdict_goes false e t = closing_sound S K.singles R r m last.state last.steps (rw e at kept.course.goes) t

  verdict_safe : (b : Bool) → last.ended ≡ b → T (not (verdict b).unsafe) → (xs : List Call) → T (leaks unbounded S r m xs) → ⊥
  verdict_safe true e t = absurd t
  verdict_safe false e t =
      let going : T (not last.ended) = rw e tt in
      closed_safe S K.singles r m last.state (lowest_free R last.state) (last_closed going (not_not (is_empty (closing S R r m last.state)) t))

  verdict_few : (b : Bool) → length (verdict b).steps ≤ step_bound S.rights m
  verdict_few true = omega (arith, few)
  verdict_few false = rw length-append (omega (arith, few, closing_few S K.singles R r m last.state))

  -- ---- the theorem
  pub unsafe_goes : T (judge_beside S R r m).unsafe → (m' : State) × Goes S (leak_beside R r) m (judge_beside S R r m).steps m' true
  unfolding judge_beside
  unsafe_goes t = verdict_goes last.ended refl t

  -- its steps leak on the names of a file, and so on names without number
  pub unsafe_steps_bounded : T (judge_beside S R r m).unsafe → LeaksLast bounded S r m (judge_beside S R r m).steps
  unfolding judge_beside
  unsafe_steps_bounded t = let w = verdict_goes last.ended refl t in goes_last S R r m (judge_beside S R r m).steps w.0 w.1

  pub unsafe_steps : T (judge_beside S R r m).unsafe → LeaksLast unbounded S r m (judge_beside S R r m).steps
  unsafe_steps t = last_unbounded S r (judge_beside S R r m).steps m (unsafe_steps_bounded t)

  pub safe_never : T (not (judge_beside S R r m).unsafe) → (xs : List Call) → T (leaks unbounded S r m xs) → ⊥
  unfolding judge_beside
  safe_never t = verdict_safe last.ended refl t

  pub decides : T (judge_beside S R r m).unsafe ↔ ((xs : List Call) × T (leaks unbounded S r m xs))
  decides = (λ t. ((judge_beside S R r m).steps, (unsafe_steps t).leak), λ w. stable (judge_beside S R r m).unsafe (λ n. safe_never n w.0 w.1))

  pub within_bound : length (judge_beside S R r m).steps ≤ step_bound S.rights m
  unfolding judge_beside
  within_bound = verdict_few last.ended
