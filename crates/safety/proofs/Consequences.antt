-- What follows from demand 3 alone, and from the judge's promise alone, whatever the answer and the buffer: at least a sentence for each field. Assumes nothing.
use Prim.Native.Nat.{ℕ, zero, suc, ◌+◌, ◌*◌, ◌-◌, ◌≤◌, ◌<◌}
use mathlib.Core.Path.{◌≡◌, refl, sym, ap, ◌∙◌, subst}
use mathlib.Core.Bool.{Bool, true, false, not}
use mathlib.Core.List.{List, [], ◌∷◌, ◌++◌}
use mathlib.Core.Logic.{◌↔◌, ◌⊎◌, inl, inr}
use native.Mathlib.Omega.{arith}
use native.Mathlib.Decide.{ℕ_discrete}
use borrow.Author.Tests.{lt-ltb}
use lib.Dec.{T, eqb, ltb}
use lib.ListN.{length, take, drop, take-append-drop}
use lib.Seq.{length-take-le}
use Rattle.cases.specs.Cases.{pick, tabulate}
use Rattle.cases.proofs.Bools.{or_right}
use Rattle.cases.proofs.Lists.{length_tabulate}
use Rattle.questions.specs.Refusals.{most_steps}
use Rattle.protection.specs.Limits.{rights, start_names, unused}
use Rattle.protection.specs.State.{State}
use Rattle.protection.specs.Size.{names_of}
use Rattle.protection.specs.Command.{Command, System, Call, Actuals, spare}
use Rattle.protection.specs.Execution.{unbounded, actual_fits}
use Rattle.protection.specs.Leak.{leaks, any_refused, init, LeaksLast}
use Rattle.protection.specs.Judge.{none_reserved, leak_of, round, conclude, all_rounds, judge_beside}
use Rattle.protection.proofs.Consequences.{settled_still}
use Rattle.policy.specs.Contents.{file_state, file_system}
use Rattle.trace.specs.Traces.{step_call, calls}
use Rattle.trace.specs.Replays.{file_replay, replay_code, replay_step}
use Rattle.safety.specs.Demand3.{Judgement, Refused, Safe, Unsafe, steps_written, is_safe, is_unsafe, Demand3}
use Rattle.safety.specs.Judgement.{judge_refusal, file_verdict, judgement_of, Judged}
use Rattle.questions.proofs.Counts.{few_steps}
use Rattle.safety.proofs.Refusals.{judges, refuses, kept}

-- a run that leaks at its last step has one
pub some_step : (nameable : ℕ → Bool) (S : System) (r : ℕ) (m : State) (xs : List Call) → LeaksLast nameable S r m xs → 1 ≤ length xs
unfolding leaks
some_step nameable S r m [] L = absurd L.leak
some_step nameable S r m (x ∷ xs) L = omega arith

-- the steps without the last one
init_tabulate : (f : ℕ → Call) (n j : ℕ) → init (tabulate f (suc n) j) ≡ tabulate f n j
init_tabulate f zero j = refl
init_tabulate f (suc n) j = ap (λ (l : List Call). f j ∷ l) (init_tabulate f n (suc j))

-- ---- demand 3
module _ (S : System) (r : ℕ) (m : State) (b : List ℕ) (answer : Judgement) (b' : List ℕ) (D : Demand3 S r m b answer b') where
  abbrev n : ℕ
  n = steps_written answer

  -- whatever number a call gives to a parameter, it is a name
  pub any_number : (C : Command) (a : Actuals) (i : ℕ) → i < C.parameters → T (actual_fits unbounded C a i)
  any_number C a i l = or_right (spare C i) (pick (ltb i C.parameters) (unbounded (a i)) (eqb (a i) unused)) (rw (lt-ltb i C.parameters l) (D.every_name (a i)))

  -- whether some run leaks is decided, though runs are of any length and names without number
  pub decided : ((xs : List Call) × T (leaks unbounded S r m xs)) ⊎ ((xs : List Call) → T (leaks unbounded S r m xs) → ⊥)
  decided = go answer D.unsafe_exactly D.safe_exactly
    where
      Some : Type 0
      Some = (xs : List Call) × T (leaks unbounded S r m xs)

      None : Type 0
      None = (xs : List Call) → T (leaks unbounded S r m xs) → ⊥

      go : (a : Judgement) → T (is_unsafe a) ↔ Some → T (is_safe a) ↔ None → Some ⊎ None
      go (Refused k) u s = absurd (s.1 (λ xs t. u.1 (xs, t)))
      go (Safe k) u s = inr (s.0 tt)
      go (Unsafe k) u s = inl (u.0 tt)

  -- under unsafe there is a step, none is refused, and none can be left off at the end
  pub unsafe_some : T (is_unsafe answer) → 1 ≤ n
  unsafe_some t = let k = some_step unbounded S r m (calls b' n) (D.steps_leak t) in let e = length_tabulate (step_call b') n 0 in omega arith

  pub unsafe_carried : T (is_unsafe answer) → T (any_refused unbounded S m (calls b' n)) → ⊥
  unsafe_carried t = (D.steps_leak t).carried

  pub unsafe_last : T (is_unsafe answer) → T (leaks unbounded S r m (calls b' (n - 1))) → ⊥
  unsafe_last t w =
      let l = unsafe_some t in
      let e : n ≡ suc (n - 1) = omega arith in
      let shorter : init (calls b' n) ≡ calls b' (n - 1) = ap (λ (k : ℕ). init (calls b' k)) e ∙ init_tabulate (step_call b') (n - 1) 0 in
      (D.steps_leak t).sooner (subst (λ (l : List Call). T (leaks unbounded S r m l)) (sym shorter) w)

  -- no verdict has more than the bound at its largest
  pub few_written : S.rights ≤ rights → names_of m ≤ start_names → n ≤ most_steps
  few_written g k = omega (arith, D.within, few_steps S.rights m g k)

  -- the buffer was the bytes that the steps are written over, and then what stands there still
  pub buffer_was : (length (take (5 * n) b) ≡ 5 * n) × (b ≡ take (5 * n) b ++ drop (5 * n) b')
  buffer_was = (length-take-le (5 * n) b D.room, sym (take-append-drop (5 * n) b) ∙ ap (λ (l : List ℕ). take (5 * n) b ++ l) (sym D.rest))

  -- a verdict without steps leaves it as it was
  pub nothing_written : n ≡ 0 → b' ≡ b
  nothing_written e = rw e at D.rest

-- ---- the judge's promise
module _ (f : List ℕ) (r : ℕ) (b : List ℕ) (answer : Judgement) (b' : List ℕ) (J : Judged f r b answer b') where
  abbrev S : System
  S = file_system f

  abbrev m : State
  m = file_state f

  -- a refused call changes no byte
  pub refused_unchanged : (k : ℕ) → answer ≡ Refused k → b' ≡ b
  refused_unchanged k e = go (ℕ_discrete (judge_refusal f r (length b)) 0)
    where
      go : Dec (judge_refusal f r (length b) ≡ 0) → b' ≡ b
      go (yes z) = by (file_verdict f r).unsafe (sym e ∙ J.answer_is ∙ judges f r (length b) z)
        where
          by : (u : Bool) → Refused k ≡ pick u (Unsafe (length (file_verdict f r).steps)) (Safe (length (file_verdict f r).steps)) → b' ≡ b
          by true q = absurd (let w : ◌≡◌ {A = ℕ} 0 1 = cc in omega arith)
          by false q = absurd (let w : ◌≡◌ {A = ℕ} 0 1 = cc in omega arith)
      go (no z) = J.buffer_is ∙ kept f r b z

  -- one that gets a verdict was not refused
  given : ((k : ℕ) → answer ≡ Refused k → ⊥) → judge_refusal f r (length b) ≡ 0
  given h = go (ℕ_discrete (judge_refusal f r (length b)) 0)
    where
      go : Dec (judge_refusal f r (length b) ≡ 0) → judge_refusal f r (length b) ≡ 0
      go (yes z) = z
      go (no ne) = absurd (h (judge_refusal f r (length b)) (J.answer_is ∙ refuses f r (length b) ne))

  safe_given : (k : ℕ) → answer ≡ Safe k → judge_refusal f r (length b) ≡ 0
  safe_given k e = given (λ i q. let w : ◌≡◌ {A = ℕ} 0 1 = cc in omega arith)

  unsafe_given : (k : ℕ) → answer ≡ Unsafe k → judge_refusal f r (length b) ≡ 0
  unsafe_given k e = given (λ i q. let w : ◌≡◌ {A = ℕ} 0 1 = cc in omega arith)

  -- under safe the rounds went on until a whole round did nothing
  pub safe_still : (k : ℕ) → answer ≡ Safe k → round S (leak_of r) (all_rounds S (leak_of r) m) ≡ all_rounds S (leak_of r) m
  unfolding judge_beside
  safe_still k e =
      let z = safe_given k e in
      settled_still S (leak_of r) m (J.settled z) (go (all_rounds S (leak_of r) m).ended refl (sym (judges f r (length b) z) ∙ sym J.answer_is ∙ e))
    where
      go : (u : Bool) → (all_rounds S (leak_of r) m).ended ≡ u → judgement_of (conclude S none_reserved r m (all_rounds S (leak_of r) m)) ≡ Safe k → T (not (all_rounds S (leak_of r) m).ended)
      go false d q = rw d tt
      go true d q = absurd (let p : Unsafe (length (all_rounds S (leak_of r) m).steps) ≡ Safe k = rw d at q in let w : ◌≡◌ {A = ℕ} 0 1 = cc in omega arith)

  -- under unsafe replay says a leak, at the last of the steps
  pub replay_leaks : (k : ℕ) → answer ≡ Unsafe k → replay_code (file_replay f (take (5 * k) b') r) ≡ 255
  replay_leaks k e = ap replay_code (J.replays k e)

  pub replay_last : (k : ℕ) → answer ≡ Unsafe k → replay_step (file_replay f (take (5 * k) b') r) + 1 ≡ k
  replay_last k e =
      let D = J.demand3 (unsafe_given k e) in
      let l : 1 ≤ k = subst (λ (a : Judgement). T (is_unsafe a) → 1 ≤ steps_written a) e (unsafe_some S r m b answer b' D) tt in
      let q : replay_step (file_replay f (take (5 * k) b') r) ≡ k - 1 = ap replay_step (J.replays k e) in
      omega arith
