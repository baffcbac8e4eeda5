-- The loop of a replay: what is left of the definition, from where the loop stands, is the whole. Assumes nothing.
use Rattle.std.specs.Prelude.{Option, Result, Ok, Err, IsErrAnd}
use Prim.Native.Nat.{ℕ, suc, ◌+◌, ◌-◌, ◌%◌, ◌≤◌, ◌<◌}
use mathlib.Core.Path.{◌≡◌, refl, sym, ap, ◌∙◌}
use mathlib.Core.Bool.{Bool, true, false}
use mathlib.Core.List.{List}
use native.Mathlib.Nat.{sub-zero}
use native.Mathlib.Numerals.{add-one}
use native.Mathlib.Omega.{arith}
use borrow.Author.Tests.{ne_eqb, eq-eqb, le-leb, lt-leb}
use lib.Dec.{eqb, leb}
use lib.ListN.{length}
use Rattle.cases.specs.Cases.{pick, tabulate}
use Rattle.protection.specs.Execution.{bounded, Outcome, refused, done, execute}
use Rattle.protection.specs.Leak.{after}
use Rattle.matrix.specs.Matrices.{state_of}
use Rattle.matrix.specs.declared.Matrix.{Matrix}
use Rattle.layout.specs.File.{rights_of}
use Rattle.policy.specs.Refusals.{refusal}
use Rattle.policy.specs.Contents.{system_of, policy_of}
use Rattle.policy.specs.declared.Policy.{Policy}
use Rattle.execution.specs.Runs.{Answer, Refused as Refuses, Done, Leaked, Executed, answer_told, answer_of, outcome_of, ExecutedAs}
use Rattle.execution.specs.declared.Done.{Done as CodeDone}
use Rattle.execution.specs.declared.Done.TheVariants.{NoLeak as CodeNoLeak, Leak as CodeLeak}
use Rattle.trace.specs.Traces.{step_at, step_call, calls, steps_in}
use Rattle.refusals.specs.Numbers.{number_of}
use Rattle.refusals.specs.declared.Refusal.{Refusal}
use Rattle.refusals.proofs.Codes.{number_above}
use Rattle.trace.specs.declared.RefusedStep.{RefusedStep}
use Rattle.trace.specs.Replays.{Replay, NoLeak, Leak, Refused, replay_told, reported, replay_from, file_replay}
use Rattle.trace.specs.Ends.{end_of}
use Rattle.trace.specs.declared.Step.{Step}

-- an answer other than `Done` ends the replay
halts : (r i : ℕ) (o : Outcome) (later : Replay) → (answer_of r o ≡ Done → ⊥) → end_of (answer_of r o) i ≡ reported r i o later
halts r i (refused n) later h = refl
halts r i (done m new) later h = go (new r) h
  where
    go : (b : Bool) → (pick b Leaked Done ≡ Done → ⊥) → end_of (pick b Leaked Done) i ≡ pick b (Leak i) later
    go true h = refl
    go false h = absurd (h refl)

goes : (r i : ℕ) (o : Outcome) (later : Replay) → answer_of r o ≡ Done → reported r i o later ≡ later
goes r i (refused n) later e = absurd (let z : ◌≡◌ {A = ℕ} 0 1 = cc in omega arith)
goes r i (done m new) later e = go (new r) e
  where
    go : (b : Bool) → pick b Leaked Done ≡ Done → pick b (Leak i) later ≡ later
    go true e = absurd (let z : ◌≡◌ {A = ℕ} 0 1 = cc in omega arith)
    go false e = refl

-- which answers of the code are `Done`
module _ (r : Result CodeDone Refusal) where
  pub told_leak : (d : CodeDone) → r ≡ Ok d → d ≡ CodeLeak → answer_told r ≡ Done → ⊥
  told_leak d e q z = let w : Leaked ≡ Done = rw (e, q) at z in let k : ◌≡◌ {A = ℕ} 0 1 = cc in omega arith

  pub told_refused : (x : Refusal) → r ≡ Err x → answer_told r ≡ Done → ⊥
  told_refused x e z = let w : Refuses (number_of x) ≡ Done = rw e at z in let k : ◌≡◌ {A = ℕ} 0 1 = cc in omega arith

  pub told_quiet : (d : CodeDone) → r ≡ Ok d → d ≡ CodeNoLeak → answer_told r ≡ Done
  told_quiet d e q = rw (e, q)

module _ (p : Policy) (t : List ℕ) (right n i : ℕ) (m : Matrix) (s : Step) (ds : s ≡ step_at t i) (e : Executed) (h : ExecutedAs right (outcome_of p m s.command s.actuals) m e)
    (l : i < n) (whole : Replay) (inv : replay_from (system_of p) right (tabulate (step_call t) (n - i) i) i (state_of m) ≡ whole) where
  abbrev o : Outcome
  o = execute bounded (system_of p) (state_of m) (step_call t i)

  outcome_is : outcome_of p m s.command s.actuals ≡ o
  outcome_is = ap (λ (x : Step). outcome_of p m x.command x.actuals) ds

  answered : e.answer ≡ answer_of right o
  answered = h.answer ∙ ap (answer_of right) outcome_is

  abbrev later : Replay
  later = replay_from (system_of p) right (tabulate (step_call t) (n - (i + 1)) (i + 1)) (i + 1) (after o (state_of m))

  unrolled : replay_from (system_of p) right (tabulate (step_call t) (n - i) i) i (state_of m) ≡ reported right i o later
  unfolding replay_from
  unrolled = let z : n - i ≡ suc (n - (i + 1)) = omega arith in rw (z, add-one i)

  pub replay_stop : (x : Replay) → (e.answer ≡ Done → ⊥) → x ≡ end_of e.answer i → x ≡ whole
  replay_stop x d f =
      f ∙ ap (λ (w : Answer). end_of w i) answered
      ∙ halts right i o later (λ z. d (answered ∙ z))
      ∙ sym unrolled ∙ inv

  pub replay_more : (j : ℕ) → j ≡ i + 1 → e.answer ≡ Done → replay_from (system_of p) right (tabulate (step_call t) (n - j) j) j (state_of e.matrix) ≡ whole
  replay_more j dj d =
      ap (λ (k : ℕ). replay_from (system_of p) right (tabulate (step_call t) (n - k) k) k (state_of e.matrix)) dj
      ∙ ap (replay_from (system_of p) right (tabulate (step_call t) (n - (i + 1)) (i + 1)) (i + 1)) (h.state ∙ ap (λ (w : Outcome). after w (state_of m)) outcome_is)
      ∙ sym (goes right i o later (sym answered ∙ d)) ∙ sym unrolled ∙ inv

-- the loop begins with the whole
pub replay_start : (p : Policy) (t : List ℕ) (right i : ℕ) (m : Matrix) → i ≡ 0
    → replay_from (system_of p) right (tabulate (step_call t) (steps_in t - i) i) i (state_of m) ≡ replay_from (system_of p) right (calls t (steps_in t)) 0 (state_of m)
replay_start p t right i m e = ap (λ (j : ℕ). replay_from (system_of p) right (tabulate (step_call t) (steps_in t - j) j) j (state_of m)) e ∙ rw sub-zero

pub replay_end : (p : Policy) (t : List ℕ) (right n i : ℕ) (m : Matrix) (whole : Replay) → n ≤ i → replay_from (system_of p) right (tabulate (step_call t) (n - i) i) i (state_of m) ≡ whole → NoLeak ≡ whole
unfolding replay_from
replay_end p t right n i m whole h e = let z : n - i ≡ 0 = omega arith in rw z at e

-- ---- the file's replay
pub replay_bad_file : (f t : List ℕ) (r : ℕ) (e : Refusal) (y : Result (Option ℕ) RefusedStep) → number_of e ≡ refusal f → IsErrAnd y (λ x. x ≡ record { by = e; step = 0 }) → replay_told y ≡ file_replay f t r
unfolding file_replay
replay_bad_file f t r e (Ok x) d h = elim h [ ]
replay_bad_file f t r e (Err x) d h =
    let l : 0 < number_of e = number_above e in
    let w : eqb (refusal f) 0 ≡ false = ne_eqb (refusal f) 0 (λ z. omega arith) in
    rw (h, w) (ap (λ (k : ℕ). Refused k 0) d)

module _ (f t : List ℕ) (r : ℕ) (p : Policy) (z : 0 ≡ refusal f) (d : p ≡ policy_of f) where
  none_before : refusal f ≡ 0
  none_before = sym z

  rights_is : p.rights ≡ rights_of f
  unfolding policy_of
  rights_is = ap (λ (p : Policy). p.rights) d

  pub replay_21 : p.rights ≤ r → Refused 21 0 ≡ file_replay f t r
  unfolding file_replay
  replay_21 h = let w : leb (rights_of f) r ≡ true = le-leb (rights_of f) r (rw rights_is at h) in rw (none_before, w)

  module _ (l : r < p.rights) where
    below : leb (rights_of f) r ≡ false
    below = lt-leb (rights_of f) r (rw rights_is at l)

    pub replay_31 : (length t % 5 ≡ 0 → ⊥) → Refused 31 0 ≡ file_replay f t r
    unfolding file_replay
    replay_31 ne = rw (none_before, below, ne_eqb (length t % 5) 0 ne)

    pub replay_whole : (y : Replay) → length t % 5 ≡ 0 → y ≡ replay_from (system_of p) r (calls t (steps_in t)) 0 (state_of p.matrix) → y ≡ file_replay f t r
    unfolding file_replay policy_of
    replay_whole y e q =
        q ∙ ap (λ (p : Policy). replay_from (system_of p) r (calls t (steps_in t)) 0 (state_of p.matrix)) d ∙ rw (none_before, below, eq-eqb (length t % 5) 0 e)
