-- What a replay's answer means: it says a leak at step n exactly if the first n + 1 steps leak at their last step and nowhere sooner. Assumes nothing.
use Prim.Native.Nat.{ℕ, zero, suc, ◌+◌, ◌%◌, ◌≤◌, ◌<◌}
use mathlib.Core.Path.{◌≡◌, refl, sym, ap, ◌∙◌, subst}
use mathlib.Core.Bool.{Bool, true, false, ◌||◌}
use mathlib.Core.List.{List, [], ◌∷◌}
use mathlib.Core.Logic.{◌↔◌}
use native.Mathlib.Nat.{not-suc-le-zero}
use native.Mathlib.Omega.{arith}
use borrow.Author.Tests.{eq-eqb, lt-leb}
use lib.Dec.{T}
use lib.ListN.{length, take}
use Rattle.cases.specs.Cases.{pick}
use Rattle.cases.proofs.Lists.{length_tabulate, take_tabulate}
use Rattle.protection.specs.State.{State}
use Rattle.protection.specs.Command.{System, Call}
use Rattle.protection.specs.Execution.{bounded, unbounded, Outcome, refused, done, execute}
use Rattle.protection.specs.Leak.{after, is_refused, is_leak, leaks, any_refused, init, LeaksLast}
use Rattle.protection.proofs.Widening.{NamesOfFile, last_unbounded, last_bounded}
use Rattle.layout.specs.File.{rights_of}
use Rattle.policy.specs.Refusals.{refusal}
use Rattle.policy.specs.Contents.{file_state, file_system}
use Rattle.trace.specs.Traces.{step_call, calls, steps_in}
use Rattle.trace.specs.Replays.{NoLeak, Leak, Refused, reported, replay_from, file_replay}

-- ---- the answers are told apart
leak_is : (i j : ℕ) → Leak i ≡ Leak j → i ≡ j
leak_is i j e = cc

no_leak_not : (i : ℕ) → NoLeak ≡ Leak i → ⊥
no_leak_not i e = let z : ◌≡◌ {A = ℕ} 0 1 = cc in omega arith

refused_not : (n i j : ℕ) → Refused n i ≡ Leak j → ⊥
refused_not n i j e = let z : ◌≡◌ {A = ℕ} 0 1 = cc in omega arith

-- ---- one step before the others
module _ (nameable : ℕ → Bool) (S : System) (r : ℕ) (m : State) (x : Call) where
  -- a step that is done without a leak: the rest leaks at its last step or not by itself
  module _ (m' : State) (new : ℕ → Bool) (e : execute nameable S m x ≡ done m' new) (quiet : new r ≡ false) where
    leaks_on : (xs : List Call) → leaks nameable S r m (x ∷ xs) ≡ leaks nameable S r m' xs
    unfolding leaks
    leaks_on xs = rw (e, quiet)

    refused_on : (xs : List Call) → any_refused nameable S m (x ∷ xs) ≡ any_refused nameable S m' xs
    unfolding any_refused
    refused_on xs = rw e

    last_cons : (y : Call) (xs : List Call) → LeaksLast nameable S r m' (y ∷ xs) → LeaksLast nameable S r m (x ∷ y ∷ xs)
    last_cons y xs L = record {
      carried = λ t. L.carried (subst T (refused_on (y ∷ xs)) t);
      leak = subst T (sym (leaks_on (y ∷ xs))) L.leak;
      sooner = λ t. L.sooner (subst T (leaks_on (init (y ∷ xs))) t);
    }

    last_tail : (y : Call) (xs : List Call) → LeaksLast nameable S r m (x ∷ y ∷ xs) → LeaksLast nameable S r m' (y ∷ xs)
    last_tail y xs L = record {
      carried = λ t. L.carried (subst T (sym (refused_on (y ∷ xs))) t);
      leak = subst T (leaks_on (y ∷ xs)) L.leak;
      sooner = λ t. L.sooner (subst T (sym (leaks_on (init (y ∷ xs)))) t);
    }

    -- it cannot be the last of a run that leaks there
    last_not : LeaksLast nameable S r m (x ∷ []) → ⊥
    unfolding leaks
    last_not L = subst T (leaks_on []) L.leak

  last_refused : (n : ℕ) → execute nameable S m x ≡ refused n → (xs : List Call) → LeaksLast nameable S r m (x ∷ xs) → ⊥
  unfolding any_refused
  last_refused n e xs L = L.carried (subst (λ (o : Outcome). T (is_refused o || any_refused nameable S (after o m) xs)) (sym e) tt)

  module _ (m' : State) (new : ℕ → Bool) (e : execute nameable S m x ≡ done m' new) (leak : new r ≡ true) where
    last_one : LeaksLast nameable S r m (x ∷ [])
    unfolding leaks any_refused
    last_one = record {
      carried = λ t. subst (λ (o : Outcome). T (is_refused o || any_refused nameable S (after o m) [])) e t;
      leak = subst (λ (o : Outcome). T (is_leak r o || leaks nameable S r (after o m) [])) (sym e) (subst (λ (b : Bool). T (b || leaks nameable S r m' [])) (sym leak) tt);
      sooner = λ t. t;
    }

    -- nothing after it can be the last
    last_more : (y : Call) (xs : List Call) → LeaksLast nameable S r m (x ∷ y ∷ xs) → ⊥
    unfolding leaks
    last_more y xs L = L.sooner (subst (λ (o : Outcome). T (is_leak r o || leaks nameable S r (after o m) (init (y ∷ xs)))) (sym e)
        (subst (λ (b : Bool). T (b || leaks nameable S r m' (init (y ∷ xs)))) (sym leak) tt))

-- ---- replay on the machine
module _ (S : System) (r : ℕ) where
  -- a leak that is reported is one of the steps from i on
  leak_after : (xs : List Call) (i : ℕ) (m : State) (k : ℕ) → replay_from S r xs i m ≡ Leak k → i ≤ k
  unfolding replay_from
  leak_after [] i m k e = absurd (no_leak_not k e)
  leak_after (x ∷ xs) i m k e = go (execute bounded S m x) (λ m'. leak_after xs (suc i) m' k) e
    where
      go : (o : Outcome) → ((m' : State) → replay_from S r xs (suc i) m' ≡ Leak k → suc i ≤ k) → reported r i o (replay_from S r xs (suc i) (after o m)) ≡ Leak k → i ≤ k
      go (refused n) ih e = absurd (refused_not n i k e)
      go (done m' new) ih e = by (new r) e
        where
          by : (b : Bool) → pick b (Leak i) (replay_from S r xs (suc i) m') ≡ Leak k → i ≤ k
          by true e = let z : i ≡ k = leak_is i k e in omega arith
          by false e = let l : suc i ≤ k = ih m' e in omega arith

  leak_last : (xs : List Call) (i n : ℕ) (m : State) → replay_from S r xs i m ≡ Leak (i + n) → (n < length xs) × LeaksLast bounded S r m (take (suc n) xs)
  unfolding replay_from
  leak_last [] i n m e = absurd (no_leak_not (i + n) e)
  leak_last (x ∷ xs) i n m e = go (execute bounded S m x) refl (λ k m'. leak_last xs (suc i) k m') e
    where
      go : (o : Outcome) → execute bounded S m x ≡ o → ((k : ℕ) (m' : State) → replay_from S r xs (suc i) m' ≡ Leak (suc i + k) → (k < length xs) × LeaksLast bounded S r m' (take (suc k) xs))
          → reported r i o (replay_from S r xs (suc i) (after o m)) ≡ Leak (i + n) → (n < suc (length xs)) × LeaksLast bounded S r m (take (suc n) (x ∷ xs))
      go (refused k) d ih e = absurd (refused_not k i (i + n) e)
      go (done m' new) d ih e = by (new r) refl e
        where
          by : (b : Bool) → new r ≡ b → pick b (Leak i) (replay_from S r xs (suc i) m') ≡ Leak (i + n) → (n < suc (length xs)) × LeaksLast bounded S r m (take (suc n) (x ∷ xs))
          by true w e =
              let z : n ≡ 0 = let q : i ≡ i + n = leak_is i (i + n) e in omega arith in
              (omega arith, subst (λ (k : ℕ). LeaksLast bounded S r m (take (suc k) (x ∷ xs))) (sym z) (last_one bounded S r m x m' new d w))
          by false w e = later n e (leak_after xs (suc i) m' (i + n) e)
            where
              longer : (k : ℕ) (ys : List Call) → k < length ys → LeaksLast bounded S r m' (take (suc k) ys) → LeaksLast bounded S r m (x ∷ take (suc k) ys)
              longer k [] l L = absurd (not-suc-le-zero l)
              longer k (y ∷ ys) l L = last_cons bounded S r m x m' new d w y (take k ys) L

              later : (n : ℕ) → replay_from S r xs (suc i) m' ≡ Leak (i + n) → suc i ≤ i + n → (n < suc (length xs)) × LeaksLast bounded S r m (take (suc n) (x ∷ xs))
              later zero e l = absurd (omega arith)
              later (suc k) e l =
                  let z : i + suc k ≡ suc i + k = omega arith in
                  let h = ih k m' (e ∙ ap Leak z) in
                  (omega (arith, h.0), longer k xs h.0 h.1)

  last_leak : (xs : List Call) (i n : ℕ) (m : State) → n < length xs → LeaksLast bounded S r m (take (suc n) xs) → replay_from S r xs i m ≡ Leak (i + n)
  unfolding replay_from
  last_leak [] i n m l L = absurd (not-suc-le-zero l)
  last_leak (x ∷ xs) i n m l L = go (execute bounded S m x) refl (λ k m'. last_leak xs (suc i) k m')
    where
      go : (o : Outcome) → execute bounded S m x ≡ o → ((k : ℕ) (m' : State) → k < length xs → LeaksLast bounded S r m' (take (suc k) xs) → replay_from S r xs (suc i) m' ≡ Leak (suc i + k))
          → reported r i o (replay_from S r xs (suc i) (after o m)) ≡ Leak (i + n)
      go (refused k) d ih = absurd (last_refused bounded S r m x k d (take n xs) L)
      go (done m' new) d ih = by (new r) refl
        where
          by : (b : Bool) → new r ≡ b → pick b (Leak i) (replay_from S r xs (suc i) m') ≡ Leak (i + n)
          by true w = first n xs l L
            where
              first : (n : ℕ) (ys : List Call) → n < suc (length ys) → LeaksLast bounded S r m (x ∷ take n ys) → Leak i ≡ Leak (i + n)
              first zero ys l L = ap Leak (omega arith)
              first (suc k) [] l L = absurd (let q : suc k < suc 0 = l in omega arith)
              first (suc k) (y ∷ ys) l L = absurd (last_more bounded S r m x m' new d w y (take k ys) L)
          by false w = later n l L
            where
              tail : (k : ℕ) (ys : List Call) → k < length ys → LeaksLast bounded S r m (x ∷ take (suc k) ys) → LeaksLast bounded S r m' (take (suc k) ys)
              tail k [] l L = absurd (not-suc-le-zero l)
              tail k (y ∷ ys) l L = last_tail bounded S r m x m' new d w y (take k ys) L

              later : (n : ℕ) → n < suc (length xs) → LeaksLast bounded S r m (take (suc n) (x ∷ xs)) → replay_from S r xs (suc i) m' ≡ Leak (i + n)
              later zero l L = absurd (last_not bounded S r m x m' new d w L)
              later (suc k) l L = let z : suc i + k ≡ i + suc k = omega arith in ih k m' (omega arith) (tail k xs (omega arith) L) ∙ ap Leak z

-- ---- replay of a file and a trace
-- the file is accepted, the right is below g, and the trace is whole steps
pub record Replayed (f t : List ℕ) (r : ℕ) : Type 0 where
  pub file : refusal f ≡ 0
  pub right : r < rights_of f
  pub whole : length t % 5 ≡ 0

module _ (f t : List ℕ) (r : ℕ) (R : Replayed f t r) where
  replayed_is : file_replay f t r ≡ replay_from (file_system f) r (calls t (steps_in t)) 0 (file_state f)
  unfolding file_replay
  replayed_is = rw (R.file, lt-leb (rights_of f) r R.right, eq-eqb (length t % 5) 0 R.whole)

  -- a leak at step n is reported exactly if the first n + 1 steps leak at their last step and nowhere sooner
  pub replay_leak : (n : ℕ) → (file_replay f t r ≡ Leak n) ↔ ((n < steps_in t) × LeaksLast bounded (file_system f) r (file_state f) (calls t (suc n)))
  replay_leak n = (there, back)
    where
      z : 0 + n ≡ n
      z = omega arith

      first : n < steps_in t → take (suc n) (calls t (steps_in t)) ≡ calls t (suc n)
      first l = take_tabulate (step_call t) (suc n) (steps_in t) 0 l

      there : file_replay f t r ≡ Leak n → (n < steps_in t) × LeaksLast bounded (file_system f) r (file_state f) (calls t (suc n))
      there e =
          let h = leak_last (file_system f) r (calls t (steps_in t)) 0 n (file_state f) (sym replayed_is ∙ e ∙ ap Leak (sym z)) in
          let l : n < steps_in t = subst (λ (k : ℕ). n < k) (length_tabulate (step_call t) (steps_in t) 0) h.0 in
          (l, subst (LeaksLast bounded (file_system f) r (file_state f)) (first l) h.1)

      back : (n < steps_in t) × LeaksLast bounded (file_system f) r (file_state f) (calls t (suc n)) → file_replay f t r ≡ Leak n
      back h =
          replayed_is
          ∙ last_leak (file_system f) r (calls t (steps_in t)) 0 n (file_state f) (subst (λ (k : ℕ). n < k) (sym (length_tabulate (step_call t) (steps_in t) 0)) h.0)
          (subst (LeaksLast bounded (file_system f) r (file_state f)) (sym (first h.0)) h.1)
          ∙ ap Leak z

  -- the same on the machine over names without number
  pub replay_leak_unbounded : (n : ℕ) → file_replay f t r ≡ Leak n → LeaksLast unbounded (file_system f) r (file_state f) (calls t (suc n))
  replay_leak_unbounded n e = last_unbounded (file_system f) r (calls t (suc n)) (file_state f) ((replay_leak n).0 e).1

  pub replay_finds_leak : (n : ℕ) → n < steps_in t → NamesOfFile (file_system f) (calls t (suc n)) → LeaksLast unbounded (file_system f) r (file_state f) (calls t (suc n)) → file_replay f t r ≡ Leak n
  replay_finds_leak n l h L = (replay_leak n).1 (l, last_bounded (file_system f) r (calls t (suc n)) (file_state f) h L)
