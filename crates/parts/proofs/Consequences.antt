-- What follows from the promise for a part alone, whatever the answer and the buffer: at least a sentence for each field. Assumes nothing.
use Prim.Native.Nat.{ℕ, ◌*◌, ◌-◌}
use mathlib.Core.Path.{◌≡◌, refl, sym, ap, ◌∙◌, subst}
use mathlib.Core.Bool.{Bool, true, false, not}
use mathlib.Core.List.{List, []}
use native.Mathlib.Omega.{arith}
use native.Mathlib.Decide.{ℕ_discrete}
use lib.Dec.{T}
use lib.ListN.{length, take}
use Rattle.cases.specs.Cases.{pick}
use Rattle.protection.specs.Command.{Call}
use Rattle.protection.specs.Execution.{unbounded}
use Rattle.protection.specs.Leak.{leaks, any_refused, init}
use Rattle.protection.specs.Judge.{leak_beside, round, conclude, all_rounds, judge_beside}
use Rattle.protection.proofs.Consequences.{settled_still}
use Rattle.policy.specs.Contents.{file_state, file_system}
use Rattle.trace.specs.Traces.{calls}
use Rattle.trace.specs.Replays.{file_replay, replay_code, replay_step}
use Rattle.safety.specs.Demand3.{steps_written, is_unsafe}
use Rattle.safety.specs.Judgement.{judgement_of, file_judgement, file_buffer}
use Rattle.safety.specs.Demand3.{Judgement, Refused, Safe, Unsafe}
use Rattle.safety.proofs.Refusals.{answers, turned_down, untouched}
use Rattle.parts.specs.Parts.{left_out, part_refusal, file_part, part_verdict, part_judgement, part_buffer, PartJudged}

module _ (f : List ℕ) (r : ℕ) (l b : List ℕ) (answer : Judgement) (b' : List ℕ) (J : PartJudged f r l b answer b') where
  abbrev by : ℕ
  by = part_refusal f r l (length b)

  refused_is : (by ≡ 0 → ⊥) → answer ≡ Refused by
  unfolding part_judgement
  refused_is ne = J.answer_is ∙ turned_down by (part_verdict f r l) ne

  given_is : by ≡ 0 → answer ≡ judgement_of (part_verdict f r l)
  unfolding part_judgement
  given_is e = J.answer_is ∙ answers by (part_verdict f r l) e

  -- one that gets a verdict was not refused
  given : ((k : ℕ) → answer ≡ Refused k → ⊥) → by ≡ 0
  given h = go (ℕ_discrete by 0)
    where
      go : Dec (by ≡ 0) → by ≡ 0
      go (yes z) = z
      go (no ne) = absurd (h by (refused_is ne))

  safe_given : (k : ℕ) → answer ≡ Safe k → by ≡ 0
  safe_given k e = given (λ i q. let w : ◌≡◌ {A = ℕ} 0 1 = cc in omega arith)

  -- a refused call changes no byte
  pub part_unchanged : (k : ℕ) → answer ≡ Refused k → b' ≡ b
  unfolding part_buffer
  part_unchanged k e = go (ℕ_discrete by 0)
    where
      go : Dec (by ≡ 0) → b' ≡ b
      go (yes z) = with (part_verdict f r l).unsafe (sym e ∙ given_is z)
        where
          with : (u : Bool) → Refused k ≡ pick u (Unsafe (length (part_verdict f r l).steps)) (Safe (length (part_verdict f r l).steps)) → b' ≡ b
          with true q = absurd (let w : ◌≡◌ {A = ℕ} 0 1 = cc in omega arith)
          with false q = absurd (let w : ◌≡◌ {A = ℕ} 0 1 = cc in omega arith)
      go (no z) = J.buffer_is ∙ untouched by (part_verdict f r l) b z

  -- under safe no run from the part leaks
  pub part_never : (k : ℕ) → answer ≡ Safe k → (xs : List Call) → T (leaks unbounded (file_system f) r (file_part f l) xs) → ⊥
  part_never k e = (J.demand3 (safe_given k e)).safe_exactly.0 (rw e tt)

  -- and the rounds went on until a whole round did nothing
  pub part_still : (k : ℕ) → answer ≡ Safe k
      → round (file_system f) (leak_beside (left_out l) r) (all_rounds (file_system f) (leak_beside (left_out l) r) (file_part f l)) ≡ all_rounds (file_system f) (leak_beside (left_out l) r) (file_part f l)
  unfolding judge_beside
  part_still k e =
      let z = safe_given k e in
      settled_still (file_system f) (leak_beside (left_out l) r) (file_part f l) (J.settled z) (go (all_rounds (file_system f) (leak_beside (left_out l) r) (file_part f l)).ended refl (sym (given_is z) ∙ e))
    where
      go : (u : Bool) → (all_rounds (file_system f) (leak_beside (left_out l) r) (file_part f l)).ended ≡ u
          → judgement_of (conclude (file_system f) (left_out l) r (file_part f l) (all_rounds (file_system f) (leak_beside (left_out l) r) (file_part f l))) ≡ Safe k
          → T (not (all_rounds (file_system f) (leak_beside (left_out l) r) (file_part f l)).ended)
      go false d q = rw d tt
      go true d q = absurd (let p : Unsafe (length (all_rounds (file_system f) (leak_beside (left_out l) r) (file_part f l)).steps) ≡ Safe k = rw d at q in let w : ◌≡◌ {A = ℕ} 0 1 = cc in omega arith)

  -- under unsafe the steps in the buffer are a run of the whole: none is refused there, and it leaks, but not without its last step
  module _ (k : ℕ) (e : answer ≡ Unsafe k) where
    unsafe_is : T (is_unsafe answer)
    unsafe_is = rw e tt

    pub whole_carried : T (any_refused unbounded (file_system f) (file_state f) (calls b' k)) → ⊥
    whole_carried t = (J.whole_leaks unsafe_is).carried (subst (λ (a : Judgement). T (any_refused unbounded (file_system f) (file_state f) (calls b' (steps_written a)))) (sym e) t)

    pub whole_leak : T (leaks unbounded (file_system f) r (file_state f) (calls b' k))
    whole_leak = subst (λ (a : Judgement). T (leaks unbounded (file_system f) r (file_state f) (calls b' (steps_written a)))) e (J.whole_leaks unsafe_is).leak

    pub whole_sooner : T (leaks unbounded (file_system f) r (file_state f) (init (calls b' k))) → ⊥
    whole_sooner t = (J.whole_leaks unsafe_is).sooner (subst (λ (a : Judgement). T (leaks unbounded (file_system f) r (file_state f) (init (calls b' (steps_written a))))) (sym e) t)

    -- replay on the file says a leak, at the last of the steps
    pub whole_replay : (replay_code (file_replay f (take (5 * k) b') r) ≡ 255) × (replay_step (file_replay f (take (5 * k) b') r) ≡ k - 1)
    whole_replay = (ap replay_code (J.replays k e), ap replay_step (J.replays k e))

  -- where the judge says safe of the whole, so it does of the part: leaving names out never makes a table unsafe
  pub whole_safe : (k : ℕ) → file_judgement f r (length b) ≡ Safe k → T (is_unsafe answer) → ⊥
  whole_safe k e t = subst (λ (a : Judgement). T (is_unsafe a)) e (J.whole_unsafe t)

  -- an empty list gives the judge's answer and buffer
  pub empty_same : l ≡ [] → (answer ≡ file_judgement f r (length b)) × (b' ≡ file_buffer f r b)
  empty_same e = ((J.none_listed e).answer_is, (J.none_listed e).buffer_is)
