-- Demand 3: where nothing is refused, the verdict is the truth about all runs, the rounds have settled, and the steps replay; and so the judge's answer and
-- buffer are all that is to be shown of the code. Assumes nothing.
use Prim.Native.Nat.{ℕ, suc, ◌*◌, ◌-◌, ◌≤◌, ◌<◌}
use mathlib.Core.Path.{◌≡◌, refl, sym, ap, ap₂, ◌∙◌, subst}
use Rattle.std.specs.Prelude.{Result, Ok, Err, IsErrAnd, IfOk}
use Rattle.std.proofs.lemmas.Result.{IfOk-at_ok}
use mathlib.Core.Bool.{Bool, true, false, not}
use mathlib.Core.List.{List, [], append-nil}
use native.Mathlib.Omega.{arith}
use native.Mathlib.Decide.{ℕ_discrete}
use borrow.Author.Tests.{ne_eqb}
use lib.Dec.{T, eqb}
use lib.ListN.{length, take, drop}
use Rattle.cases.specs.Cases.{pick}
use Rattle.cases.proofs.Bools.{holds as test-holds}
use Rattle.protection.specs.State.{State}
use Rattle.protection.specs.Size.{step_bound}
use Rattle.protection.specs.Command.{System, Call}
use Rattle.protection.specs.Execution.{bounded, unbounded}
use Rattle.protection.specs.Leak.{LeaksLast}
use Rattle.rights.specs.Rights.{has}
use Rattle.protection.specs.Judge.{none_reserved, leak_of, Verdict, judge_beside, Settled}
use Rattle.protection.proofs.Names.{every_name}
use Rattle.protection.proofs.Saturation.{Taken, rounds_settled}
use Rattle.protection.proofs.Safety.{unsafe_steps_bounded, unsafe_steps, safe_never, decides, within_bound}
use Rattle.matrix.specs.Matrices.{state_of}
use Rattle.refusals.specs.Numbers.{number_of, code}
use Rattle.refusals.specs.declared.Refusal.{Refusal}
use Rattle.refusals.proofs.Codes.{number_above, code_ok, code_on}
use Rattle.layout.proofs.OrElse.{or_first, or_second}
use Rattle.policy.specs.Refusals.{refusal}
use Rattle.policy.specs.Contents.{system_of, policy_of, file_state, file_system}
use Rattle.policy.specs.declared.Policy.{Policy}
use Rattle.policy.proofs.Accepted.{Accepted, accepted}
use Rattle.policy.proofs.FileState.{policy_fits}
use Rattle.policy.proofs.ReadPolicy.{policy_fits_read}
use Rattle.trace.specs.Traces.{calls}
use Rattle.trace.specs.Replays.{Leak, file_replay}
use Rattle.trace.proofs.Laws.{Replayed, replay_leak}
use Rattle.goals.specs.Goals.{leak_goal}
use Rattle.goals.proofs.Ending.{none-reserved}
use Rattle.visits.specs.Engine.{Asked}
use Rattle.visits.proofs.Asked.{taken}
use Rattle.questions.proofs.Refusals.{sized}
use Rattle.questions.proofs.Starting.{policy_told}
use Rattle.safety.specs.Demand3.{Judgement, Refused, Safe, Unsafe, judgement_told, steps_written, is_safe, is_unsafe, Demand3}
use Rattle.safety.specs.Judgement.{caller_refusal, judge_refusal, file_verdict, judgement_of, file_judgement, bytes_of, filled, file_buffer, FileDemand3, Judged}
use Rattle.policy.specs.Fits.{PolicyFits}
use Rattle.masks.specs.Told.{Told, ToldBy}
use Rattle.masks.specs.declared.Tables.{Tables}
use Rattle.questions.specs.Rounded.{BasisOf}
use Rattle.questions.specs.declared.Basis.{Basis}
use Rattle.safety.specs.Conclusion.{Concluded, ReadOf, ReadyOf, PreparedOf}
use Rattle.safety.specs.declared.Prepared.{Prepared}
use Rattle.safety.specs.declared.Verdict.{Verdict as CodeVerdict}
use Rattle.safety.proofs.Buffers.{bytes_length, front_bytes, calls_back, rest_behind}
use Rattle.safety.proofs.Refusals.{Passed, passed, none_refused, judges, refuses, fills, question_asked}
use Rattle.safety.proofs.Consequences.{some_step}

-- ---- the verdict as the answer
pub told : (v : Verdict) → (is_unsafe (judgement_of v) ≡ v.unsafe) × (is_safe (judgement_of v) ≡ not v.unsafe) × (steps_written (judgement_of v) ≡ length v.steps)
told v = go v.unsafe
  where
    n : ℕ
    n = length v.steps

    go : (u : Bool) → (is_unsafe (pick u (Unsafe n) (Safe n)) ≡ u) × (is_safe (pick u (Unsafe n) (Safe n)) ≡ not u) × (steps_written (pick u (Unsafe n) (Safe n)) ≡ n)
    go true = (refl, refl, refl)
    go false = (refl, refl, refl)

module _ (S : System) (R : ℕ → Bool) (r : ℕ) (m : State) (K : Taken S R m) (b : List ℕ) (fits : 5 * step_bound S.rights m ≤ length b) where
  abbrev v : Verdict
  v = judge_beside S R r m

  -- of the judge's own answer and buffer
  pub verdict_demand3 : Demand3 S r m b (judgement_of v) (filled v.steps b)
  verdict_demand3 = record {
    every_name = every_name;
    unsafe_exactly = (λ t. (decides S R r m K).0 (subst T (told v).0 t), λ w. subst T (sym (told v).0) ((decides S R r m K).1 w));
    safe_exactly = (λ t. safe_never S R r m K (subst T (told v).1 t), λ never. subst T (sym (told v).1) (safe_if v.unsafe (λ t. never v.steps (unsafe_steps S R r m K t).leak)));
    steps_leak = λ t. subst (LeaksLast unbounded S r m) (sym (ap (calls (filled v.steps b)) (told v).2 ∙ calls_back v.steps (drop (5 * length v.steps) b))) (unsafe_steps S R r m K (subst T (told v).0 t));
    within = subst (λ (k : ℕ). k ≤ step_bound S.rights m) (sym (told v).2) (within_bound S R r m K);
    room = omega (arith, (told v).2, within_bound S R r m K);
    rest = ap (λ (k : ℕ). drop (5 * k) (filled v.steps b)) (told v).2 ∙ rest_behind v.steps (drop (5 * length v.steps) b) ∙ ap (λ (k : ℕ). drop (5 * k) b) (sym (told v).2);
  }
    where
      safe_if : (u : Bool) → (T u → ⊥) → T (not u)
      safe_if true f = f tt
      safe_if false f = tt

-- ---- a file: what the judge answers where nothing is refused
module _ (f : List ℕ) (r : ℕ) (b : List ℕ) where
  module _ (z : judge_refusal f r (length b) ≡ 0) where
    pub accepted_file : Accepted f
    accepted_file = accepted f (none_refused f r (length b) z).0

    pub not_refused : Passed (file_system f) (file_state f) r (length b)
    not_refused = passed (file_system f) (file_state f) r (length b) (none_refused f r (length b) z).1

    pub file_taken : Taken (file_system f) none_reserved (file_state f)
    unfolding policy_of
    file_taken = subst (λ (R : ℕ → Bool). Taken (file_system f) R (file_state f)) (none-reserved 0 refl) (taken (policy_of f) (leak_goal 0 r) (length b) (question_asked (policy_of f) r (length b) (none_refused f r (length b) z).1 (policy_fits f accepted_file)))

  -- the theorem: demand 3, for every file, right and buffer that is not refused
  pub judge_demand3 : FileDemand3 f r b (file_judgement f r (length b)) (file_buffer f r b)
  judge_demand3 z = subst (λ (w : Judgement). Demand3 (file_system f) r (file_state f) b w (file_buffer f r b)) (sym (judges f r (length b) z))
      (subst (Demand3 (file_system f) r (file_state f) b (judgement_of (file_verdict f r))) (sym (fills f r b z)) (verdict_demand3 (file_system f) none_reserved r (file_state f) (file_taken z) b (sized (file_system f) (file_state f) (length b) (not_refused z).size).room))

  pub judge_settled : judge_refusal f r (length b) ≡ 0 → Settled (file_system f) (leak_of r) (file_state f)
  judge_settled z = rounds_settled (file_system f) (leak_of r) (file_state f) (file_taken z)

  -- ---- steps that leak last on the file's matrix replay
  module _ (z : judge_refusal f r (length b) ≡ 0) (v : Verdict) (last : T v.unsafe → LeaksLast bounded (file_system f) r (file_state f) v.steps) where
    abbrev steps : List Call
    steps = v.steps

    whole_steps : Replayed f (bytes_of steps) r
    unfolding policy_of
    whole_steps = record { file = (none_refused f r (length b) z).0; right = (not_refused z).below; whole = let n = bytes_length steps in omega arith }

    steps_replay : T v.unsafe → file_replay f (bytes_of steps) r ≡ Leak (length steps - 1)
    steps_replay t =
        let some : 1 ≤ length steps = some_step bounded (file_system f) r (file_state f) steps (last t) in
        let n = bytes_length steps in
        let final : suc (length steps - 1) ≡ length steps = omega arith in
        let same : calls (bytes_of steps) (suc (length steps - 1)) ≡ steps = ap (calls (bytes_of steps)) final ∙ ap (λ (l : List ℕ). calls l (length steps)) (sym (append-nil (bytes_of steps))) ∙ calls_back steps [] in
        (replay_leak f (bytes_of steps) r whole_steps (length steps - 1)).1 (omega arith, subst (LeaksLast bounded (file_system f) r (file_state f)) (sym same) (last t))

    pub verdict_replays : (n : ℕ) → judgement_of v ≡ Unsafe n → file_replay f (take (5 * n) (filled steps b)) r ≡ Leak (n - 1)
    verdict_replays n = go v.unsafe refl
      where
        go : (u : Bool) → v.unsafe ≡ u → pick u (Unsafe (length steps)) (Safe (length steps)) ≡ Unsafe n → file_replay f (take (5 * n) (filled steps b)) r ≡ Leak (n - 1)
        go true d q =
            let many : length steps ≡ n = cc in
            let front : take (5 * n) (filled steps b) ≡ bytes_of steps = ap (λ (k : ℕ). take (5 * k) (filled steps b)) (sym many) ∙ front_bytes steps (drop (5 * length steps) b) in
            ap (λ (l : List ℕ). file_replay f l r) front ∙ steps_replay (test-holds v.unsafe d) ∙ ap (λ (k : ℕ). Leak (k - 1)) many
        go false d q = absurd (let w : ◌≡◌ {A = ℕ} 0 1 = cc in omega arith)

  pub judge_replays : (n : ℕ) → file_judgement f r (length b) ≡ Unsafe n → file_replay f (take (5 * n) (file_buffer f r b)) r ≡ Leak (n - 1)
  judge_replays n e = go (ℕ_discrete (judge_refusal f r (length b)) 0)
    where
      go : Dec (judge_refusal f r (length b) ≡ 0) → file_replay f (take (5 * n) (file_buffer f r b)) r ≡ Leak (n - 1)
      go (yes z) =
          ap (λ (l : List ℕ). file_replay f (take (5 * n) l) r) (fills f r b z)
          ∙ verdict_replays z (file_verdict f r) (unsafe_steps_bounded (file_system f) none_reserved r (file_state f) (file_taken z)) n (sym (judges f r (length b) z) ∙ e)
      go (no ne) = absurd (let q : Refused (judge_refusal f r (length b)) ≡ Unsafe n = sym (refuses f r (length b) ne) ∙ e in let w : ◌≡◌ {A = ℕ} 0 1 = cc in omega arith)

  -- so the two equations are the whole promise
  pub judged : (answer : Judgement) (b' : List ℕ) → answer ≡ file_judgement f r (length b) → b' ≡ file_buffer f r b → Judged f r b answer b'
  judged answer b' e d = record {
    answer_is = e;
    buffer_is = d;
    demand3 = λ z. subst (λ (w : Judgement). Demand3 (file_system f) r (file_state f) b w b') (sym e) (subst (Demand3 (file_system f) r (file_state f) b (file_judgement f r (length b))) (sym d) (judge_demand3 z));
    settled = judge_settled;
    replays = λ n q. ap (λ (l : List ℕ). file_replay f (take (5 * n) l) r) d ∙ judge_replays n (sym e ∙ q);
  }

-- ---- what the code comes to
module _ (f : List ℕ) (r : ℕ) (b : List ℕ) where
  refused_with : (k : ℕ) → (k ≡ 0 → ⊥) → judge_refusal f r (length b) ≡ k → Judged f r b (Refused k) b
  unfolding file_judgement file_buffer
  refused_with k ne e = let z : eqb k 0 ≡ false = ne_eqb k 0 ne in judged f r b (Refused k) b (rw (e, z)) (rw (e, z))

  above : (d : Refusal) → number_of d ≡ 0 → ⊥
  above d e = let l = number_above d in omega arith

  -- of a file that the reader refuses
  pub file_refused : (d : Refusal) → number_of d ≡ refusal f → Judged f r b (Refused (number_of d)) b
  unfolding judge_refusal
  file_refused d e = refused_with (number_of d) (above d) (or_first (refusal f) (caller_refusal (file_system f) (file_state f) r (length b)) (λ q. above d (e ∙ q)) ∙ sym e)

  -- and of one that it accepts
  module _ (z : refusal f ≡ 0) (p : Policy) (p-is : p ≡ policy_of f) where
    pub caller_is : judge_refusal f r (length b) ≡ caller_refusal (system_of p) (state_of p.matrix) r (length b)
    unfolding judge_refusal policy_of
    caller_is = or_second (refusal f) (caller_refusal (file_system f) (file_state f) r (length b)) z ∙ ap (λ (q : Policy). caller_refusal (system_of q) (state_of q.matrix) r (length b)) (sym p-is)

    pub caller_refused : (d : Refusal) → number_of d ≡ caller_refusal (system_of p) (state_of p.matrix) r (length b) → Judged f r b (Refused (number_of d)) b
    caller_refused d e = refused_with (number_of d) (above d) (caller_is ∙ sym e)

    module _ (n : 0 ≡ caller_refusal (system_of p) (state_of p.matrix) r (length b)) where
      pub file_asked : Asked p (leak_goal 0 r) (length b)
      file_asked = question_asked p r (length b) (sym n) (policy_fits_read f p z p-is)

      pub file_below : r < p.rights
      file_below = (passed (system_of p) (state_of p.matrix) r (length b) (sym n)).below

      verdict_is : judge_beside (system_of p) (has 0) r (state_of p.matrix) ≡ file_verdict f r
      unfolding policy_of
      verdict_is = ap₂ (λ (R : ℕ → Bool) (q : Policy). judge_beside (system_of q) R r (state_of q.matrix)) (none-reserved 0 refl) p-is

      pub file_judged : (answer : Judgement) (b' : List ℕ) → Concluded p 0 r b answer b' → Judged f r b answer b'
      file_judged answer b' C =
          let q : judge_refusal f r (length b) ≡ 0 = caller_is ∙ sym n in
          judged f r b answer b' (C.answer_is ∙ ap judgement_of verdict_is ∙ sym (judges f r (length b) q)) (C.buffer_is ∙ ap (λ (w : Verdict). filled w.steps b) verdict_is ∙ sym (fills f r b q))

-- ---- a file that is prepared
-- what is known of a policy that was read
module _ (f : List ℕ) (x : Result Policy Refusal) (R : ReadOf f x) (p : Policy) (e : x ≡ Ok p) where
  read_accepted : refusal f ≡ 0
  read_accepted = sym R.refused ∙ code_ok x p e

  read_is : p ≡ policy_of f
  read_is = IfOk-at_ok (λ (q : Policy). q ≡ policy_of f) e R.read

  pub read_fits : PolicyFits p
  read_fits = policy_fits_read f p read_accepted read_is

  pub prepared_ready : (B : Basis) (t : Tables) → BasisOf p B → ToldBy p.carried p.matrix.cells t → PreparedOf f (Ok (record { policy = p; basis = B; tables = t }))
  prepared_ready B t basis h = record {
    refused = sym read_accepted;
    ready = record { accepted = read_accepted; policy_is = read_is; basis_is = basis; told = policy_told p p.matrix.cells t read_fits h };
  }

-- a refusal is handed on
pub prepared_refused : (f : List ℕ) (x : Result Policy Refusal) (d : Refusal) (y : Result Prepared Refusal) → x ≡ Err d → IsErrAnd y (λ e. e ≡ d) → ReadOf f x → PreparedOf f y
prepared_refused f x d y e h R = record { refused = code_on x y d e h ∙ R.refused; ready = none y h }
  where
    none : (y : Result Prepared Refusal) → IsErrAnd y (λ e. e ≡ d) → IfOk y (λ z. ReadyOf f z)
    none (Ok z) h = elim h [ ]
    none (Err z) h = tt

pub told_on : (v : Result CodeVerdict Refusal) (d : Refusal) → IsErrAnd v (λ e. e ≡ d) → judgement_told v ≡ Refused (number_of d)
told_on (Ok v) d h = elim h [ ]
told_on (Err e) d h = ap (λ (x : Refusal). Refused (number_of x)) h

-- the caller of a judgement on it is refused, or the question is asked
module _ (f : List ℕ) (r : ℕ) (b : List ℕ) (y : Prepared) (R : ReadyOf f y) where
  pub ready_refused : (d : Refusal) → number_of d ≡ caller_refusal (system_of y.policy) (state_of y.policy.matrix) r (length b) → (v : Result CodeVerdict Refusal) → IsErrAnd v (λ e. e ≡ d) → Judged f r b (judgement_told v) b
  ready_refused d e v h = subst (λ (w : Judgement). Judged f r b w b) (sym (told_on v d h)) (caller_refused f r b R.accepted y.policy R.policy_is d e)

  module _ (n : 0 ≡ caller_refusal (system_of y.policy) (state_of y.policy.matrix) r (length b)) where
    pub ready_asked : Asked y.policy (leak_goal 0 r) (length b) × (r < y.policy.rights) × BasisOf y.policy y.basis × Told (system_of y.policy) y.policy.matrix.cells y.tables
    ready_asked = (file_asked f r b R.accepted y.policy R.policy_is n, file_below f r b R.accepted y.policy R.policy_is n, R.basis_is, R.told)

    pub ready_judged : (answer : Judgement) (b' : List ℕ) → Concluded y.policy 0 r b answer b' → Judged f r b answer b'
    ready_judged = file_judged f r b R.accepted y.policy R.policy_is n

-- a file that could not be prepared
pub prepared_not : (f : List ℕ) (x : Result Prepared Refusal) (d : Refusal) → x ≡ Err d → PreparedOf f x → (r : ℕ) (b : List ℕ) → Judged f r b (Refused (number_of d)) b
prepared_not f x d e P r b = file_refused f r b d (sym (ap code e) ∙ P.refused)
