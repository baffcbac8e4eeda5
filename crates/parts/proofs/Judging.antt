-- The judge of a part on a file: where nothing is refused its answer is the truth about all runs from the part, and an unsafe part is an unsafe whole; and so
-- answer and buffer are all that is to be shown of the code. Assumes nothing.
use Prim.Native.Nat.{ℕ, ◌*◌, ◌-◌, ◌≤◌, ◌<◌}
use mathlib.Core.Path.{◌≡◌, sym, ap, ap₂, ◌∙◌, subst, fun_ext}
use mathlib.Core.Bool.{Bool, false}
use mathlib.Core.List.{List, []}
use native.Mathlib.Omega.{arith}
use native.Mathlib.Nat.{le_trans}
use native.Mathlib.Decide.{ℕ_discrete}
use borrow.Author.Tests.{ne_eqb}
use lib.Dec.{T, eqb}
use lib.ListN.{length, take, drop}
use Rattle.std.specs.Prelude.{Result, IsErrAnd}
use Rattle.cases.specs.Cases.{pick}
use Rattle.rights.specs.Rights.{has}
use Rattle.protection.specs.Limits.{names, start_names}
use Rattle.protection.specs.State.{State, object_in}
use Rattle.protection.specs.Size.{taken_names, step_bound}
use Rattle.protection.specs.Execution.{unbounded}
use Rattle.protection.specs.Leak.{LeaksLast}
use Rattle.protection.specs.Judge.{none_reserved, leak_beside, Verdict, judge_beside}
use Rattle.protection.specs.Part.{without}
use Rattle.protection.proofs.Saturation.{Taken, rounds_settled}
use Rattle.protection.proofs.Trusted.{part_bound, part_names, part_taken, part_leaks_bounded, part_leaks, part_unsafe}
use Rattle.matrix.specs.Bytes.{view}
use Rattle.matrix.specs.Matrices.{state_of}
use Rattle.matrix.proofs.Inverse.{view_proper}
use Rattle.layout.specs.Refusals.{or_else}
use Rattle.layout.proofs.Accepted.{or-else}
use Rattle.layout.proofs.OrElse.{or_first, or_second}
use Rattle.refusals.specs.declared.Refusal.{Refusal}
use Rattle.refusals.specs.Numbers.{number_of}
use Rattle.refusals.proofs.Codes.{number_above}
use Rattle.policy.specs.Refusals.{refusal}
use Rattle.policy.specs.Contents.{system_of, policy_of, file_state, file_system}
use Rattle.policy.specs.Fits.{PolicyFits}
use Rattle.masks.specs.Told.{Told, ToldBy}
use Rattle.masks.specs.declared.Tables.{Tables}
use Rattle.questions.proofs.Starting.{policy_told}
use Rattle.policy.specs.declared.Policy.{Policy}
use Rattle.policy.proofs.ReadPolicy.{policy_fits_read}
use Rattle.goals.specs.Goals.{leak_goal}
use Rattle.visits.specs.Engine.{Asked}
use Rattle.questions.proofs.Refusals.{Sized, sized, goal_asked}
use Rattle.trace.specs.Traces.{calls}
use Rattle.trace.specs.Replays.{file_replay}
use Rattle.trace.specs.Replays.{Leak}
use Rattle.safety.specs.declared.Verdict.{Verdict as CodeVerdict}
use Rattle.safety.specs.Demand3.{judgement_told, is_unsafe, steps_written, Demand3}
use Rattle.safety.specs.Judgement.{caller_refusal, judge_refusal, file_verdict, judgement_of, judgement_by, file_judgement, filled, buffer_by, file_buffer}
use Rattle.safety.specs.Conclusion.{Concluded}
use Rattle.safety.specs.Demand3.{Judgement}
use Rattle.safety.specs.Demand3.{Refused, Unsafe}
use Rattle.safety.proofs.Buffers.{calls_back}
use Rattle.safety.proofs.Refusals.{passed, answers, turned_down, writes, judges, leak_fits}
use Rattle.safety.proofs.Demand3.{told, verdict_demand3, not_refused, file_taken, verdict_replays, judged, told_on}
use Rattle.parts.specs.Parts.{listed_in, left_out, trusted_refusal, part_refusal, file_part, part_verdict, part_judgement, part_buffer, PartJudged}
use Rattle.parts.specs.Dropped.{mask_of, dropped, part_of}
use Rattle.parts.proofs.Lists.{mask_listed, left_there}
use Rattle.parts.proofs.Dropping.{dropped_canonical, dropped_state}

-- ---- what is promised of the definitions
module _ (f : List ℕ) (r : ℕ) (l b : List ℕ) where
  abbrev by : ℕ
  by = part_refusal f r l (length b)

  abbrev v : Verdict
  v = part_verdict f r l

  answer_refused : (by ≡ 0 → ⊥) → part_judgement f r l (length b) ≡ Refused by
  unfolding part_judgement
  answer_refused ne = turned_down by v ne

  module _ (e : by ≡ 0) where
    answer_given : part_judgement f r l (length b) ≡ judgement_of v
    unfolding part_judgement
    answer_given = answers by v e

    buffer_filled : part_buffer f r l b ≡ filled v.steps b
    unfolding part_buffer
    buffer_filled = writes by v b e

    neither : (judge_refusal f r (length b) ≡ 0) × (trusted_refusal (file_state f) l ≡ 0)
    unfolding part_refusal
    neither = or-else (judge_refusal f r (length b)) (trusted_refusal (file_state f) l) e

    whole_taken : Taken (file_system f) none_reserved (file_state f)
    whole_taken = file_taken f r b neither.0

    taken_part : Taken (file_system f) (left_out l) (file_part f l)
    taken_part = part_taken (left_out l) (file_state f) (file_system f) (left_there (file_state f) l neither.1) whole_taken

    room : 5 * step_bound (file_system f).rights (file_part f l) ≤ length b
    room = omega (arith, part_bound (left_out l) (file_state f) (file_system f).rights, (sized (file_system f) (file_state f) (length b) (not_refused f r b neither.0).size).room)

    part_demand3 : Demand3 (file_system f) r (file_part f l) b (part_judgement f r l (length b)) (part_buffer f r l b)
    part_demand3 = subst (λ (w : Judgement). Demand3 (file_system f) r (file_part f l) b w (part_buffer f r l b)) (sym answer_given)
        (subst (Demand3 (file_system f) r (file_part f l) b (judgement_of v)) (sym buffer_filled) (verdict_demand3 (file_system f) (left_out l) r (file_part f l) taken_part b room))

    -- the steps as the buffer has them
    steps_are : calls (part_buffer f r l b) (steps_written (part_judgement f r l (length b))) ≡ v.steps
    steps_are =
        ap₂ (λ (d : List ℕ) (n : ℕ). calls d n) buffer_filled (ap steps_written answer_given ∙ (told v).2)
        ∙ calls_back v.steps (drop (5 * length v.steps) b)

    unsafe_verdict : T (is_unsafe (part_judgement f r l (length b))) → T v.unsafe
    unsafe_verdict t = subst T (ap is_unsafe answer_given ∙ (told v).0) t

    leaks_whole : T (is_unsafe (part_judgement f r l (length b))) → LeaksLast unbounded (file_system f) r (file_state f) (calls (part_buffer f r l b) (steps_written (part_judgement f r l (length b))))
    leaks_whole t = subst (LeaksLast unbounded (file_system f) r (file_state f)) (sym steps_are) (part_leaks (file_system f) (left_out l) r (file_state f) taken_part (unsafe_verdict t))

    unsafe_whole : T (is_unsafe (part_judgement f r l (length b))) → T (is_unsafe (file_judgement f r (length b)))
    unsafe_whole t =
        subst T (sym (ap is_unsafe (judges f r (length b) neither.0) ∙ (told (file_verdict f r)).0))
        (part_unsafe (file_system f) (left_out l) r (file_state f) taken_part whole_taken (unsafe_verdict t))

    replays_whole : (n : ℕ) → part_judgement f r l (length b) ≡ Unsafe n → file_replay f (take (5 * n) (part_buffer f r l b)) r ≡ Leak (n - 1)
    replays_whole n q =
        ap (λ (d : List ℕ). file_replay f (take (5 * n) d) r) buffer_filled
        ∙ verdict_replays f r b neither.0 v (part_leaks_bounded (file_system f) (left_out l) r (file_state f) taken_part) n (sym answer_given ∙ q)

  -- a refusal is not unsafe
  unsafe_given : T (is_unsafe (part_judgement f r l (length b))) → by ≡ 0
  unsafe_given t = go (ℕ_discrete by 0)
    where
      go : Dec (by ≡ 0) → by ≡ 0
      go (yes e) = e
      go (no ne) = absurd (subst (λ (w : Judgement). T (is_unsafe w)) (answer_refused ne) t)

-- an empty list gives what the judge gives
empty_refusal : (f : List ℕ) (r n : ℕ) → part_refusal f r [] n ≡ judge_refusal f r n
unfolding part_refusal trusted_refusal Rattle.cases.specs.Cases.all
empty_refusal f r n = go (judge_refusal f r n)
  where
    go : (k : ℕ) → or_else k 0 ≡ k
    go k = by_zero (ℕ_discrete k 0)
      where
        by_zero : Dec (k ≡ 0) → or_else k 0 ≡ k
        by_zero (yes e) = or_second k 0 e ∙ sym e
        by_zero (no ne) = or_first k 0 ne

pub part_empty : (f : List ℕ) (r n : ℕ) → part_judgement f r [] n ≡ file_judgement f r n
unfolding part_judgement file_judgement listed_in
part_empty f r n = ap (λ (k : ℕ). judgement_by k (file_verdict f r)) (empty_refusal f r n)

pub part_empty_buffer : (f : List ℕ) (r : ℕ) (b : List ℕ) → part_buffer f r [] b ≡ file_buffer f r b
unfolding part_buffer file_buffer listed_in
part_empty_buffer f r b = ap (λ (k : ℕ). buffer_by k (file_verdict f r) b) (empty_refusal f r (length b))

-- so the two equations are the whole promise
pub part_judged : (f : List ℕ) (r : ℕ) (l b : List ℕ) (answer : Judgement) (b' : List ℕ) → answer ≡ part_judgement f r l (length b) → b' ≡ part_buffer f r l b → PartJudged f r l b answer b'
part_judged f r l b answer b' e d = record {
  answer_is = e;
  buffer_is = d;
  demand3 = λ z. subst (λ (w : Judgement). Demand3 (file_system f) r (file_part f l) b w b') (sym e) (subst (Demand3 (file_system f) r (file_part f l) b (part_judgement f r l (length b))) (sym d) (part_demand3 f r l b z));
  settled = λ z. rounds_settled (file_system f) (leak_beside (left_out l) r) (file_part f l) (taken_part f r l b z);
  whole_leaks = λ t.
      let u : T (is_unsafe (part_judgement f r l (length b))) = subst (λ (w : Judgement). T (is_unsafe w)) e t in
      subst (LeaksLast unbounded (file_system f) r (file_state f)) (sym (ap₂ (λ (c : List ℕ) (w : Judgement). calls c (steps_written w)) d e)) (leaks_whole f r l b (unsafe_given f r l b u) u);
  replays = λ n q.
      let w : part_judgement f r l (length b) ≡ Unsafe n = sym e ∙ q in
      let z = unsafe_given f r l b (subst (λ (y : Judgement). T (is_unsafe y)) (sym w) tt) in
      ap (λ (c : List ℕ). file_replay f (take (5 * n) c) r) d ∙ replays_whole f r l b z n w;
  whole_unsafe = λ t. let u : T (is_unsafe (part_judgement f r l (length b))) = subst (λ (w : Judgement). T (is_unsafe w)) e t in unsafe_whole f r l b (unsafe_given f r l b u) u;
  none_listed = λ q. judged f r b answer b' (e ∙ ap (λ (k : List ℕ). part_judgement f r k (length b)) q ∙ part_empty f r (length b)) (d ∙ ap (λ (k : List ℕ). part_buffer f r k b) q ∙ part_empty_buffer f r b);
}

-- ---- what the code comes to
module _ (f : List ℕ) (r : ℕ) (l b : List ℕ) where
  refused_with : (k : ℕ) → (k ≡ 0 → ⊥) → part_refusal f r l (length b) ≡ k → PartJudged f r l b (Refused k) b
  unfolding part_judgement part_buffer
  refused_with k ne e = let z : eqb k 0 ≡ false = ne_eqb k 0 ne in part_judged f r l b (Refused k) b (rw (e, z)) (rw (e, z))

  above : (d : Refusal) → number_of d ≡ 0 → ⊥
  above d e = let h = number_above d in omega arith

  -- a refusal is handed on
  handed : (y : Result CodeVerdict Refusal) (d : Refusal) → IsErrAnd y (λ e. e ≡ d) → part_refusal f r l (length b) ≡ number_of d → PartJudged f r l b (judgement_told y) b
  handed y d h e = subst (λ (w : Judgement). PartJudged f r l b w b) (sym (told_on y d h)) (refused_with (number_of d) (above d) e)

  handed_first : (y : Result CodeVerdict Refusal) (d : Refusal) → IsErrAnd y (λ e. e ≡ d) → judge_refusal f r (length b) ≡ number_of d → PartJudged f r l b (judgement_told y) b
  unfolding part_refusal
  handed_first y d h e = handed y d h (or_first (judge_refusal f r (length b)) (trusted_refusal (file_state f) l) (λ q. above d (sym e ∙ q)) ∙ e)

  pub part_file_refused : (y : Result CodeVerdict Refusal) (d : Refusal) → IsErrAnd y (λ e. e ≡ d) → number_of d ≡ refusal f → PartJudged f r l b (judgement_told y) b
  unfolding judge_refusal
  part_file_refused y d h e = handed_first y d h (or_first (refusal f) (caller_refusal (file_system f) (file_state f) r (length b)) (λ q. above d (e ∙ q)) ∙ sym e)

  -- of a file that was read
  module _ (p : Policy) (u : 0 ≡ refusal f) (p-is : p ≡ policy_of f) where
    abbrev m : State
    m = state_of p.matrix

    caller_is : judge_refusal f r (length b) ≡ caller_refusal (system_of p) m r (length b)
    unfolding judge_refusal policy_of
    caller_is = or_second (refusal f) (caller_refusal (file_system f) (file_state f) r (length b)) (sym u) ∙ ap (λ (q : Policy). caller_refusal (system_of q) (state_of q.matrix) r (length b)) (sym p-is)

    pub part_caller_refused : (y : Result CodeVerdict Refusal) (d : Refusal) → IsErrAnd y (λ e. e ≡ d) → number_of d ≡ caller_refusal (system_of p) m r (length b) → PartJudged f r l b (judgement_told y) b
    part_caller_refused y d h e = handed_first y d h (caller_is ∙ sym e)

    module _ (n : 0 ≡ caller_refusal (system_of p) m r (length b)) where
      file_refusal : part_refusal f r l (length b) ≡ trusted_refusal m l
      unfolding part_refusal policy_of
      file_refusal =
          or_second (judge_refusal f r (length b)) (trusted_refusal (file_state f) l) (caller_is ∙ sym n)
          ∙ ap (λ (q : Policy). trusted_refusal (state_of q.matrix) l) (sym p-is)

      pub part_list_refused : (y : Result CodeVerdict Refusal) (d : Refusal) → IsErrAnd y (λ e. e ≡ d) → number_of d ≡ trusted_refusal (view p.matrix.kinds []) l → PartJudged f r l b (judgement_told y) b
      unfolding trusted_refusal
      part_list_refused y d h e = handed y d h (file_refusal ∙ sym e)

      -- the names of the list are the digits of z
      module _ (o : 0 ≡ trusted_refusal (view p.matrix.kinds []) l) (z : ℕ) (mask-is : z ≡ mask_of l (length l)) where
        none : trusted_refusal m l ≡ 0
        unfolding trusted_refusal
        none = sym o

        same_names : has z ≡ left_out l
        same_names = fun_ext (λ y. ap (λ (w : ℕ). has w y) mask-is ∙ mask_listed l (length l) y)

        there : (y : ℕ) → T (has z y) → T (object_in m y)
        there y h = left_there m l none y (subst (λ (R : ℕ → Bool). T (R y)) same_names h)

        fits : PolicyFits p
        fits = policy_fits_read f p (sym u) p-is

        small : (y : ℕ) → T (has z y) → y < names
        small y h = (view_proper p.rights p.matrix.kinds p.matrix.cells fits.matrix_fits).named y (there y h)

        part_state : state_of (dropped p.matrix z) ≡ without (has z) m
        part_state = dropped_state p.rights p.matrix fits.matrix_fits z small

        part_fits : PolicyFits (part_of p z)
        unfolding part_of
        part_fits = record {
          some_right = fits.some_right;
          few_rights = fits.few_rights;
          few_commands = fits.few_commands;
          matrix_fits = dropped_canonical p.rights p.matrix fits.matrix_fits z;
          commands_fit = fits.commands_fit;
          carries_fit = fits.carries_fit;
          carried_is = fits.carried_is;
          carriers_is = fits.carriers_is;
        }

        size : Sized (system_of p) m (length b)
        size = sized (system_of p) m (length b) (passed (system_of p) m r (length b) (sym n)).size

        few : taken_names (has z) (state_of (dropped p.matrix z)) ≤ start_names
        few = subst (λ (w : State). taken_names (has z) w ≤ start_names) (sym part_state) (le_trans (part_names (has z) m there) size.few_names)

        space : 5 * step_bound p.rights (state_of (dropped p.matrix z)) ≤ length b
        space = subst (λ (w : State). 5 * step_bound p.rights w ≤ length b) (sym part_state) (omega (arith, part_bound (has z) m p.rights, size.room))

        pub part_asked : Asked (part_of p z) (leak_goal z r) (length b)
        unfolding part_of
        part_asked = goal_asked (part_of p z) (leak_goal z r) (length b) size.single few space part_fits (leak_fits z r)

        pub part_below : r < p.rights
        part_below = (passed (system_of p) m r (length b) (sym n)).below

        verdict_is : judge_beside (system_of p) (has z) r (state_of (dropped p.matrix z)) ≡ part_verdict f r l
        unfolding policy_of
        verdict_is =
            ap (judge_beside (system_of p) (has z) r) part_state
            ∙ ap₂ (λ (R : ℕ → Bool) (q : Policy). judge_beside (system_of q) R r (without R (state_of q.matrix))) same_names p-is

        pub part_file_judged : (answer : Judgement) (b' : List ℕ) → Concluded (part_of p z) z r b answer b' → PartJudged f r l b answer b'
        unfolding part_of
        part_file_judged answer b' C =
            let g : part_refusal f r l (length b) ≡ 0 = file_refusal ∙ none in
            part_judged f r l b answer b' (C.answer_is ∙ ap judgement_of verdict_is ∙ sym (answer_given f r l b g)) (C.buffer_is ∙ ap (λ (y : Verdict). filled y.steps b) verdict_is ∙ sym (buffer_filled f r l b g))

-- ---- the policy that `part_of` gives
module _ (p : Policy) (z r : ℕ) (q : Policy) (e : q ≡ part_of p z) where
  pub without_asked : (n : ℕ) → Asked (part_of p z) (leak_goal z r) n → Asked q (leak_goal z r) n
  without_asked n A = subst (λ (y : Policy). Asked y (leak_goal z r) n) (sym e) A

  pub without_fits : (n : ℕ) → Asked (part_of p z) (leak_goal z r) n → PolicyFits q
  without_fits n A = (without_asked n A).fits

  pub without_told : (n : ℕ) → Asked (part_of p z) (leak_goal z r) n → (t : Tables) → ToldBy q.carried q.matrix.cells t → Told (system_of q) q.matrix.cells t
  without_told n A t h = policy_told q q.matrix.cells t (without_fits n A) h

  pub without_below : r < p.rights → r < q.rights
  unfolding part_of
  without_below h = subst (λ (y : Policy). r < y.rights) (sym e) h

  pub without_concluded : (b : List ℕ) (answer : Judgement) (b' : List ℕ) → Concluded q z r b answer b' → Concluded (part_of p z) z r b answer b'
  without_concluded b answer b' C = subst (λ (y : Policy). Concluded y z r b answer b') e C
