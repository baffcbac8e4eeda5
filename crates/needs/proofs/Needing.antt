-- A need on a file: where nothing is refused, its answer is the truth about all runs that destroy no starting name; and so answer and buffer are all that is
-- to be shown of the code. Assumes nothing.
use Prim.Native.Nat.{ℕ, ◌*◌, ◌≤◌}
use mathlib.Core.Path.{◌≡◌, refl, sym, ap, ap₂, ◌∙◌, subst}
use mathlib.Core.Bool.{Bool, true, false, not}
use mathlib.Core.List.{List}
use native.Mathlib.Omega.{arith}
use native.Mathlib.Decide.{ℕ_discrete}
use borrow.Author.Tests.{eq-eqb, ne_eqb}
use lib.Dec.{eqb}
use lib.ListN.{length, drop}
use Rattle.std.specs.Prelude.{Result, Ok, Err, IsErrAnd}
use Rattle.cases.specs.Cases.{pick}
use Rattle.cases.proofs.Bools.{holds as test-holds}
use Rattle.cases.proofs.Lists.{length_tabulate}
use Rattle.protection.specs.Size.{step_bound}
use Rattle.protection.specs.Judge.{none_reserved, Question, Progress, all_rounds}
use Rattle.protection.specs.Need.{held_beside, held_of, HeldAfter, NeverHeld}
use Rattle.protection.proofs.Saturation.{Taken, rounds_settled}
use Rattle.protection.proofs.Needed.{need_held, need_never, need_bound}
use Rattle.matrix.specs.Matrices.{state_of}
use Rattle.matrix.proofs.Inverse.{view_proper}
use Rattle.layout.specs.Refusals.{or_else}
use Rattle.layout.proofs.Accepted.{or-else}
use Rattle.layout.proofs.OrElse.{or_first, or_second}
use Rattle.policy.specs.Refusals.{refusal}
use Rattle.policy.specs.Contents.{system_of, policy_of, file_state, file_system}
use Rattle.policy.specs.Fits.{PolicyFits}
use Rattle.policy.specs.declared.Policy.{Policy}
use Rattle.policy.proofs.Accepted.{accepted}
use Rattle.policy.proofs.FileState.{policy_fits}
use Rattle.policy.proofs.ReadPolicy.{policy_fits_read}
use Rattle.goals.specs.Goals.{cell_limit, cells_in, held_goal, question_of, GoalFits}
use Rattle.goals.specs.declared.Goal.{Goal}
use Rattle.goals.proofs.Ending.{none-reserved}
use Rattle.goals.proofs.Lists.{held_needs}
use Rattle.trace.specs.Traces.{step_call, calls}
use Rattle.visits.specs.Engine.{progress_of, Asked}
use Rattle.visits.specs.declared.Course.{Course}
use Rattle.visits.proofs.Asked.{taken, room_left}
use Rattle.questions.specs.Refusals.{size_refusal}
use Rattle.questions.specs.Rounded.{Ended}
use Rattle.questions.proofs.Refusals.{open_asked}
use Rattle.safety.specs.Judgement.{filled}
use Rattle.safety.proofs.Buffers.{calls_back, buffer_filled}
use Rattle.refusals.specs.declared.Refusal.{Refusal}
use Rattle.refusals.specs.Numbers.{number_of}
use Rattle.refusals.proofs.Codes.{number_above}
use Rattle.needs.specs.declared.Need.{Need as CodeNeed}
use Rattle.needs.specs.Needed.{need_told, list_refusal, need_refusal, file_rounds, need_of, file_need, steps_taken, need_buffer, Needed}
use Rattle.needs.specs.Rounds.{need_rounds, NeedRounded}
use Rattle.needs.specs.Needed.{Need}
use Rattle.needs.specs.Needed.{Refused, Held, Never}
use Rattle.needs.proofs.Listed.{listed, taken_there, goal_fits}

-- ---- the rounds of a goal of cells
pub need_asked : (p : Policy) (l : List ℕ) (n : ℕ) (G : Goal) → G ≡ held_goal l → Asked p (held_goal l) n → Asked p G n
need_asked p l n G e A = rw e A

module _ (p : Policy) (l b : List ℕ) (G : Goal) (e : G ≡ held_goal l) (j : Course) (b' : List ℕ) (E : Ended p G j b' b) where
  progress_is : progress_of j b' ≡ need_rounds p l
  progress_is = E.rounded.is ∙ ap (λ (Q : Question). all_rounds (system_of p) Q (state_of p.matrix)) (ap question_of e ∙ ap₂ held_beside (none-reserved 0 refl) (held_needs l))

  count_is : length (calls b' j.steps) ≡ j.steps
  count_is = length_tabulate (step_call b') j.steps 0

  kept : b' ≡ filled (calls b' j.steps) b
  kept = buffer_filled j.steps b b' E.rounded.same_length (omega (arith, room_left p G j b' E.standing)) E.rounded.behind

  rounded : (answer : Need) → answer ≡ need_of (progress_of j b') → NeedRounded p l b answer b'
  rounded answer d = record { answer_is = d ∙ ap need_of progress_is; buffer_is = kept ∙ ap (λ (x : Progress). filled x.steps b) progress_is }

  pub rounds_held : j.ended ≡ true → NeedRounded p l b (Held j.steps) b'
  rounds_held d = rounded (Held j.steps) (ap Held (sym count_is) ∙ rw d)

  pub rounds_never : j.ended ≡ false → NeedRounded p l b (Never j.steps) b'
  rounds_never d = rounded (Never j.steps) (ap Never (sym count_is) ∙ rw d)

-- ---- a need that is not refused
pub record Passed (f l : List ℕ) (n : ℕ) : Type 0 where
  pub file : refusal f ≡ 0
  pub size : size_refusal (file_system f) (file_state f) n ≡ 0
  pub list : list_refusal (file_system f) (file_state f) l ≡ 0

passed : (f l : List ℕ) (n : ℕ) → need_refusal f l n ≡ 0 → Passed f l n
unfolding need_refusal
passed f l n e =
    let a = or-else (refusal f) (or_else (size_refusal (file_system f) (file_state f) n) (list_refusal (file_system f) (file_state f) l)) e in
    let b = or-else (size_refusal (file_system f) (file_state f) n) (list_refusal (file_system f) (file_state f) l) a.1 in
    record { file = a.0; size = b.0; list = b.1 }

-- the policy's question is asked
pub list_fits : (p : Policy) (l : List ℕ) → PolicyFits p → list_refusal (system_of p) (state_of p.matrix) l ≡ 0 → GoalFits (held_goal l)
list_fits p l F e = goal_fits p.rights (state_of p.matrix) l F.few_rights (view_proper p.rights p.matrix.kinds p.matrix.cells F.matrix_fits) (listed (system_of p) (state_of p.matrix) l e)

pub list_few : (p : Policy) (l : List ℕ) → 0 ≡ list_refusal (system_of p) (state_of p.matrix) l → length l ≤ 3 * cell_limit
list_few p l e = (listed (system_of p) (state_of p.matrix) l (sym e)).few

module _ (f l b : List ℕ) where
  abbrev z : ℕ
  z = need_refusal f l (length b)

  module _ (e : z ≡ 0) where
    file_taken : Taken (file_system f) none_reserved (file_state f)
    unfolding policy_of
    file_taken =
        let P = passed f l (length b) e in
        let F = policy_fits f (accepted f P.file) in
        subst (λ (R : ℕ → Bool). Taken (file_system f) R (file_state f)) (none-reserved 0 refl)
        (taken (policy_of f) (held_goal l) (length b) (open_asked (policy_of f) (held_goal l) (length b) refl P.size F (list_fits (policy_of f) l F P.list)))

    need_is : file_need f l (length b) ≡ need_of (file_rounds f l)
    unfolding file_need
    need_is = rw (eq-eqb z 0 e)

    buffer_is : need_buffer f l b ≡ filled (file_rounds f l).steps b
    unfolding need_buffer
    buffer_is = rw (eq-eqb z 0 e)

    steps_back : calls (need_buffer f l b) (length (file_rounds f l).steps) ≡ (file_rounds f l).steps
    steps_back = ap (λ (d : List ℕ). calls d (length (file_rounds f l).steps)) buffer_is ∙ calls_back (file_rounds f l).steps (drop (5 * length (file_rounds f l).steps) b)

  refused_is : (z ≡ 0 → ⊥) → file_need f l (length b) ≡ Refused z
  unfolding file_need
  refused_is ne = rw (ne_eqb z 0 ne)

  -- ---- the promise
  file_held : (n : ℕ) → file_need f l (length b) ≡ Held n → HeldAfter (file_system f) (cells_in l) (file_state f) (calls (need_buffer f l b) n)
  file_held n q = go (ℕ_discrete z 0)
    where
      by : (e : z ≡ 0) (u : Bool) → (file_rounds f l).ended ≡ u → pick u (Held (length (file_rounds f l).steps)) (Never (length (file_rounds f l).steps)) ≡ Held n
          → HeldAfter (file_system f) (cells_in l) (file_state f) (calls (need_buffer f l b) n)
      by e true d w =
          let many : length (file_rounds f l).steps ≡ n = cc in
          subst (HeldAfter (file_system f) (cells_in l) (file_state f)) (sym (sym (ap (calls (need_buffer f l b)) many) ∙ steps_back e))
          (need_held (file_system f) (cells_in l) (file_state f) (file_taken e) (test-holds (file_rounds f l).ended d))
      by e false d w = absurd (let v : ◌≡◌ {A = ℕ} 0 1 = cc in omega arith)

      go : Dec (z ≡ 0) → HeldAfter (file_system f) (cells_in l) (file_state f) (calls (need_buffer f l b) n)
      go (yes e) = by e (file_rounds f l).ended refl (sym (need_is e) ∙ q)
      go (no ne) = absurd (let w : Refused z ≡ Held n = sym (refused_is ne) ∙ q in let v : ◌≡◌ {A = ℕ} 0 1 = cc in omega arith)

  file_never : (n : ℕ) → file_need f l (length b) ≡ Never n → NeverHeld (file_system f) (cells_in l) (file_state f) (calls (need_buffer f l b) n)
  file_never n q = go (ℕ_discrete z 0)
    where
      by : (e : z ≡ 0) (u : Bool) → (file_rounds f l).ended ≡ u → pick u (Held (length (file_rounds f l).steps)) (Never (length (file_rounds f l).steps)) ≡ Never n
          → NeverHeld (file_system f) (cells_in l) (file_state f) (calls (need_buffer f l b) n)
      by e true d w = absurd (let v : ◌≡◌ {A = ℕ} 0 1 = cc in omega arith)
      by e false d w =
          let many : length (file_rounds f l).steps ≡ n = cc in
          let P = passed f l (length b) e in
          subst (NeverHeld (file_system f) (cells_in l) (file_state f)) (sym (sym (ap (calls (need_buffer f l b)) many) ∙ steps_back e))
          (need_never (file_system f) (cells_in l) (file_state f) (file_taken e) (taken_there (file_system f).rights (file_state f) (cells_in l) (listed (file_system f) (file_state f) l P.list).taken) (test-holds (not (file_rounds f l).ended) (ap not d)))

      go : Dec (z ≡ 0) → NeverHeld (file_system f) (cells_in l) (file_state f) (calls (need_buffer f l b) n)
      go (yes e) = by e (file_rounds f l).ended refl (sym (need_is e) ∙ q)
      go (no ne) = absurd (let w : Refused z ≡ Never n = sym (refused_is ne) ∙ q in let v : ◌≡◌ {A = ℕ} 0 1 = cc in omega arith)

  file_within : z ≡ 0 → steps_taken (file_need f l (length b)) ≤ step_bound (file_system f).rights (file_state f)
  file_within e = subst (λ (w : Need). steps_taken w ≤ step_bound (file_system f).rights (file_state f)) (sym (need_is e)) (go (file_rounds f l).ended)
    where
      few : length (file_rounds f l).steps ≤ step_bound (file_system f).rights (file_state f)
      few = need_bound (file_system f) (cells_in l) (file_state f) (file_taken e)

      go : (u : Bool) → steps_taken (pick u (Held (length (file_rounds f l).steps)) (Never (length (file_rounds f l).steps))) ≤ step_bound (file_system f).rights (file_state f)
      go true = few
      go false = few

  -- so the two equations are the whole promise
  pub needed : (answer : Need) (b' : List ℕ) → answer ≡ file_need f l (length b) → b' ≡ need_buffer f l b → Needed f l b answer b'
  needed answer b' e d = record {
    answer_is = e;
    buffer_is = d;
    held = λ n q. subst (λ (w : List ℕ). HeldAfter (file_system f) (cells_in l) (file_state f) (calls w n)) (sym d) (file_held n (sym e ∙ q));
    never = λ n q. subst (λ (w : List ℕ). NeverHeld (file_system f) (cells_in l) (file_state f) (calls w n)) (sym d) (file_never n (sym e ∙ q));
    within = λ q. subst (λ (w : Need). steps_taken w ≤ step_bound (file_system f).rights (file_state f)) (sym e) (file_within q);
    settled = λ q. rounds_settled (file_system f) (held_of (cells_in l)) (file_state f) (file_taken q);
  }

-- ---- what the code comes to
module _ (f l b : List ℕ) where
  refused_with : (k : ℕ) → (k ≡ 0 → ⊥) → need_refusal f l (length b) ≡ k → Needed f l b (Refused k) b
  unfolding file_need need_buffer
  refused_with k ne e = let u : eqb k 0 ≡ false = ne_eqb k 0 ne in needed f l b (Refused k) b (rw (e, u)) (rw (e, u))

  -- a refusal is handed on
  handed : (y : Result CodeNeed Refusal) (r : Refusal) → IsErrAnd y (λ e. e ≡ r) → need_refusal f l (length b) ≡ number_of r → Needed f l b (need_told y) b
  handed (Ok x) r h e = elim h [ ]
  handed (Err d) r h e = rw h (refused_with (number_of r) (λ q. omega (arith, number_above r)) e)

  pub file_refused : (y : Result CodeNeed Refusal) (r : Refusal) → IsErrAnd y (λ e. e ≡ r) → number_of r ≡ refusal f → Needed f l b (need_told y) b
  unfolding need_refusal
  file_refused y r h e = handed y r h (or_first (refusal f) _ (λ q. omega (arith, number_above r)) ∙ sym e)

  -- of a file that was read
  module _ (p : Policy) (u : 0 ≡ refusal f) (d : p ≡ policy_of f) where
    abbrev by_size : ℕ
    by_size = size_refusal (system_of p) (state_of p.matrix) (length b)

    abbrev by_list : ℕ
    by_list = list_refusal (system_of p) (state_of p.matrix) l

    refusal_is : need_refusal f l (length b) ≡ or_else by_size by_list
    unfolding need_refusal policy_of
    refusal_is = or_second (refusal f) _ (sym u) ∙ ap (λ (q : Policy). or_else (size_refusal (system_of q) (state_of q.matrix) (length b)) (list_refusal (system_of q) (state_of q.matrix) l)) (sym d)

    pub read_fits : PolicyFits p
    read_fits = policy_fits_read f p (sym u) d

    pub size_refused : (y : Result CodeNeed Refusal) (r : Refusal) → IsErrAnd y (λ e. e ≡ r) → number_of r ≡ by_size → Needed f l b (need_told y) b
    size_refused y r h e = handed y r h (refusal_is ∙ or_first by_size by_list (λ q. omega (arith, number_above r)) ∙ sym e)

    module _ (n : 0 ≡ by_size) where
      pub list_refused : (y : Result CodeNeed Refusal) (r : Refusal) → IsErrAnd y (λ e. e ≡ r) → number_of r ≡ by_list → Needed f l b (need_told y) b
      list_refused y r h e = handed y r h (refusal_is ∙ or_second by_size by_list (sym n) ∙ sym e)

      module _ (o : 0 ≡ by_list) where
        pub file_asked : Asked p (held_goal l) (length b)
        file_asked = open_asked p (held_goal l) (length b) refl (sym n) read_fits (list_fits p l read_fits (sym o))

        rounds_are : need_rounds p l ≡ file_rounds f l
        unfolding policy_of
        rounds_are = ap (λ (q : Policy). need_rounds q l) d

        pub file_needed : (answer : Need) (b' : List ℕ) → NeedRounded p l b answer b' → Needed f l b answer b'
        file_needed answer b' R =
            let q : need_refusal f l (length b) ≡ 0 = refusal_is ∙ or_second by_size by_list (sym n) ∙ sym o in
            needed f l b answer b' (R.answer_is ∙ ap need_of rounds_are ∙ sym (need_is f l b q)) (R.buffer_is ∙ ap (λ (w : Progress). filled w.steps b) rounds_are ∙ sym (buffer_is f l b q))
