-- Rounds that a question ends and rounds that nothing ends: the steps of the first are a front of the steps of the second, and all of them where the question
-- has not ended them. Assumes nothing.
use mathlib.Core.Path.{◌≡◌, refl, sym, ap, ◌∙◌, subst}
use mathlib.Core.Bool.{Bool, true, false, not, ◌||◌}
use mathlib.Core.List.{List, [], ◌∷◌, ◌++◌, append_assoc, append-nil}
use mathlib.Core.Logic.{◌⊎◌, inl, inr, ⊎_elim}
use Prim.Native.Nat.{ℕ, zero, suc}
use lib.Dec.{T, eqb, T_not}
use Rattle.cases.specs.Cases.{iterate}
use Rattle.cases.proofs.Bools.{is_true}
use Rattle.protection.specs.State.{State}
use Rattle.protection.specs.Command.{Command, System, Call, actuals}
use Rattle.protection.specs.Execution.{bounded, execute}
use Rattle.protection.specs.Leak.{after}
use Rattle.protection.specs.Size.{step_bound}
use Rattle.protection.specs.Judge.{lowest_free, is_create_subject, is_create_object, operation_in, places_of, call_at, Question, Progress, opened, allowed, wanted, do_step, visit, try_command_at, try_command, try_commands, round, rounds, all_rounds}
use Rattle.protection.specs.Need.{nothing_beside}
use Rattle.protection.proofs.Rounds.{size, visit_split}

-- k has the steps of j, and perhaps more
abbrev Extends : Progress → Progress → Type 0
Extends j k = (rest : List Call) × (k.steps ≡ j.steps ++ rest)

-- j by the question, k by nothing: they are the same until the question ends j
abbrev Front : Progress → Progress → Type 0
Front j k = (T (not j.ended) × (j ≡ k)) ⊎ (T j.ended × Extends j k)

extends_self : (j : Progress) → Extends j j
extends_self j = ([], sym (append-nil j.steps))

extends_trans : (i j k : Progress) → Extends i j → Extends j k → Extends i k
extends_trans i j k (r, d) (s, e) = (r ++ s, e ∙ ap (λ (l : List Call). l ++ s) d ∙ append_assoc i.steps r s)

-- ---- f goes by the question, g by nothing
record Beside (f g : Progress → Progress) : Type 0 where
  -- from one and the same, not ended
  together : (j : Progress) → T (not j.ended) → Front (f j) (g j)
  -- what is ended stays as it is
  idle : (j : Progress) → T j.ended → f j ≡ j
  grows : (k : Progress) → Extends k (g k)

beside_front : (f g : Progress → Progress) → Beside f g → (j k : Progress) → Front j k → Front (f j) (g k)
beside_front f g B j k (inl (going, e)) = rw (← e) (B.together j going)
beside_front f g B j k (inr (over, x)) = inr (rw (B.idle j over) (over, extends_trans j k (g k) x (B.grows k)))

beside_none : Beside (λ j. j) (λ j. j)
beside_none = record { together = λ j going. inl (going, refl); idle = λ j _. refl; grows = extends_self }

beside_then : (f g f' g' : Progress → Progress) → Beside f g → Beside f' g' → Beside (λ j. f' (f j)) (λ j. g' (g j))
beside_then f g f' g' B B' = record {
  together = λ j going. beside_front f' g' B' (f j) (g j) (B.together j going);
  idle = λ j over. ap f' (B.idle j over) ∙ B'.idle j over;
  grows = λ k. extends_trans k (g k) (g' (g k)) (B.grows k) (B'.grows (g k));
}

beside_iterate : (f g : ℕ → Progress → Progress) → ((t : ℕ) → Beside (f t) (g t)) → (n i : ℕ) → Beside (iterate f n i) (iterate g n i)
unfolding iterate
beside_iterate f g B zero i = beside_none
beside_iterate f g B (suc n) i = beside_then (f i) (g i) (iterate f n (suc i)) (iterate g n (suc i)) (B i) (beside_iterate f g B n (suc i))

module _ (S : System) (Q : Question) where
  -- nothing ends these, and creates may take the same names
  abbrev N : Question
  N = nothing_beside Q.reserved

  beside_visit : (i : ℕ) (C : Command) (n p : ℕ) → Beside (visit S Q i C n p) (visit S N i C n p)
  beside_visit i C n p = record {
    together = λ j going. together j going j.ended (wanted j (actuals x) (operation_in C)) (allowed S j.state x) going;
    idle = λ j over. rw (is_true j.ended over);
    grows = λ k. visit_split S N i C n p k (Extends k) (λ _ _ _. (x ∷ [], refl)) (extends_self k);
  }
    where
      x : Call
      x = call_at i C n p

      -- the step written, and whether it ends the trace
      written : Progress → Bool → Progress
      written j b = record {
        state = after (execute bounded S j.state x) j.state;
        steps = j.steps ++ (x ∷ []);
        subject_made = is_create_subject (operation_in C) || j.subject_made;
        object_made = is_create_object (operation_in C) || j.object_made;
        ended = b;
      }

      step : (j : Progress) (b : Bool) → Front (written j b) (written j false)
      step j true = inr (tt, extends_self (written j true))
      step j false = inl (tt, refl)

      together : (j : Progress) → T (not j.ended) → (b c d : Bool) → T (not b) → Front
          (elim b [ true ↦ j | false ↦ elim c [ true ↦ elim d [ true ↦ do_step S Q (operation_in C) x j | false ↦ j ] | false ↦ j ] ])
          (elim b [ true ↦ j | false ↦ elim c [ true ↦ elim d [ true ↦ do_step S N (operation_in C) x j | false ↦ j ] | false ↦ j ] ])
      together j going true c d t = absurd t
      together j going false true true t = step j (Q.by_step (execute bounded S j.state x))
      together j going false true false t = inl (going, refl)
      together j going false false d t = inl (going, refl)

  -- each tries the name that is lowest absent in its own state: in one and the same, the same
  beside_command : (i : ℕ) (C : Command) → Beside (try_command S Q i C) (try_command S N i C)
  beside_command i C = record {
    together = λ j. (at (lowest_free Q.reserved j.state)).together j;
    idle = λ j. (at (lowest_free Q.reserved j.state)).idle j;
    grows = λ k. (at (lowest_free Q.reserved k.state)).grows k;
  }
    where
      at : (n : ℕ) → Beside (try_command_at S Q i C n) (try_command_at S N i C n)
      at n = beside_iterate (visit S Q i C n) (visit S N i C n) (beside_visit i C n) (places_of C n) 0

  beside_commands : (Cs : List Command) (i : ℕ) → Beside (try_commands S Q i Cs) (try_commands S N i Cs)
  beside_commands [] i = beside_none
  beside_commands (C ∷ Cs) i =
      beside_then (try_command S Q i C) (try_command S N i C) (try_commands S Q (suc i) Cs) (try_commands S N (suc i) Cs) (beside_command i C)
      (beside_commands Cs (suc i))

  beside_round : Beside (round S Q) (round S N)
  beside_round = beside_commands S.commands 0

  -- what follows a round that began with s steps: at most n rounds
  abbrev later : Question → ℕ → ℕ → Progress → Progress
  later Q n s j = elim j.ended [ true ↦ j | false ↦ elim (eqb (size j) s) [ true ↦ j | false ↦ rounds S Q n j ] ]

  beside_later : (n : ℕ) → Beside (rounds S Q n) (rounds S N n) → (s : ℕ) → Beside (later Q n s) (later N n s)
  beside_later n B s = record {
    together = λ j going. together j going j.ended (eqb (size j) s) going;
    idle = λ j over. rw (is_true j.ended over);
    grows = λ k. grows k k.ended (eqb (size k) s);
  }
    where
      together : (j : Progress) → T (not j.ended) → (b c : Bool) → T (not b) → Front
          (elim b [ true ↦ j | false ↦ elim c [ true ↦ j | false ↦ rounds S Q n j ] ])
          (elim b [ true ↦ j | false ↦ elim c [ true ↦ j | false ↦ rounds S N n j ] ])
      together j going true c t = absurd t
      together j going false true t = inl (going, refl)
      together j going false false t = B.together j going

      grows : (k : Progress) (b c : Bool) → Extends k (elim b [ true ↦ k | false ↦ elim c [ true ↦ k | false ↦ rounds S N n k ] ])
      grows k true c = extends_self k
      grows k false true = extends_self k
      grows k false false = B.grows k

  beside_rounds : (fuel : ℕ) → Beside (rounds S Q fuel) (rounds S N fuel)
  unfolding rounds
  beside_rounds zero = beside_none
  beside_rounds (suc n) = record {
    together = λ j. (at (beside_rounds n) (size j)).together j;
    idle = λ j. (at (beside_rounds n) (size j)).idle j;
    grows = λ k. (at (beside_rounds n) (size k)).grows k;
  }
    where
      at : Beside (rounds S Q n) (rounds S N n) → (s : ℕ) → Beside (λ j. later Q n s (round S Q j)) (λ j. later N n s (round S N j))
      at B s = beside_then (round S Q) (round S N) (later Q n s) (later N n s) beside_round (beside_later n B s)

  front_opened : (m : State) → Front (opened Q m) (opened N m)
  front_opened m = go (Q.at_start m)
    where
      from : Bool → Progress
      from b = record { state = m; steps = []; subject_made = false; object_made = false; ended = b }

      go : (b : Bool) → Front (from b) (from false)
      go true = inr (tt, extends_self (from true))
      go false = inl (tt, refl)

  front_rounds : (m : State) → Front (all_rounds S Q m) (all_rounds S N m)
  front_rounds m =
      let fuel = step_bound S.rights m in
      beside_front (rounds S Q fuel) (rounds S N fuel) (beside_rounds fuel) (opened Q m) (opened N m) (front_opened m)

  -- ---- of all rounds
  pub front_steps : (m : State) → (rest : List Call) × ((all_rounds S N m).steps ≡ (all_rounds S Q m).steps ++ rest)
  front_steps m = ⊎_elim (λ h. subst (Extends (all_rounds S Q m)) h.1 (extends_self (all_rounds S Q m))) (λ h. h.1) (front_rounds m)

  pub same_steps : (m : State) → T (not (all_rounds S Q m).ended) → (all_rounds S Q m).steps ≡ (all_rounds S N m).steps
  same_steps m going = ⊎_elim (λ h. ap (λ (j : Progress). j.steps) h.1) (λ h. absurd (T_not (all_rounds S Q m).ended going h.0)) (front_rounds m)
