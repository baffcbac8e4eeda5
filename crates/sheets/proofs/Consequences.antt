-- What the promise of a sheet is worth: a sentence from each of its fields, for whatever code, entries and bytes it is given of. Assumes nothing.
use Prim.Native.Nat.{ℕ, zero, suc, ◌+◌, ◌*◌, ◌≤◌, ◌<◌}
use mathlib.Core.Path.{◌≡◌, refl, sym, ap, ◌∙◌, subst}
use mathlib.Core.Bool.{Bool, true, false}
use mathlib.Core.List.{List, [], ◌∷◌}
use native.Mathlib.Decide.{ℕ_discrete}
use native.Mathlib.Omega.{arith}
use borrow.Author.Tests.{lt-ltb, le-ltb}
use lib.Dec.{T, ltb}
use lib.ListN.{length, get_or}
use lib.Seq.{get_or-drop}
use Rattle.cases.specs.Cases.{pick}
use Rattle.protection.specs.Command.{Call}
use Rattle.protection.specs.Execution.{unbounded}
use Rattle.protection.specs.Leak.{leaks}
use Rattle.policy.specs.Contents.{file_state, file_system}
use Rattle.safety.specs.Demand3.{Judgement, Safe, Unsafe, is_safe, Demand3}
use Rattle.safety.specs.Judgement.{judge_refusal, judgement_code, file_verdict, file_judgement}
use Rattle.safety.proofs.Refusals.{judges, refuses}
use Rattle.sheets.specs.declared.Entry.{Entry}
use Rattle.sheets.specs.Sheets.{sheet_limit, sheet_refusal, answered, answers, part_length, parts_filled, sheet_after, buffer_after, right_at, part_at, Sheeted}
use Rattle.sheets.proofs.Promise.{part_long}

abbrev blank : Entry
blank = record { right = 0; verdict = 0; count = 0 }

answer_at : (f : List ℕ) (k : ℕ) (s : List Entry) (i : ℕ) → i < length s → get_or (answers f k s) i blank ≡ answered f k (right_at s i)
answer_at f k [] i l = absurd (omega arith)
answer_at f k (q ∷ s) zero l = refl
answer_at f k (q ∷ s) (suc i) l = answer_at f k s i (omega arith)

right-at : (f : List ℕ) (k : ℕ) (s : List Entry) (i : ℕ) → right_at (answers f k s) i ≡ right_at s i
right-at f k [] i = refl
right-at f k (q ∷ s) zero = refl
right-at f k (q ∷ s) (suc i) = right-at f k s i

module _ (f : List ℕ) (s : List Entry) (b : List ℕ) (r : ℕ) (s' : List Entry) (b' : List ℕ) (P : Sheeted f s b r s' b') where
  -- no right changes
  pub rights_kept : (i : ℕ) → right_at s' i ≡ right_at s i
  unfolding sheet_after
  rights_kept i = ap (λ (t : List Entry). right_at t i) P.sheet_is ∙ go (ltb sheet_limit (length s))
    where
      go : (c : Bool) → right_at (pick c s (answers f (part_length s b) s)) i ≡ right_at s i
      go true = refl
      go false = right-at f (part_length s b) s i

  -- a sheet that is too long is left as it was, and so is the buffer, whatever the file is
  pub too_long : sheet_limit < length s → (r ≡ 43) × (s' ≡ s) × (b' ≡ b)
  unfolding sheet_refusal sheet_after buffer_after
  too_long h =
      let z = lt-ltb sheet_limit (length s) h in
      (P.code_is ∙ ap (λ (c : Bool). pick c 43 0) z, P.sheet_is ∙ ap (λ (c : Bool). pick c s (answers f (part_length s b) s)) z, P.buffer_is ∙ ap (λ (c : Bool). pick c b (parts_filled f (part_length s b) s b)) z)

  -- a byte behind the parts is as it was
  pub byte_kept : (j : ℕ) → get_or b' (length s * part_length s b + j) 0 ≡ get_or b (length s * part_length s b + j) 0
  byte_kept j = sym (get_or-drop (length s * part_length s b) b' j 0) ∙ ap (λ (l : List ℕ). get_or l j 0) P.left_over ∙ get_or-drop (length s * part_length s b) b j 0

  module _ (few : length s ≤ sheet_limit) where
    pub done : r ≡ 0
    unfolding sheet_refusal
    done = P.code_is ∙ ap (λ (c : Bool). pick c 43 0) (le-ltb sheet_limit (length s) few)

    module _ (i : ℕ) (on : i < length s) where
      abbrev k : ℕ
      k = part_length s b

      abbrev answer : Judgement
      answer = file_judgement f (right_at s i) k

      -- the entry has the answer of a call of its own
      pub entry_is : get_or s' i blank ≡ answered f k (right_at s i)
      unfolding sheet_after
      entry_is = ap (λ (t : List Entry). get_or t i blank) (P.sheet_is ∙ ap (λ (c : Bool). pick c s (answers f k s)) (le-ltb sheet_limit (length s) few)) ∙ answer_at f k s i on

      -- wherever it is not a refusal it has demand 3, with its own part of the buffer
      pub entry_demand3 : judge_refusal f (right_at s i) k ≡ 0 → Demand3 (file_system f) (right_at s i) (file_state f) (part_at b k i) answer (part_at b' k i)
      entry_demand3 z = (P.judged few i on).demand3 (ap (judge_refusal f (right_at s i)) (part_long s b i on) ∙ z)

      -- so an entry that holds 0 says that no run leaks its right
      pub entry_never : (get_or s' i blank).verdict ≡ 0 → (xs : List Call) → T (leaks unbounded (file_system f) (right_at s i) (file_state f) xs) → ⊥
      entry_never e = go (ℕ_discrete (judge_refusal f (right_at s i) k) 0)
        where
          code : judgement_code answer ≡ 0
          code = ap (λ (q : Entry). q.verdict) (sym entry_is) ∙ e

          safe : (u : Bool) (n : ℕ) → judgement_code (pick u (Unsafe n) (Safe n)) ≡ 0 → T (is_safe (pick u (Unsafe n) (Safe n)))
          safe true n c = absurd (omega arith)
          safe false n c = tt

          go : Dec (judge_refusal f (right_at s i) k ≡ 0) → (xs : List Call) → T (leaks unbounded (file_system f) (right_at s i) (file_state f) xs) → ⊥
          go (yes z) =
              let told = judges f (right_at s i) k z in
              let v = file_verdict f (right_at s i) in
              (entry_demand3 z).safe_exactly.0 (subst (λ (j : Judgement). T (is_safe j)) (sym told) (safe v.unsafe (length v.steps) (ap judgement_code (sym told) ∙ code)))
          go (no n) = absurd (n (ap judgement_code (sym (refuses f (right_at s i) k n)) ∙ code))

-- "An empty sheet does nothing."
pub nothing_asked : (f b : List ℕ) (r : ℕ) (s' : List Entry) (b' : List ℕ) → Sheeted f [] b r s' b' → (r ≡ 0) × (s' ≡ []) × (b' ≡ b)
unfolding sheet_refusal sheet_after buffer_after
nothing_asked f b r s' b' P = (P.code_is, P.sheet_is, P.buffer_is)
