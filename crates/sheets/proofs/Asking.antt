-- One entry, judged on its part of the buffer. Assumes nothing.
use Prim.Native.Nat.{ℕ, ◌+◌, ◌-◌, ◌^◌, ◌≤◌, ◌<◌}
use mathlib.Core.Path.{◌≡◌, ap, ap₂, ◌∙◌}
use Rattle.std.specs.Prelude.{Result}
use mathlib.Core.List.{List, ◌++◌}
use native.Mathlib.Decide.{ℕ_discrete}
use native.Mathlib.Omega.{arith}
use lib.ListN.{length, take, drop, length-drop}
use lib.Seq.{length-take-le}
use Rattle.protection.specs.Limits.{rights}
use Rattle.refusals.specs.declared.Refusal.{Refusal}
use Rattle.policy.specs.Contents.{policy_of, file_state, file_system}
use Rattle.policy.proofs.Accepted.{accepted}
use Rattle.questions.proofs.Refusals.{sized}
use Rattle.safety.specs.Demand3.{Judgement, judgement_told, steps_written}
use Rattle.safety.specs.Judgement.{judge_refusal, file_judgement, file_buffer, Judged}
use Rattle.safety.specs.Conclusion.{PreparedOf}
use Rattle.safety.specs.declared.Prepared.{Prepared}
use Rattle.safety.specs.declared.Verdict.{Verdict}
use Rattle.safety.proofs.Consequences.{few_written}
use Rattle.safety.proofs.Refusals.{none_refused, passed, refuses}
use Rattle.sheets.specs.declared.Entry.{Entry}
use Rattle.sheets.specs.Sheets.{entry_of, answered, part_filled}

-- ---- the count of steps fits two bytes
few_rights : (f : List ℕ) (r n : ℕ) → judge_refusal f r n ≡ 0 → (file_system f).rights ≤ rights
unfolding policy_of
few_rights f r n z = (accepted f (none_refused f r n z).0).header.few_rights

pub count_fits : (f : List ℕ) (r : ℕ) (b : List ℕ) (j : Judgement) (b' : List ℕ) → Judged f r b j b' → steps_written j < 2 ^ 16
count_fits f r b j b' J = go (ℕ_discrete (judge_refusal f r (length b)) 0)
  where
    go : Dec (judge_refusal f r (length b) ≡ 0) → steps_written j < 2 ^ 16
    go (yes z) =
        let names = (sized (file_system f) (file_state f) (length b) (passed (file_system f) (file_state f) r (length b) (none_refused f r (length b) z).1).size).few_names in
        let few = few_written (file_system f) r (file_state f) b j b' (J.demand3 z) (few_rights f r (length b) z) names in
        omega arith
    go (no n) = let e : steps_written j ≡ 0 = ap steps_written (J.answer_is ∙ refuses f r (length b) n) in omega arith

-- ---- the entry and the buffer after it, where the part is the k bytes from number o on
module _ (file : Result Prepared Refusal) (r o k : ℕ) (b : List ℕ) (x : Result Verdict Refusal) (p : List ℕ) (told : (f : List ℕ) → PreparedOf f file → Judged f r (take (o + k - o) (drop o b)) (judgement_told x) p) (inside : o + k ≤ length b) where
  width : o + k - o ≡ k
  width = omega arith

  long : length (take (o + k - o) (drop o b)) ≡ k
  long = length-take-le (o + k - o) (drop o b) (let z = length-drop o b in omega arith) ∙ width

  pub asked_count : (f : List ℕ) → PreparedOf f file → steps_written (judgement_told x) < 2 ^ 16
  asked_count f d = count_fits f r (take (o + k - o) (drop o b)) (judgement_told x) p (told f d)

  pub asked : (q : Entry) → q ≡ entry_of r (judgement_told x) → (f : List ℕ) → PreparedOf f file → (q ≡ answered f k r) × (take o b ++ (p ++ drop (o + k - o) (drop o b)) ≡ part_filled f r o k b)
  asked q is f d = (
    is ∙ ap (entry_of r) ((told f d).answer_is ∙ ap (file_judgement f r) long),
    ap₂ (λ (l m : List ℕ). take o b ++ (l ++ m)) ((told f d).buffer_is ∙ ap (λ (i : ℕ). file_buffer f r (take i (drop o b))) width) (ap (λ (i : ℕ). drop i (drop o b)) width),
  )
