-- Writing kinds and cells into the lent file, and what a rule run answers of it. Assumes nothing.
use Rattle.std.specs.Prelude.{Result, Ok, Err, IsErrAnd}
use Prim.Native.Nat.{ℕ, ◌+◌, ◌*◌, ◌-◌, ◌<◌}
use mathlib.Core.Path.{◌≡◌, refl, sym, ap, ap₂, ◌∙◌}
use mathlib.Core.Bool.{Bool, true, false}
use mathlib.Core.List.{List, [], ◌∷◌, ◌++◌, append_assoc}
use native.Mathlib.Omega.{arith}
use borrow.Author.Tests.{ne_eqb}
use lib.Dec.{eqb}
use lib.ListN.{length, take, drop}
use lib.Seq.{drop-drop}
use Rattle.cases.specs.Cases.{pick}
use Rattle.rights.specs.Bytes.{set_bytes, bytes_of}
use Rattle.rights.proofs.SetBytes.{length_bytes}
use Rattle.protection.specs.Limits.{rights}
use Rattle.protection.specs.Command.{Call}
use Rattle.protection.specs.Execution.{Outcome, refused, done}
use Rattle.protection.specs.Leak.{after}
use Rattle.matrix.specs.Canonical.{Canonical}
use Rattle.matrix.specs.Matrices.{state_of}
use Rattle.matrix.specs.declared.Matrix.{Matrix}
use Rattle.matrix.proofs.Inverse.{kinds_back, cells_back}
use Rattle.layout.specs.File.{word}
use Rattle.policy.specs.Refusals.{refusal}
use Rattle.policy.specs.Contents.{over, written, policy_of, file_state}
use Rattle.policy.specs.declared.Policy.{Policy}
use Rattle.refusals.specs.Numbers.{number_of, code}
use Rattle.refusals.specs.declared.Refusal.{Refusal}
use Rattle.refusals.proofs.Codes.{number_above, code_handed}
use Rattle.execution.specs.Runs.{Answer, Refused, Done, Leaked, answer_told, answer_of, executed_of, outcome_of, ExecutedAs}
use Rattle.execution.specs.declared.Done.{Done as CodeDone}
use Rattle.execution.specs.declared.Done.TheVariants.{NoLeak, Leak}
use Rattle.update.specs.Files.{file_outcome, run_code, run_file, FileRun}
use Rattle.update.proofs.Demand2.{file_run}

-- ---- the answers are told apart
refused_is : (k n : ℕ) → Refused k ≡ Refused n → k ≡ n
refused_is k n e = cc

done_not : (n : ℕ) (b : Bool) → pick b Leaked Done ≡ Refused n → ⊥
done_not n true e = let z : ◌≡◌ {A = ℕ} 0 1 = cc in omega arith
done_not n false e = let z : ◌≡◌ {A = ℕ} 0 1 = cc in omega arith

-- a list copied over the front of the part that begins at a place
pub stored : (f s p : List ℕ) (at : ℕ) → p ≡ s → take at f ++ (p ++ drop (at + length s - at) (drop at f)) ≡ over f at s
stored f s p at e =
    let w : at + length s - at ≡ length s = omega arith in
    ap₂ (λ (x : List ℕ) (k : ℕ). take at f ++ (x ++ drop k (drop at f))) e w ∙ ap (λ (x : List ℕ). take at f ++ (s ++ x)) (drop-drop (length s) at f)
    ∙ sym (append_assoc (take at f) s (drop (at + length s) f))

-- a list of sets written into a part of its own length that begins at a place
pub stored_sets : (f s p : List ℕ) (at n : ℕ) → n ≡ at + set_bytes * length s → p ≡ bytes_of s → take at f ++ (p ++ drop (n - at) (drop at f)) ≡ over f at (bytes_of s)
stored_sets f s p at n d e =
    let w : n - at ≡ length (bytes_of s) = let z = length_bytes s in omega arith in
    ap₂ (λ (x : List ℕ) (k : ℕ). take at f ++ (x ++ drop k (drop at f))) e w ∙ ap (λ (x : List ℕ). take at f ++ (bytes_of s ++ x)) (drop-drop (length (bytes_of s)) at f)
    ∙ sym (append_assoc (take at f) (bytes_of s) (drop (at + length (bytes_of s)) f))

-- kinds and cells written one after the other are the state written
pub store_is : (f x y : List ℕ) (m : Matrix) (k c : ℕ) → Canonical rights m.kinds m.cells → k ≡ word f 2 → c ≡ word f 6 → x ≡ over f k m.kinds → y ≡ over x c (bytes_of m.cells) → y ≡ written f (state_of m)
unfolding written
store_is f x y m k c K dk dc dx dy =
    let ks = kinds_back rights m.kinds m.cells K in
    let cs = cells_back rights m.kinds m.cells K (omega arith) in
    dy ∙ ap₂ (λ (l : List ℕ) (i : ℕ). over l i (bytes_of m.cells)) (dx ∙ ap (λ (i : ℕ). over f i m.kinds) dk) dc
    ∙ ap₂ (λ (a b : List ℕ). over (over f (word f 2) a) (word f 6) (bytes_of b)) (sym ks) (sym cs)

-- ---- a rule run on a file that was not refused
module _ (f : List ℕ) (p : Policy) (z : refusal f ≡ 0) (d : p ≡ policy_of f) (x : Call) where
  abbrev outcome : Outcome
  outcome = outcome_of p p.matrix x.command (x.a0 ∷ x.a1 ∷ x.a2 ∷ x.a3 ∷ [])

  outcome_is : outcome ≡ file_outcome f x
  unfolding policy_of
  outcome_is = ap (λ (q : Policy). outcome_of q q.matrix x.command (x.a0 ∷ x.a1 ∷ x.a2 ∷ x.a3 ∷ [])) d

  state_before : state_of p.matrix ≡ file_state f
  unfolding policy_of
  state_before = ap (λ (q : Policy). state_of q.matrix) d

  module _ (w : Answer) (m : Matrix) (h : ExecutedAs 0 outcome p.matrix (executed_of w m)) where
    answered : w ≡ answer_of 0 (file_outcome f x)
    answered = h.answer ∙ ap (answer_of 0) outcome_is

    left : state_of m ≡ after (file_outcome f x) (file_state f)
    left = h.state ∙ ap₂ after outcome_is state_before

    pub answer-refused : (n : ℕ) → w ≡ Refused n → FileRun f x n f
    unfolding run_code run_file
    answer-refused n q = go (file_outcome f x) refl
      where
        go : (o : Outcome) → file_outcome f x ≡ o → FileRun f x n f
        go (refused k) v =
            let same : k ≡ n = refused_is k n (sym (answered ∙ ap (answer_of 0) v) ∙ q) in
            file_run f x n f (rw (z, v) (sym same)) (rw (z, v))
        go (done m' new) v = absurd (done_not n (new 0) (sym (answered ∙ ap (answer_of 0) v) ∙ q))

    pub answer-done : (b : Bool) (f' : List ℕ) → w ≡ pick b Leaked Done → f' ≡ written f (state_of m) → FileRun f x 0 f'
    unfolding run_code run_file
    answer-done b f' q e = go (file_outcome f x) refl
      where
        go : (o : Outcome) → file_outcome f x ≡ o → FileRun f x 0 f'
        go (refused k) v = absurd (done_not k b (sym q ∙ (answered ∙ ap (answer_of 0) v)))
        go (done m' new) v =
            let s : state_of m ≡ m' = left ∙ ap (λ (o : Outcome). after o (file_state f)) v in
            file_run f x 0 f' (rw (z, v)) (e ∙ ap (written f) s ∙ sym (rw (z, v)))

  -- the code's answer, handed on
  pub run-refused : (m : Matrix) (e : Refusal) (y : Result (Unit {0}) Refusal) → ExecutedAs 0 outcome p.matrix (executed_of (answer_told (Err e)) m) → IsErrAnd y (λ r. r ≡ e) → FileRun f x (code y) f
  run-refused m e y h b = rw (code_handed y e (number_of e) b refl) (answer-refused (Refused (number_of e)) m h (number_of e) refl)

  pub run-done : (m : Matrix) (k : CodeDone) (f' : List ℕ) → ExecutedAs 0 outcome p.matrix (executed_of (answer_told (Ok k)) m) → f' ≡ written f (state_of m) → FileRun f x 0 f'
  run-done m NoLeak f' h e = answer-done Done m h false f' refl e
  run-done m Leak f' h e = answer-done Leaked m h true f' refl e

-- ---- and on one that was
pub run_bad_file : (f : List ℕ) (x : Call) (e : Refusal) (y : Result (Unit {0}) Refusal) → number_of e ≡ refusal f → IsErrAnd y (λ r. r ≡ e) → FileRun f x (code y) f
unfolding run_code run_file
run_bad_file f x e y d b =
    let l : 0 < number_of e = number_above e in
    let t : eqb (refusal f) 0 ≡ false = ne_eqb (refusal f) 0 (λ z. omega arith) in
    rw (code_handed y e (number_of e) b refl) (file_run f x (number_of e) f (rw t d) (rw t))
