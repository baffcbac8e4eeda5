-- The refusals of whoever calls for a verdict: what the code tests, and what holds where none is given. Assumes nothing.
use Prim.Native.Nat.{ℕ, suc, ◌≤◌, ◌<◌}
use mathlib.Core.Path.{◌≡◌, refl, sym, ◌∙◌}
use mathlib.Core.Bool.{Bool, true, false}
use mathlib.Core.List.{List}
use native.Mathlib.Omega.{arith}
use native.Mathlib.Decide.{dec_lt}
use borrow.Author.Tests.{le-leb, lt-leb, eq-eqb, ne_eqb}
use lib.Dec.{leb}
use lib.ListN.{length}
use Rattle.cases.specs.Cases.{pick}
use Rattle.protection.specs.State.{State}
use Rattle.protection.specs.Command.{System}
use Rattle.matrix.specs.Matrices.{state_of}
use Rattle.layout.proofs.Accepted.{or-else}
use Rattle.policy.specs.Refusals.{refusal}
use Rattle.policy.specs.Contents.{system_of, file_state, file_system}
use Rattle.policy.specs.Fits.{PolicyFits}
use Rattle.policy.specs.declared.Policy.{Policy}
use Rattle.goals.specs.Goals.{leak_goal, GoalFits}
use Rattle.visits.specs.Engine.{Asked}
use Rattle.questions.specs.Refusals.{size_refusal}
use Rattle.questions.specs.Rounded.{BasisOf}
use Rattle.questions.specs.declared.Basis.{Basis}
use Rattle.questions.proofs.Refusals.{open_asked}
use Rattle.protection.specs.Judge.{Verdict}
use Rattle.safety.specs.Judgement.{caller_refusal, judge_refusal, file_verdict, judgement_of, judgement_by, file_judgement, filled, buffer_by, file_buffer}
use Rattle.safety.specs.Demand3.{Refused}

-- ---- what the code tests, one after the other
module _ (p : Policy) (r n : ℕ) where
  abbrev answer : ℕ
  answer = caller_refusal (system_of p) (state_of p.matrix) r n

  pub caller_21 : p.rights ≤ r → 21 ≡ answer
  unfolding caller_refusal
  caller_21 l = rw (le-leb p.rights r l)

  -- by what is known of the policy alone
  pub caller_size : (x : Basis) → BasisOf p x → r < p.rights → (k : ℕ) → ((q : Policy) → BasisOf q x → k ≡ size_refusal (system_of q) (state_of q.matrix) n) → k ≡ answer
  unfolding caller_refusal
  caller_size x B l k h = h p B ∙ rw (lt-leb p.rights r l)

-- ---- a question that is not refused
not_within : (a b : ℕ) → leb a b ≡ false → b < a
not_within a b q = go (dec_lt b a)
  where
    go : Dec (b < a) → b < a
    go (yes l) = l
    go (no f) = absurd (let z : ◌≡◌ {A = Bool} true false = sym (le-leb a b (omega arith)) ∙ q in let w : ◌≡◌ {A = ℕ} 0 1 = cc in omega arith)

pub record Passed (S : System) (m : State) (r n : ℕ) : Type 0 where
  pub below : r < S.rights
  pub size : size_refusal S m n ≡ 0

pub passed : (S : System) (m : State) (r n : ℕ) → caller_refusal S m r n ≡ 0 → Passed S m r n
unfolding caller_refusal
passed S m r n e = go (leb S.rights r) refl e
  where
    nonzero : (k : ℕ) → suc k ≡ 0 → ⊥
    nonzero k q = omega arith

    go : (a : Bool) → leb S.rights r ≡ a → pick a 21 (size_refusal S m n) ≡ 0 → Passed S m r n
    go true ea q = absurd (nonzero 20 q)
    go false ea q = record { below = not_within S.rights r ea; size = q }

-- where the judge refuses nothing, neither whoever wrote the file nor whoever calls is refused
pub none_refused : (f : List ℕ) (r n : ℕ) → judge_refusal f r n ≡ 0 → (refusal f ≡ 0) × (caller_refusal (file_system f) (file_state f) r n ≡ 0)
unfolding judge_refusal
none_refused f r n e = or-else (refusal f) (caller_refusal (file_system f) (file_state f) r n) e

-- ---- the answer, and the buffer after it, by the refusal k
module _ (k : ℕ) (v : Verdict) where
  pub answers : k ≡ 0 → judgement_by k v ≡ judgement_of v
  answers z = rw (eq-eqb k 0 z)

  pub turned_down : (k ≡ 0 → ⊥) → judgement_by k v ≡ Refused k
  turned_down z = rw (ne_eqb k 0 z)

  pub writes : (b : List ℕ) → k ≡ 0 → buffer_by k v b ≡ filled v.steps b
  writes b z = rw (eq-eqb k 0 z)

  pub untouched : (b : List ℕ) → (k ≡ 0 → ⊥) → buffer_by k v b ≡ b
  untouched b z = rw (ne_eqb k 0 z)

-- of the judge
module _ (f : List ℕ) (r n : ℕ) where
  pub judges : judge_refusal f r n ≡ 0 → file_judgement f r n ≡ judgement_of (file_verdict f r)
  unfolding file_judgement
  judges z = answers (judge_refusal f r n) (file_verdict f r) z

  pub refuses : (judge_refusal f r n ≡ 0 → ⊥) → file_judgement f r n ≡ Refused (judge_refusal f r n)
  unfolding file_judgement
  refuses z = turned_down (judge_refusal f r n) (file_verdict f r) z

module _ (f : List ℕ) (r : ℕ) (b : List ℕ) where
  pub fills : judge_refusal f r (length b) ≡ 0 → file_buffer f r b ≡ filled (file_verdict f r).steps b
  unfolding file_buffer
  fills z = writes (judge_refusal f r (length b)) (file_verdict f r) b z

  pub kept : (judge_refusal f r (length b) ≡ 0 → ⊥) → file_buffer f r b ≡ b
  unfolding file_buffer
  kept z = untouched (judge_refusal f r (length b)) (file_verdict f r) b z

-- ---- the engine's question is asked where nothing is refused
pub leak_fits : (z r : ℕ) → GoalFits (leak_goal z r)
leak_fits z r = record { needed = record { few = omega arith; all = λ j l. absurd (omega (arith, l)) } }

pub question_asked : (p : Policy) (r n : ℕ) → caller_refusal (system_of p) (state_of p.matrix) r n ≡ 0 → PolicyFits p → Asked p (leak_goal 0 r) n
question_asked p r n e F = open_asked p (leak_goal 0 r) n refl (passed (system_of p) (state_of p.matrix) r n e).size F (leak_fits 0 r)
