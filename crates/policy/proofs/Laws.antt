-- Laws about what the reader hands out, for those who call it. Assumes nothing.
use Prim.Native.Nat.{ℕ}
use mathlib.Core.Path.{◌≡◌, refl, sym, subst}
use mathlib.Core.List.{List}
use Rattle.std.specs.Prelude.{Result, Ok, IfOk}
use Rattle.std.proofs.lemmas.Result.{IfOk-at_ok}
use Rattle.refusals.specs.declared.Refusal.{Refusal}
use Rattle.refusals.specs.Numbers.{code}
use Rattle.refusals.proofs.Codes.{code_passed}
use Rattle.carries.specs.Meeting.{MetBy}
use Rattle.carries.proofs.Meeting.{met-by}
use Rattle.policy.specs.Refusals.{refusal}
use Rattle.policy.specs.Contents.{policy_of, system_of}
use Rattle.policy.specs.Fits.{PolicyFits}
use Rattle.policy.specs.declared.Policy.{Policy}

-- where the reader answers with a policy, the file is not refused, and the policy is what it says
pub read_refusal : (f : List ℕ) (x : Result Policy Refusal) (p : Policy) → code x ≡ refusal f → x ≡ Ok p → refusal f ≡ 0
read_refusal f x p d e = code_passed x p (refusal f) d e

pub read_policy : (f : List ℕ) (x : Result Policy Refusal) (p : Policy) → IfOk x (λ p. p ≡ policy_of f) → x ≡ Ok p → p ≡ policy_of f
read_policy f x p d e = IfOk-at_ok (λ (p : Policy). p ≡ policy_of f) e d

-- a cell meets a condition by the policy's sets as it does in the machine
pub policy_met : (p : Policy) → PolicyFits p → MetBy (system_of p) p.carriers
policy_met p F = subst (MetBy (system_of p)) (sym F.carriers_is) (met-by (system_of p) p.carries refl F.few_rights)
