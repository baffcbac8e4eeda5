-- "Its buffer is long enough for every accepted file of at most 30 names." Assumes nothing.
use Prim.Native.Nat.{ℕ, ◌*◌, ◌≤◌}
use mathlib.Core.Path.{◌≡◌, refl}
use mathlib.Core.Bool.{Bool, true, false, not}
use mathlib.Core.List.{List}
use native.Mathlib.Omega.{arith}
use borrow.Author.Tests.{ltb-false, ltb-true}
use lib.Dec.{ltb, leb}
use Rattle.cases.specs.Cases.{pick}
use Rattle.protection.specs.Limits.{start_names}
use Rattle.protection.specs.Size.{names_of, step_bound}
use Rattle.layout.specs.File.{rights_of}
use Rattle.layout.specs.Refusals.{or_else}
use Rattle.policy.specs.Refusals.{refusal}
use Rattle.policy.specs.Contents.{policy_of, file_state, file_system}
use Rattle.policy.proofs.Accepted.{accepted}
use Rattle.questions.specs.Refusals.{single_operations}
use Rattle.questions.proofs.Counts.{few_steps}
use Rattle.safety.specs.Judgement.{caller_refusal}
use Rattle.listing.specs.Listing.{buffer_bytes}

pub long_enough : (f : List ℕ) → refusal f ≡ 0 → names_of (file_state f) ≤ start_names → 5 * step_bound (file_system f).rights (file_state f) ≤ buffer_bytes
unfolding policy_of
long_enough f z h = omega (arith, few_steps (rights_of f) (file_state f) (accepted f z).header.few_rights h)

-- so the desk program is never refused with 24
pub never_24 : (f : List ℕ) (r : ℕ) → refusal f ≡ 0 → caller_refusal (file_system f) (file_state f) r buffer_bytes ≡ 24 → ⊥
unfolding caller_refusal
never_24 f r z =
    go (leb (file_system f).rights r) (single_operations (file_system f).commands) (ltb start_names (names_of (file_state f))) refl (ltb buffer_bytes (5 * step_bound (file_system f).rights (file_state f))) refl
  where
    go : (a b c : Bool) → ltb start_names (names_of (file_state f)) ≡ c → (d : Bool) → ltb buffer_bytes (5 * step_bound (file_system f).rights (file_state f)) ≡ d
        → ◌≡◌ {A = ℕ} (pick a 21 (or_else (pick (not b) 22 (pick c 23 0)) (pick d 24 0))) 24 → ⊥
    go true b c u d v e = omega arith
    go false false c u d v e = omega arith
    go false true true u d v e = omega arith
    go false true false u false v e = omega arith
    go false true false u true v e =
        let k = long_enough f z (ltb-false start_names (names_of (file_state f)) u) in
        let l = ltb-true buffer_bytes (5 * step_bound (file_system f).rights (file_state f)) v in
        omega arith
