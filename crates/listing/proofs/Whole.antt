-- The whole answer. Assumes nothing.
use Prim.Native.Nat.{ℕ, ◌+◌, ◌*◌, ◌≤◌, ◌<◌}
use mathlib.Core.Path.{◌≡◌, subst}
use mathlib.Core.List.{List, [], ◌∷◌, ◌++◌}
use native.Mathlib.Omega.{arith}
use lib.ListN.{length, length-append}
use Rattle.std.specs.Prelude.{Result, Ok, Err}
use Rattle.refusals.specs.Numbers.{number_of}
use Rattle.refusals.specs.declared.Refusal.{Refusal}
use Rattle.policy.specs.declared.Policy.{Policy}
use Rattle.trace.specs.Traces.{calls}
use Rattle.safety.specs.Demand3.{steps_written, Judgement, Refused, Safe, Unsafe, judgement_told}
use Rattle.safety.specs.declared.Verdict.{Verdict}
use Rattle.safety.specs.declared.Verdict.TheVariants as code
use Rattle.listing.specs.Listing.{decimal, newline, safe_word, unsafe_word, refused_word, head, lines, printed}
use Rattle.listing.specs.Writing.{Put, Room, listing_bytes}
use Rattle.listing.proofs.Written.{byte_digits, count-digits, put_then}

-- ---- the judgement, as the code gives it
module _ (x : Result Verdict Refusal) where
  pub told_refused : (r : Refusal) → x ≡ Err r → judgement_told x ≡ Refused (number_of r)
  told_refused r e = rw e

  pub told_safe : (v : Verdict) (n : ℕ) → x ≡ Ok v → v ≡ code.Safe n → judgement_told x ≡ Safe n
  told_safe v n e d = rw (e, d)

  pub told_unsafe : (v : Verdict) (n : ℕ) → x ≡ Ok v → v ≡ code.Unsafe n → judgement_told x ≡ Unsafe n
  told_unsafe v n e d = rw (e, d)

-- ---- room for the first line
pub refused_room : (b : List ℕ) (n : ℕ) → n < 256 → listing_bytes ≤ length b → 8 + length (decimal n) < length b
refused_room b n h k = let z = byte_digits n h in omega arith

pub safe_room : (b t : List ℕ) (j : Judgement) (n : ℕ) → Room b (steps_written j) t → j ≡ Safe n → 5 + length (decimal n) < length b
safe_room b t j n R e = let R' : Room b n t = subst (λ (x : Judgement). Room b (steps_written x) t) e R in let z = count-digits n R'.few in let l = R'.lines in omega arith

pub unsafe_room : (b t : List ℕ) (n : ℕ) → Room b n t → 7 + length (decimal n) < length b
unsafe_room b t n R = let z = count-digits n R.few in let l = R.lines in omega arith

pub unsafe_fits : (b t : List ℕ) (j : Judgement) (n : ℕ) → Room b (steps_written j) t → j ≡ Unsafe n → Room b n t
unsafe_fits b t j n R e = subst (λ (x : Judgement). Room b (steps_written x) t) e R

-- ---- and for the lines behind it
pub lines_room : (b b' t : List ℕ) (n at : ℕ) → Room b n t → Put b 0 (head unsafe_word n) at b' → length b' ≡ length b → at + 20 * n ≤ length b'
lines_room b b' t n at R p e =
    let z = count-digits n R.few in let f = R.few in let l = R.lines in let w = p.next in
    let u = length-append (unsafe_word ++ decimal n) (newline ∷ []) in let v = length-append unsafe_word (decimal n) in omega arith

pub unsafe_put : (b b' b'' t : List ℕ) (p : Policy) (n at r : ℕ) → Put b 0 (head unsafe_word n) at b' → Put b' at (lines p (calls t n)) r b'' → Put b 0 (head unsafe_word n ++ lines p (calls t n)) r b''
unsafe_put b b' b'' t p n at r q q' = put_then b b' b'' (head unsafe_word n) (lines p (calls t n)) 0 at r (omega arith) q q'

-- ---- the three answers
module _ (b b' t : List ℕ) (j : Judgement) (p : Policy) (n r : ℕ) where
  pub refused_put : j ≡ Refused n → Put b 0 (head refused_word n) r b' → Put b 0 (printed p j (calls t (steps_written j))) r b'
  refused_put e q = rw e q

  pub safe_put : j ≡ Safe n → Put b 0 (head safe_word n) r b' → Put b 0 (printed p j (calls t (steps_written j))) r b'
  safe_put e q = rw e q

  pub unsafe_is : j ≡ Unsafe n → Put b 0 (head unsafe_word n ++ lines p (calls t n)) r b' → Put b 0 (printed p j (calls t (steps_written j))) r b'
  unsafe_is e q = rw e q
