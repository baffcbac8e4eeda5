-- The lines of the steps in a buffer. Assumes nothing.
use Prim.Native.Nat.{ℕ, zero, suc, ◌+◌, ◌*◌, ◌≤◌}
use mathlib.Core.Path.{◌≡◌, sym, ap, ◌∙◌, subst}
use mathlib.Core.List.{List, [], ◌∷◌, ◌++◌, append_assoc, append-nil}
use native.Mathlib.Numerals.{add-one}
use native.Mathlib.Omega.{arith}
use lib.ListN.{length, get_or, get_or-eq_default}
use Rattle.cases.specs.Cases.{tabulate}
use Rattle.protection.specs.Command.{Call}
use Rattle.commands.specs.Contents.{missing}
use Rattle.commands.specs.declared.Command.{Command}
use Rattle.policy.specs.declared.Policy.{Policy}
use Rattle.trace.specs.Traces.{step_call, calls}
use Rattle.listing.specs.Listing.{parameters_of, line, step_line, lines}
use Rattle.listing.specs.Writing.{Put, PutWithin}
use Rattle.listing.proofs.Written.{put_then, put_none}

-- behind the array's places stands no rule
pub no_parameters : (p : Policy) (i : ℕ) → length p.command ≤ i → 0 ≡ parameters_of p i
no_parameters p i h = ap (λ (c : Command). c.parameters) (sym (get_or-eq_default p.command missing h))

lines_more : (p : Policy) (xs : List Call) (x : Call) → lines p (xs ++ (x ∷ [])) ≡ lines p xs ++ step_line p x
lines_more p [] x = append-nil (step_line p x)
lines_more p (y ∷ xs) x = ap (λ (l : List ℕ). step_line p y ++ l) (lines_more p xs x) ∙ sym (append_assoc (step_line p y) (lines p xs) (step_line p x))

tabulate_more : (f : ℕ → Call) (n j : ℕ) → tabulate f (suc n) j ≡ tabulate f n j ++ (f (j + n) ∷ [])
tabulate_more f zero j = let z : j + 0 ≡ j = omega arith in ap (λ (i : ℕ). f i ∷ []) (sym z)
tabulate_more f (suc n) j = let z : suc j + n ≡ j + suc n = omega arith in ap (λ (l : List Call). f j ∷ l) (tabulate_more f n (suc j) ∙ ap (λ (i : ℕ). tabulate f n (suc j) ++ (f i ∷ [])) z)

-- ---- the loop over the steps: the lines of the first i are written
pub lines_start : (b t : List ℕ) (p : Policy) (at : ℕ) → Put b at (lines p (calls t 0)) at b
lines_start b t p at = put_none b at

pub lines_next : (b b' b'' t : List ℕ) (p : Policy) (from at i n k r : ℕ) → from + 20 * n ≤ length b → Put b from (lines p (calls t i)) at b' → k ≡ parameters_of p (get_or t (5 * i) 0) → PutWithin 20 b' at (line k (step_call t i)) r b''
    → Put b from (lines p (calls t (i + 1))) r b''
lines_next b b' b'' t p from at i n k r h q z e =
    let s : lines p (calls t (i + 1)) ≡ lines p (calls t i) ++ line k (step_call t i) =
    ap (λ (n : ℕ). lines p (tabulate (step_call t) n 0)) (add-one i) ∙ ap (lines p) (tabulate_more (step_call t) i 0) ∙ lines_more p (calls t i) (step_call t (0 + i))
    ∙ (let w : 0 + i ≡ i = omega arith in ap (λ (n : ℕ). lines p (calls t i) ++ step_line p (step_call t n)) w) ∙ ap (λ (n : ℕ). lines p (calls t i) ++ line n (step_call t i)) (sym z) in
    subst (λ (l : List ℕ). Put b from l r b'') (sym s) (put_then b b' b'' (lines p (calls t i)) (line k (step_call t i)) from at r (omega arith) q e.put)

pub lines_end : (b b' t : List ℕ) (p : Policy) (from at i n : ℕ) → i ≤ n → n ≤ i → Put b from (lines p (calls t i)) at b' → Put b from (lines p (calls t n)) at b'
lines_end b b' t p from at i n h l q = let z : i ≡ n = omega arith in subst (λ (k : ℕ). Put b from (lines p (calls t k)) at b') z q
