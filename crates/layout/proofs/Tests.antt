-- The tests of the reader's loop over the pairs, and of a length that the file itself gives. Assumes nothing.
use Prim.Native.Nat.{ℕ, ◌+◌, ◌*◌, ◌-◌, ◌≤◌, ◌<◌}
use mathlib.Core.Path.{◌≡◌, sym, ap, ◌∙◌}
use mathlib.Core.Bool.{Bool, true, false}
use mathlib.Core.List.{List}
use native.Mathlib.Numerals.{add-one}
use native.Mathlib.Omega.{arith}
use borrow.Author.Tests.{ne_eqb, eq-eqb}
use lib.Dec.{eqb}
use lib.ListN.{length}
use Rattle.cases.specs.Cases.{pick, all}
use Rattle.cases.proofs.Picks.{on_is, on_isnt}
use Rattle.cases.proofs.Loops.{all_false, all_true, all_end}
use Rattle.layout.specs.File.{word, pairs_of, offset_of, start_of}
use Rattle.layout.specs.Refusals.{in_place, pairs_refusal}

module _ (f : List ℕ) (n i at : ℕ) (whole : Bool) where
  pub pair_stop : (w : ℕ) → w ≡ word f (2 + 4 * i) → (w ≡ at → ⊥) → at ≡ start_of f i → i < n → all (in_place f) (n - i) i ≡ whole → false ≡ whole
  pair_stop w d t s h e = all_false (in_place f) n whole i (ne_eqb (offset_of f i) (start_of f i) (λ z. t (d ∙ z ∙ sym s))) h e

  pub pair_more : (w : ℕ) → w ≡ word f (2 + 4 * i) → w ≡ at → at ≡ start_of f i → i < n → all (in_place f) (n - i) i ≡ whole → all (in_place f) (n - (i + 1)) (i + 1) ≡ whole
  pair_more w d t s h e = all_true (in_place f) n whole i (eq-eqb (offset_of f i) (start_of f i) (sym d ∙ t ∙ s)) h e

pub start_first : (f : List ℕ) (n : ℕ) → n ≡ pairs_of f → 2 + 4 * n ≡ start_of f 0
unfolding start_of
start_first f n e = rw e

pub start_next : (f : List ℕ) (i w v : ℕ) → w ≡ word f (2 + 4 * i) → v ≡ word f (2 + 4 * i + 2) → w + v ≡ start_of f (i + 1)
unfolding start_of
start_next f i w v d e = rw (add-one i, d, e)

pub misplaced : (f : List ℕ) (n : ℕ) → n ≡ pairs_of f → false ≡ all (in_place f) n 0 → 4 ≡ pairs_refusal f
unfolding pairs_refusal
misplaced f n e d = let z : all (in_place f) (pairs_of f) 0 ≡ false = rw (← e) (sym d) in rw z

-- the loop has come to its end, at place i
module _ (f : List ℕ) (n i at : ℕ) (e : n ≡ pairs_of f) (l : i ≤ n) (g : n ≤ i) (s : at ≡ start_of f i) (d : all (in_place f) (n - i) i ≡ all (in_place f) n 0) where
  all_placed : all (in_place f) (pairs_of f) 0 ≡ true
  all_placed = rw (← e) (sym (all_end (in_place f) n (all (in_place f) n 0) i g d))

  ends : at ≡ start_of f (pairs_of f)
  ends = let z : i ≡ n = omega arith in s ∙ ap (start_of f) (z ∙ e)

  pub ends_early : (at ≡ length f → ⊥) → 4 ≡ pairs_refusal f
  unfolding pairs_refusal
  ends_early ne = let z = ne_eqb (start_of f (pairs_of f)) (length f) (λ q. ne (ends ∙ q)) in rw (all_placed, z)

  pub ends_right : at ≡ length f → 0 ≡ pairs_refusal f
  unfolding pairs_refusal
  ends_right q = let z = eq-eqb (start_of f (pairs_of f)) (length f) (sym ends ∙ q) in rw (all_placed, z)

-- a number that a callee answered, r, compared with so many times one that the caller has given, n
module _ (r a k n b x y z : ℕ) (d : r ≡ a) (e : n ≡ b) where
  pub on_given : r ≡ k * n → x ≡ y → x ≡ pick (eqb a (k * b)) y z
  on_given p = on_is r a (k * b) x y z d (p ∙ ap (λ (m : ℕ). k * m) e)

  pub on_not_given : (r ≡ k * n → ⊥) → x ≡ z → x ≡ pick (eqb a (k * b)) y z
  on_not_given p = on_isnt r a (k * b) x y z d (λ q. p (q ∙ ap (λ (m : ℕ). k * m) (sym e)))
