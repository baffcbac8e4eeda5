-- The list of names as a mask, and what is refused of it. Assumes nothing.
use Prim.Native.Nat.{ℕ, zero, suc, ◌+◌, ◌*◌, ◌-◌, ◌%◌, ◌^◌, ◌≤◌, ◌<◌}
use mathlib.Core.Path.{◌≡◌, refl, sym, ap, ◌∙◌, subst}
use mathlib.Core.Bool.{Bool, true, false, not, ◌&&◌, ◌||◌}
use mathlib.Core.List.{List}
use native.Mathlib.Omega.{arith}
use native.Mathlib.Nat.{sub-zero}
use native.Mathlib.Numerals.{add-one}
use native.Mathlib.Decide.{ℕ_discrete}
use borrow.Author.Tests.{eq-eqb, ne_eqb}
use lib.Bits.{bit_or}
use lib.Dec.{T, eqb, ltb, eqb→eq, ltb→lt}
use lib.ListN.{length, get_or}
use Rattle.cases.specs.Cases.{pick, all}
use Rattle.cases.proofs.Bools.{and_left, and_right, holds as test-holds}
use Rattle.cases.proofs.Loops.{all_stop, all_more, all_end, all_at}
use Rattle.rights.specs.Rights.{has, insert}
use Rattle.rights.proofs.Sets.{has_none, has_insert_same, has_insert_other}
use Rattle.rights.proofs.Bits.{one_shl}
use Rattle.protection.specs.Limits.{names}
use Rattle.protection.specs.State.{State, object_in}
use Rattle.parts.specs.Parts.{listed_in, left_out, can_leave, trusted_refusal}
use Rattle.parts.specs.Dropped.{mask_of}

-- ---- the mask
pub mask_listed : (l : List ℕ) (n x : ℕ) → has (mask_of l n) x ≡ listed_in l n x
unfolding mask_of listed_in
mask_listed l zero x = has_none x
mask_listed l (suc n) x = go (mask_listed l n x) (ℕ_discrete (get_or l n 0) x)
  where
    go : has (mask_of l n) x ≡ listed_in l n x → Dec (get_or l n 0 ≡ x) → has (insert (mask_of l n) (get_or l n 0)) x ≡ eqb (get_or l n 0) x || listed_in l n x
    go h (yes e) = ap (λ (y : ℕ). has (insert (mask_of l n) y) x) e ∙ has_insert_same (mask_of l n) x ∙ sym (ap (λ (b : Bool). b || listed_in l n x) (eq-eqb (get_or l n 0) x e))
    go h (no e) = has_insert_other (mask_of l n) (get_or l n 0) x e ∙ h ∙ sym (ap (λ (b : Bool). b || listed_in l n x) (ne_eqb (get_or l n 0) x e))

pub with_is : (z x r : ℕ) → x < names → r ≡ bit_or z ((1 * 2 ^ x) % 2 ^ 32) → r ≡ insert z x
with_is z x r l e = e ∙ ap (bit_or z) (one_shl 32 x l)

-- ---- the loop
module _ (m : State) (l : List ℕ) where
  abbrev taken_at : ℕ → Bool
  taken_at i = can_leave m (listed_in l i) (get_or l i 0)

  abbrev whole : Bool
  whole = all taken_at (length l) 0

  pub record Reading (z i : ℕ) : Type 0 where
    pub within : i ≤ length l
    pub mask_is : z ≡ mask_of l i
    pub rest : all taken_at (length l - i) i ≡ whole

  pub reading_start : Reading 0 0
  unfolding mask_of
  reading_start = record { within = omega arith; mask_is = refl; rest = ap (λ (n : ℕ). all taken_at n 0) (sub-zero (length l)) }

  module _ (z i : ℕ) (K : Reading z i) where
    pub reading_end : length l ≤ i → 0 ≡ trusted_refusal m l
    unfolding trusted_refusal
    reading_end h = let e : true ≡ whole = all_end taken_at (length l) whole i h K.rest in rw (← e)

    module _ (h : i < length l) (x : ℕ) (x-is : x ≡ get_or l i 0) (r : Bool) (r-is : r ≡ can_leave m (has z) x) where
      this : r ≡ taken_at i
      this =
          r-is ∙ ap (can_leave m (has z)) x-is
          ∙ ap (λ (b : Bool). (ltb (get_or l i 0) names && not b) && object_in m (get_or l i 0)) (ap (λ (y : ℕ). has y (get_or l i 0)) K.mask_is ∙ mask_listed l i (get_or l i 0))

      pub reading_refused : r ≡ false → 42 ≡ trusted_refusal m l
      unfolding trusted_refusal
      reading_refused t = let e : false ≡ whole = all_stop taken_at (length l) whole i r this (ap not t) h K.rest in rw (← e)

      -- a name that may leave is a digit of a mask
      pub reading_small : not r ≡ false → x < 32
      reading_small t = go r refl t
        where
          go : (u : Bool) → r ≡ u → not u ≡ false → x < 32
          go true e q = ltb→lt x 32 (and_left (ltb x 32) (not (has z x)) (and_left (ltb x 32 && not (has z x)) (object_in m x) (test-holds (can_leave m (has z) x) (sym r-is ∙ e))))
          go false e q = absurd (let w : ◌≡◌ {A = ℕ} 0 1 = cc in omega arith)

      pub reading_next : r ≡ true → (z' : ℕ) → z' ≡ insert z x → Reading z' (i + 1)
      unfolding mask_of
      reading_next t z' e = record {
        within = omega arith;
        mask_is = e ∙ ap (λ (y : ℕ). insert y x) K.mask_is ∙ ap (insert (mask_of l i)) x-is ∙ ap (mask_of l) (sym (add-one i));
        rest = all_more taken_at (length l) whole i r this (ap not t) h K.rest;
      }

-- ---- a list that is not refused
module _ (m : State) (l : List ℕ) (e : trusted_refusal m l ≡ 0) where
  all_taken : whole m l ≡ true
  unfolding trusted_refusal
  all_taken = go (whole m l) e
    where
      go : (b : Bool) → ◌≡◌ {A = ℕ} (pick b 0 42) 0 → b ≡ true
      go true q = refl
      go false q = absurd (omega (arith, q))

  entry_there : (i : ℕ) → i < length l → T (object_in m (get_or l i 0))
  entry_there i h = and_right (ltb (get_or l i 0) names && not (listed_in l i (get_or l i 0))) (object_in m (get_or l i 0)) (test-holds (taken_at m l i) (all_at (taken_at m l) (length l) 0 all_taken i (omega arith) (omega arith)))

  listed_there : (n : ℕ) → n ≤ length l → (x : ℕ) → T (listed_in l n x) → T (object_in m x)
  unfolding listed_in
  listed_there zero h x t = absurd t
  listed_there (suc n) h x t = go (listed_there n (omega arith) x) (eqb (get_or l n 0) x) refl t
    where
      go : (T (listed_in l n x) → T (object_in m x)) → (b : Bool) → eqb (get_or l n 0) x ≡ b → T (b || listed_in l n x) → T (object_in m x)
      go w true q t = subst (λ (y : ℕ). T (object_in m y)) (eqb→eq (get_or l n 0) x (test-holds (eqb (get_or l n 0) x) q)) (entry_there n (omega arith))
      go w false q t = w t

  -- the names that are dropped exist
  pub left_there : (x : ℕ) → T (left_out l x) → T (object_in m x)
  left_there x t = listed_there (length l) (omega arith) x t
