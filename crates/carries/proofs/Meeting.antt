-- What the closed sets tell: which right carries which, and what a set of rights meets. Assumes nothing.
use Prim.Native.Nat.{ℕ, ◌^◌, ◌≤◌, ◌<◌}
use mathlib.Core.Path.{◌≡◌, refl, sym, ap, ◌∙◌, subst}
use mathlib.Core.Bool.{Bool, true, false, not, ◌&&◌}
use mathlib.Core.List.{List, []}
use mathlib.Core.Logic.{◌⊎◌, ⊎_elim}
use native.Mathlib.Decide.{ℕ_discrete}
use native.Mathlib.Omega.{arith}
use borrow.Author.Tests.{eq-eqb, ne_eqb}
use lib.Bits.{bit_and, and_le_r}
use lib.Dec.{T, eqb}
use lib.ListN.{length, get_or}
use lib.Pow.{pow_pos}
use Rattle.cases.specs.Cases.{any}
use Rattle.cases.proofs.Bools.{and_left, and_right, and_intro, same_truth, is_false, holds, fails}
use Rattle.cases.proofs.Loops.{any_one, any_intro}
use Rattle.cases.proofs.Lists.{length_tabulate}
use Rattle.rights.specs.Rights.{has, number}
use Rattle.rights.proofs.Sets.{has_and, has_none, has_number, number_below, number_within, same_rights}
use Rattle.protection.specs.Limits.{rights}
use Rattle.protection.specs.Command.{System}
use Rattle.protection.specs.Carrying.{chained, carries, meets}
use Rattle.protection.proofs.Carrying.{carries_exactly, carries_below, meets_exactly}
use Rattle.carries.specs.Bytes.{carried_in}
use Rattle.carries.specs.Meeting.{MetBy}
use Rattle.carries.specs.Closed.{reaches, carried_of, carriers_of}
use Rattle.cases.proofs.Filling.{get_or_table}

-- ---- the sets
module _ (g : ℕ) (l : List ℕ) where
  pub length_carried : length (carried_of g l) ≡ rights
  unfolding carried_of
  length_carried = length_tabulate (λ i. number (reaches g l i) rights) rights 0

  pub length_carriers : length (carriers_of g l) ≡ rights
  unfolding carriers_of
  length_carriers = length_tabulate (λ q. number (λ i. reaches g l i q) rights) rights 0

  pub carried_tells : (i q : ℕ) → i < rights → q < rights → has (get_or (carried_of g l) i 0) q ≡ reaches g l i q
  unfolding carried_of
  carried_tells i q h k = ap (λ (x : ℕ). has x q) (get_or_table rights (λ i. number (reaches g l i) rights) i h) ∙ has_number (reaches g l i) rights q k

  pub carriers_tell : (i q : ℕ) → i < rights → q < rights → has (get_or (carriers_of g l) q 0) i ≡ reaches g l i q
  unfolding carriers_of
  carriers_tell i q h k = ap (λ (x : ℕ). has x i) (get_or_table rights (λ q. number (λ i. reaches g l i q) rights) q k) ∙ has_number (λ i. reaches g l i q) rights i h

  pub carried_few : (i : ℕ) → i < rights → get_or (carried_of g l) i 0 < 2 ^ rights
  unfolding carried_of
  carried_few i h = rw (get_or_table rights (λ i. number (reaches g l i) rights) i h) (number_below (reaches g l i) rights)

  pub carriers_few : (q : ℕ) → q < rights → get_or (carriers_of g l) q 0 < 2 ^ rights
  unfolding carriers_of
  carriers_few q h = rw (get_or_table rights (λ q. number (λ i. reaches g l i q) rights) q h) (number_below (λ i. reaches g l i q) rights)

  system : System
  system = record { rights = g; carried = carried_in l; commands = [] }

  -- a right of the file and a right that it carries, or that carries it, are both of the file
  reached_below : (i q : ℕ) → T (reaches g l i q) → (i ≡ q) ⊎ ((i < g) × (q < g))
  unfolding system
  reached_below i q t = carries_below system i q ((carries_exactly system i q).0 t)

  pub carried_below : (i : ℕ) → i < g → g ≤ rights → get_or (carried_of g l) i 0 < 2 ^ g
  unfolding carried_of
  carried_below i h few =
      rw (get_or_table rights (λ i. number (reaches g l i) rights) i (omega arith))
      (number_within g (reaches g l i) rights (λ q t. ⊎_elim (λ e. omega arith) (λ b. b.1) (reached_below i q t)))

  pub carriers_below : (q : ℕ) → q < g → g ≤ rights → get_or (carriers_of g l) q 0 < 2 ^ g
  unfolding carriers_of
  carriers_below q h few =
      rw (get_or_table rights (λ q. number (λ i. reaches g l i q) rights) q (omega arith))
      (number_within g (λ i. reaches g l i q) rights (λ i t. ⊎_elim (λ e. omega arith) (λ b. b.0) (reached_below i q t)))

-- ---- two sets have a right in common
pub common : (a b w : ℕ) → b < 2 ^ w → T (not (eqb (bit_and a b) 0)) → (i : ℕ) × (i < w) × T (has a i) × T (has b i)
common a b w l t = go (any (has (bit_and a b)) w 0) refl
  where
    go : (x : Bool) → any (has (bit_and a b)) w 0 ≡ x → (i : ℕ) × (i < w) × T (has a i) × T (has b i)
    go true e =
        let r = any_one (has (bit_and a b)) w 0 (holds (any (has (bit_and a b)) w 0) e) in
        let both : T (has a r.0 && has b r.0) = rw has_and at r.3 in
        (r.0, omega (arith, r.2), and_left (has a r.0) (has b r.0) both, and_right (has a r.0) (has b r.0) both)
    go false e = absurd (fails (not (eqb (bit_and a b) 0)) (rw (eq-eqb (bit_and a b) 0 none)) t)
      where
        none : bit_and a b ≡ 0
        none =
            same_rights w (bit_and a b) 0 (omega (arith, and_le_r a b)) (pow_pos w)
            (λ i h. is_false (has (bit_and a b) i) (λ u. fails (any (has (bit_and a b)) w 0) e (any_intro (has (bit_and a b)) w 0 i (omega arith) (omega arith) u)) ∙ sym (has_none i))

pub in_common : (a b i : ℕ) → T (has a i) → T (has b i) → T (not (eqb (bit_and a b) 0))
in_common a b i s t = go (ℕ_discrete (bit_and a b) 0)
  where
    go : Dec (bit_and a b ≡ 0) → T (not (eqb (bit_and a b) 0))
    go (yes e) = absurd (fails (has 0 i) (has_none i) (subst (λ (x : ℕ). T (has x i)) e (rw has_and (and_intro (has a i) (has b i) s t))))
    go (no n) = rw (ne_eqb (bit_and a b) 0 n) tt

-- ---- what a set meets, in a system that carries as the entries say
module _ (S : System) (l : List ℕ) (e : S.carried ≡ carried_in l) (few : S.rights ≤ rights) where
  pub carries_is : (i q : ℕ) → carries S i q ≡ reaches S.rights l i q
  carries_is i q = ap (λ (c : ℕ → ℕ → Bool). chained S.rights c S.rights i q) e

  -- a condition on q in the cell c: `c & carriers[q] != 0`
  pub meets_cell : (c q : ℕ) → q < rights → meets S (has c) q ≡ not (eqb (bit_and c (get_or (carriers_of S.rights l) q 0)) 0)
  meets_cell c q h = same_truth (meets S (has c) q) (not (eqb (bit_and c (get_or (carriers_of S.rights l) q 0)) 0)) there back
    where
      there : T (meets S (has c) q) → T (not (eqb (bit_and c (get_or (carriers_of S.rights l) q 0)) 0))
      there t =
          let r = (meets_exactly S (has c) q).0 t in
          let below : r.0 < rights = ⊎_elim (λ z. omega arith) (λ b. omega (arith, b.0)) (carries_below S r.0 q r.2) in
          let u : T (reaches S.rights l r.0 q) = subst T (carries_is r.0 q) ((carries_exactly S r.0 q).1 r.2) in
          in_common c (get_or (carriers_of S.rights l) q 0) r.0 r.1 (subst T (sym (carriers_tell S.rights l r.0 q below h)) u)

      back : T (not (eqb (bit_and c (get_or (carriers_of S.rights l) q 0)) 0)) → T (meets S (has c) q)
      back t =
          let r = common c (get_or (carriers_of S.rights l) q 0) rights (carriers_few S.rights l q h) t in
          let u : T (carries S r.0 q) = subst T (carriers_tell S.rights l r.0 q r.1 h ∙ sym (carries_is r.0 q)) r.3 in
          (meets_exactly S (has c) q).1 (r.0, r.2, (carries_exactly S r.0 q).0 u)

  pub met-by : MetBy S (carriers_of S.rights l)
  met-by = record { cell = meets_cell }

  -- by the sets of what each right carries
  pub meets_sets : (set : ℕ → Bool) (q : ℕ) → q < S.rights → meets S set q ≡ any (λ i. set i && has (get_or (carried_of S.rights l) i 0) q) S.rights 0
  meets_sets set q h = same_truth (meets S set q) (any (λ i. set i && has (get_or (carried_of S.rights l) i 0) q) S.rights 0) there back
    where
      tells : (i : ℕ) → i < S.rights → has (get_or (carried_of S.rights l) i 0) q ≡ carries S i q
      tells i b = carried_tells S.rights l i q (omega arith) (omega arith) ∙ sym (carries_is i q)

      there : T (meets S set q) → T (any (λ i. set i && has (get_or (carried_of S.rights l) i 0) q) S.rights 0)
      there t =
          let r = (meets_exactly S set q).0 t in
          let below : r.0 < S.rights = ⊎_elim (λ z. omega arith) (λ b. b.0) (carries_below S r.0 q r.2) in
          any_intro (λ i. set i && has (get_or (carried_of S.rights l) i 0) q) S.rights 0 r.0 (omega arith) (omega arith)
          (and_intro (set r.0) (has (get_or (carried_of S.rights l) r.0 0) q) r.1 (subst T (sym (tells r.0 below)) ((carries_exactly S r.0 q).1 r.2)))

      back : T (any (λ i. set i && has (get_or (carried_of S.rights l) i 0) q) S.rights 0) → T (meets S set q)
      back t =
          let r = any_one (λ i. set i && has (get_or (carried_of S.rights l) i 0) q) S.rights 0 t in
          let i = r.0 in
          let below : i < S.rights = omega (arith, r.2) in
          (meets_exactly S set q).1 (i, and_left (set i) (has (get_or (carried_of S.rights l) i 0) q) r.3, (carries_exactly S i q).0 (subst T (tells i below) (and_right (set i) (has (get_or (carried_of S.rights l) i 0) q) r.3)))
