-- What it means that no test of the chain refused: of the first bytes and the table of pairs. Assumes nothing.
use Prim.Native.Nat.{ℕ, zero, suc, ◌+◌, ◌*◌, ◌-◌, ◌≤◌, ◌<◌}
use mathlib.Core.Path.{◌≡◌, refl, ap, ◌∙◌}
use mathlib.Core.Bool.{Bool, true, false}
use mathlib.Core.List.{List}
use native.Mathlib.Omega.{arith}
use borrow.Author.Tests.{ltb-false, eqb-true}
use lib.Dec.{eqb, ltb, eqb-suc-zero}
use lib.ListN.{length}
use Rattle.cases.specs.Cases.{pick, all}
use Rattle.cases.proofs.Loops.{all_at}
use Rattle.protection.specs.Limits.{names, rights, commands, file_bytes}
use Rattle.rights.specs.Bytes.{set_bytes}
use Rattle.layout.specs.File.{rights_of, pairs_of, offset_of, length_of, pairs_end, start_of, fixed_pairs}
use Rattle.layout.specs.Refusals.{or_else, header_refusal, in_place, pairs_refusal, sizes_refusal}

-- ---- one test of a chain
pub passed : (b : Bool) (n x : ℕ) → pick b (suc n) x ≡ 0 → (b ≡ false) × (x ≡ 0)
passed true n x e = absurd (omega arith)
passed false n x e = (refl, e)

pub held : (b : Bool) (n x : ℕ) → pick b x (suc n) ≡ 0 → (b ≡ true) × (x ≡ 0)
held true n x e = (refl, e)
held false n x e = absurd (omega arith)

pub or-else : (n m : ℕ) → or_else n m ≡ 0 → (n ≡ 0) × (m ≡ 0)
or-else zero m e = (refl, e)
or-else (suc n) m e = absurd (let z : eqb (suc n) 0 ≡ false = eqb-suc-zero n in let y : suc n ≡ 0 = rw z at e in omega arith)

-- ---- the first bytes
pub record HeaderFits (f : List ℕ) : Type 0 where
  pub long : 2 ≤ length f
  pub short : length f ≤ file_bytes
  pub some_right : 1 ≤ rights_of f
  pub few_rights : rights_of f ≤ rights
  pub fixed-pairs : fixed_pairs ≤ pairs_of f
  pub few_pairs : pairs_of f ≤ fixed_pairs + commands
  pub table : pairs_end f ≤ length f

pub header_accepted : (f : List ℕ) → header_refusal f ≡ 0 → HeaderFits f
unfolding header_refusal
header_accepted f e =
    let t1 = passed (ltb (length f) 2) 0 _ e in
    let t2 = passed (ltb file_bytes (length f)) 0 _ t1.1 in
    let t3 = passed (ltb (rights_of f) 1) 1 _ t2.1 in
    let t4 = passed (ltb rights (rights_of f)) 1 _ t3.1 in
    let t5 = passed (ltb (pairs_of f) fixed_pairs) 2 _ t4.1 in
    let t6 = passed (ltb (fixed_pairs + commands) (pairs_of f)) 2 _ t5.1 in
    let t7 = passed (ltb (length f) (pairs_end f)) 0 _ t6.1 in
    record {
      long = ltb-false (length f) 2 t1.0;
      short = ltb-false file_bytes (length f) t2.0;
      some_right = ltb-false (rights_of f) 1 t3.0;
      few_rights = ltb-false rights (rights_of f) t4.0;
      fixed-pairs = ltb-false (pairs_of f) fixed_pairs t5.0;
      few_pairs = ltb-false (fixed_pairs + commands) (pairs_of f) t6.0;
      table = ltb-false (length f) (pairs_end f) t7.0;
    }

-- ---- the table of pairs: every section lies inside the file
module _ (f : List ℕ) (n : ℕ) (h : all (in_place f) n 0 ≡ true) (e : start_of f n ≡ length f) where
  placed_at : (i : ℕ) → i < n → offset_of f i ≡ start_of f i
  placed_at i l = eqb-true (offset_of f i) (start_of f i) (all_at (in_place f) n 0 h i (omega arith) (omega arith))

  ends_inside : (d i : ℕ) → suc i + d ≡ n → offset_of f i + length_of f i ≤ length f
  unfolding start_of
  ends_inside zero i l = let z : suc i ≡ n = omega arith in let w : start_of f (suc i) ≡ length f = ap (start_of f) z ∙ e in omega arith
  ends_inside (suc d) i l =
      let next : offset_of f (suc i) + length_of f (suc i) ≤ length f = ends_inside d (suc i) (omega arith) in
      let at : offset_of f (suc i) ≡ offset_of f i + length_of f i = placed_at (suc i) (omega arith) in
      omega arith

pub pairs_accepted : (f : List ℕ) → pairs_refusal f ≡ 0 → (i : ℕ) → i < pairs_of f → offset_of f i + length_of f i ≤ length f
unfolding pairs_refusal
pairs_accepted f e i l =
    let t1 = held (all (in_place f) (pairs_of f) 0) 3 _ e in
    let t2 = held (eqb (start_of f (pairs_of f)) (length f)) 3 _ t1.1 in
    ends_inside f (pairs_of f) t1.0 (eqb-true (start_of f (pairs_of f)) (length f) t2.0) (pairs_of f - suc i) i (omega arith)

-- the kinds begin where the pairs end, the cells where the kinds end
pub sections_placed : (f : List ℕ) → pairs_refusal f ≡ 0 → (i : ℕ) → i < pairs_of f → offset_of f i ≡ start_of f i
unfolding pairs_refusal
sections_placed f e i l =
    let t1 = held (all (in_place f) (pairs_of f) 0) 3 _ e in
    let t2 = held (eqb (start_of f (pairs_of f)) (length f)) 3 _ t1.1 in
    placed_at f (pairs_of f) t1.0 (eqb-true (start_of f (pairs_of f)) (length f) t2.0) i l

pub sizes_accepted : (f : List ℕ) → sizes_refusal f ≡ 0 → (length_of f 0 ≡ names) × (length_of f 1 ≡ set_bytes * (names * names)) × (length_of f 2 ≡ set_bytes * rights_of f)
unfolding sizes_refusal
sizes_accepted f e =
    let t1 = held (eqb (length_of f 0) names) 4 _ e in
    let t2 = held (eqb (length_of f 1) (set_bytes * (names * names))) 4 _ t1.1 in
    let t3 = held (eqb (length_of f 2) (set_bytes * rights_of f)) 4 _ t2.1 in
    (eqb-true (length_of f 0) names t1.0, eqb-true (length_of f 1) (set_bytes * (names * names)) t2.0, eqb-true (length_of f 2) (set_bytes * rights_of f) t3.0)
