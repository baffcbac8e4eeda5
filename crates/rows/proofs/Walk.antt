-- A file's refusal and its state, computed with one walk over the bytes of its 1,024 cells, where the definition looks each of them up from the front. Assumes nothing.
use Prim.Native.Nat.{ℕ, zero, suc, ◌+◌, ◌*◌, ◌/◌, ◌%◌, ◌^◌}
use native.Mathlib.Nat.{zero-add, add-zero, add-suc, suc-add, one-le-pow}
use native.Mathlib.Omega.{arith}
use mathlib.Core.Path.{◌≡◌, refl, sym, ap, ap₂, subst, ◌∙◌}
use mathlib.Core.Bool.{Bool, true, false}
use mathlib.Core.List.{List, [], ◌∷◌}
use lib.Dec.{eqb, ltb}
use lib.ListN.{get_or}
use borrow.Author.Tests.{eqb-true, lt-ltb, le-ltb}
use Rattle.cases.specs.Cases.{pick, all, tabulate}
use Rattle.cases.proofs.Loops.{all_intro}
use Rattle.rights.specs.Rights.{within}
use Rattle.rights.specs.Bytes.{set_bytes, byte_values, set_in, sets_in}
use Rattle.protection.specs.Limits.{names}
use Rattle.protection.specs.State.{State}
use Rattle.matrix.specs.Bytes.{inside, view}
use Rattle.matrix.specs.Refusals.{kind_fits, cell_fits, matrix_refusal}
use Rattle.layout.specs.File.{rights_of, section, kinds_in, cells_in, carries_in, commands_of}
use Rattle.layout.specs.Refusals.{or_else, header_refusal, pairs_refusal, sizes_refusal}
use Rattle.carries.specs.Refusals.{carries_refusal}
use Rattle.policy.specs.Refusals.{commands_refusal, refusal}
use Rattle.policy.specs.Contents.{file_state}

-- ---- the sets that a list's bytes are
-- the first n sets, two bytes at a time
abbrev pub sets_walked : ℕ → List ℕ → List ℕ
sets_walked zero l = []
sets_walked (suc n) [] = 0 ∷ sets_walked n []
sets_walked (suc n) (x ∷ []) = x ∷ sets_walked n []
sets_walked (suc n) (x ∷ y ∷ l) = (x + byte_values * y) ∷ sets_walked n l

-- a set is one of those behind the first two bytes
set_behind : (l k : List ℕ) (i : ℕ) → ((c : ℕ) → get_or l (suc (suc c)) 0 ≡ get_or k c 0) → set_in l (suc i) ≡ set_in k i
set_behind l k i h =
    let a : set_bytes * suc i ≡ suc (suc (set_bytes * i)) = omega arith in
    let b : set_bytes * suc i + 1 ≡ suc (suc (set_bytes * i + 1)) = omega arith in
    ap₂ (λ (x y : ℕ). x + byte_values * y) (ap (λ (c : ℕ). get_or l c 0) a ∙ h (set_bytes * i)) (ap (λ (c : ℕ). get_or l c 0) b ∙ h (set_bytes * i + 1))

-- q gives the sets of a list, from number j on
module _ (q : ℕ → ℕ) where
  abbrev Gives : List ℕ → ℕ → Type 0
  Gives l j = (i : ℕ) → q (j + i) ≡ set_in l i

  first_given : (l : List ℕ) (j : ℕ) → Gives l j → q j ≡ set_in l 0
  first_given l j h = subst (λ k. q k ≡ set_in l 0) (add-zero j) (h 0)

  rest_given : (l k : List ℕ) (j : ℕ) → ((c : ℕ) → get_or l (suc (suc c)) 0 ≡ get_or k c 0) → Gives l j → Gives k (suc j)
  rest_given l k j e h i = subst (λ n. q n ≡ set_in l (suc i)) (add-suc j i ∙ sym (suc-add j i)) (h (suc i)) ∙ set_behind l k i e

  table_walked : (n : ℕ) (l : List ℕ) (j : ℕ) → Gives l j → tabulate q n j ≡ sets_walked n l
  table_walked zero l j h = refl
  table_walked (suc n) [] j h = ap₂ ◌∷◌ (first_given [] j h) (table_walked n [] (suc j) (rest_given [] [] j (λ c. refl) h))
  table_walked (suc n) (x ∷ []) j h =
      ap₂ ◌∷◌ (first_given (x ∷ []) j h ∙ add-zero x) (table_walked n [] (suc j) (rest_given (x ∷ []) [] j (λ c. refl) h))
  table_walked (suc n) (x ∷ y ∷ l) j h = ap₂ ◌∷◌ (first_given (x ∷ y ∷ l) j h) (table_walked n l (suc j) (rest_given (x ∷ y ∷ l) l j (λ c. refl) h))

sets-walked : (n : ℕ) (l : List ℕ) → sets_walked n l ≡ sets_in n l
unfolding sets_in
sets-walked n l = sym (table_walked (set_in l) n l 0 (λ i. ap (set_in l) (zero-add i)))

abbrev pub cells_walked : List ℕ → List ℕ
cells_walked f = sets_walked (names * names) (section f 1)

-- ---- a test of each
-- a test holds at n elements of a list, and at their places from j on
abbrev pub walk : (ℕ → ℕ → Bool) → ℕ → List ℕ → ℕ → Bool
walk p zero l j = true
walk p (suc n) [] j = pick (p 0 j) (walk p n [] (suc j)) false
walk p (suc n) (x ∷ l) j = pick (p x j) (walk p n l (suc j)) false

-- q is the test p of the list's elements, from place j on
module _ (p : ℕ → ℕ → Bool) (q : ℕ → Bool) where
  abbrev Agree : List ℕ → ℕ → Type 0
  Agree l j = (i : ℕ) → q (j + i) ≡ p (get_or l i 0) (j + i)

  here : (l : List ℕ) (j : ℕ) → Agree l j → q j ≡ p (get_or l 0 0) j
  here l j h = subst (λ k. q k ≡ p (get_or l 0 0) k) (add-zero j) (h 0)

  further : (j i x : ℕ) → q (j + suc i) ≡ p x (j + suc i) → q (suc j + i) ≡ p x (suc j + i)
  further j i x h = subst (λ k. q k ≡ p x k) (add-suc j i ∙ sym (suc-add j i)) h

  all_is_walk : (n : ℕ) (l : List ℕ) (j : ℕ) → Agree l j → all q n j ≡ walk p n l j
  unfolding all
  all_is_walk zero l j h = refl
  all_is_walk (suc n) [] j h =
      ap (λ b. pick b (all q n (suc j)) false) (here [] j h) ∙ ap (λ b. pick (p 0 j) b false) (all_is_walk n [] (suc j) (λ i. further j i 0 (h (suc i))))
  all_is_walk (suc n) (x ∷ l) j h =
      ap (λ b. pick b (all q n (suc j)) false) (here (x ∷ l) j h)
      ∙ ap (λ b. pick (p x j) b false) (all_is_walk n l (suc j) (λ i. further j i (get_or l i 0) (h (suc i))))

-- ---- the cells
none_within : (g : ℕ) → within 0 g ≡ true
none_within g = lt-ltb 0 (2 ^ g) (one-le-pow g 2 (omega arith))

-- what `cell_fits` asks of a set at a place; most are 0, and fit everywhere
abbrev pub fits : ℕ → List ℕ → ℕ → ℕ → Bool
fits g ks x c = pick (eqb x 0) true (pick (within x g) (inside ks (c / names) (c % names)) false)

byte_fits : (g : ℕ) (b : Bool) (x : ℕ) → pick (within x g) (pick b true (eqb x 0)) false ≡ pick (eqb x 0) true (pick (within x g) b false)
byte_fits g b x = go (eqb x 0) b refl
  where
    go : (z b : Bool) → eqb x 0 ≡ z → pick (within x g) (pick b true z) false ≡ pick z true (pick (within x g) b false)
    go true true e = ap (λ (y : ℕ). pick (within y g) true false) (eqb-true x 0 e) ∙ ap (λ (w : Bool). pick w true false) (none_within g)
    go true false e = ap (λ (y : ℕ). pick (within y g) true false) (eqb-true x 0 e) ∙ ap (λ (w : Bool). pick w true false) (none_within g)
    go false true e = refl
    go false false e = refl

cells-walked : (g n : ℕ) (ks cs : List ℕ) → all (cell_fits g ks cs) n 0 ≡ walk (fits g ks) n cs 0
unfolding cell_fits
cells-walked g n ks cs =
    all_is_walk (fits g ks) (cell_fits g ks cs) n cs 0
    (λ i. byte_fits g (inside ks ((0 + i) / names) ((0 + i) % names)) (get_or cs (0 + i) 0) ∙ ap (λ k. fits g ks (get_or cs k 0) (0 + i)) (zero-add i))

-- ---- the matrix: what the definition says hangs on the cells only by whether they fit
-- no cell set: they fit
no_cells : (g n : ℕ) (ks : List ℕ) → all (cell_fits g ks []) n 0 ≡ true
unfolding cell_fits
no_cells g n ks = all_intro (cell_fits g ks []) n 0 (λ i _ _. byte_fits g (inside ks (i / names) (i % names)) 0)

-- a first cell with right g: they do not
cell_over : (g n : ℕ) (ks : List ℕ) → all (cell_fits g ks (2 ^ g ∷ [])) (suc n) 0 ≡ false
unfolding all cell_fits
cell_over g n ks = ap (λ (b : Bool). pick (pick b (pick (inside ks 0 0) true (eqb (2 ^ g) 0)) false) (all (cell_fits g ks (2 ^ g ∷ [])) n 1) false) (le-ltb (2 ^ g) (2 ^ g) (omega arith))

abbrev pub walked_matrix : ℕ → List ℕ → List ℕ → ℕ
walked_matrix g ks cs = pick (walk (fits g ks) (names * names) cs 0) (matrix_refusal g ks []) (matrix_refusal g ks (2 ^ g ∷ []))

matrix_walked : (g : ℕ) (ks cs : List ℕ) → walked_matrix g ks cs ≡ matrix_refusal g ks cs
unfolding matrix_refusal
matrix_walked g ks cs = go (walk (fits g ks) (names * names) cs 0) (cells-walked g (names * names) ks cs)
  where
    go : (b : Bool) → all (cell_fits g ks cs) (names * names) 0 ≡ b → pick b (matrix_refusal g ks []) (matrix_refusal g ks (2 ^ g ∷ [])) ≡ matrix_refusal g ks cs
    go true e = rw (e, no_cells g (names * names) ks)
    go false e = rw (e, cell_over g 1023 ks)

-- ---- the file
abbrev pub walked_refusal : List ℕ → ℕ
walked_refusal f =
    or_else (header_refusal f)
    (or_else (pairs_refusal f)
    (or_else (sizes_refusal f)
    (or_else (walked_matrix (rights_of f) (kinds_in f) (cells_walked f))
    (or_else (carries_refusal (rights_of f) (carries_in f))
    (commands_refusal f (commands_of f) 0)))))

pub refusal_walked : (f : List ℕ) → walked_refusal f ≡ refusal f
unfolding refusal
refusal_walked f =
    ap (λ z. or_else (header_refusal f) (or_else (pairs_refusal f) (or_else (sizes_refusal f) (or_else z (or_else (carries_refusal (rights_of f) (carries_in f)) (commands_refusal f (commands_of f) 0))))))
    (ap (walked_matrix (rights_of f) (kinds_in f)) (sets-walked (names * names) (section f 1)) ∙ matrix_walked (rights_of f) (kinds_in f) (cells_in f))

abbrev pub walked_state : List ℕ → State
walked_state f = view (kinds_in f) (cells_walked f)

pub state_walked : (f : List ℕ) → walked_state f ≡ file_state f
state_walked f = ap (view (kinds_in f)) (sets-walked (names * names) (section f 1))
