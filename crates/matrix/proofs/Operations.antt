-- What the methods of `Matrix` leave, seen as a state, is what the model's operations leave; and it stays canonical. Assumes nothing.
use Prim.Native.Nat.{ℕ, suc, ◌*◌, ◌-◌, ◌/◌, ◌%◌, ◌^◌, ◌≤◌, ◌<◌}
use mathlib.Core.Path.{◌≡◌, refl, sym, ap, ap₂, ◌∙◌, subst}
use mathlib.Core.Bool.{Bool, true, false, not, ◌&&◌, ◌||◌}
use mathlib.Core.List.{List}
use mathlib.Core.Logic.{◌⊎◌, inl, inr, ⊎_elim}
use native.Mathlib.Decide.{dec_lt, ℕ_discrete}
use native.Mathlib.Omega.{arith}
use borrow.Author.Tests.{eq-eqb, ne_eqb}
use lib.Dec.{T, eqb, eqb→eq, eqb_refl, T_not}
use lib.ListN.{length, get_or, set, length-set, get_or-eq_default}
use lib.Pow.{pow_pos}
use lib.Seq.{get_or-set_same, get_or-set_other}
use Rattle.cases.specs.Cases.{pick, iterate}
use Rattle.cases.proofs.Bools.{and_left, and_right, and_intro, or_cases, or_left, or_right, is_false}
use Rattle.cases.proofs.Loops.{iterate_end, iterate_count}
use Rattle.rights.specs.Rights.{has, insert, delete}
use Rattle.rights.proofs.Sets.{has_insert_same, has_insert_other, has_delete_same, has_delete_other, has_none, insert_below, delete_below, delete_none}
use Rattle.protection.specs.Limits.{names}
use Rattle.protection.specs.State.{Kind, is_object, is_subject}
use Rattle.protection.specs.Paper.{subject_is_object}
use Rattle.protection.specs.Execution.{same_cell, put, take_out, renew}
use Rattle.matrix.specs.Bytes.{kind_of, inside, rights_in}
use Rattle.matrix.specs.Matrices.{state_of, place, entered, deleted, emptied, renewed}
use Rattle.matrix.specs.declared.Matrix.{Matrix}
use Rattle.matrix.specs.Canonical.{Canonical}
use Rattle.matrix.proofs.Inverse.{named_below, within_inside, in_bit}

-- ---- for the loop of `renew`
pub renewed_is : (m : Matrix) (n k j : ℕ) (now : Matrix) → now.kinds ≡ m.kinds → 32 ≤ j → iterate (emptied n) (32 - j) j now.cells ≡ iterate (emptied n) 32 0 m.cells
    → record { kinds = set now.kinds n k; cells = now.cells } ≡ renewed m n k
renewed_is m n k j now e h i = rw (e, iterate_end (emptied n) 32 (iterate (emptied n) 32 0 m.cells) j now.cells h i)

-- ---- one place of the cells
same_place : (s o s' o' : ℕ) → o < names → o' < names → place s o ≡ place s' o' → (s ≡ s') × (o ≡ o')
same_place s o s' o' l l' e = (omega arith, omega arith)

module _ (cs : List ℕ) (size : length cs ≡ names * names) (s o v : ℕ) (ls : s < names) (lo : o < names) where
  set_here : get_or (set cs (place s o) v) (place s o) 0 ≡ v
  set_here = get_or-set_same cs (place s o) v 0 (omega arith)

  set_there : (s' o' : ℕ) → o' < names → (T (same_cell s' o' s o) → ⊥) → get_or (set cs (place s o) v) (place s' o') 0 ≡ get_or cs (place s' o') 0
  set_there s' o' l f = get_or-set_other cs (place s o) (place s' o') v 0 (λ e. let d = same_place s' o' s o l lo e in
      f (and_intro (eqb s' s) (eqb o' o) (rw d.0 (eqb_refl s)) (rw d.1 (eqb_refl o))))

-- ---- a change of one cell: f is what it does to the truth value of a right in the cell
module _ (ks cs : List ℕ) (kinds : length ks ≡ names) (size : length cs ≡ names * names) (s o v : ℕ) (ls : s < names) (lo : o < names) where
  changed : (f : Bool → ℕ → Bool → Bool) → ((q : ℕ) → has v q ≡ f true q (has (get_or cs (place s o) 0) q)) → ((q : ℕ) (b : Bool) → f false q b ≡ b)
      → ((q : ℕ) → (T (inside ks s o) → ⊥) → f true q false ≡ false)
      → (s' o' q : ℕ) → rights_in ks (set cs (place s o) v) s' o' q ≡ f (same_cell s' o' s o) q (rights_in ks cs s' o' q)
  changed f on off out s' o' q = go (inside ks s' o') refl (same_cell s' o' s o) refl
    where
      go : (b : Bool) → inside ks s' o' ≡ b → (c : Bool) → same_cell s' o' s o ≡ c
          → elim b [ true ↦ has (get_or (set cs (place s o) v) (place s' o') 0) q | false ↦ false ] ≡ f c q (elim b [ true ↦ has (get_or cs (place s' o') 0) q | false ↦ false ])
      go true e true d =
          let t : T (same_cell s' o' s o) = subst T (sym d) tt in
          let es : s' ≡ s = eqb→eq s' s (and_left (eqb s' s) (eqb o' o) t) in
          let eo : o' ≡ o = eqb→eq o' o (and_right (eqb s' s) (eqb o' o) t) in
          ap₂ (λ (x y : ℕ). has (get_or (set cs (place s o) v) (place x y) 0) q) es eo
          ∙ ap (λ (x : ℕ). has x q) (set_here cs size s o v ls lo) ∙ on q
          ∙ ap₂ (λ (x y : ℕ). f true q (has (get_or cs (place x y) 0) q)) (sym es) (sym eo)
      go true e false d =
          let lo' : o' < names = named_below ks kinds o' (and_right (is_subject (kind_of (get_or ks s' 0))) (is_object (kind_of (get_or ks o' 0))) (subst T (sym e) tt)) in
          ap (λ (x : ℕ). has x q) (set_there cs size s o v ls lo s' o' lo' (λ t. subst T d t)) ∙ sym (off q (has (get_or cs (place s' o') 0) q))
      go false e true d =
          let t : T (same_cell s' o' s o) = subst T (sym d) tt in
          let es : s' ≡ s = eqb→eq s' s (and_left (eqb s' s) (eqb o' o) t) in
          let eo : o' ≡ o = eqb→eq o' o (and_right (eqb s' s) (eqb o' o) t) in
          sym (out q (λ i. subst T e (subst (λ (x : ℕ). T (inside ks x o')) (sym es) (subst (λ (x : ℕ). T (inside ks s x)) (sym eo) i))))
      go false e false d = sym (off q false)

module _ (g : ℕ) (m : Matrix) (K : Canonical g m.kinds m.cells) (q s o : ℕ) (lq : q < g) (ls : s < names) (lo : o < names) where
  abbrev was : ℕ
  was = get_or m.cells (place s o) 0

  -- ---- enter
  pub entered_state : T (inside m.kinds s o) → state_of (entered m q s o) ≡ put (state_of m) q s o
  entered_state i = λ j. record { kind = λ x. kind_of (get_or m.kinds x 0); cell = λ s' o' q'. cell s' o' q' j }
    where
      on : (q' : ℕ) → has (insert was q) q' ≡ (true && eqb q' q) || has was q'
      on q' = go (ℕ_discrete q q')
        where
          go : Dec (q ≡ q') → has (insert was q) q' ≡ (true && eqb q' q) || has was q'
          go (yes e) = rw (← e, eq-eqb q q refl) (has_insert_same was q)
          go (no e) = rw (ne_eqb q' q (λ d. e (sym d))) (has_insert_other was q q' e)

      cell : (s' o' q' : ℕ) → rights_in m.kinds (set m.cells (place s o) (insert was q)) s' o' q' ≡ (same_cell s' o' s o && eqb q' q) || rights_in m.kinds m.cells s' o' q'
      cell s' o' q' =
          changed m.kinds m.cells K.kinds_length K.cells_length s o (insert was q) ls lo (λ b x v. (b && eqb x q) || v) on (λ x b. refl) (λ x n. absurd (n i)) s' o' q'

  -- ---- delete
  pub deleted_state : state_of (deleted m q s o) ≡ take_out (state_of m) q s o
  deleted_state = λ j. record { kind = λ x. kind_of (get_or m.kinds x 0); cell = λ s' o' q'. cell s' o' q' j }
    where
      on : (q' : ℕ) → has (delete was q) q' ≡ not (true && eqb q' q) && has was q'
      on q' = go (ℕ_discrete q q')
        where
          go : Dec (q ≡ q') → has (delete was q) q' ≡ not (true && eqb q' q) && has was q'
          go (yes e) = rw (← e, eq-eqb q q refl) (has_delete_same was q)
          go (no e) = rw (ne_eqb q' q (λ d. e (sym d))) (has_delete_other was q q' e)

      none : (b : Bool) → b && false ≡ false
      none true = refl
      none false = refl

      cell : (s' o' q' : ℕ) → rights_in m.kinds (set m.cells (place s o) (delete was q)) s' o' q' ≡ not (same_cell s' o' s o && eqb q' q) && rights_in m.kinds m.cells s' o' q'
      cell s' o' q' =
          changed m.kinds m.cells K.kinds_length K.cells_length s o (delete was q) ls lo (λ b x v. not (b && eqb x q) && v) on (λ x b. refl) (λ x n. none (not (eqb x q))) s' o' q'

  -- ---- a cell set to a set of rights below g, empty where there is no row or no column, keeps the matrix canonical
  set_canonical : (v : ℕ) → v < 2 ^ g → (T (not (inside m.kinds s o)) → v ≡ 0) → Canonical g m.kinds (set m.cells (place s o) v)
  set_canonical v lv z = record {
    kinds_length = K.kinds_length;
    cells_length = length-set m.cells (place s o) v ∙ K.cells_length;
    kinds_fit = K.kinds_fit;
    cells_fit = λ c. fit c (ℕ_discrete c (place s o));
    outside = λ s' o' ls' lo' t. out s' o' ls' lo' t (same_cell s' o' s o) refl;
  }
    where
      fit : (c : ℕ) → Dec (c ≡ place s o) → get_or (set m.cells (place s o) v) c 0 < 2 ^ g
      fit c (yes e) = rw (e, set_here m.cells K.cells_length s o v ls lo) lv
      fit c (no e) = rw (get_or-set_other m.cells (place s o) c v 0 e) (K.cells_fit c)

      out : (s' o' : ℕ) → s' < names → o' < names → T (not (inside m.kinds s' o')) → (b : Bool) → same_cell s' o' s o ≡ b → get_or (set m.cells (place s o) v) (place s' o') 0 ≡ 0
      out s' o' ls' l t true d =
          let u : T (same_cell s' o' s o) = subst T (sym d) tt in
          let es : s' ≡ s = eqb→eq s' s (and_left (eqb s' s) (eqb o' o) u) in
          let eo : o' ≡ o = eqb→eq o' o (and_right (eqb s' s) (eqb o' o) u) in
          ap₂ (λ (x y : ℕ). get_or (set m.cells (place s o) v) (place x y) 0) es eo ∙ set_here m.cells K.cells_length s o v ls lo
          ∙ z (subst (λ (x : ℕ). T (not (inside m.kinds x o))) es (subst (λ (x : ℕ). T (not (inside m.kinds s' x))) eo t))
      out s' o' ls' l t false d =
          set_there m.cells K.cells_length s o v ls lo s' o' l (λ u. subst T d u)
          ∙ K.outside s' o' ls' l t

  pub entered_canonical : T (inside m.kinds s o) → Canonical g (entered m q s o).kinds (entered m q s o).cells
  entered_canonical i = set_canonical (insert was q) (insert_below g was q lq (K.cells_fit (place s o))) (λ t. absurd (T_not (inside m.kinds s o) t i))

  pub deleted_canonical : Canonical g (deleted m q s o).kinds (deleted m q s o).cells
  deleted_canonical = set_canonical (delete was q) (delete_below g was q lq (K.cells_fit (place s o))) (λ t. ap (λ (z : ℕ). delete z q) (K.outside s o ls lo t) ∙ delete_none q)

-- ---- renew: after k turns the first k cells of row n and of column n are empty, and nothing else has changed
record Emptied (cs : List ℕ) (n k : ℕ) (ds : List ℕ) : Type 0 where
  long : length ds ≡ names * names
  cell : (s o : ℕ) → s < names → o < names → (((s ≡ n) × (o < k)) ⊎ ((o ≡ n) × (s < k))) → get_or ds (place s o) 0 ≡ 0
  rest : (s o : ℕ) → s < names → o < names → (s ≡ n → ⊥) → (o ≡ n → ⊥) → get_or ds (place s o) 0 ≡ get_or cs (place s o) 0

module _ (cs : List ℕ) (size : length cs ≡ names * names) (n : ℕ) (ln : n < names) where
  one_more : (k : ℕ) (ds : List ℕ) → k < names → Emptied cs n k ds → Emptied cs n (suc k) (emptied n k ds)
  one_more k ds lk E = record {
    long = long₁;
    cell = λ s o ls lo h. cell s o ls lo h (ℕ_discrete (place s o) (place k n)) (ℕ_discrete (place s o) (place n k));
    rest = λ s o ls lo a b. at_other s o ls lo (λ e. b (same_place s o k n lo ln e).1) (λ e. a (same_place s o n k lo lk e).0) ∙ E.rest s o ls lo a b;
  }
    where
      half : List ℕ
      half = set ds (place n k) 0

      long₀ : length half ≡ names * names
      long₀ = length-set ds (place n k) 0 ∙ E.long

      long₁ : length (set half (place k n) 0) ≡ names * names
      long₁ = length-set half (place k n) 0 ∙ long₀

      at_other : (s o : ℕ) → s < names → o < names → (place s o ≡ place k n → ⊥) → (place s o ≡ place n k → ⊥) → get_or (set half (place k n) 0) (place s o) 0 ≡ get_or ds (place s o) 0
      at_other s o ls lo a b = get_or-set_other half (place k n) (place s o) 0 0 a ∙ get_or-set_other ds (place n k) (place s o) 0 0 b

      cell : (s o : ℕ) → s < names → o < names → ((s ≡ n) × (o < suc k)) ⊎ ((o ≡ n) × (s < suc k)) → Dec (place s o ≡ place k n) → Dec (place s o ≡ place n k)
          → get_or (set half (place k n) 0) (place s o) 0 ≡ 0
      cell s o ls lo h (yes e) d = ap (λ (z : ℕ). get_or (set half (place k n) 0) z 0) e ∙ get_or-set_same half (place k n) 0 0 (omega (arith, long₀))
      cell s o ls lo h (no e) (yes d) =
          get_or-set_other half (place k n) (place s o) 0 0 e ∙ ap (λ (z : ℕ). get_or half z 0) d ∙ get_or-set_same ds (place n k) 0 0 (omega (arith, E.long))
      cell s o ls lo h (no e) (no d) = at_other s o ls lo e d ∙ E.cell s o ls lo (⊎_elim (λ w. inl (w.0, row w)) (λ w. inr (w.0, column w)) h)
        where
          row : (s ≡ n) × (o < suc k) → o < k
          row w = go (ℕ_discrete o k)
            where
              go : Dec (o ≡ k) → o < k
              go (yes q) = absurd (d (ap₂ place w.0 q))
              go (no q) = let l = w.1 in omega arith

          column : (o ≡ n) × (s < suc k) → s < k
          column w = go (ℕ_discrete s k)
            where
              go : Dec (s ≡ k) → s < k
              go (yes q) = absurd (e (ap₂ place q w.0))
              go (no q) = let l = w.1 in omega arith

  all_emptied : Emptied cs n names (iterate (emptied n) names 0 cs)
  all_emptied =
      iterate_count (λ k ds. Emptied cs n k ds) (emptied n) names 0 (λ k ds _ l. one_more k ds (omega arith)) cs
      (record {
        long = size;
        cell = λ s o ls lo h. absurd (⊎_elim (λ w. omega (arith, w.1)) (λ w. omega (arith, w.1)) h);
        rest = λ s o ls lo a b. refl;
      })

module _ (g : ℕ) (m : Matrix) (K : Canonical g m.kinds m.cells) (n k : ℕ) (ln : n < names) where
  E : Emptied m.cells n names (iterate (emptied n) names 0 m.cells)
  E = all_emptied m.cells K.cells_length n ln

  abbrev ks : List ℕ
  ks = set m.kinds n k

  abbrev cs : List ℕ
  cs = iterate (emptied n) names 0 m.cells

  kind_at : (x : ℕ) → kind_of (get_or ks x 0) ≡ pick (eqb x n) (kind_of k) (kind_of (get_or m.kinds x 0))
  kind_at x = go (ℕ_discrete x n)
    where
      go : Dec (x ≡ n) → kind_of (get_or ks x 0) ≡ pick (eqb x n) (kind_of k) (kind_of (get_or m.kinds x 0))
      go (yes e) = rw (e, eq-eqb n n refl, get_or-set_same m.kinds n k 0 (omega (arith, K.kinds_length)))
      go (no e) = rw (ne_eqb x n e, get_or-set_other m.kinds n x k 0 e)

  long : length ks ≡ names
  long = length-set m.kinds n k ∙ K.kinds_length

  -- a cell in row n or column n
  cross : (s o : ℕ) → s < names → o < names → T (eqb s n || eqb o n) → get_or cs (place s o) 0 ≡ 0
  cross s o ls lo t = ⊎_elim (λ a. E.cell s o ls lo (inl (eqb→eq s n a, lo))) (λ b. E.cell s o ls lo (inr (eqb→eq o n b, ls))) (or_cases (eqb s n) (eqb o n) t)

  no_cross : (s o : ℕ) → s < names → o < names → (T (eqb s n || eqb o n) → ⊥) → get_or cs (place s o) 0 ≡ get_or m.cells (place s o) 0
  no_cross s o ls lo f =
      E.rest s o ls lo (λ e. f (or_left (eqb s n) (eqb o n) (rw e (eqb_refl n)))) (λ e. f (or_right (eqb s n) (eqb o n) (rw e (eqb_refl n))))

  -- away from row n and column n the gate is as it was
  inside_at : (s o : ℕ) → (T (eqb s n || eqb o n) → ⊥) → inside ks s o ≡ inside m.kinds s o
  inside_at s o f =
      let a : eqb s n ≡ false = is_false (eqb s n) (λ t. f (or_left (eqb s n) (eqb o n) t)) in
      let b : eqb o n ≡ false = is_false (eqb o n) (λ t. f (or_right (eqb s n) (eqb o n) t)) in
      let es : kind_of (get_or ks s 0) ≡ kind_of (get_or m.kinds s 0) = kind_at s ∙ rw a in
      let eo : kind_of (get_or ks o 0) ≡ kind_of (get_or m.kinds o 0) = kind_at o ∙ rw b in
      ap₂ (λ (x y : Kind). is_subject x && is_object y) es eo

  pub renewed_state : state_of (renewed m n k) ≡ renew (state_of m) n (kind_of k)
  renewed_state = λ i. record { kind = λ x. kind_at x i; cell = λ s o q. cell s o q i }
    where
      cell : (s o q : ℕ) → rights_in ks cs s o q ≡ not (eqb s n || eqb o n) && rights_in m.kinds m.cells s o q
      cell s o q = go (eqb s n || eqb o n) refl (inside ks s o) refl
        where
          go : (a : Bool) → eqb s n || eqb o n ≡ a → (b : Bool) → inside ks s o ≡ b
              → elim b [ true ↦ has (get_or cs (place s o) 0) q | false ↦ false ] ≡ not a && rights_in m.kinds m.cells s o q
          go true e true d =
              let w : T (inside ks s o) = subst T (sym d) tt in
              let ls : s < names = named_below ks long s (subject_is_object (kind_of (get_or ks s 0)) (and_left (is_subject (kind_of (get_or ks s 0))) (is_object (kind_of (get_or ks o 0))) w)) in
              let lo : o < names = named_below ks long o (and_right (is_subject (kind_of (get_or ks s 0))) (is_object (kind_of (get_or ks o 0))) w) in
              ap (λ (x : ℕ). has x q) (cross s o ls lo (subst T (sym e) tt)) ∙ has_none q
          go true e false d = refl
          go false e true d =
              let f : T (eqb s n || eqb o n) → ⊥ = λ t. subst T e t in
              let w : T (inside ks s o) = subst T (sym d) tt in
              let ls : s < names = named_below ks long s (subject_is_object (kind_of (get_or ks s 0)) (and_left (is_subject (kind_of (get_or ks s 0))) (is_object (kind_of (get_or ks o 0))) w)) in
              let lo : o < names = named_below ks long o (and_right (is_subject (kind_of (get_or ks s 0))) (is_object (kind_of (get_or ks o 0))) w) in
              ap (λ (x : ℕ). has x q) (no_cross s o ls lo f) ∙ sym (in_bit m.kinds m.cells s o q (subst T (inside_at s o f) w))
          go false e false d =
              let f : T (eqb s n || eqb o n) → ⊥ = λ t. subst T e t in
              sym (is_false (rights_in m.kinds m.cells s o q) (λ t. subst T (sym (inside_at s o f) ∙ d) (within_inside m.kinds m.cells s o q t)))

  cell_below : (s o : ℕ) → s < names → o < names → (b : Bool) → eqb s n || eqb o n ≡ b → get_or cs (place s o) 0 < 2 ^ g
  cell_below s o ls lo true e = rw (cross s o ls lo (subst T (sym e) tt)) (pow_pos g)
  cell_below s o ls lo false e = rw (no_cross s o ls lo (λ t. subst T e t)) (K.cells_fit (place s o))

  cell_outside : (s o : ℕ) → s < names → o < names → T (not (inside ks s o)) → (b : Bool) → eqb s n || eqb o n ≡ b → get_or cs (place s o) 0 ≡ 0
  cell_outside s o ls lo t true e = cross s o ls lo (subst T (sym e) tt)
  cell_outside s o ls lo t false e =
      let f : T (eqb s n || eqb o n) → ⊥ = λ u. subst T e u in
      no_cross s o ls lo f ∙ K.outside s o ls lo (subst (λ (b : Bool). T (not b)) (inside_at s o f) t)

  pub renewed_canonical : k ≤ 2 → Canonical g (renewed m n k).kinds (renewed m n k).cells
  renewed_canonical lk = record {
    kinds_length = long;
    cells_length = E.long;
    kinds_fit = λ x. kind x (ℕ_discrete x n);
    cells_fit = λ c. fit c (dec_lt c (names * names));
    outside = λ s o ls lo t. cell_outside s o ls lo t (eqb s n || eqb o n) refl;
  }
    where
      kind : (x : ℕ) → Dec (x ≡ n) → get_or ks x 0 ≤ 2
      kind x (yes e) = rw (e, get_or-set_same m.kinds n k 0 (omega (arith, K.kinds_length))) lk
      kind x (no e) = rw (get_or-set_other m.kinds n x k 0 e) (K.kinds_fit x)

      fit : (c : ℕ) → Dec (c < names * names) → get_or cs c 0 < 2 ^ g
      fit c (yes l) =
          let at : place (c / names) (c % names) ≡ c = omega arith in
          subst (λ (z : ℕ). get_or cs z 0 < 2 ^ g) at (cell_below (c / names) (c % names) (omega arith) (omega arith) (eqb (c / names) n || eqb (c % names) n) refl)
      fit c (no l) =
          let size = E.long in
          let z : get_or cs c 0 ≡ 0 = get_or-eq_default cs 0 {n = c} (omega arith) in
          rw z (pow_pos g)
