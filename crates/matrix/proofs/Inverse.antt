-- Kinds and cells read as a state, and a state written as kinds and cells, are inverse to each other: on the bytes that a file may hold, and on the states
-- that fit into a file. Assumes nothing.
use Prim.Native.Nat.{ℕ, zero, suc, ◌+◌, ◌*◌, ◌/◌, ◌%◌, ◌^◌, ◌≤◌, ◌<◌}
use mathlib.Core.Path.{◌≡◌, refl, sym, ap, ap₂, ◌∙◌, subst}
use mathlib.Core.Bool.{Bool, true, false, not, ◌&&◌}
use mathlib.Core.List.{List}
use native.Mathlib.Decide.{dec_lt}
use native.Mathlib.Nat.{le_trans, pow-le-pow_right}
use native.Mathlib.Omega.{arith}
use lib.Dec.{T, T_not}
use lib.ListN.{length, get_or, get_or-eq_default}
use lib.Pow.{pow_pos}
use lib.Seq.{ext_get_or}
use Rattle.cases.specs.Cases.{tabulate}
use Rattle.cases.proofs.Bools.{and_left, and_right, and_intro, both, same_truth}
use Rattle.cases.proofs.Lists.{length_tabulate, get_d_tabulate}
use Rattle.rights.specs.Rights.{has, number}
use Rattle.rights.proofs.Sets.{has_below, has_none, has_number, number_below, number_has, number_same, number_within}
use Rattle.protection.specs.Limits.{names, rights}
use Rattle.protection.specs.State.{Kind, absent, object, subject, is_object, is_subject, State, object_in, subject_in}
use Rattle.protection.specs.Paper.{subject_is_object}
use Rattle.matrix.specs.Bytes.{kind_of, kind_byte, inside, rights_in, view, kinds_of, cell_byte, cells_of}
use Rattle.protection.specs.Proper.{Proper}
use Rattle.matrix.specs.Canonical.{Canonical}

-- ---- kinds
byte_kind : (k : ℕ) → k ≤ 2 → kind_byte (kind_of k) ≡ k
byte_kind zero h = refl
byte_kind (suc zero) h = refl
byte_kind (suc (suc zero)) h = refl
byte_kind (suc (suc (suc k))) h = absurd (omega arith)

kind-byte : (k : Kind) → kind_of (kind_byte k) ≡ k
kind-byte absent = refl
kind-byte object = refl
kind-byte subject = refl

byte_small : (k : Kind) → kind_byte k ≤ 2
byte_small absent = omega arith
byte_small object = omega arith
byte_small subject = omega arith

absent_kind : (k : Kind) → (T (is_object k) → ⊥) → absent ≡ k
absent_kind absent f = refl
absent_kind object f = absurd (f tt)
absent_kind subject f = absurd (f tt)

-- ---- what a cell that has a row and a column holds, and one that has not
module _ (ks cs : List ℕ) (s o q : ℕ) where
  pub within_inside : T (rights_in ks cs s o q) → T (inside ks s o)
  within_inside = go (inside ks s o)
    where
      go : (b : Bool) → T (elim b [ true ↦ has (get_or cs (names * s + o) 0) q | false ↦ false ]) → T b
      go true t = tt
      go false t = t

  bit_in : T (rights_in ks cs s o q) → T (has (get_or cs (names * s + o) 0) q)
  bit_in = go (inside ks s o)
    where
      go : (b : Bool) → T (elim b [ true ↦ has (get_or cs (names * s + o) 0) q | false ↦ false ]) → T (has (get_or cs (names * s + o) 0) q)
      go true t = t
      go false t = absurd t

  pub in_bit : T (inside ks s o) → rights_in ks cs s o q ≡ has (get_or cs (names * s + o) 0) q
  in_bit = go (inside ks s o)
    where
      go : (b : Bool) → T b → elim b [ true ↦ has (get_or cs (names * s + o) 0) q | false ↦ false ] ≡ has (get_or cs (names * s + o) 0) q
      go true t = refl
      go false t = absurd t

-- past the end of the kinds no name exists
pub named_below : (ks : List ℕ) → length ks ≡ names → (x : ℕ) → T (is_object (kind_of (get_or ks x 0))) → x < names
named_below ks e x t = go (dec_lt x names)
  where
    go : Dec (x < names) → x < names
    go (yes l) = l
    go (no l) = let z : get_or ks x 0 ≡ 0 = get_or-eq_default ks 0 (omega arith) in absurd (rw z at t)

-- ---- from bytes to a state and back
module _ (g : ℕ) (ks cs : List ℕ) (K : Canonical g ks cs) where
  pub view_proper : Proper g (view ks cs)
  view_proper = record {
    named = named_below ks K.kinds_length;
    row = λ s o q t. and_left (is_subject (kind_of (get_or ks s 0))) (is_object (kind_of (get_or ks o 0))) (within_inside ks cs s o q t);
    column = λ s o q t. and_right (is_subject (kind_of (get_or ks s 0))) (is_object (kind_of (get_or ks o 0))) (within_inside ks cs s o q t);
    right = λ s o q t. has_below g q (get_or cs (names * s + o) 0) (K.cells_fit (names * s + o)) (bit_in ks cs s o q t);
  }

  pub kinds_back : kinds_of (view ks cs) ≡ ks
  unfolding kinds_of
  kinds_back =
      let f : ℕ → ℕ = λ x. kind_byte (kind_of (get_or ks x 0)) in
      let n : length (tabulate f names 0) ≡ names = length_tabulate f names 0 in
      let e = K.kinds_length in
      ext_get_or 0 (tabulate f names 0) ks (n ∙ sym e)
      (λ i l. get_d_tabulate f 0 names 0 i (omega arith) ∙ byte_kind (get_or ks (0 + i) 0) (K.kinds_fit (0 + i)) ∙ ap (λ (z : ℕ). get_or ks z 0) (omega arith))

  module _ (few : g ≤ rights) where
    cell_back : (c : ℕ) → c < names * names → cell_byte (view ks cs) c ≡ get_or cs c 0
    cell_back c l = go (inside ks (c / names) (c % names)) (K.outside (c / names) (c % names) (omega arith) (omega arith))
      where
        at : names * (c / names) + c % names ≡ c
        at = omega arith

        small : get_or cs (names * (c / names) + c % names) 0 < 2 ^ rights
        small = le_trans (K.cells_fit (names * (c / names) + c % names)) (pow-le-pow_right (omega arith) few)

        go : (b : Bool) → (T (not b) → get_or cs (names * (c / names) + c % names) 0 ≡ 0)
            → number (λ q. elim b [ true ↦ has (get_or cs (names * (c / names) + c % names) 0) q | false ↦ false ]) rights ≡ get_or cs c 0
        go true h = number_has rights (get_or cs (names * (c / names) + c % names) 0) small ∙ ap (λ (z : ℕ). get_or cs z 0) at
        go false h =
            number_same (λ q. false) (has 0) rights (λ q _. sym (has_none q)) ∙ number_has rights 0 (pow_pos rights) ∙ sym (h tt) ∙ ap (λ (z : ℕ). get_or cs z 0) at

    pub cells_back : cells_of (view ks cs) ≡ cs
    unfolding cells_of
    cells_back =
        let f : ℕ → ℕ = cell_byte (view ks cs) in
        let n : length (tabulate f (names * names) 0) ≡ names * names = length_tabulate f (names * names) 0 in
        let e = K.cells_length in
        ext_get_or 0 (tabulate f (names * names) 0) cs (n ∙ sym e)
        (λ i l. get_d_tabulate f 0 (names * names) 0 i (omega arith) ∙ cell_back (0 + i) (omega arith) ∙ ap (λ (z : ℕ). get_or cs z 0) (omega arith))

-- ---- from a state to bytes and back
module _ (g : ℕ) (m : State) (K : Proper g m) where
  kind_at : (x : ℕ) → kind_of (get_or (kinds_of m) x 0) ≡ m.kind x
  unfolding kinds_of
  kind_at x = go (dec_lt x names)
    where
      f : ℕ → ℕ
      f z = kind_byte (m.kind z)

      go : Dec (x < names) → kind_of (get_or (tabulate f names 0) x 0) ≡ m.kind x
      go (yes l) = ap kind_of (get_d_tabulate f 0 names 0 x l) ∙ kind-byte (m.kind (0 + x)) ∙ ap m.kind (omega arith)
      go (no l) =
          let n : length (tabulate f names 0) ≡ names = length_tabulate f names 0 in
          ap kind_of (get_or-eq_default (tabulate f names 0) 0 {n = x} (omega arith)) ∙ absent_kind (m.kind x) (λ t. l (K.named x t))

  byte_at : (s o : ℕ) → s < names → o < names → get_or (cells_of m) (names * s + o) 0 ≡ number (m.cell s o) rights
  unfolding cells_of
  byte_at s o ls lo =
      let es : (0 + (names * s + o)) / names ≡ s = omega arith in
      let eo : (0 + (names * s + o)) % names ≡ o = omega arith in
      get_d_tabulate (cell_byte m) 0 (names * names) 0 (names * s + o) (omega arith) ∙ ap₂ (λ (x y : ℕ). number (m.cell x y) rights) es eo

  inside_is : (s o : ℕ) → inside (kinds_of m) s o ≡ subject_in m s && object_in m o
  inside_is s o = ap₂ (λ (x y : Kind). is_subject x && is_object y) (kind_at s) (kind_at o)

  module _ (few : g ≤ rights) where
    right-at : (s o q : ℕ) → rights_in (kinds_of m) (cells_of m) s o q ≡ m.cell s o q
    right-at s o q = same_truth (rights_in (kinds_of m) (cells_of m) s o q) (m.cell s o q) there back
      where
        read : T (subject_in m s) → T (object_in m o) → q < g → rights_in (kinds_of m) (cells_of m) s o q ≡ m.cell s o q
        read hs ho lq =
            let z : T (inside (kinds_of m) s o) = subst T (sym (inside_is s o)) (and_intro (subject_in m s) (object_in m o) hs ho) in
            let ls : s < names = K.named s (subject_is_object (m.kind s) hs) in
            let lo : o < names = K.named o ho in
            in_bit (kinds_of m) (cells_of m) s o q z ∙ ap (λ (c : ℕ). has c q) (byte_at s o ls lo) ∙ has_number (m.cell s o) rights q (omega arith)

        there : T (rights_in (kinds_of m) (cells_of m) s o q) → T (m.cell s o q)
        there t =
            let z : T (subject_in m s && object_in m o) = subst T (inside_is s o) (within_inside (kinds_of m) (cells_of m) s o q t) in
            let hs : T (subject_in m s) = search both in
            let ho : T (object_in m o) = search both in
            let ls : s < names = K.named s (subject_is_object (m.kind s) hs) in
            let lo : o < names = K.named o ho in
            let b : T (has (number (m.cell s o) rights) q) = subst (λ (c : ℕ). T (has c q)) (byte_at s o ls lo) (bit_in (kinds_of m) (cells_of m) s o q t) in
            let lq : q < rights = has_below rights q (number (m.cell s o) rights) (number_below (m.cell s o) rights) b in
            subst T (has_number (m.cell s o) rights q lq) b

        back : T (m.cell s o q) → T (rights_in (kinds_of m) (cells_of m) s o q)
        back t = subst T (sym (read (K.row s o q t) (K.column s o q t) (K.right s o q t))) t

    pub view_back : view (kinds_of m) (cells_of m) ≡ m
    view_back = λ i. record { kind = λ x. kind_at x i; cell = λ s o q. right-at s o q i }

  -- what is written is as a file may hold it
  kinds_small : (x : ℕ) → get_or (kinds_of m) x 0 ≤ 2
  unfolding kinds_of
  kinds_small x = go (dec_lt x names)
    where
      f : ℕ → ℕ
      f z = kind_byte (m.kind z)

      go : Dec (x < names) → get_or (tabulate f names 0) x 0 ≤ 2
      go (yes l) = rw (get_d_tabulate f 0 names 0 x l) (byte_small (m.kind (0 + x)))
      go (no l) =
          let n : length (tabulate f names 0) ≡ names = length_tabulate f names 0 in
          let z : get_or (tabulate f names 0) x 0 ≡ 0 = get_or-eq_default (tabulate f names 0) 0 {n = x} (omega arith) in
          rw z (omega arith)

  cells_small : (c : ℕ) → get_or (cells_of m) c 0 < 2 ^ g
  unfolding cells_of
  cells_small c = go (dec_lt c (names * names))
    where
      go : Dec (c < names * names) → get_or (tabulate (cell_byte m) (names * names) 0) c 0 < 2 ^ g
      go (yes l) =
          rw (get_d_tabulate (cell_byte m) 0 (names * names) 0 c l)
          (number_within g (m.cell ((0 + c) / names) ((0 + c) % names)) rights (λ q t. K.right ((0 + c) / names) ((0 + c) % names) q t))
      go (no l) =
          let n : length (tabulate (cell_byte m) (names * names) 0) ≡ names * names = length_tabulate (cell_byte m) (names * names) 0 in
          let z : get_or (tabulate (cell_byte m) (names * names) 0) c 0 ≡ 0 = get_or-eq_default (tabulate (cell_byte m) (names * names) 0) 0 {n = c} (omega arith) in
          rw z (pow_pos g)

  cells_outside : (s o : ℕ) → s < names → o < names → T (not (inside (kinds_of m) s o)) → get_or (cells_of m) (names * s + o) 0 ≡ 0
  cells_outside s o ls lo t =
      let none_in : T (subject_in m s && object_in m o) → ⊥ = λ u. T_not (inside (kinds_of m) s o) t (subst T (sym (inside_is s o)) u) in
      let low : number (m.cell s o) rights < 2 ^ 0 = number_within 0 (m.cell s o) rights (λ q u. absurd (none_in (and_intro (subject_in m s) (object_in m o) (K.row s o q u) (K.column s o q u)))) in
      byte_at s o ls lo ∙ omega arith

  pub written_canonical : Canonical g (kinds_of m) (cells_of m)
  written_canonical = record {
    kinds_length = unfold kinds_of in length_tabulate (λ x. kind_byte (m.kind x)) names 0;
    cells_length = unfold cells_of in length_tabulate (cell_byte m) (names * names) 0;
    kinds_fit = kinds_small;
    cells_fit = cells_small;
    outside = cells_outside;
  }

-- cells that fit with g rights fit with more
pub canonical_wider : (g h : ℕ) (ks cs : List ℕ) → g ≤ h → Canonical g ks cs → Canonical h ks cs
canonical_wider g h ks cs l K = record {
  kinds_length = K.kinds_length;
  cells_length = K.cells_length;
  kinds_fit = K.kinds_fit;
  cells_fit = λ c. le_trans (K.cells_fit c) (pow-le-pow_right (omega arith) l);
  outside = K.outside;
}
