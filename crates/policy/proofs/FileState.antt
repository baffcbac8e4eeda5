-- An accepted file's kinds and cells are as the machine's state has them: read as a state and written back they are the same bytes. Assumes nothing.
use Prim.Native.Nat.{ℕ, ◌+◌, ◌*◌, ◌/◌, ◌%◌, ◌^◌, ◌≤◌, ◌<◌}
use mathlib.Core.Path.{◌≡◌, refl, sym, ap, ap₂, ◌∙◌, subst}
use mathlib.Core.Bool.{Bool, true, false, not}
use mathlib.Core.List.{List, ◌++◌, append_assoc}
use native.Mathlib.Decide.{dec_lt}
use native.Mathlib.Omega.{arith}
use borrow.Author.Tests.{leb-true, ltb-true, eqb-true, lt-ltb}
use lib.Dec.{T, eqb, ltb}
use lib.ListN.{length, get_or, take, drop, length-drop, take-append-drop, get_or-eq_default}
use lib.Pow.{pow_pos}
use lib.Seq.{length-take-le, drop-drop, get_or-take, get_or-drop}
use Rattle.cases.specs.Cases.{pick}
use Rattle.cases.proofs.Lists.{get_d_tabulate}
use Rattle.cases.proofs.Loops.{all_at}
use Rattle.rights.specs.Rights.{within}
use Rattle.rights.specs.Bytes.{set_bytes, byte_values, bytes_of}
use Rattle.rights.proofs.SetBytes.{length_sets, set_read, set_past, bytes_back}
use Rattle.protection.specs.Limits.{names, rights, commands}
use Rattle.matrix.specs.Bytes.{inside, kinds_of, cells_of}
use Rattle.protection.specs.Proper.{Proper}
use Rattle.matrix.specs.Canonical.{Canonical}
use Rattle.matrix.proofs.Inverse.{view_proper, kinds_back, cells_back}
use Rattle.layout.specs.File.{byte, rights_of, pairs_of, offset_of, length_of, section, kinds_in, cells_in, carries_in, fixed_pairs, command_in, commands_of}
use Rattle.matrix.specs.Refusals.{kind_fits, cell_fits}
use Rattle.carries.proofs.Refusing.{carries_accepted}
use Rattle.policy.specs.Contents.{over, written, file_state, command_table, policy_of}
use Rattle.policy.specs.Fits.{PolicyFits}
use Rattle.commands.specs.Contents.{no_command, missing, command_of}
use Rattle.commands.specs.Fits.{Fits}
use Rattle.commands.proofs.Fitting.{command_fits}
use Rattle.layout.proofs.Accepted.{pairs_accepted, sizes_accepted}
use Rattle.policy.proofs.Accepted.{Accepted, matrix_accepted}

-- ---- sections
pub section_length : (f : List ℕ) (i : ℕ) → offset_of f i + length_of f i ≤ length f → length (section f i) ≡ length_of f i
section_length f i h = length-take-le (length_of f i) (drop (offset_of f i) f) (simp length-drop (omega arith))

-- a section written where it stands changes nothing
over_section : (f : List ℕ) (at n : ℕ) → at + n ≤ length f → over f at (take n (drop at f)) ≡ f
over_section f at n h =
    let k : length (take n (drop at f)) ≡ n = length-take-le n (drop at f) (simp length-drop (omega arith)) in
    ap (λ (z : ℕ). (take at f ++ take n (drop at f)) ++ drop (at + z) f) k
    ∙ append_assoc (take at f) (take n (drop at f)) (drop (at + n) f)
    ∙ ap (λ (l : List ℕ). take at f ++ (take n (drop at f) ++ l)) (sym (drop-drop n at f))
    ∙ ap (λ (l : List ℕ). take at f ++ l) (take-append-drop n (drop at f))
    ∙ take-append-drop at f

-- ---- one cell that passed
cell_facts : (g : ℕ) (ks cs : List ℕ) (c : ℕ) → cell_fits g ks cs c ≡ true → (get_or cs c 0 < 2 ^ g) × (T (not (inside ks (c / names) (c % names))) → get_or cs c 0 ≡ 0)
unfolding cell_fits
cell_facts g ks cs c e = go (within (byte cs c) g) (inside ks (c / names) (c % names)) refl e
  where
    go : (a b : Bool) → within (byte cs c) g ≡ a → pick a (pick b true (eqb (byte cs c) 0)) false ≡ true → (get_or cs c 0 < 2 ^ g) × (T (not b) → get_or cs c 0 ≡ 0)
    go true true d e = (ltb-true (byte cs c) (2 ^ g) d, λ t. absurd t)
    go true false d e = (ltb-true (byte cs c) (2 ^ g) d, λ _. eqb-true (byte cs c) 0 e)
    go false b d e = absurd (let z : ◌≡◌ {A = ℕ} 0 1 = cc in omega arith)

module _ (f : List ℕ) (A : Accepted f) where
  fixed : fixed_pairs ≤ pairs_of f
  fixed = A.header.fixed-pairs

  kinds_inside : offset_of f 0 + names ≤ length f
  kinds_inside = let z = (sizes_accepted f A.sizes).0 in let e = pairs_accepted f A.pairs 0 (omega (arith, fixed)) in omega arith

  cells_inside : offset_of f 1 + set_bytes * (names * names) ≤ length f
  cells_inside = let z = (sizes_accepted f A.sizes).1 in let e = pairs_accepted f A.pairs 1 (omega (arith, fixed)) in omega arith

  pub kinds_length : length (kinds_in f) ≡ names
  kinds_length = section_length f 0 (pairs_accepted f A.pairs 0 (omega (arith, fixed))) ∙ (sizes_accepted f A.sizes).0

  pub cells_length : length (cells_in f) ≡ names * names
  cells_length = length_sets (names * names) (section f 1)

  kind-fits : (x : ℕ) → get_or (kinds_in f) x 0 ≤ 2
  kind-fits x = go (dec_lt x names)
    where
      go : Dec (x < names) → get_or (kinds_in f) x 0 ≤ 2
      go (yes l) = leb-true (byte (kinds_in f) x) 2 (all_at (kind_fits (kinds_in f)) names 0 (matrix_accepted (rights_of f) (kinds_in f) (cells_in f) A.matrix).0 x (omega arith) (omega arith))
      go (no l) =
          let e = kinds_length in
          let z : get_or (kinds_in f) x 0 ≡ 0 = get_or-eq_default (kinds_in f) 0 {n = x} (omega arith) in
          rw z (omega arith)

  cell_at : (c : ℕ) → c < names * names → cell_fits (rights_of f) (kinds_in f) (cells_in f) c ≡ true
  cell_at c l = all_at (cell_fits (rights_of f) (kinds_in f) (cells_in f)) (names * names) 0 (matrix_accepted (rights_of f) (kinds_in f) (cells_in f) A.matrix).1 c (omega arith) (omega arith)

  cell-fits : (c : ℕ) → get_or (cells_in f) c 0 < 2 ^ rights_of f
  cell-fits c = go (dec_lt c (names * names))
    where
      go : Dec (c < names * names) → get_or (cells_in f) c 0 < 2 ^ rights_of f
      go (yes l) = (cell_facts (rights_of f) (kinds_in f) (cells_in f) c (cell_at c l)).0
      go (no l) =
          let e = cells_length in
          let z : get_or (cells_in f) c 0 ≡ 0 = get_or-eq_default (cells_in f) 0 {n = c} (omega arith) in
          rw z (pow_pos (rights_of f))

  carries_bytes : length (section f 2) ≡ set_bytes * rights_of f
  carries_bytes = section_length f 2 (pairs_accepted f A.pairs 2 (omega (arith, fixed))) ∙ (sizes_accepted f A.sizes).2

  -- rights from g on carry nothing
  carry-fits : (i : ℕ) → get_or (carries_in f) i 0 < 2 ^ rights_of f
  carry-fits i = go (dec_lt i (rights_of f)) (dec_lt i rights)
    where
      go : Dec (i < rights_of f) → Dec (i < rights) → get_or (carries_in f) i 0 < 2 ^ rights_of f
      go (yes l) _ = carries_accepted (rights_of f) (carries_in f) A.carries i l
      go (no l) (yes m) = rw (set_read rights (section f 2) i m, ← set_past (section f 2) i (omega (arith, carries_bytes))) (pow_pos (rights_of f))
      go (no l) (no m) = rw (get_or-eq_default (carries_in f) 0 {n = i} (omega (arith, length_sets rights (section f 2)))) (pow_pos (rights_of f))

  cell_outside : (s o : ℕ) → s < names → o < names → T (not (inside (kinds_in f) s o)) → get_or (cells_in f) (names * s + o) 0 ≡ 0
  cell_outside s o ls lo t =
      let es : (names * s + o) / names ≡ s = omega arith in
      let eo : (names * s + o) % names ≡ o = omega arith in
      (cell_facts (rights_of f) (kinds_in f) (cells_in f) (names * s + o) (cell_at (names * s + o) (omega arith))).1
      (subst (λ (z : ℕ). T (not (inside (kinds_in f) z ((names * s + o) % names)))) (sym es) (subst (λ (z : ℕ). T (not (inside (kinds_in f) s z))) (sym eo) t))

  pub file_canonical : Canonical (rights_of f) (kinds_in f) (cells_in f)
  file_canonical = record { kinds_length = kinds_length; cells_length = cells_length; kinds_fit = kind-fits; cells_fit = cell-fits; outside = cell_outside }

  pub file_proper : Proper (rights_of f) (file_state f)
  file_proper = view_proper (rights_of f) (kinds_in f) (cells_in f) file_canonical

  pub file_kinds : kinds_of (file_state f) ≡ kinds_in f
  file_kinds = kinds_back (rights_of f) (kinds_in f) (cells_in f) file_canonical

  pub file_cells : cells_of (file_state f) ≡ cells_in f
  file_cells = cells_back (rights_of f) (kinds_in f) (cells_in f) file_canonical A.header.few_rights

  -- an accepted file of bytes, read as a state and written back, is the file
  pub written_back : ((i : ℕ) → get_or f i 0 < byte_values) → written f (file_state f) ≡ f
  unfolding written
  written_back small =
      ap₂ (λ (k c : List ℕ). over (over f (offset_of f 0) k) (offset_of f 1) c) file_kinds (ap bytes_of file_cells ∙ bytes_back (names * names) (section f 1) cells_bytes byte_small)
      ∙ ap (λ (l : List ℕ). over l (offset_of f 1) (section f 1)) (over_section f (offset_of f 0) (length_of f 0) (pairs_accepted f A.pairs 0 (omega (arith, fixed))))
      ∙ over_section f (offset_of f 1) (length_of f 1) (pairs_accepted f A.pairs 1 (omega (arith, fixed)))
    where
      cells_bytes : length (section f 1) ≡ set_bytes * (names * names)
      cells_bytes = section_length f 1 (pairs_accepted f A.pairs 1 (omega (arith, fixed))) ∙ (sizes_accepted f A.sizes).1

      byte_small : (i : ℕ) → get_or (section f 1) i 0 < byte_values
      byte_small i = at (dec_lt i (length_of f 1))
        where
          at : Dec (i < length_of f 1) → get_or (section f 1) i 0 < byte_values
          at (yes l) = rw (get_or-take (length_of f 1) (drop (offset_of f 1) f) i 0 l, get_or-drop (offset_of f 1) f i 0) (small (offset_of f 1 + i))
          at (no l) = rw (get_or-eq_default (section f 1) 0 {n = i} (omega (arith, cells_bytes, (sizes_accepted f A.sizes).1))) (omega arith)

-- ---- and so is the policy that the reader hands out
pub policy_fits : (f : List ℕ) → Accepted f → PolicyFits (policy_of f)
unfolding policy_of command_table
policy_fits f A = record {
  some_right = A.header.some_right;
  few_rights = A.header.few_rights;
  few_commands = omega (arith, A.header.few_pairs);
  matrix_fits = file_canonical f A;
  carries_fit = carry-fits f A;
  carried_is = refl;
  carriers_is = refl;
  commands_fit = λ i l. subst (Fits (rights_of f)) (sym (at i l)) (command_fits (rights_of f) (command_in f i) (A.commands i l));
}
  where
    at : (i : ℕ) → i < commands_of f → get_or (command_table f (commands_of f)) i missing ≡ command_of (command_in f i)
    at i l =
        get_d_tabulate (λ j. pick (ltb j (commands_of f)) (command_of (command_in f j)) no_command) missing commands 0 i (omega (arith, A.header.few_pairs))
        ∙ rw (lt-ltb (0 + i) (commands_of f) (omega arith)) (ap (λ (j : ℕ). command_of (command_in f j)) (omega arith))
