-- A state that fits, written into an accepted file, gives an accepted file with that state and the same commands. Assumes nothing.
use Prim.Native.Nat.{ℕ, zero, suc, ◌+◌, ◌*◌, ◌-◌, ◌/◌, ◌%◌, ◌^◌, ◌≤◌, ◌<◌}
use mathlib.Core.Path.{◌≡◌, refl, sym, ap, ap₂, ◌∙◌, subst}
use mathlib.Core.Bool.{Bool, true, false, not}
use mathlib.Core.List.{List, ◌++◌, append_assoc}
use native.Mathlib.Decide.{dec_lt}
use native.Mathlib.Omega.{arith}
use borrow.Author.Tests.{le-leb, le-ltb, lt-ltb, eq-eqb}
use lib.Dec.{T, eqb, ltb}
use lib.ListN.{length, get_or, take, drop, length-drop, length-append, take-append-drop, get_or-append}
use lib.Seq.{length-take-le, drop_at, take_at, drop-drop, get_or-take, drop-append-le, take-append-le}
use Rattle.cases.specs.Cases.{pick, all, tabulate}
use Rattle.cases.proofs.Loops.{all_intro, all_same}
use Rattle.cases.proofs.Lists.{tabulate_same}
use Rattle.rights.specs.Bytes.{set_bytes, sets_in, bytes_of}
use Rattle.rights.proofs.SetBytes.{length_bytes, sets_back}
use Rattle.protection.specs.Limits.{names, rights, commands}
use Rattle.protection.specs.State.{State}
use Rattle.matrix.specs.Bytes.{inside, view, kinds_of, cells_of}
use Rattle.protection.specs.Proper.{Proper}
use Rattle.matrix.specs.Canonical.{Canonical}
use Rattle.matrix.proofs.Inverse.{view_back, written_canonical}
use Rattle.layout.specs.File.{byte, word, rights_of, pairs_of, offset_of, length_of, pairs_end, start_of, section, kinds_in, cells_in, carries_in, fixed_pairs, command_in, commands_of}
use Rattle.layout.specs.Refusals.{or_else, header_refusal, in_place, pairs_refusal, sizes_refusal}
use Rattle.carries.specs.Refusals.{carries_refusal}
use Rattle.commands.specs.Refusals.{command_refusal}
use Rattle.matrix.specs.Refusals.{kind_fits, cell_fits, matrix_refusal}
use Rattle.policy.specs.Refusals.{commands_refusal, refusal}
use Rattle.commands.specs.Contents.{command_of, no_command}
use Rattle.policy.specs.Contents.{over, written, file_state, file_system, command_table, policy_of}
use Rattle.layout.proofs.Accepted.{pairs_accepted, sizes_accepted, sections_placed}
use Rattle.policy.proofs.Accepted.{Accepted}

-- ---- bytes written over others
module _ (f s : List ℕ) (at : ℕ) (h : at + length s ≤ length f) where
  head_length : length (take at f) ≡ at
  head_length = length-take-le at f (omega arith)

  front_length : length (take at f ++ s) ≡ at + length s
  front_length = length-append (take at f) s ∙ ap (λ (n : ℕ). n + length s) head_length

  over_length : length (over f at s) ≡ length f
  over_length = length-append (take at f ++ s) (drop (at + length s) f) ∙ simp (front_length, length-drop) (omega arith)

  over_before : (i : ℕ) → i < at → get_or (over f at s) i 0 ≡ get_or f i 0
  over_before i l =
      get_or-append (take at f ++ s) (drop (at + length s) f) 0 i (omega (arith, front_length))
      ∙ get_or-append (take at f) s 0 i (omega (arith, head_length)) ∙ get_or-take at f i 0 l

  over_here : take (length s) (drop at (over f at s)) ≡ s
  over_here =
      ap (λ (l : List ℕ). take (length s) (drop at l)) (append_assoc (take at f) s (drop (at + length s) f))
      ∙ ap (take (length s)) (drop_at (take at f) (s ++ drop (at + length s) f) at head_length)
      ∙ take_at s (drop (at + length s) f) (length s) refl

  over_after : (n : ℕ) → at + length s ≤ n → drop n (over f at s) ≡ drop n f
  over_after n l =
      let e : (at + length s) + (n - (at + length s)) ≡ n = omega arith in
      ap (λ (k : ℕ). drop k (over f at s)) (sym e)
      ∙ sym (drop-drop (n - (at + length s)) (at + length s) (over f at s))
      ∙ ap (drop (n - (at + length s))) (drop_at (take at f ++ s) (drop (at + length s) f) (at + length s) front_length)
      ∙ drop-drop (n - (at + length s)) (at + length s) f ∙ ap (λ (k : ℕ). drop k f) e

  -- a part that lies before what is written
  over_part : (j n : ℕ) → j + n ≤ at → take n (drop j (over f at s)) ≡ take n (drop j f)
  over_part j n l =
      ap (λ (x : List ℕ). take n (drop j x)) (append_assoc (take at f) s (drop (at + length s) f))
      ∙ ap (take n) (drop-append-le j (take at f) (s ++ drop (at + length s) f) (omega (arith, head_length)))
      ∙ take-append-le n (drop j (take at f)) (s ++ drop (at + length s) f) (simp length-drop (omega (arith, head_length)))
      ∙ sym (take-append-le n (drop j (take at f)) (drop at f) (simp length-drop (omega (arith, head_length))))
      ∙ ap (take n) (sym (drop-append-le j (take at f) (drop at f) (omega (arith, head_length))))
      ∙ ap (λ (x : List ℕ). take n (drop j x)) (take-append-drop at f)

module _ (f : List ℕ) (A : Accepted f) (m : State) (P : Proper (rights_of f) m) where
  K : Canonical (rights_of f) (kinds_of m) (cells_of m)
  K = written_canonical (rights_of f) m P

  fixed : fixed_pairs ≤ pairs_of f
  fixed = A.header.fixed-pairs

  kinds_at : offset_of f 0 ≡ pairs_end f
  unfolding start_of
  kinds_at = sections_placed f A.pairs 0 (omega (arith, fixed))

  cells_at : offset_of f 1 ≡ offset_of f 0 + names
  unfolding start_of
  cells_at = sections_placed f A.pairs 1 (omega (arith, fixed)) ∙ ap (λ (n : ℕ). offset_of f 0 + n) (sizes_accepted f A.sizes).0

  cells_end : offset_of f 1 + set_bytes * (names * names) ≤ length f
  cells_end = let z = (sizes_accepted f A.sizes).1 in let e = pairs_accepted f A.pairs 1 (omega (arith, fixed)) in omega arith

  -- the bytes of the cells
  abbrev cell_bytes : List ℕ
  cell_bytes = bytes_of (cells_of m)

  bytes_length : length cell_bytes ≡ set_bytes * (names * names)
  bytes_length = length_bytes (cells_of m) ∙ ap (λ (n : ℕ). set_bytes * n) K.cells_length

  abbrev half : List ℕ
  half = over f (offset_of f 0) (kinds_of m)

  fits_kinds : offset_of f 0 + length (kinds_of m) ≤ length f
  fits_kinds = omega (arith, cells_end, cells_at, K.kinds_length)

  half_length : length half ≡ length f
  half_length = over_length f (kinds_of m) (offset_of f 0) fits_kinds

  fits_cells : offset_of f 1 + length cell_bytes ≤ length half
  fits_cells = omega (arith, cells_end, bytes_length, half_length)

  pub rewritten_length : length (written f m) ≡ length f
  unfolding written
  rewritten_length = over_length half cell_bytes (offset_of f 1) fits_cells ∙ half_length

  -- the header and the table of pairs stay
  byte_stays : (i : ℕ) → i < pairs_end f → byte (written f m) i ≡ byte f i
  unfolding written
  byte_stays i l =
      over_before half cell_bytes (offset_of f 1) fits_cells i (omega (arith, cells_at, kinds_at))
      ∙ over_before f (kinds_of m) (offset_of f 0) fits_kinds i (omega (arith, kinds_at))

  word_stays : (i : ℕ) → i + 1 < pairs_end f → word (written f m) i ≡ word f i
  word_stays i l = ap₂ (λ (x y : ℕ). x + 256 * y) (byte_stays i (omega arith)) (byte_stays (i + 1) l)

  pub rights_stay : rights_of (written f m) ≡ rights_of f
  rights_stay = byte_stays 0 (omega arith)

  pub pairs_stay : pairs_of (written f m) ≡ pairs_of f
  pairs_stay = byte_stays 1 (omega arith)

  offset_stays : (i : ℕ) → i < pairs_of f → offset_of (written f m) i ≡ offset_of f i
  offset_stays i l = word_stays (2 + 4 * i) (omega arith)

  length_stays : (i : ℕ) → i < pairs_of f → length_of (written f m) i ≡ length_of f i
  length_stays i l = word_stays (2 + 4 * i + 2) (omega arith)

  start_stays : (i : ℕ) → i ≤ pairs_of f → start_of (written f m) i ≡ start_of f i
  unfolding start_of
  start_stays zero l = ap (λ (n : ℕ). 2 + 4 * n) pairs_stay
  start_stays (suc i) l = ap₂ (λ (x y : ℕ). x + y) (offset_stays i l) (length_stays i l)

  -- ---- the sections
  section_is : (i : ℕ) → i < pairs_of f → section (written f m) i ≡ take (length_of f i) (drop (offset_of f i) (written f m))
  section_is i l = ap₂ (λ (x y : ℕ). take x (drop y (written f m))) (length_stays i l) (offset_stays i l)

  pub kinds_written : kinds_in (written f m) ≡ kinds_of m
  unfolding written
  kinds_written =
      let n : length_of f 0 ≡ length (kinds_of m) = (sizes_accepted f A.sizes).0 ∙ sym K.kinds_length in
      section_is 0 (omega (arith, fixed))
      ∙ over_part half cell_bytes (offset_of f 1) fits_cells (offset_of f 0) (length_of f 0) (omega (arith, cells_at, (sizes_accepted f A.sizes).0))
      ∙ ap (λ (z : ℕ). take z (drop (offset_of f 0) half)) n
      ∙ over_here f (kinds_of m) (offset_of f 0) fits_kinds

  pub cells_written : cells_in (written f m) ≡ cells_of m
  unfolding written
  cells_written =
      let n : length_of f 1 ≡ length cell_bytes = (sizes_accepted f A.sizes).1 ∙ sym bytes_length in
      ap (sets_in (names * names))
      (section_is 1 (omega (arith, fixed))
      ∙ ap (λ (z : ℕ). take z (drop (offset_of f 1) (written f m))) n
      ∙ over_here half cell_bytes (offset_of f 1) fits_cells)
      ∙ ap (λ (k : ℕ). sets_in k cell_bytes) (sym K.cells_length) ∙ sets_back (cells_of m)

  section_at : (i : ℕ) → suc i < pairs_of f → offset_of f 1 + set_bytes * (names * names) ≤ offset_of f (suc i) + length_of f (suc i)
  unfolding start_of
  section_at zero l = let z = (sizes_accepted f A.sizes).1 in omega arith
  section_at (suc i) l =
      let e : offset_of f (suc (suc i)) ≡ offset_of f (suc i) + length_of f (suc i) = sections_placed f A.pairs (suc (suc i)) l in
      omega (arith, section_at i (omega arith))

  -- the sections behind the cells
  section_stays : (i : ℕ) → 2 + i < pairs_of f → section (written f m) (2 + i) ≡ section f (2 + i)
  unfolding written start_of
  section_stays i l =
      let j : 2 + i ≡ suc (suc i) = omega arith in
      let e : offset_of f (2 + i) ≡ offset_of f (suc i) + length_of f (suc i) =
      ap (offset_of f) j ∙ sections_placed f A.pairs (suc (suc i)) (omega arith) in
      let far : offset_of f 1 + set_bytes * (names * names) ≤ offset_of f (2 + i) = omega (arith, section_at i (omega arith)) in
      section_is (2 + i) (omega arith)
      ∙ ap (take (length_of f (2 + i))) (over_after half cell_bytes (offset_of f 1) fits_cells (offset_of f (2 + i)) (omega (arith, bytes_length))
      ∙ over_after f (kinds_of m) (offset_of f 0) fits_kinds (offset_of f (2 + i)) (omega (arith, K.kinds_length, cells_at)))

  pub carries_stay : carries_in (written f m) ≡ carries_in f
  carries_stay = ap (sets_in rights) (section_stays 0 (omega (arith, fixed)))

  pub command_stays : (i : ℕ) → i < commands_of f → command_in (written f m) i ≡ command_in f i
  command_stays i l =
      let z : 2 + (1 + i) ≡ fixed_pairs + i = omega arith in
      subst (λ (k : ℕ). section (written f m) k ≡ section f k) z (section_stays (1 + i) (omega arith))

  -- ---- what the file says
  pub state_written : file_state (written f m) ≡ m
  state_written = ap₂ view kinds_written cells_written ∙ view_back (rights_of f) m P A.header.few_rights

  commands_stay : commands_of (written f m) ≡ commands_of f
  commands_stay = ap (λ (n : ℕ). n - fixed_pairs) pairs_stay

  -- ---- and it is accepted
  header_stays : header_refusal (written f m) ≡ header_refusal f
  unfolding header_refusal
  header_stays = rw (rewritten_length, rights_stay, pairs_stay)

  pairs_refusal_stays : pairs_refusal (written f m) ≡ pairs_refusal f
  unfolding pairs_refusal
  pairs_refusal_stays =
      let a : all (in_place (written f m)) (pairs_of (written f m)) 0 ≡ all (in_place f) (pairs_of f) 0 =
      ap (λ (n : ℕ). all (in_place (written f m)) n 0) pairs_stay
      ∙ all_same (in_place (written f m)) (in_place f) (pairs_of f) 0 (λ i _ l. ap₂ eqb (offset_stays i (omega arith)) (start_stays i (omega arith))) in
      let b : start_of (written f m) (pairs_of (written f m)) ≡ start_of f (pairs_of f) = ap (start_of (written f m)) pairs_stay ∙ start_stays (pairs_of f) (omega arith) in
      rw (a, b, rewritten_length)

  sizes_stay : sizes_refusal (written f m) ≡ sizes_refusal f
  unfolding sizes_refusal
  sizes_stay = rw (length_stays 0 (omega (arith, fixed)), length_stays 1 (omega (arith, fixed)), length_stays 2 (omega (arith, fixed)), rights_stay)

  matrix_fits : matrix_refusal (rights_of (written f m)) (kinds_in (written f m)) (cells_in (written f m)) ≡ 0
  unfolding matrix_refusal cell_fits
  matrix_fits =
      let a : all (kind_fits (kinds_of m)) names 0 ≡ true = all_intro (kind_fits (kinds_of m)) names 0 (λ x _ _. le-leb (byte (kinds_of m) x) 2 (K.kinds_fit x)) in
      let b : all (cell_fits (rights_of f) (kinds_of m) (cells_of m)) (names * names) 0 ≡ true =
      all_intro (cell_fits (rights_of f) (kinds_of m) (cells_of m)) (names * names) 0 (λ c _ l. cell c (omega arith)) in
      rw (rights_stay, kinds_written, cells_written, a, b)
    where
      cell : (c : ℕ) → c < names * names → cell_fits (rights_of f) (kinds_of m) (cells_of m) c ≡ true
      cell c l =
          let at : names * (c / names) + c % names ≡ c = omega arith in
          rw (lt-ltb (byte (cells_of m) c) (2 ^ rights_of f) (K.cells_fit c))
          (go (inside (kinds_of m) (c / names) (c % names)) (λ t. subst (λ (z : ℕ). get_or (cells_of m) z 0 ≡ 0) at (K.outside (c / names) (c % names) (omega arith) (omega arith) t)))
        where
          go : (b : Bool) → (T (not b) → get_or (cells_of m) c 0 ≡ 0) → pick b true (eqb (byte (cells_of m) c) 0) ≡ true
          go true h = refl
          go false h = eq-eqb (byte (cells_of m) c) 0 (h tt)

  carries_refusal_stays : carries_refusal (rights_of (written f m)) (carries_in (written f m)) ≡ carries_refusal (rights_of f) (carries_in f)
  carries_refusal_stays = ap₂ carries_refusal rights_stay carries_stay

  commands_refusal_stays : (n i : ℕ) → i + n ≤ commands_of f → commands_refusal (written f m) n i ≡ commands_refusal f n i
  unfolding commands_refusal
  commands_refusal_stays zero i l = refl
  commands_refusal_stays (suc n) i l =
      ap₂ or_else (ap₂ command_refusal rights_stay (command_stays i (omega arith))) (commands_refusal_stays n (suc i) (omega arith))

  pub rewritten_accepted : refusal (written f m) ≡ 0
  unfolding refusal
  rewritten_accepted =
      rw (header_stays, A.header_passed, pairs_refusal_stays, A.pairs, sizes_stay, A.sizes, matrix_fits, carries_refusal_stays, A.carries)
      (ap (λ (n : ℕ). commands_refusal (written f m) n 0) commands_stay ∙ commands_refusal_stays (commands_of f) 0 (omega arith) ∙ A.commands_passed)

  table_stays : command_table (written f m) (commands_of (written f m)) ≡ command_table f (commands_of f)
  unfolding command_table
  table_stays =
      ap (λ (n : ℕ). tabulate (λ i. pick (ltb i n) (command_of (command_in (written f m) i)) no_command) commands 0) commands_stay
      ∙ tabulate_same (λ i. pick (ltb i (commands_of f)) (command_of (command_in (written f m) i)) no_command) (λ i. pick (ltb i (commands_of f)) (command_of (command_in f i)) no_command) commands 0
      (λ i _ _. go i (dec_lt i (commands_of f)))
    where
      go : (i : ℕ) → Dec (i < commands_of f) → pick (ltb i (commands_of f)) (command_of (command_in (written f m) i)) no_command ≡ pick (ltb i (commands_of f)) (command_of (command_in f i)) no_command
      go i (yes l) = ap (λ (p : List ℕ). pick (ltb i (commands_of f)) (command_of p) no_command) (command_stays i l)
      go i (no l) = rw (le-ltb i (commands_of f) (omega arith))

  pub system_written : file_system (written f m) ≡ file_system f
  unfolding policy_of
  system_written = rw (rights_stay, carries_stay, table_stays, commands_stay)
