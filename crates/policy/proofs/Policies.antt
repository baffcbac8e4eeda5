-- What the reader of a file hands out. Assumes nothing.
use Prim.Native.Nat.{ℕ, suc, ◌+◌, ◌-◌, ◌*◌, ◌≤◌, ◌<◌}
use mathlib.Core.Path.{◌≡◌, refl, sym, ap, ap₂, ◌∙◌}
use mathlib.Core.Bool.{false}
use mathlib.Core.List.{List}
use native.Mathlib.Decide.{dec_lt}
use native.Mathlib.Numerals.{add-one}
use native.Mathlib.Omega.{arith}
use borrow.Author.Tests.{ne_eqb, lt-ltb, le-ltb}
use lib.Dec.{eqb, ltb}
use lib.ListN.{length, get_or, set, take, drop, replicate, length-set, length-drop, length-replicate}
use lib.Seq.{ext_get_or, get_or-set_same, get_or-set_other, take_all, length-take-le}
use Rattle.cases.specs.Cases.{pick, tabulate}
use Rattle.cases.proofs.Lists.{length_tabulate, get_d_tabulate}
use Rattle.rights.specs.Bytes.{set_bytes, sets_in}
use Rattle.protection.specs.Limits.{names, commands}
use Rattle.matrix.specs.declared.Matrix.{Matrix}
use Rattle.matrix.specs.Matrices.{empty_matrix}
use Rattle.layout.specs.File.{byte, rights_of, offset_of, length_of, section, kinds_in, cells_in, carries_in, fixed_pairs, command_in}
use Rattle.layout.specs.Refusals.{or_else, header_refusal, pairs_refusal, sizes_refusal}
use Rattle.commands.specs.Refusals.{command_refusal}
use Rattle.matrix.specs.Refusals.{matrix_refusal}
use Rattle.policy.specs.Refusals.{commands_refusal}
use Rattle.policy.specs.Layout.{SectionInside, MatrixInside, CommandsInside}
use Rattle.carries.specs.Refusals.{carries_refusal}
use Rattle.carries.specs.Closed.{carried_of, carriers_of}
use Rattle.commands.specs.Contents.{no_command, command_of}
use Rattle.policy.specs.Contents.{command_table, matrix_in, policy_of}
use Rattle.layout.proofs.Accepted.{HeaderFits, header_accepted, pairs_accepted, sizes_accepted}
use Rattle.commands.specs.declared.Command.{Command}
use Rattle.policy.specs.declared.Policy.{Policy}

-- ---- the matrix
-- the cells' section has the length to which it is cut
section_length : (f : List ℕ) (i : ℕ) → offset_of f i + length_of f i ≤ length f → length (section f i) ≡ length_of f i
section_length f i h = length-take-le (length_of f i) (drop (offset_of f i) f) (omega (arith, h, length-drop (offset_of f i) f))

module _ (f : List ℕ) (h : MatrixInside f) (b : List ℕ) (is : b ≡ section f 1) where
  long : length b ≡ set_bytes * (names * names)
  long = let e = section_length f 1 h.cells_end in let z : length b ≡ length (section f 1) = rw is in omega (arith, e, z, h.cells_size)

  cells_cut : take (set_bytes * (names * names)) b ≡ b
  cells_cut = take_all (set_bytes * (names * names)) b (omega (arith, long))

  pub cells_length : set_bytes * (names * names) ≡ length (take (set_bytes * (names * names)) b)
  cells_length = let z : length (take (set_bytes * (names * names)) b) ≡ length b = rw cells_cut in omega (arith, long, z)

  -- the kinds' section, and the sets of the cells' section in the place of those of no name
  pub matrix_is : (m : Matrix) → m ≡ empty_matrix → (ks cs : List ℕ) → ks ≡ section f 0 → cs ≡ sets_in (length m.cells) (take (set_bytes * (names * names)) b) → ◌≡◌ {A = Matrix} (record { kinds = ks; cells = cs }) (matrix_in f)
  matrix_is m e ks cs k c =
      let n : length m.cells ≡ names * names = ap (λ (x : Matrix). length x.cells) e ∙ length-replicate {A = ℕ} (names * names) 0 in
      let z : cs ≡ cells_in f = c ∙ ap₂ sets_in n (cells_cut ∙ is) in
      rw (k, z)

-- ---- the commands
abbrev table_at : List ℕ → ℕ → ℕ → Command
table_at f n i = pick (ltb i n) (command_of (command_in f i)) no_command

pub table_start : (f : List ℕ) (c : Command) → c ≡ no_command → replicate commands c ≡ command_table f 0
unfolding command_table
table_start f c e = rw e

table_set : (f : List ℕ) (i : ℕ) → i < commands → set (command_table f i) i (command_of (command_in f i)) ≡ command_table f (i + 1)
unfolding command_table
table_set f i h =
    ext_get_or no_command (set (tabulate (table_at f i) commands 0) i (command_of (command_in f i))) (tabulate (table_at f (i + 1)) commands 0)
    (length-set (tabulate (table_at f i) commands 0) i (command_of (command_in f i)) ∙ length_tabulate (table_at f i) commands 0 ∙ sym (length_tabulate (table_at f (i + 1)) commands 0))
    (λ j l. at j (omega (arith, length-set (tabulate (table_at f i) commands 0) i (command_of (command_in f i)), length_tabulate (table_at f i) commands 0)) (dec_lt j i) (dec_lt i j))
  where
    long : length (tabulate (table_at f i) commands 0) ≡ commands
    long = length_tabulate (table_at f i) commands 0

    at : (j : ℕ) → j < commands → Dec (j < i) → Dec (i < j)
        → get_or (set (tabulate (table_at f i) commands 0) i (command_of (command_in f i))) j no_command ≡ get_or (tabulate (table_at f (i + 1)) commands 0) j no_command
    at j l (yes a) b =
        get_or-set_other (tabulate (table_at f i) commands 0) i j (command_of (command_in f i)) no_command (λ e. omega arith)
        ∙ get_d_tabulate (table_at f i) no_command commands 0 j l
        ∙ rw (lt-ltb (0 + j) i (omega arith), get_d_tabulate (table_at f (i + 1)) no_command commands 0 j l, lt-ltb (0 + j) (i + 1) (omega arith))
    at j l (no a) (yes b) =
        get_or-set_other (tabulate (table_at f i) commands 0) i j (command_of (command_in f i)) no_command (λ e. omega arith)
        ∙ get_d_tabulate (table_at f i) no_command commands 0 j l
        ∙ rw (le-ltb (0 + j) i (omega arith), get_d_tabulate (table_at f (i + 1)) no_command commands 0 j l, le-ltb (0 + j) (i + 1) (omega arith))
    at j l (no a) (no b) =
        let e : j ≡ i = omega arith in
        let z : 0 + i ≡ i = omega arith in
        rw e (get_or-set_same (tabulate (table_at f i) commands 0) i (command_of (command_in f i)) no_command (omega (arith, long))
        ∙ sym (get_d_tabulate (table_at f (i + 1)) no_command commands 0 i h ∙ rw (lt-ltb (0 + i) (i + 1) (omega arith), z)))

-- ---- refusals one behind the other: the first that refuses gives the number
pub or_stop : (r a b : ℕ) → r ≡ a → 0 < r → r ≡ or_else a b
or_stop r a b e ne = let z : eqb r 0 ≡ false = ne_eqb r 0 (λ q. omega arith) in rw (← e, z)

pub or_next : (r a b : ℕ) → 0 ≡ a → r ≡ b → r ≡ or_else a b
or_next r a b z e = rw (← z) e

-- ---- one turn of the reader's loop
module _ (f : List ℕ) (g n i r : ℕ) (d : g ≡ rights_of f) (e : r ≡ command_refusal g (command_in f i)) (h : i < n) where
  refusal_is : command_refusal (rights_of f) (command_in f i) ≡ r
  refusal_is = sym (e ∙ ap (λ (z : ℕ). command_refusal z (command_in f i)) d)

  unrolled : commands_refusal f (n - i) i ≡ or_else r (commands_refusal f (n - (i + 1)) (i + 1))
  unfolding commands_refusal
  unrolled = let z : n - i ≡ suc (n - (i + 1)) = omega arith in rw (z, add-one i, refusal_is)

  pub commands_stop : 0 < r → commands_refusal f (n - i) i ≡ commands_refusal f n 0 → r ≡ commands_refusal f n 0
  commands_stop ne q = or_stop r r (commands_refusal f (n - (i + 1)) (i + 1)) refl ne ∙ sym unrolled ∙ q

  pub commands_more : r ≡ 0 → commands_refusal f (n - i) i ≡ commands_refusal f n 0 → commands_refusal f (n - (i + 1)) (i + 1) ≡ commands_refusal f n 0
  commands_more z q = or_next (commands_refusal f (n - (i + 1)) (i + 1)) r (commands_refusal f (n - (i + 1)) (i + 1)) (sym z) refl ∙ sym unrolled ∙ q

pub table_more : (f : List ℕ) (i n : ℕ) (t : List Command) (c : Command) → n ≤ commands → i < n → c ≡ command_of (command_in f i) → t ≡ command_table f i → set t i c ≡ command_table f (i + 1)
table_more f i n t c few h e q = ap₂ (λ (a : List Command) (b : Command). set a i b) q e ∙ table_set f i (omega arith)

pub commands_end : (f : List ℕ) (n i : ℕ) → n ≤ i → commands_refusal f (n - i) i ≡ commands_refusal f n 0 → 0 ≡ commands_refusal f n 0
unfolding commands_refusal
commands_end f n i h e = let k : n - i ≡ 0 = omega arith in ap (λ (y : ℕ). commands_refusal f y i) (sym k) ∙ e

-- ---- the whole file: what each stage may rest on
pub header_fits : (f : List ℕ) → 0 ≡ header_refusal f → HeaderFits f
header_fits f z = header_accepted f (sym z)

module _ (f : List ℕ) (zh : 0 ≡ header_refusal f) (zp : 0 ≡ pairs_refusal f) (zs : 0 ≡ sizes_refusal f) where
  pub matrix_inside : MatrixInside f
  matrix_inside =
      let k = (header_fits f zh).fixed-pairs in let l = (header_fits f zh).table in
      let z = sizes_accepted f (sym zs) in
      record {
        pairs = omega arith;
        kinds_size = z.0;
        cells_size = z.1;
        kinds_end = pairs_accepted f (sym zp) 0 (omega arith);
        cells_end = pairs_accepted f (sym zp) 1 (omega arith);
      }

  pub carries_inside : SectionInside f 2
  carries_inside =
      let k = (header_fits f zh).fixed-pairs in let l = (header_fits f zh).table in
      record { pair = omega arith; end = pairs_accepted f (sym zp) 2 (omega arith) }

  pub commands_inside : CommandsInside f (byte f 1 - fixed_pairs)
  commands_inside =
      let k = (header_fits f zh).few_pairs in let l = (header_fits f zh).table in
      record {
        few = omega arith;
        all = λ i lt. record { pair = omega arith; end = pairs_accepted f (sym zp) (fixed_pairs + i) (omega arith) };
      }

-- ---- and what it answers: the matrix and the carries are those of the file
pub matrix_refuses : (f : List ℕ) (m : Matrix) (r : ℕ) → m ≡ matrix_in f → r ≡ matrix_refusal (rights_of f) m.kinds m.cells → r ≡ matrix_refusal (rights_of f) (kinds_in f) (cells_in f)
matrix_refuses f m r d e = e ∙ ap (λ (z : Matrix). matrix_refusal (rights_of f) z.kinds z.cells) d

pub carries_refuse : (f a : List ℕ) (r : ℕ) → a ≡ carries_in f → r ≡ carries_refusal (rights_of f) a → r ≡ carries_refusal (rights_of f) (carries_in f)
carries_refuse f a r d e = e ∙ ap (carries_refusal (rights_of f)) d

pub all_read : (f : List ℕ) (m : Matrix) (a v w : List ℕ) (t : List Command) → m ≡ matrix_in f → a ≡ carries_in f → v ≡ carried_of (byte f 0) a
    → ((g : ℕ) (l : List ℕ) → v ≡ carried_of g l → w ≡ carriers_of g l) → t ≡ command_table f (byte f 1 - fixed_pairs)
    → ◌≡◌ {A = Policy} (record { rights = byte f 0; commands = byte f 1 - fixed_pairs; matrix = m; carries = a; carried = v; carriers = w; command = t }) (policy_of f)
unfolding policy_of
all_read f m a v w t dm da dv dw dt = let y : w ≡ carriers_of (byte f 0) a = dw (byte f 0) a dv in rw (dm, dt, y, dv, da)
