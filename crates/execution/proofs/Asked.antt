-- The tests before the first operation, in the words of the model. Assumes nothing.
use Prim.Native.Nat.{ℕ, zero, suc, ◌+◌, ◌*◌, ◌≤◌, ◌<◌}
use mathlib.Core.Path.{◌≡◌, refl, sym, ap, ap₂, ◌∙◌}
use mathlib.Core.Bool.{Bool, true, false, not, ◌&&◌, ◌||◌, or-false}
use mathlib.Core.List.{List}
use borrow.Author.Tests.{lt-ltb, le-ltb}
use lib.Bits.{bit_and}
use lib.Dec.{eqb}
use lib.ListN.{length, get_or}
use Rattle.std.specs.Bool.{MatchBool}
use Rattle.std.specs.List.{AllWithin, HoldsAt, range_with_len}
use Rattle.cases.specs.Cases.{pick, all, tabulate}
use Rattle.cases.proofs.Slices.{all_of_range}
use Rattle.rights.specs.Rights.{has}
use Rattle.protection.specs.Limits.{names, rights, unused}
use Rattle.protection.specs.State.{State}
use Rattle.protection.specs.Command.{System, named, values_of}
use Rattle.protection.specs.Carrying.{meets}
use Rattle.protection.specs.Execution.{bounded, holds, hold_all, actual_fits}
use Rattle.matrix.specs.Bytes.{inside, rights_in, view}
use Rattle.commands.specs.Contents.{condition_of, meaning}
use Rattle.commands.specs.declared.Command.{Command}
use Rattle.execution.specs.Conditions.{HeldBy, AllHeldBy}

-- ---- actuals
module _ (c : Command) (a : List ℕ) (b : ℕ) where
  pub fits_unused : (r : Bool) → r ≡ eqb (get_or a b 0) unused → c.parameters ≤ b → r ≡ actual_fits bounded (meaning c) (values_of a) b
  fits_unused r d l = d ∙ rw (le-ltb b c.parameters l)

  pub fits_name : get_or a b 0 < names → b < c.parameters → true ≡ actual_fits bounded (meaning c) (values_of a) b
  fits_name h l = rw (lt-ltb b c.parameters l, lt-ltb (get_or a b 0) names h) (go (named (meaning c) b))
    where
      go : (n : Bool) → true ≡ not n || true
      go true = refl
      go false = refl

  pub fits_spare : (r : Bool) → r ≡ named (meaning c) b → names ≤ get_or a b 0 → b < c.parameters → not r ≡ actual_fits bounded (meaning c) (values_of a) b
  fits_spare r d h l = rw (lt-ltb b c.parameters l, le-ltb (get_or a b 0) names h, or-false (not (named (meaning c) b))) (ap not d)

-- ---- conditions
module _ (ks cs carriers a : List ℕ) (c : Command) (j x y : ℕ) (ex : x ≡ get_or a (get_or c.condition (3 * j + 1) 0) 0) (ey : y ≡ get_or a (get_or c.condition (3 * j + 2) 0) 0)
    (b : Bool) (d : b ≡ inside ks x y) where
  at_names : (S : System) → holds S (view ks cs) (values_of a) (condition_of c j) ≡ inside ks x y && meets S (rights_in ks cs x y) (get_or c.condition (3 * j) 0)
  at_names S = ap₂ (λ (s o : ℕ). inside ks s o && meets S (rights_in ks cs s o) (get_or c.condition (3 * j) 0)) (sym ex) (sym ey)

  -- of a cell that has a row and a column
  pub condition_met : b ≡ true → get_or c.condition (3 * j) 0 < rights → (r : Bool) → r ≡ not (eqb (bit_and (get_or cs (32 * x + y) 0) (get_or carriers (get_or c.condition (3 * j) 0) 0)) 0)
      → HeldBy ks cs carriers a c j r
  condition_met t l r e =
      let z : inside ks x y ≡ true = sym d ∙ t in
      record {
        is = λ S M. e ∙ sym (at_names S ∙ ap (λ (w : Bool). w && meets S (λ q. elim w [ true ↦ has (get_or cs (32 * x + y) 0) q | false ↦ false ]) (get_or c.condition (3 * j) 0)) z
            ∙ M.cell (get_or cs (32 * x + y) 0) (get_or c.condition (3 * j) 0) l);
      }

  -- no other meets any
  pub condition_lacks : b ≡ false → HeldBy ks cs carriers a c j b
  condition_lacks t = let z : inside ks x y ≡ false = sym d ∙ t in record { is = λ S M. t ∙ sym (at_names S ∙ rw z) }

-- ---- all conditions
each_held : (S : System) (m : State) (f : ℕ → ℕ) (c : Command) (n j : ℕ) → all (λ (i : ℕ). holds S m f (condition_of c i)) n j ≡ hold_all S m f (tabulate (condition_of c) n j)
unfolding all
each_held S m f c zero j = refl
each_held S m f c (suc n) j = both (holds S m f (condition_of c j)) _ ∙ ap (λ (b : Bool). holds S m f (condition_of c j) && b) (each_held S m f c n (suc j))
  where
    both : (b c : Bool) → pick b c false ≡ b && c
    both true c = refl
    both false c = refl

module _ (ks cs carriers a : List ℕ) (c : Command) where
  -- an answer about each of them, in every system, is one about all
  pub held_each : (r : Bool) → MatchBool r (AllWithin (λ (j : ℕ). HeldBy ks cs carriers a c j true) (range_with_len 0 c.conditions) 0 (length (range_with_len 0 c.conditions)))
      ((k : ℕ) × (k < length (range_with_len 0 c.conditions)) × HoldsAt (λ (j : ℕ). HeldBy ks cs carriers a c j false) (range_with_len 0 c.conditions) k)
      → AllHeldBy ks cs carriers a c r
  held_each r h =
      record {
        is = λ S M. all_of_range (λ (j : ℕ). holds S (view ks cs) (values_of a) (condition_of c j)) (λ (j : ℕ). HeldBy ks cs carriers a c j true) (λ (j : ℕ). HeldBy ks cs carriers a c j false) 0 c.conditions r
            (λ j l k H. sym (H.is S M)) (λ j l k H. sym (H.is S M)) h ∙ each_held S (view ks cs) (values_of a) c c.conditions 0;
      }
