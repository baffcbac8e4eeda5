-- The closing search at one cell. Assumes nothing.
use Prim.Native.Nat.{ℕ, ◌*◌, ◌/◌, ◌%◌, ◌<◌}
use mathlib.Core.Path.{◌≡◌, refl, sym, ap, ap₂, ◌∙◌}
use mathlib.Core.Bool.{Bool, true, false, not}
use mathlib.Core.List.{List, [], ◌∷◌}
use mathlib.Core.Option.{Option, none, some}
use Rattle.std.specs.Prelude.{Option as Answered, Some, None, is_some}
use native.Mathlib.Omega.{arith}
use Rattle.protection.specs.Limits.{names}
use Rattle.protection.specs.State.{State}
use Rattle.protection.specs.Command.{Call}
use Rattle.protection.specs.Execution.{take_out}
use Rattle.protection.specs.Judge.{both, is_empty}
use Rattle.matrix.specs.Matrices.{state_of}
use Rattle.matrix.specs.declared.Matrix.{Matrix}
use Rattle.masks.specs.declared.Tables.{Tables}
use Rattle.search.specs.Narrowing.{Says}
use Rattle.queries.specs.declared.Touch.{Touch}
use Rattle.policy.specs.Contents.{system_of}
use Rattle.policy.specs.declared.Policy.{Policy}
use Rattle.closing.specs.Asks.{LackingAt, left_in}
use Rattle.calls.specs.Calls.{call_of, Covers, first_touching, Lookable}
use Rattle.closing.specs.Closing.{pair_of, both_at, SoughtIn}
use Rattle.calls.specs.declared.Call.{Call as CodeCall}
use Rattle.closing.specs.declared.Pair.{Pair}
use Rattle.closing.specs.declared.Sought.{Sought}
use Rattle.calls.proofs.Looking.{none_covered}
use Rattle.closing.proofs.Lacking.{left_covers, out_lacks}

pub both_none : (x : Option Call) → both x none ≡ []
both_none none = refl
both_none (some x) = refl

-- ---- one cell
module _ (p : Policy) (w : Sought) (asks : List ℕ) (m : Matrix) (t : Tables) (K : SoughtIn p w asks m t) (c : ℕ) (l : c < names * names) where
  -- the two steps there
  abbrev step_at : Bool → Touch
  step_at enters = record { right = w.right; subject = c / names; object = c % names; enters = enters }

  pub cell_asked : (enters : Bool) → Lookable p w.name (step_at enters) m t
  cell_asked enters = record { closable = K.closable; name = K.name; row = omega arith; column = omega arith }

  abbrev st : State
  st = state_of m

  abbrev less : State
  less = take_out st w.right (c / names) (c % names)

  -- the commands that may have a call at the cell
  module _ (lacking : ℕ) (L : LackingAt asks p.carriers m.cells (c / names) (c % names) lacking) (left : ℕ) where
    pub covers_taken : Says left (left_in w.taking lacking) → Covers p w.name (step_at false) st left
    covers_taken E = left_covers p K.closable.fits K.closable.single w.name K.name m st (λ u v q e. e) asks K.asked_by (step_at false) lacking L w.taking left K.taken_by E

    module _ (E : Says left (left_in w.returning lacking)) where
      pub covers_returned : Covers p w.name (step_at true) less left
      covers_returned = left_covers p K.closable.fits K.closable.single w.name K.name m less (λ u v q e. out_lacks (system_of p) st w.right (c / names) (c % names) u v q e) asks K.asked_by
          (step_at true) lacking L w.returning left K.returned_by E

      pub cell_unreturned : left ≡ 0 → [] ≡ both_at (system_of p) w st c
      unfolding both_at first_touching
      cell_unreturned e = sym (ap (both (first_touching (system_of p) st (step_at false) w.name)) (none_covered p less w.name (step_at true) left covers_returned e)
          ∙ both_none (first_touching (system_of p) st (step_at false) w.name))

  pub cell_untaken : none ≡ first_touching (system_of p) st (step_at false) w.name → (z : Answered Pair) → z ≡ None → pair_of z ≡ both_at (system_of p) w st c
  unfolding both_at first_touching
  cell_untaken u z e = ap pair_of e ∙ ap (λ (y : Option Call). both y (first_touching (system_of p) less (step_at true) w.name)) u

  pub cell_not_back : none ≡ first_touching (system_of p) less (step_at true) w.name → (z : Answered Pair) → z ≡ None → pair_of z ≡ both_at (system_of p) w st c
  unfolding both_at first_touching
  cell_not_back v z e = ap pair_of e ∙ sym (both_none (first_touching (system_of p) st (step_at false) w.name)) ∙ ap (both (first_touching (system_of p) st (step_at false) w.name)) v

  pub cell_both : (a b : CodeCall) → some (call_of a) ≡ first_touching (system_of p) st (step_at false) w.name → some (call_of b) ≡ first_touching (system_of p) less (step_at true) w.name
      → call_of a ∷ call_of b ∷ [] ≡ both_at (system_of p) w st c
  unfolding both_at first_touching
  cell_both a b u v = ap₂ both u v

pub complete_is : (z : Answered Pair) → not (is_empty (pair_of z)) ≡ is_some z
complete_is None = refl
complete_is (Some z) = refl
