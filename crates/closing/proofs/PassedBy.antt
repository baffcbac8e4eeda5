-- The commands that enter a right, or delete it: the others have no call for the closing search. Assumes nothing.
use Prim.Native.Nat.{ℕ, ◌+◌, ◌*◌, ◌%◌, ◌^◌, ◌≤◌, ◌<◌}
use mathlib.Core.Path.{◌≡◌, refl, sym, ap, ap₂, ◌∙◌, subst}
use mathlib.Core.Bool.{Bool, true, false, not, ◌&&◌}
use mathlib.Core.Option.{none, some}
use native.Mathlib.Omega.{arith}
use native.Mathlib.Decide.{dec_lt}
use borrow.Author.Tests.{le-ltb}
use lib.Bits.{bit_or}
use lib.Dec.{eqb, ltb}
use lib.ListN.{get_or}
use Rattle.cases.specs.Cases.{pick}
use Rattle.rights.specs.Rights.{has, insert}
use Rattle.rights.proofs.Bits.{one_shl}
use Rattle.rights.proofs.Sets.{has_insert_same, has_insert_other, has_none}
use Rattle.protection.specs.Limits.{names, rights}
use Rattle.protection.specs.State.{State}
use Rattle.protection.specs.Command.{Operation as ModelOperation, Command as ModelCommand, System, Actuals}
use Rattle.protection.specs.Judge.{first_in, places_of, call_at, deletes_at, enters_at}
use Rattle.commands.specs.Contents.{missing, operation_at, step_of, meaning}
use Rattle.commands.specs.Fits.{Fits}
use Rattle.commands.specs.declared.Command.{Command}
use Rattle.commands.specs.declared.Operation.{Operation}
use Rattle.commands.specs.declared.Operation.TheVariants as code
use Rattle.commands.specs.Steps.{StepRead, Enter, Delete, CreateSubject, CreateObject, DestroySubject, DestroyObject, Refused}
use Rattle.commands.proofs.Reading.{fits_wider, model_by}
use Rattle.queries.specs.Useful.{doable, names_of_place, touched_by, touches_at, Tried}
use Rattle.queries.specs.declared.Touch.{Touch}
use Rattle.queries.proofs.Shapes.{operation_is}
use Rattle.queries.proofs.Closing.{none_at_all}
use Rattle.policy.specs.Contents.{system_of}
use Rattle.policy.specs.Fits.{PolicyFits}
use Rattle.policy.specs.declared.Policy.{Policy}
use Rattle.visits.specs.Engine.{SingleSteps}
use Rattle.calls.proofs.Looking.{command_tried}
use Rattle.calls.specs.Calls.{place_touching, touching_in, Covers}
use Rattle.closing.specs.Closing.{concerns_right, concerns_in, ConcernedBy}

-- ---- for `concerns`
pub concerns_enter : (enters : Bool) (r q x y : ℕ) (op : Operation) (b : Bool) → op ≡ code.Enter q x y → enters ≡ true → b ≡ eqb q r → b ≡ concerns_right enters r (step_of op)
concerns_enter enters r q x y op b f e d = d ∙ sym (ap₂ (λ (u : Bool) (w : Operation). concerns_right u r (step_of w)) e f)

pub concerns_delete : (enters : Bool) (r q x y : ℕ) (op : Operation) (b : Bool) → op ≡ code.Delete q x y → enters ≡ false → b ≡ eqb q r → b ≡ concerns_right enters r (step_of op)
concerns_delete enters r q x y op b f e d = d ∙ sym (ap₂ (λ (u : Bool) (w : Operation). concerns_right u r (step_of w)) e f)

pub concerns_not_enter : (enters : Bool) (r q x y : ℕ) (op : Operation) → op ≡ code.Enter q x y → enters ≡ false → enters ≡ concerns_right enters r (step_of op)
concerns_not_enter enters r q x y op f e = e ∙ sym (ap₂ (λ (u : Bool) (w : Operation). concerns_right u r (step_of w)) e f)

pub concerns_not_delete : (enters : Bool) (r q x y : ℕ) (op : Operation) → op ≡ code.Delete q x y → enters ≡ true → not enters ≡ concerns_right enters r (step_of op)
concerns_not_delete enters r q x y op f e = ap not e ∙ sym (ap₂ (λ (u : Bool) (w : Operation). concerns_right u r (step_of w)) e f)

pub concerns_other : (enters : Bool) (r : ℕ) (op : Operation) → ((q x y : ℕ) → op ≡ code.Enter q x y → ⊥) → ((q x y : ℕ) → op ≡ code.Delete q x y → ⊥) → false ≡ concerns_right enters r (step_of op)
concerns_other enters r (code.Enter q x y) f g = absurd (f q x y refl)
concerns_other enters r (code.Delete q x y) f g = absurd (g q x y refl)
concerns_other enters r (code.CreateSubject x) f g = refl
concerns_other enters r (code.CreateObject x) f g = refl
concerns_other enters r (code.DestroySubject x) f g = refl
concerns_other enters r (code.DestroyObject x) f g = refl

-- ---- the loop of `concerned`
module _ (p : Policy) (enters : Bool) (r : ℕ) where
  pub record Concerning (mask i : ℕ) : Type 0 where
    pub fits : PolicyFits p
    pub within : i ≤ p.commands
    pub done : (j : ℕ) → j < i → has mask j ≡ concerns_in p enters r j
    pub rest : (j : ℕ) → i ≤ j → has mask j ≡ false

  pub concerning_start : PolicyFits p → Concerning 0 0
  concerning_start F = record { fits = F; within = omega arith; done = λ j h. absurd (omega arith); rest = λ j h. has_none j }

  pub concerning_end : (mask i : ℕ) → Concerning mask i → p.commands ≤ i → ConcernedBy p enters r mask
  concerning_end mask i K l = record { says = λ j h. K.done j (omega arith) }

  module _ (mask i : ℕ) (K : Concerning mask i) (l : i < p.commands) where
    pub concerning_number : i < 32
    concerning_number = omega (arith, K.fits.few_commands)

    pub concerning_fits : (c : Command) → c ≡ get_or p.command i missing → Fits rights c × (0 < c.operations)
    concerning_fits c e =
        let F = fits_wider p.rights rights (get_or p.command i missing) K.fits.few_rights (K.fits.commands_fit i l) in
        (subst (Fits rights) (sym e) F, subst (λ (d : Command). 0 < d.operations) (sym e) F.some_operation)

    module _ (c : Command) (e : c ≡ get_or p.command i missing) (op : Operation) (f : step_of op ≡ operation_at c 0) (b : Bool) (d : b ≡ concerns_right enters r (step_of op)) where
      told : b ≡ concerns_in p enters r i
      unfolding concerns_in
      told = d ∙ ap (concerns_right enters r) (f ∙ ap (λ (w : Command). operation_at w 0) e)

      more : (mask' : ℕ) → ((j : ℕ) → j < i → has mask' j ≡ has mask j) → has mask' i ≡ b → ((j : ℕ) → i + 1 ≤ j → has mask' j ≡ false) → Concerning mask' (i + 1)
      more mask' same here rest = record { fits = K.fits; within = omega arith; done = λ j h. by j h (dec_lt j i); rest = rest }
        where
          by : (j : ℕ) → j < i + 1 → Dec (j < i) → has mask' j ≡ concerns_in p enters r j
          by j h (yes k) = same j k ∙ K.done j k
          by j h (no k) = let e : j ≡ i = omega arith in rw e (here ∙ told)

      pub concerning_yes : b ≡ true → (mask' : ℕ) → mask' ≡ bit_or mask ((1 * 2 ^ i) % 2 ^ 32) → Concerning mask' (i + 1)
      concerning_yes t mask' z = rw (z, one_shl 32 i concerning_number) (more (insert mask i) (λ (j : ℕ) (h : j < i). has_insert_other mask i j (λ z. omega arith)) (has_insert_same mask i ∙ sym t)
          (λ (j : ℕ) (h : i + 1 ≤ j). has_insert_other mask i j (λ z. omega arith) ∙ K.rest j (omega arith)))

      pub concerning_no : b ≡ false → (mask' : ℕ) → mask' ≡ mask → Concerning mask' (i + 1)
      concerning_no t mask' z = rw z (more mask (λ j h. refl) (K.rest i (omega arith) ∙ sym t) (λ (j : ℕ) (h : i + 1 ≤ j). K.rest j (omega arith)))

-- ---- a command that is passed by
untouched : (b : Bool) (r s o : ℕ) (op : StepRead) → concerns_right b r op ≡ false → (a : Actuals) → pick b (enters_at r s o a (model_by op)) (deletes_at r s o a (model_by op)) ≡ false
untouched true r s o (Enter q x y) e a = ap (λ (u : Bool). (u && eqb (a x) s) && eqb (a y) o) e
untouched false r s o (Enter q x y) e a = refl
untouched true r s o (Delete q x y) e a = refl
untouched false r s o (Delete q x y) e a = ap (λ (u : Bool). (u && eqb (a x) s) && eqb (a y) o) e
untouched true r s o (CreateSubject x) e a = refl
untouched false r s o (CreateSubject x) e a = refl
untouched true r s o (CreateObject x) e a = refl
untouched false r s o (CreateObject x) e a = refl
untouched true r s o (DestroySubject x) e a = refl
untouched false r s o (DestroySubject x) e a = refl
untouched true r s o (DestroyObject x) e a = refl
untouched false r s o (DestroyObject x) e a = refl
untouched true r s o Refused e a = refl
untouched false r s o Refused e a = refl

-- where no place qualifies, there is no call
pub never_touching : (S : System) (m : State) (w : Touch) (n i : ℕ) (C : ModelCommand) → ((p : ℕ) → touches_at S m w C n p ≡ false) → touching_in S m w n i C ≡ none
unfolding touching_in place_touching
never_touching S m w n i C never =
    ap (λ (u : Bool). pick u (some (call_at i C n (first_in (touches_at S m w C n) (places_of C n) 0))) none)
    (ap (λ (k : ℕ). ltb k (places_of C n)) (sym (none_at_all (touches_at S m w C n) never (places_of C n) (places_of C n) refl))
    ∙ le-ltb (places_of C n) (places_of C n) (omega arith))

pub nothing_touching : (S : System) (m : State) (w : Touch) (n i : ℕ) (c : Command) → Tried c n → concerns_right w.enters w.right (operation_at c 0) ≡ false → touching_in S m w n i (meaning c) ≡ none
nothing_touching S m w n i c H e = never_touching S m w n i (meaning c) (λ p.
    let a = names_of_place (meaning c) n p in
    ap (λ (v : ModelOperation). elim (touched_by w a v) [ true ↦ doable S (meaning c) m a | false ↦ false ]) (operation_is c n H)
    ∙ ap (λ (u : Bool). elim u [ true ↦ doable S (meaning c) m a | false ↦ false ]) (untouched w.enters w.right w.subject w.object (operation_at c 0) e a))

pub concerned_covers : (p : Policy) → PolicyFits p → SingleSteps p → (n : ℕ) → n ≤ names → (w : Touch) (m : State) (which : ℕ) → ConcernedBy p w.enters w.right which → Covers p n w m which
unfolding concerns_in
concerned_covers p F single n small w m which W = record {
  none_else = λ (i : ℕ) (l : i < p.commands) (e : has which i ≡ false).
      nothing_touching (system_of p) m w n i (get_or p.command i missing) (command_tried p F single n small i l (get_or p.command i missing) refl) (sym (W.says i l) ∙ e);
}
