-- What follows from `Settled`, from `Admitted` and from `Agrees` alone, a sentence for each field. Assumes nothing.
use mathlib.Core.Path.{◌≡◌, refl, sym, ap, subst}
use mathlib.Core.Bool.{Bool, not}
use mathlib.Core.Logic.{◌⊎◌, inl, inr, ⊎_elim}
use mathlib.Core.Option.{some}
use Prim.Native.Nat.{ℕ, ◌≤◌, ◌<◌}
use lib.Dec.{T, T_not}
use lib.ListN.{get_elem?}
use Rattle.protection.specs.Limits.{parameters, unused}
use Rattle.protection.specs.State.{State}
use Rattle.protection.specs.Size.{step_bound}
use Rattle.protection.specs.Command.{Command, System, Call, actuals, spare}
use Rattle.protection.specs.Execution.{Outcome, refused, done, execute}
use Rattle.protection.specs.Leak.{after}
use Rattle.protection.specs.Paper.{Configuration, configuration, Same, ExecutesUnder}
use Rattle.protection.specs.Judge.{Question, leak_beside, opened, round, rounds, conclude, all_rounds, judge_beside, Settled}
use Rattle.protection.specs.Agreement.{Admitted, Agrees}
use Rattle.protection.proofs.Spare.{fits_name, fits_rest}

-- where the question has not ended the rounds, another round does nothing
pub settled_still : (S : System) (Q : Question) (m : State) → Settled S Q m → T (not (all_rounds S Q m).ended) → round S Q (all_rounds S Q m) ≡ all_rounds S Q m
settled_still S Q m K going = ⊎_elim (λ t. absurd (T_not (all_rounds S Q m).ended going t)) (λ e. e) K.ends

-- a judge with more fuel is the same judge
pub any_fuel : (S : System) (R : ℕ → Bool) (r : ℕ) (m : State) → Settled S (leak_beside R r) m → (fuel : ℕ) → step_bound S.rights m ≤ fuel
    → conclude S R r m (rounds S (leak_beside R r) fuel (opened (leak_beside R r) m)) ≡ judge_beside S R r m
unfolding judge_beside
any_fuel S R r m K fuel l = ap (conclude S R r m) (K.enough fuel l)

module _ (nameable : ℕ → Bool) (S : System) (x : Call) (C : Command) (A : Admitted nameable S x C) where
  -- a call that is admitted is one of a command that is there
  pub admitted_there : get_elem? S.commands x.command ≡ some C
  admitted_there = A.found

  -- each parameter that is not spare gets a name
  pub admitted_name : C.parameters ≤ parameters → (b : ℕ) → b < C.parameters → T (not (spare C b)) → T (nameable (actuals x b))
  admitted_name = fits_name nameable C (actuals x) A.fit

  -- and each position from k on holds 255
  pub admitted_rest : (b : ℕ) → C.parameters ≤ b → b < parameters → actuals x b ≡ unused
  admitted_rest = fits_rest nameable C (actuals x) A.fit

module _ (nameable : ℕ → Bool) (S : System) (m : State) (x : Call) (A : Agrees nameable S m x) where
  -- what the machine leaves of the call
  abbrev left : State
  left = after (execute nameable S m x) m

  abbrev Refused : Type 0
  Refused = (n : ℕ) × (execute nameable S m x ≡ refused n)

  -- document 01 admits the call, and the relation executes the command to E
  abbrev ExecutedTo : Configuration → Type 0
  ExecutedTo E = (C : Command) × Admitted nameable S x C × ExecutesUnder S C (actuals x) (configuration m) E

  -- a call is refused, or the relation executes it to what the machine leaves
  pub refused_or_executed : Refused ⊎ ExecutedTo (configuration left)
  refused_or_executed = go (execute nameable S m x) refl
    where
      go : (o : Outcome) → execute nameable S m x ≡ o → Refused ⊎ ExecutedTo (configuration left)
      go (refused n) e = inl (n, e)
      go (done m' new) e = inr (subst (λ (o : Outcome). ExecutedTo (configuration (after o m))) (sym e) (A.done_executes m' new e))

  -- and to nothing else
  pub executed_to_left : (E : Configuration) → ExecutedTo E → Same (configuration left) E
  executed_to_left E y =
      let d = A.executes_done y.0 E y.1 y.2 in
      subst (λ (o : Outcome). Same (configuration (after o m)) E) (sym d.2) d.3

  -- never both
  pub never_both : Refused → (E : Configuration) → ExecutedTo E → ⊥
  never_both R E y = A.refused_exactly.0 R y.0 E y.1 y.2

  -- and where the relation does nothing, it is refused
  pub refused_else : ((E : Configuration) → ExecutedTo E → ⊥) → Refused
  refused_else f = A.refused_exactly.1 (λ C E a y. f E (C, a, y))
