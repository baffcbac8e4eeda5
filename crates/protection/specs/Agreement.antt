-- The machine beside the paper's model: what document 01 asks of a call before the model is asked, and what it means that the two agree.
use Rattle.std.specs.Prelude.{◌≡◌, Bool, ◌↔◌, ℕ, T}
use Rattle.std.proofs.Math.Option.{some}
use Rattle.std.proofs.Math.ListN.{get_elem?}
use Rattle.cases.specs.Cases.{all}
use Rattle.protection.specs.Limits.{parameters}
use Rattle.protection.specs.State.{State}
use Rattle.protection.specs.Command.{Command, System, Call, actuals}
use Rattle.protection.specs.Execution.{actual_fits, refused, done, execute}
use Rattle.protection.specs.Paper.{Configuration, configuration, Same, ExecutesUnder}

-- not 11, "no such rule"; not 12, which "looks at named blanks and at positions from k on" (document 02, C-11): a name in each of the former, 255 in the latter
pub record Admitted (nameable : ℕ → Bool) (S : System) (x : Call) (C : Command) : Type 0 where
  pub found : get_elem? S.commands x.command ≡ some C
  pub fit : T (all (actual_fits nameable C (actuals x)) parameters 0)

pub record Agrees (nameable : ℕ → Bool) (S : System) (m : State) (x : Call) : Type 0 where
  -- a rule run that is done is one that the paper's relation executes, and it ends in the same configuration
  pub done_executes : (m' : State) (new : ℕ → Bool) → execute nameable S m x ≡ done m' new
      → (C : Command) × Admitted nameable S x C × ExecutesUnder S C (actuals x) (configuration m) (configuration m')
  -- one that the relation executes and document 01 admits is done, and it ends in the same configuration
  pub executes_done : (C : Command) (E : Configuration) → Admitted nameable S x C → ExecutesUnder S C (actuals x) (configuration m) E
      → (m' : State) × (new : ℕ → Bool) × (execute nameable S m x ≡ done m' new) × Same (configuration m') E
  -- it is refused exactly if the relation does not execute it or document 01 does not admit it
  pub refused_exactly : ((n : ℕ) × (execute nameable S m x ≡ refused n))
      ↔ ((C : Command) (E : Configuration) → Admitted nameable S x C → ExecutesUnder S C (actuals x) (configuration m) E → ⊥)
