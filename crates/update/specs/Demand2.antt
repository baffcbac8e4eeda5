-- Demand 2: a rule run on a file is the model's (document 000, section III), with conditions read over what rights carry (document 02, C-19), all its steps or
-- none, and is refused exactly where the model does not execute it or document 01 does not admit it. Without carries the relation is the paper's
-- (`plain-demand2`).
use Rattle.std.specs.Prelude.{ℕ, ◌≡◌, List}
use Rattle.protection.specs.Command.{Command, Call, actuals}
use Rattle.protection.specs.Execution.{bounded}
use Rattle.protection.specs.Paper.{Configuration, configuration, Same, ExecutesUnder}
use Rattle.protection.specs.Agreement.{Admitted}
use Rattle.policy.specs.Refusals.{refusal}
use Rattle.policy.specs.Contents.{file_state, file_system}

-- of the file f before, the call x, the answer r and the file f' after
pub record Demand2 (f : List ℕ) (x : Call) (r : ℕ) (f' : List ℕ) : Type 0 where
  -- "Whoever wrote the file, in every call, first"; "A refusal returns its number .. and changes no lent byte."
  pub bad_file : (refusal f ≡ 0 → ⊥) → (r ≡ refusal f) × (f' ≡ f)
  -- done, "returns 0": the relation executes the command, to the configuration that the new file holds
  pub done_executes : refusal f ≡ 0 → r ≡ 0
      → (C : Command) × Admitted bounded (file_system f) x C × ExecutesUnder (file_system f) C (actuals x) (configuration (file_state f)) (configuration (file_state f'))
  -- what the relation executes and document 01 admits is done, to the same configuration
  pub executes_done : refusal f ≡ 0 → (C : Command) (E : Configuration) → Admitted bounded (file_system f) x C → ExecutesUnder (file_system f) C (actuals x) (configuration (file_state f)) E
      → (r ≡ 0) × Same (configuration (file_state f')) E
  -- "If a step cannot be done the whole rule is refused": no byte changed, and the relation does not execute it or document 01 does not admit it
  pub refused_why : refusal f ≡ 0 → (r ≡ 0 → ⊥)
      → (f' ≡ f) × ((C : Command) (E : Configuration) → Admitted bounded (file_system f) x C → ExecutesUnder (file_system f) C (actuals x) (configuration (file_state f)) E → ⊥)
  -- "writes only kinds and cells": the file stays accepted, with the same rules
  pub stays : refusal f ≡ 0 → (refusal f' ≡ 0) × (file_system f' ≡ file_system f)
