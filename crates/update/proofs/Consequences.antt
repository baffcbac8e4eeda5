-- What follows from demand 2 alone, and from the promise of a rule run alone, whatever the answer and the file after it: at least a sentence for each field.
-- Assumes nothing.
use Prim.Native.Nat.{ℕ, ◌≤◌, ◌<◌}
use mathlib.Core.Path.{◌≡◌, refl, sym, ◌∙◌}
use mathlib.Core.List.{List}
use mathlib.Core.Logic.{◌↔◌, ◌⊎◌, inl, inr}
use mathlib.Core.Option.{some}
use native.Mathlib.Decide.{ℕ_discrete}
use mathlib.Core.Bool.{false, not}
use lib.Dec.{T, ltb→lt}
use lib.ListN.{get_or, get_elem?}
use Rattle.protection.specs.Limits.{names, parameters}
use Rattle.protection.specs.Command.{Command, Call, Actuals, actuals, spare}
use Rattle.protection.specs.Execution.{bounded}
use Rattle.protection.specs.Paper.{Configuration, configuration, Same, Executes, ExecutesUnder}
use Rattle.protection.specs.Agreement.{Admitted}
use Rattle.protection.proofs.Consequences.{admitted_name}
use Rattle.protection.proofs.Carrying.{executes_plain}
use Rattle.rights.specs.Rights.{has}
use Rattle.rights.proofs.Sets.{has_none}
use Rattle.layout.specs.File.{carries_in}
use Rattle.policy.specs.Refusals.{refusal}
use Rattle.policy.specs.Contents.{policy_of, file_state, file_system}
use Rattle.update.specs.Demand2.{Demand2}
use Rattle.update.specs.Files.{FileRun}

-- document 01 admits the call, and the relation executes the command from the file's configuration to E
pub record ExecutedTo (f : List ℕ) (x : Call) (E : Configuration) : Type 0 where
  pub command : Command
  pub admitted : Admitted bounded (file_system f) x command
  pub executes : ExecutesUnder (file_system f) command (actuals x) (configuration (file_state f)) E

module _ (f : List ℕ) (x : Call) (r : ℕ) (f' : List ℕ) (D : Demand2 f x r f') where
  -- a refused rule run, for whatever reason, changes no byte
  pub refused_unchanged : (r ≡ 0 → ⊥) → f' ≡ f
  refused_unchanged n = go (ℕ_discrete (refusal f) 0)
    where
      go : Dec (refusal f ≡ 0) → f' ≡ f
      go (yes z) = (D.refused_why z n).0
      go (no z) = (D.bad_file z).1

  -- none is done on a file that is refused
  pub done_accepted : r ≡ 0 → refusal f ≡ 0
  done_accepted e = go (ℕ_discrete (refusal f) 0)
    where
      go : Dec (refusal f ≡ 0) → refusal f ≡ 0
      go (yes z) = z
      go (no z) = sym (D.bad_file z).0 ∙ e

  -- a done one ends in a configuration that the relation gives
  pub done_executed : r ≡ 0 → ExecutedTo f x (configuration (file_state f'))
  done_executed e = let d = D.done_executes (done_accepted e) e in record { command = d.0; admitted = d.1; executes = d.2 }

  -- it is done exactly where the file is accepted and the relation executes it
  pub done_exactly : (r ≡ 0) ↔ ((refusal f ≡ 0) × ((E : Configuration) × ExecutedTo f x E))
  done_exactly = (
    λ e. (done_accepted e, (configuration (file_state f'), done_executed e)),
    λ w. let y = w.1.1 in (D.executes_done w.0 y.command w.1.0 y.admitted y.executes).0,
  )

  -- all its steps or none: the file is as it was, or holds what the relation gives
  pub all_or_none : (f' ≡ f) ⊎ ExecutedTo f x (configuration (file_state f'))
  all_or_none = go (ℕ_discrete r 0)
    where
      go : Dec (r ≡ 0) → (f' ≡ f) ⊎ ExecutedTo f x (configuration (file_state f'))
      go (yes e) = inr (done_executed e)
      go (no n) = inl (refused_unchanged n)

  -- on an accepted file the relation gives one configuration at most, the one that the new file holds
  pub one_end : refusal f ≡ 0 → (E : Configuration) → ExecutedTo f x E → Same (configuration (file_state f')) E
  one_end z E y = (D.executes_done z y.command E y.admitted y.executes).1

  -- what is refused on an accepted file, the relation does not execute
  pub refused_not_executed : refusal f ≡ 0 → (r ≡ 0 → ⊥) → (E : Configuration) → ExecutedTo f x E → ⊥
  refused_not_executed z n E y = (D.refused_why z n).1 y.command E y.admitted y.executes

  -- a done one gives the parameters of its command, but for spare ones, names 0 to 31
  pub done_names : r ≡ 0 → (C : Command) → get_elem? (file_system f).commands x.command ≡ some C → C.parameters ≤ parameters → (b : ℕ) → b < C.parameters → T (not (spare C b)) → actuals x b < names
  done_names e C found few b l used =
      let y = done_executed e in
      let same : y.command ≡ C = cc y.admitted.found in
      let A : Admitted bounded (file_system f) x C = rw same at y.admitted in
      ltb→lt (actuals x b) names (admitted_name bounded (file_system f) x C A few b l used)

-- ---- a file in which no right carries another: the relation is the paper's
-- demand 2 as it stands without carries, over the paper's own relation
pub record PaperDemand2 (f : List ℕ) (x : Call) (r : ℕ) (f' : List ℕ) : Type 0 where
  pub done_executes : refusal f ≡ 0 → r ≡ 0
      → (C : Command) × Admitted bounded (file_system f) x C × Executes C (actuals x) (configuration (file_state f)) (configuration (file_state f'))
  pub executes_done : refusal f ≡ 0 → (C : Command) (E : Configuration) → Admitted bounded (file_system f) x C → Executes C (actuals x) (configuration (file_state f)) E
      → (r ≡ 0) × Same (configuration (file_state f')) E
  pub refused_why : refusal f ≡ 0 → (r ≡ 0 → ⊥)
      → (f' ≡ f) × ((C : Command) (E : Configuration) → Admitted bounded (file_system f) x C → Executes C (actuals x) (configuration (file_state f)) E → ⊥)

module _ (f : List ℕ) (none : (i : ℕ) → get_or (carries_in f) i 0 ≡ 0) where
  carried_none : (i j : ℕ) → (file_system f).carried i j ≡ false
  unfolding policy_of
  carried_none i j = empty (get_or (carries_in f) i 0) (none i)
    where
      empty : (c : ℕ) → c ≡ 0 → has c j ≡ false
      empty c e = rw e (has_none j)

  pub file_plain : (C : Command) (a : Actuals) (D E : Configuration) → ExecutesUnder (file_system f) C a D E ↔ Executes C a D E
  file_plain = executes_plain (file_system f) carried_none

  pub plain_demand2 : (x : Call) (r : ℕ) (f' : List ℕ) → Demand2 f x r f' → PaperDemand2 f x r f'
  plain_demand2 x r f' D = record {
    done_executes = λ z e. let d = D.done_executes z e in
        (d.0, d.1, (file_plain d.0 (actuals x) (configuration (file_state f)) (configuration (file_state f'))).0 d.2);
    executes_done = λ z C E A y. D.executes_done z C E A ((file_plain C (actuals x) (configuration (file_state f)) E).1 y);
    refused_why = λ z n. let w = D.refused_why z n in
        (w.0, λ C E A y. w.1 C E A ((file_plain C (actuals x) (configuration (file_state f)) E).1 y));
  }

-- on a file that is refused every call has the same answer
pub same_refusal : (f : List ℕ) → (refusal f ≡ 0 → ⊥) → (x y : Call) (r s : ℕ) (f' f'' : List ℕ) → Demand2 f x r f' → Demand2 f y s f'' → r ≡ s
same_refusal f z x y r s f' f'' D E = (D.bad_file z).0 ∙ sym (E.bad_file z).0

-- rule runs one after the other, done and refused ones, each with an answer and a file that meet demand 2
pub data Runs (f : List ℕ) : List ℕ → Type 0 where
  start : Runs f f
  next : {f' f'' : List ℕ} → Runs f f' → (x : Call) (r : ℕ) → Demand2 f' x r f'' → Runs f f''

-- an accepted file stays accepted, with the rules that it had
pub runs_stay : {f f' : List ℕ} → Runs f f' → refusal f ≡ 0 → (refusal f' ≡ 0) × (file_system f' ≡ file_system f)
runs_stay start z = (z, refl)
runs_stay (next R x r D) z =
    let before = runs_stay R z in
    let after = D.stays before.0 in
    (after.0, after.1 ∙ before.1)

-- ---- the promise of a rule run
module _ (f : List ℕ) (x : Call) (r : ℕ) (f' : List ℕ) (P : FileRun f x r f') where
  -- it is done exactly where the file is accepted and the relation executes it, and the file then holds what the relation gives
  pub run-done : (r ≡ 0) ↔ ((refusal f ≡ 0) × ((E : Configuration) × ExecutedTo f x E))
  run-done = done_exactly f x r f' P.demand2

  pub run_executed : r ≡ 0 → ExecutedTo f x (configuration (file_state f'))
  run_executed = done_executed f x r f' P.demand2

  -- what it answers and leaves goes by the file and the call alone
  pub run_again : (s : ℕ) (f'' : List ℕ) → FileRun f x s f'' → (r ≡ s) × (f' ≡ f'')
  run_again s f'' Q = (P.code ∙ sym Q.code, P.file ∙ sym Q.file)
