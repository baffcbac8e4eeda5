-- Demand 2: a rule run on a file does what the model of Harrison, Ruzzo and Ullman says, all its steps or none; it is refused exactly if that model does
-- not execute it or document 01 forbids it; and the file stays an accepted one with the same rules. Assumes nothing.
use Prim.Native.Nat.{ℕ, ◌+◌, ◌≤◌, ◌<◌}
use mathlib.Core.Path.{◌≡◌, refl, sym, ap, ◌∙◌, subst}
use mathlib.Core.Bool.{Bool, true, false}
use mathlib.Core.List.{List, [], ◌∷◌}
use mathlib.Core.Option.{Option, none, some}
use native.Mathlib.Omega.{arith}
use native.Mathlib.Decide.{dec_lt}
use borrow.Author.Tests.{ne_eqb}
use lib.Dec.{T, eqb, eqb_refl, ltb→lt}
use lib.ListN.{get_or, get_elem?}
use Rattle.cases.specs.Cases.{all}
use Rattle.cases.proofs.Lists.{found_tabulate, none_tabulate}
use Rattle.protection.specs.Limits.{names, rights, parameters}
use Rattle.protection.specs.State.{State}
use Rattle.protection.specs.Command.{Operation as ModelOperation, enter, delete, create_subject, create_object, destroy_subject, destroy_object, Command as ModelCommand, System, Call, Actuals, actuals, values_of, in_operation}
use Rattle.protection.specs.Execution.{bounded, hold_all, actual_fits, can_do_all, effect_all, enters_any_new, Outcome, refused, done, gate, execute_command}
use Rattle.protection.specs.Paper.{Configuration, configuration, Same, ExecutesUnder}
use Rattle.protection.specs.Agreement.{Admitted, Agrees}
use Rattle.protection.proofs.Model.{machine_is_model, gates_elim}
use Rattle.protection.proofs.Spare.{named_used, fits_name}
use Rattle.protection.proofs.Calls.{OperationBelow, operation_below}
use Rattle.protection.specs.Proper.{Proper}
use Rattle.commands.specs.Contents.{missing, operations_from, model_of, meaning}
use Rattle.commands.specs.Fits.{Fits}
use Rattle.commands.specs.declared.Command.{Command}
use Rattle.commands.proofs.Names.{operation_names}
use Rattle.commands.proofs.Reading.{reads_at, operation_limits}
use Rattle.layout.specs.File.{rights_of}
use Rattle.policy.specs.Refusals.{refusal}
use Rattle.policy.specs.Contents.{policy_of, file_state, file_system}
use Rattle.policy.specs.Fits.{PolicyFits}
use Rattle.policy.proofs.Accepted.{Accepted, accepted}
use Rattle.policy.proofs.FileState.{policy_fits, file_proper}
use Rattle.policy.proofs.Rewritten.{state_written, system_written, rewritten_accepted}
use Rattle.update.specs.Demand2.{Demand2}
use Rattle.update.specs.Files.{file_outcome, code_of, rewritten, run_code, run_file, FileRun}
use Rattle.update.proofs.Preserved.{Sound, SoundAll, sound_steps, proper_all}

-- ---- a refusal of the machine is one of 11 to 15
refused_number : (nameable : ℕ → Bool) (S : System) (m : State) (w : Option ModelCommand) (a : Actuals) (n : ℕ) → execute_command nameable S m w a ≡ refused n → 11 ≤ n
refused_number nameable S m none a n e = let z : 11 ≡ n = number 11 n e in omega arith
  where
    number : (k n : ℕ) → refused k ≡ refused n → k ≡ n
    number k n e = cc
refused_number nameable S m (some C) a n e =
    go (all (actual_fits nameable C a) parameters 0) (hold_all S m a C.conditions) (can_do_all m a C.operations) e
  where
    number : (k n : ℕ) → refused k ≡ refused n → k ≡ n
    number k n e = cc

    go : (b c d : Bool) → gate b 12 (gate c 14 (gate d 15 (done (effect_all m a C.operations) (enters_any_new m a C.operations)))) ≡ refused n → 11 ≤ n
    go false c d e = let z : 12 ≡ n = number 12 n e in omega arith
    go true false d e = let z : 14 ≡ n = number 14 n e in omega arith
    go true true false e = let z : 15 ≡ n = number 15 n e in omega arith
    go true true true e = absurd (let z : ◌≡◌ {A = ℕ} 0 1 = cc in omega arith)

-- ---- the operations of an accepted file's commands are sound
module _ (g : ℕ) (a : List ℕ) (c : Command) (F : Fits g c) (few : g ≤ rights) (fit : T (all (actual_fits bounded (meaning c) (values_of a)) parameters 0)) where
  sound_by : (op : ModelOperation) → OperationBelow c.parameters g op → ((b : ℕ) → T (in_operation b op) → get_or a b 0 < names) → Sound g (values_of a) op
  sound_by (enter q s o) l n = l.0
  sound_by (delete q s o) l n = tt
  sound_by (create_subject s) l n = n s (eqb_refl s)
  sound_by (create_object o) l n = n o (eqb_refl o)
  sound_by (destroy_subject s) l n = tt
  sound_by (destroy_object o) l n = tt

  sound_all : SoundAll g (values_of a) (operations_from c c.operations 0)
  sound_all = sound_steps g (values_of a) c c.operations 0 (λ j _ l.
      let h : j < c.operations = omega arith in
      let R = reads_at g c F few j h in
      let k = operation_limits g c F few j h R.0 (sym R.1) in (
        R.0,
        sym R.1,
        sound_by (model_of R.0) k (λ b n. ltb→lt (get_or a b 0) names
            (fits_name bounded (meaning c) (values_of a) fit F.few_parameters b (operation_below c.parameters g b (model_of R.0) k n) (named_used (meaning c) b (operation_names c b j R.0 h (sym R.1) n)))),
      ))

-- ---- a call that is done leaves a state that fits into the file
module _ (f : List ℕ) (A : Accepted f) (x : Call) where
  done_proper : (m' : State) (new : ℕ → Bool) → file_outcome f x ≡ done m' new → Proper (rights_of f) m'
  unfolding policy_of
  done_proper m' new = go (dec_lt x.command (policy_of f).commands)
    where
      F : PolicyFits (policy_of f)
      F = policy_fits f A

      code : ℕ → Command
      code j = get_or (policy_of f).command j missing

      call : (w : Option ModelCommand) → get_elem? (file_system f).commands x.command ≡ w → file_outcome f x ≡ execute_command bounded (file_system f) (file_state f) w (actuals x)
      call w e = ap (λ (v : Option ModelCommand). execute_command bounded (file_system f) (file_state f) v (actuals x)) e

      by : (C : Command) → Fits (rights_of f) C → execute_command bounded (file_system f) (file_state f) (some (meaning C)) (actuals x) ≡ done m' new → Proper (rights_of f) m'
      by C G =
          gates_elim (λ o. o ≡ done m' new → Proper (rights_of f) m')
          (all (actual_fits bounded (meaning C) (actuals x)) parameters 0)
          (hold_all (file_system f) (file_state f) (actuals x) (meaning C).conditions) (can_do_all (file_state f) (actuals x) (meaning C).operations)
          (done (effect_all (file_state f) (actuals x) (meaning C).operations) (enters_any_new (file_state f) (actuals x) (meaning C).operations))
          (λ n d. absurd (let z : ◌≡◌ {A = ℕ} 0 1 = cc in omega arith))
          (λ fit _ can d.
          let z : effect_all (file_state f) (actuals x) (meaning C).operations ≡ m' = cc in
          subst (Proper (rights_of f)) z
          (proper_all (rights_of f) (meaning C).operations (file_state f) (actuals x) (file_proper f A)
          (sound_all (rights_of f) (x.a0 ∷ x.a1 ∷ x.a2 ∷ x.a3 ∷ []) C G A.header.few_rights fit) can))

      go : Dec (x.command < (policy_of f).commands) → file_outcome f x ≡ done m' new → Proper (rights_of f) m'
      go (yes l) e =
          let w : 0 + x.command ≡ x.command = omega arith in
          by (code x.command) (F.commands_fit x.command l)
          (sym (call (some (meaning (code x.command))) (found_tabulate (λ j. meaning (code j)) (policy_of f).commands 0 x.command l ∙ ap (λ (j : ℕ). some (meaning (code j))) w)) ∙ e)
      go (no l) e =
          absurd (let d : refused 11 ≡ done m' new = sym (call none (none_tabulate (λ j. meaning (code j)) (policy_of f).commands 0 x.command (omega arith))) ∙ e in let z : ◌≡◌ {A = ℕ} 0 1 = cc in omega arith)

-- ---- the theorem, of the answer and the file that are defined
module _ (f : List ℕ) (x : Call) where
  module _ (z : refusal f ≡ 0) where
    A : Accepted f
    A = accepted f z

    M : Agrees bounded (file_system f) (file_state f) x
    M = machine_is_model bounded (file_system f) (file_state f) x

    code_is : run_code f x ≡ code_of (file_outcome f x)
    unfolding run_code
    code_is = rw z

    file_is : run_file f x ≡ rewritten f (file_outcome f x)
    unfolding run_file
    file_is = rw z

    state_done : (m' : State) (new : ℕ → Bool) → file_outcome f x ≡ done m' new → file_state (run_file f x) ≡ m'
    state_done m' new e = ap file_state (file_is ∙ ap (rewritten f) e) ∙ state_written f A m' (done_proper f A x m' new e)

    by_cases : (P : Outcome → Type 0) → ((n : ℕ) → file_outcome f x ≡ refused n → P (refused n)) → ((m' : State) (new : ℕ → Bool) → file_outcome f x ≡ done m' new → P (done m' new)) → P (file_outcome f x)
    by_cases P r d = go (file_outcome f x) refl
      where
        go : (o : Outcome) → file_outcome f x ≡ o → P o
        go (refused n) e = r n e
        go (done m' new) e = d m' new e

  no_zero : (n : ℕ) → file_outcome f x ≡ refused n → n ≡ 0 → ⊥
  no_zero n e q = let l : 11 ≤ n = refused_number bounded (file_system f) (file_state f) (get_elem? (file_system f).commands x.command) (actuals x) n e in omega arith

  abbrev Executed : Type 0
  Executed = (C : ModelCommand) × Admitted bounded (file_system f) x C × ExecutesUnder (file_system f) C (actuals x) (configuration (file_state f)) (configuration (file_state (run_file f x)))

  abbrev NotExecuted : Type 0
  NotExecuted = (C : ModelCommand) (E : Configuration) → Admitted bounded (file_system f) x C → ExecutesUnder (file_system f) C (actuals x) (configuration (file_state f)) E → ⊥

  bad : (refusal f ≡ 0 → ⊥) → (run_code f x ≡ refusal f) × (run_file f x ≡ f)
  unfolding run_code run_file
  bad ne = let w : eqb (refusal f) 0 ≡ false = ne_eqb (refusal f) 0 ne in (rw w, rw w)

  executed : refusal f ≡ 0 → run_code f x ≡ 0 → Executed
  executed z e =
      by_cases z (λ o. code_of o ≡ 0 → Executed) (λ n w q. absurd (no_zero n w q))
      (λ m' new w _. let d = (M z).done_executes m' new w in
      (d.0, d.1, subst (λ (s : State). ExecutesUnder (file_system f) d.0 (actuals x) (configuration (file_state f)) (configuration s)) (sym (state_done z m' new w)) d.2))
      (sym (code_is z) ∙ e)

  why : refusal f ≡ 0 → (run_code f x ≡ 0 → ⊥) → (run_file f x ≡ f) × NotExecuted
  why z ne =
      let r : (rewritten f (file_outcome f x) ≡ f) × NotExecuted =
      by_cases z (λ o. (code_of o ≡ 0 → ⊥) → (rewritten f o ≡ f) × NotExecuted)
      (λ n w _. (refl, (M z).refused_exactly.0 (n, w))) (λ m' new w k. absurd (k refl)) (λ q. ne (code_is z ∙ q)) in
      (file_is z ∙ r.0, r.1)

  kept : refusal f ≡ 0 → (refusal (run_file f x) ≡ 0) × (file_system (run_file f x) ≡ file_system f)
  kept z =
      let r : (refusal (rewritten f (file_outcome f x)) ≡ 0) × (file_system (rewritten f (file_outcome f x)) ≡ file_system f) =
      by_cases z (λ o. (refusal (rewritten f o) ≡ 0) × (file_system (rewritten f o) ≡ file_system f)) (λ n w. (z, refl))
      (λ m' new w. let P = done_proper f (A z) x m' new w in (rewritten_accepted f (A z) m' P, system_written f (A z) m' P)) in
      (ap refusal (file_is z) ∙ r.0, ap file_system (file_is z) ∙ r.1)

  pub demand2 : Demand2 f x (run_code f x) (run_file f x)
  demand2 = record {
    bad_file = bad;
    done_executes = executed;
    executes_done = λ z C E D y. let d = (M z).executes_done C E D y in
        (code_is z ∙ ap code_of d.2, subst (λ (s : State). Same (configuration s) E) (sym (state_done z d.0 d.1 d.2)) d.3);
    refused_why = why;
    stays = kept;
  }

  -- so the two equations are the whole promise
  pub file_run : (r : ℕ) (f' : List ℕ) → r ≡ run_code f x → f' ≡ run_file f x → FileRun f x r f'
  file_run r f' e d = record {
    code = e;
    file = d;
    demand2 = subst (λ (n : ℕ). Demand2 f x n f') (sym e) (subst (Demand2 f x (run_code f x)) (sym d) demand2);
  }
