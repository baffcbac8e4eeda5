-- Demand 3: the judge says unsafe exactly where some run leaks the right, and safe exactly where none does; under unsafe its steps are such a run.
-- This speaks of runs of the machine, and not of how the judge works.
use Rattle.std.specs.Prelude.{ℕ, ◌*◌, ◌≤◌, ◌≡◌, Bool, true, false, List, ◌↔◌, T, length, drop, Result, Ok, Err}
use Rattle.protection.specs.State.{State}
use Rattle.protection.specs.Size.{step_bound}
use Rattle.protection.specs.Command.{System, Call}
use Rattle.protection.specs.Execution.{unbounded}
use Rattle.protection.specs.Leak.{leaks, LeaksLast}
use Rattle.trace.specs.Traces.{calls}
use Rattle.refusals.specs.Numbers.{number_of}
use Rattle.refusals.specs.declared.Refusal.{Refusal}
use Rattle.safety.specs.declared.Verdict.{Verdict as CodeVerdict}
use Rattle.safety.specs.declared.Verdict.TheVariants as code

-- "The answer is the verdict and the number of steps written."; or a refusal, and a refused call writes none
pub data Judgement : Type 0 where
  Refused : ℕ → Judgement
  Safe : ℕ → Judgement
  Unsafe : ℕ → Judgement

-- as the code answers it
abbrev pub verdict_told : CodeVerdict → Judgement
verdict_told (code.Safe n) = Safe n
verdict_told (code.Unsafe n) = Unsafe n

abbrev pub judgement_told : Result CodeVerdict Refusal → Judgement
judgement_told (Ok v) = verdict_told v
judgement_told (Err r) = Refused (number_of r)

abbrev pub is_safe : Judgement → Bool
is_safe (Refused n) = false
is_safe (Safe n) = true
is_safe (Unsafe n) = false

abbrev pub is_unsafe : Judgement → Bool
is_unsafe (Refused n) = false
is_unsafe (Safe n) = false
is_unsafe (Unsafe n) = true

abbrev pub steps_written : Judgement → ℕ
steps_written (Refused n) = 0
steps_written (Safe n) = n
steps_written (Unsafe n) = n

-- of the rules S, the right r and the start m; b is the buffer before, b' after
pub record Demand3 (S : System) (r : ℕ) (m : State) (b : List ℕ) (answer : Judgement) (b' : List ℕ) : Type 0 where
  -- "For the judge's question names are whole numbers from 0 up, without a bound"
  pub every_name : (x : ℕ) → T (unbounded x)
  -- unsafe exactly when some run leaks r: xs is any "finite list of rule runs, refused ones included; it may be empty"
  pub unsafe_exactly : T (is_unsafe answer) ↔ ((xs : List Call) × T (leaks unbounded S r m xs))
  -- safe exactly when none does
  pub safe_exactly : T (is_safe answer) ↔ ((xs : List Call) → T (leaks unbounded S r m xs) → ⊥)
  -- "When the judge answers n, its steps are the first 5 × n bytes of the buffer": under unsafe a run that "leaks at its last step and nowhere sooner"
  pub steps_leak : T (is_unsafe answer) → LeaksLast unbounded S r m (calls b' (steps_written answer))
  -- no more than 24 makes room for: "g × (subjects + 1) × (names + 2) + 4"
  pub within : steps_written answer ≤ step_bound S.rights m
  -- "They fill the front of the buffer, under safe too"
  pub room : 5 * steps_written answer ≤ length b
  -- "the rest keeps its bytes"
  pub rest : drop (5 * steps_written answer) b' ≡ drop (5 * steps_written answer) b
