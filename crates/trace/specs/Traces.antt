-- A trace (document 01): "5 bytes a step: rule number and four actuals".
use Rattle.std.specs.Prelude.{ℕ, ◌+◌, ◌*◌, ◌/◌, List, [], ◌∷◌, length, get_or}
use Rattle.cases.specs.Cases.{tabulate}
use Rattle.protection.specs.Command.{Call}
use Rattle.trace.specs.declared.Step.{Step}

-- the five bytes of step i, as the struct `Step` and as a call; it is asked only of steps that the trace has, and a byte past its end reads as 0
abbrev pub step_at : List ℕ → ℕ → Step
step_at t i = record { command = get_or t (5 * i) 0; actuals = get_or t (5 * i + 1) 0 ∷ get_or t (5 * i + 2) 0 ∷ get_or t (5 * i + 3) 0 ∷ get_or t (5 * i + 4) 0 ∷ [] }

abbrev pub step_call : List ℕ → ℕ → Call
step_call t i = record { command = get_or t (5 * i) 0; a0 = get_or t (5 * i + 1) 0; a1 = get_or t (5 * i + 2) 0; a2 = get_or t (5 * i + 3) 0; a3 = get_or t (5 * i + 4) 0 }

-- the first n steps
abbrev pub calls : List ℕ → ℕ → List Call
calls t n = tabulate (step_call t) n 0

abbrev pub steps_in : List ℕ → ℕ
steps_in t = length t / 5
