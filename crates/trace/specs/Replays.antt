-- Replay (document 01): "answers with the number of the first leaking step from 0, or no leak, or the refusal of the first refused step and that step's
-- number. It reports the first of leak and refusal."
use Rattle.std.specs.Prelude.{ℕ, suc, ◌%◌, List, [], ◌∷◌, eqb, leb, length, Option, Some, None, Result, Ok, Err}
use Rattle.cases.specs.Cases.{pick}
use Rattle.protection.specs.State.{State}
use Rattle.protection.specs.Command.{System, Call}
use Rattle.protection.specs.Execution.{bounded, Outcome, refused, done, execute}
use Rattle.protection.specs.Leak.{after}
use Rattle.layout.specs.File.{rights_of}
use Rattle.policy.specs.Refusals.{refusal}
use Rattle.policy.specs.Contents.{file_state, file_system}
use Rattle.trace.specs.Traces.{calls, steps_in}
use Rattle.refusals.specs.Numbers.{number_of}
use Rattle.trace.specs.declared.RefusedStep.{RefusedStep}

-- what a replay answers: no leak, the first leaking step, or a refusal and its step
pub data Replay : Type 0 where
  NoLeak : Replay
  Leak : ℕ → Replay
  Refused : ℕ → ℕ → Replay

-- as the code answers it
abbrev pub replay_told : Result (Option ℕ) RefusedStep → Replay
replay_told (Ok None) = NoLeak
replay_told (Ok (Some i)) = Leak i
replay_told (Err x) = Refused (number_of x.by) x.step

-- what step i makes of the answer, given what the later steps answer
abbrev pub reported : ℕ → ℕ → Outcome → Replay → Replay
reported r i (refused n) later = Refused n i
reported r i (done m new) later = pick (new r) (Leak i) later

-- the steps from number i on
unfoldable pub replay_from : System → ℕ → List Call → ℕ → State → Replay
replay_from S r [] i m = NoLeak
replay_from S r (x ∷ xs) i m = reported r i (execute bounded S m x) (replay_from S r xs (suc i) (after (execute bounded S m x) m))

-- "1 to 9", "21 .. which there precedes 31", "31 trace length not a multiple of 5, before any step"; "in replay also the step, 0 for 1 to 9, 21 and 31"
unfoldable pub file_replay : List ℕ → List ℕ → ℕ → Replay
file_replay f t r =
    pick (eqb (refusal f) 0)
    (pick (leb (rights_of f) r) (Refused 21 0)
    (pick (eqb (length t % 5) 0) (replay_from (file_system f) r (calls t (steps_in t)) 0 (file_state f))
    (Refused 31 0)))
    (Refused (refusal f) 0)

-- at the C boundary: 0 no leak, 255 a leak, else the refusal; and the step, 0 where no step leaks and none is refused
abbrev pub replay_code : Replay → ℕ
replay_code NoLeak = 0
replay_code (Leak i) = 255
replay_code (Refused n i) = n

abbrev pub replay_step : Replay → ℕ
replay_step NoLeak = 0
replay_step (Leak i) = i
replay_step (Refused n i) = i
