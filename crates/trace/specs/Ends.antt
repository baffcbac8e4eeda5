-- How a replay ends at a step, by the step's answer.
use Rattle.std.specs.Prelude.{ℕ}
use Rattle.execution.specs.Runs.{Answer, Refused as Refuses, Done, Leaked}
use Rattle.trace.specs.Replays.{Replay, NoLeak, Leak, Refused}

abbrev pub end_of : Answer → ℕ → Replay
end_of (Refuses n) i = Refused n i
end_of Done i = NoLeak
end_of Leaked i = Leak i
