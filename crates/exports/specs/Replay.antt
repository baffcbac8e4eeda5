-- Replay's answer as numbers at the C boundary.
use Rattle.std.specs.Prelude.{ℕ, ◌≡◌}
use Rattle.trace.specs.Replays.{replay_code, replay_step, Replay}

pub record ReplayAnswer (a : Replay) (r step : ℕ) : Type 0 where
  pub code : r ≡ replay_code a
  pub at : step ≡ replay_step a
