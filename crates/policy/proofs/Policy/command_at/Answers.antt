use mathlib.Core.Path.{refl}
use Rattle.policy.proofs.Policy.command_at.Goals as goal

pub returns : goal.returns
returns c = refl
