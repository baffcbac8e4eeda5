use Prim.Native.Nat.{◌≤◌, ◌-◌}
use mathlib.Core.Path.{◌≡◌}
use Rattle.policy.specs.Refusals.{commands_refusal}
use Rattle.policy.specs.Contents.{command_table}
use Rattle.policy.proofs.read_commands.Given as goal

abbrev pub invariant-loop-i : goal.invariant-loop-i
invariant-loop-i l = (l.i ≤ l.count) × (l.all ≡ command_table l.file l.i) × (commands_refusal l.file (l.count - l.i) l.i ≡ commands_refusal l.file l.count 0)

abbrev pub decreases-loop-i : goal.decreases-loop-i
decreases-loop-i l = l.count - l.i
