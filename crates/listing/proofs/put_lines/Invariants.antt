use Prim.Native.Nat.{◌+◌, ◌*◌, ◌-◌, ◌≤◌}
use mathlib.Core.Path.{◌≡◌}
use lib.ListN.{length}
use Rattle.trace.specs.Traces.{calls}
use Rattle.listing.specs.Listing.{lines}
use Rattle.listing.specs.Writing.{Put}
use Rattle.listing.proofs.put_lines.Given as goal

abbrev pub invariant-loop-i : goal.invariant-loop-i
invariant-loop-i l = (l.i ≤ l.n) × (l.at ≤ l.from + 20 * l.i) × (length l.out ≡ length l.initial.out) × Put l.initial.out l.from (lines l.p (calls l.steps l.i)) l.at l.out

abbrev pub decreases-loop-i : goal.decreases-loop-i
decreases-loop-i l = l.n - l.i
