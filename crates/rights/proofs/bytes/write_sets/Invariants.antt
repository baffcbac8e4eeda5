use Prim.Native.Nat.{◌≤◌}
use lib.ListN.{length}
use Rattle.rights.proofs.SetBytes.{Writing}
use Rattle.rights.proofs.bytes.write_sets.Given as goal

abbrev pub invariant-loop-c : goal.invariant-loop-c
invariant-loop-c l = (l.c ≤ length l.sets) × Writing l.sets l.bytes l.c
