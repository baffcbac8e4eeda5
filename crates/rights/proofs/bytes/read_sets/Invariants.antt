use Prim.Native.Nat.{◌≤◌}
use lib.ListN.{length}
use Rattle.rights.proofs.SetBytes.{Reading}
use Rattle.rights.proofs.bytes.read_sets.Given as goal

abbrev pub invariant-loop-c : goal.invariant-loop-c
invariant-loop-c l = (l.c ≤ length l.initial.sets) × Reading l.bytes l.initial.sets l.sets l.c
