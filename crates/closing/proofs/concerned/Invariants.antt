use Rattle.closing.proofs.PassedBy.{Concerning}
use Rattle.closing.proofs.concerned.Given as goal

abbrev pub invariant-loop-i : goal.invariant-loop-i
invariant-loop-i l = Concerning l.p l.enters l.right l.mask l.i
