use Rattle.closing.proofs.AskMarks.{Asking}
use Rattle.closing.proofs.asked.asked_by.Given as goal

abbrev pub invariant-loop-i : goal.invariant-loop-i
invariant-loop-i l = Asking l.p l.i l.asks
