use Rattle.closing.proofs.AskMarks.{Marking}
use Rattle.closing.proofs.asked.mark_asks.Given as goal

abbrev pub invariant-loop-j : goal.invariant-loop-j
invariant-loop-j l = Marking l.c l.i l.initial.asks l.n l.x l.y l.j l.asks
