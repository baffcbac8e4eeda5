use mathlib.Core.Path.{refl}
use Rattle.closing.proofs.AskMarks.{marking_start, marking_byte, marking_byte_1, marking_byte_2, marking_length, marking_right, marking_more, marking_end}
use borrow.Author.Rules.{rules}
use native.Mathlib.Omega.{arith}
use Rattle.closing.proofs.asked.mark_asks.Goals as goal

pub loop-j-init : goal.loop-j-init
loop-j-init c = search marking_start

pub bounds-c-j : goal.bounds-c-j
bounds-c-j c = search marking_byte

pub bounds-c-j-in-loop-j : goal.bounds-c-j-in-loop-j
bounds-c-j-in-loop-j c = search marking_byte_1

pub bounds-c-j-in-loop-j-2 : goal.bounds-c-j-in-loop-j-2
bounds-c-j-in-loop-j-2 c = search marking_byte_2

pub mark-requires : goal.mark-requires
mark-requires c = (search marking_length, search rules, search marking_right)

pub loop-j-preserved : goal.loop-j-preserved
loop-j-preserved c = marking_more _ _ _ _ _ _ _ _ c.loop-j.invariant (omega arith) _ refl _ c.side-a.ensures _ c.side-b.ensures _ c.mark.ensures

pub returns : goal.returns
returns c = search marking_end
