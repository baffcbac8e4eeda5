-- The first i entries are answered (`Filling`).
use Rattle.sheets.proofs.Filling.{Filling}
use Rattle.sheets.proofs.sheet_file.Given as goal

abbrev pub invariant-loop-i : goal.invariant-loop-i
invariant-loop-i l = Filling l.fn.file l.part l.initial.sheet l.initial.buffer l.i l.sheet l.buffer
