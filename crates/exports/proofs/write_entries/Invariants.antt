-- The first i entries are written.
use Rattle.std.proofs.Common.{◌≡◌, ◌++◌, ◌*◌, take, drop}
use Rattle.exports.specs.Sheet.{entry_bytes}
use Rattle.exports.proofs.write_entries.Given as goal

abbrev pub invariant-loop-i : goal.invariant-loop-i
invariant-loop-i l = l.entries ≡ entry_bytes (take l.i l.sheet) ++ drop (4 * l.i) l.initial.entries
