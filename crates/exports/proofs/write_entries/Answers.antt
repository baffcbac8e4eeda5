use Rattle.std.proofs.Common.{refl, arith}
use Rattle.exports.proofs.Entries.{written_on, written_end}
use Rattle.exports.proofs.write_entries.Goals as goal

pub loop-i-init : goal.loop-i-init
loop-i-init c = refl

pub loop-i-preserved : goal.loop-i-preserved
loop-i-preserved c =
    let l = c.loop-i in
    written_on c.args.sheet c.args.entries.now l.i l.entries l.invariant _ _ refl (omega arith) _ c.write_entry.ensures

pub returns : goal.returns
returns c =
    let l = c.loop-i in
    written_end c.args.sheet c.args.entries.now l.i l.entries l.invariant c.args.n (omega arith) (omega arith) (omega arith)
