use Rattle.exports.specs.Sheet.{entry_at}
use Rattle.exports.proofs.Entries.{eight_of}
use Rattle.exports.proofs.entries_in.Goals as goal

pub returns : goal.returns
returns c =
    eight_of (entry_at c.args.entries.now) _ _ _ _ _ _ _ _
    c.entry_at.ensures c.entry_at-2.ensures c.entry_at-3.ensures c.entry_at-4.ensures c.entry_at-5.ensures c.entry_at-6.ensures c.entry_at-7.ensures c.entry_at-8.ensures
