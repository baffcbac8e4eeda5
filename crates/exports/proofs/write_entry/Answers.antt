use Rattle.exports.proofs.Entries.{entry_stored}
use Rattle.exports.proofs.write_entry.Goals as goal

pub returns : goal.returns
returns c = search entry_stored
