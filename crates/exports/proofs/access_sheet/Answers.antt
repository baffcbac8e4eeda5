use mathlib.Core.Path.{refl}
use Rattle.exports.proofs.Entries.{entries_refused, entries_few, entries_eight, entries_inside, entries_answered}
use Rattle.exports.proofs.access_sheet.Goals as goal

pub returns-in-Err : goal.returns-in-Err
returns-in-Err c = entries_refused c.args.file.now c.args.entries.now c.args.buffer.now _ refl _ c.entries_in-asked.ensures _ _ c.in-Err.ensures _ c.number.ensures

pub write_entries-requires : goal.write_entries-requires
write_entries-requires c = (
  entries_few c.args.file.now c.args.entries.now c.args.buffer.now _ refl _ c.entries_in-asked.ensures _ _ c.in-Ok.ensures,
  entries_eight c.args.file.now c.args.entries.now c.args.buffer.now _ refl _ c.entries_in-asked.ensures _ _ c.in-Ok.ensures,
  entries_inside c.args.file.now c.args.entries.now c.args.buffer.now _ refl _ c.entries_in-asked.ensures _ _ c.in-Ok.ensures,
)

pub returns-in-Ok : goal.returns-in-Ok
returns-in-Ok c = entries_answered c.args.file.now c.args.entries.now c.args.buffer.now _ refl _ c.entries_in-asked.ensures _ _ c.in-Ok.ensures _ c.write_entries.ensures
