use Rattle.operations.proofs.Applied.{applied, enters_here, enters_other}
use borrow.Author.Rules.{rules}
use Rattle.operations.proofs.enters_new.Goals as goal

pub name_of-requires : goal.name_of-requires
name_of-requires c = search applied

pub name_of-requires-then-q-right : goal.name_of-requires-then-q-right
name_of-requires-then-q-right c = search applied

pub cell_holds-requires : goal.cell_holds-requires
cell_holds-requires c = (search applied, search rules, search rules)

pub returns-then-q-right : goal.returns-then-q-right
returns-then-q-right c = search enters_here

pub returns-else-q-right : goal.returns-else-q-right
returns-else-q-right c = search enters_other
