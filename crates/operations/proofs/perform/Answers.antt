use Rattle.operations.proofs.Applied.{applied, did}
use borrow.Author.Rules.{rules}
use Rattle.operations.proofs.perform.Goals as goal

pub name_of-requires : goal.name_of-requires
name_of-requires c = search applied

pub name_of-requires-in-Enter : goal.name_of-requires-in-Enter
name_of-requires-in-Enter c = search applied

pub enter-requires : goal.enter-requires
enter-requires c = (search applied, search rules, search rules)

pub name_of-requires-in-Delete : goal.name_of-requires-in-Delete
name_of-requires-in-Delete c = search applied

pub name_of-requires-in-Delete-2 : goal.name_of-requires-in-Delete-2
name_of-requires-in-Delete-2 c = search applied

pub delete-requires : goal.delete-requires
delete-requires c = (search applied, search rules, search rules)

pub name_of-requires-in-CreateSubject : goal.name_of-requires-in-CreateSubject
name_of-requires-in-CreateSubject c = search applied

pub name_of-requires-in-CreateObject : goal.name_of-requires-in-CreateObject
name_of-requires-in-CreateObject c = search applied

pub name_of-requires-in-DestroySubject : goal.name_of-requires-in-DestroySubject
name_of-requires-in-DestroySubject c = search applied

pub returns-in-Enter : goal.returns-in-Enter
returns-in-Enter c = search did

pub returns-in-Delete : goal.returns-in-Delete
returns-in-Delete c = search did

pub returns-in-CreateSubject : goal.returns-in-CreateSubject
returns-in-CreateSubject c = search did

pub returns-in-CreateObject : goal.returns-in-CreateObject
returns-in-CreateObject c = search did

pub returns-in-DestroySubject : goal.returns-in-DestroySubject
returns-in-DestroySubject c = search did
