use Rattle.operations.proofs.Applied.{applied, cell_subject, cell_object, can-be-done}
use Rattle.operations.proofs.can_do.Goals as goal

pub name_of-requires : goal.name_of-requires
name_of-requires c = search applied

pub name_of-requires-in-Enter : goal.name_of-requires-in-Enter
name_of-requires-in-Enter c = cell_subject _ _ _ _ c.requires c.in-Enter.is

pub name_of-requires-in-Enter-2 : goal.name_of-requires-in-Enter-2
name_of-requires-in-Enter-2 c = cell_object _ _ _ _ c.requires c.in-Enter.is

pub name_of-requires-in-CreateSubject : goal.name_of-requires-in-CreateSubject
name_of-requires-in-CreateSubject c = search applied

pub name_of-requires-in-DestroyObject : goal.name_of-requires-in-DestroyObject
name_of-requires-in-DestroyObject c = search applied

pub returns-in-Enter : goal.returns-in-Enter
returns-in-Enter c = search can-be-done

pub returns-in-CreateSubject : goal.returns-in-CreateSubject
returns-in-CreateSubject c = search can-be-done

pub returns-in-DestroySubject : goal.returns-in-DestroySubject
returns-in-DestroySubject c = search can-be-done

pub returns-in-DestroyObject : goal.returns-in-DestroyObject
returns-in-DestroyObject c = search can-be-done
