use Rattle.std.proofs.Common.{rules}
use Rattle.needs.proofs.Needing.{need_asked, rounds_held, rounds_never}
use Rattle.questions.proofs.Starting.{policy_told}
use Rattle.needs.proofs.needed.Goals as goal

pub all_rounds-course-requires : goal.all_rounds-course-requires
all_rounds-course-requires c = (need_asked _ c.args.list.now _ _ c.held.ensures c.requires.0, policy_told _ _ _ c.requires.0.fits c.tables_of-tables.ensures, c.requires.2)

pub returns-then-course : goal.returns-then-course
returns-then-course c = rounds_held _ _ _ _ c.held.ensures _ _ c.all_rounds-course.ensures (search rules)

pub returns : goal.returns
returns c = rounds_never _ _ _ _ c.held.ensures _ _ c.all_rounds-course.ensures (search rules)
