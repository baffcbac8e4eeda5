use Rattle.execution.proofs.Running.{all_one, all_back, all_done}
use Rattle.execution.proofs.run_all.Goals as goal

pub returns-then-c-eq1 : goal.returns-then-c-eq1
returns-then-c-eq1 c = search all_one

pub returns-then-is_none : goal.returns-then-is_none
returns-then-is_none c = all_back _ _ _ _ _ _ c.run_operations-ran.ensures _ c.is_none.ensures c.if-is_none.true c.requires.0

pub returns-else-is_none : goal.returns-else-is_none
returns-else-is_none c = all_done _ _ _ _ _ _ c.run_operations-ran.ensures _ c.is_none.ensures c.if-is_none.false
