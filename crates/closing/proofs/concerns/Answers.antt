use Rattle.closing.proofs.PassedBy.{concerns_enter, concerns_delete, concerns_not_enter, concerns_not_delete, concerns_other}
use Rattle.closing.proofs.concerns.Goals as goal

pub returns-else-enters : goal.returns-else-enters
returns-else-enters c = search concerns_not_enter

pub returns-else-not-enters : goal.returns-else-not-enters
returns-else-not-enters c = search concerns_not_delete

pub returns-then-enters : goal.returns-then-enters
returns-then-enters c = search concerns_enter

pub returns-then-not-enters : goal.returns-then-not-enters
returns-then-not-enters c = search concerns_delete

pub returns-in_default : goal.returns-in_default
returns-in_default c = search concerns_other
