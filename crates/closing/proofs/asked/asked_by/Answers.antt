use Rattle.closing.proofs.AskMarks.{asking_start, asking_length, asking_fits, asking_number, asking_more, asking_end}
use Rattle.closing.proofs.asked.asked_by.Goals as goal

pub loop-i-init : goal.loop-i-init
loop-i-init c = search asking_start

pub mark_asks-requires : goal.mark_asks-requires
mark_asks-requires c = (search asking_length, search asking_fits, search asking_number)

pub loop-i-preserved : goal.loop-i-preserved
loop-i-preserved c = search asking_more

pub returns : goal.returns
returns c = search asking_end
