use Rattle.closing.proofs.AskMarks.{mark_both, mark_none}
use Rattle.closing.proofs.asked.mark.Goals as goal

pub returns-then-b-lt2 : goal.returns-then-b-lt2
returns-then-b-lt2 c = search mark_both

pub returns-else-a-lt2 : goal.returns-else-a-lt2
returns-else-a-lt2 c = search mark_none
