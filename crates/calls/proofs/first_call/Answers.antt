use Rattle.calls.proofs.Looking.{looking_start, looking_seen, looking_end, looking_number, looking_tried, looking_found, looking_less, looking_more}
use borrow.Author.Rules.{rules}
use Rattle.calls.proofs.first_call.Goals as goal

pub loop-i-init : goal.loop-i-init
loop-i-init c = search looking_start

pub call_of-call-requires : goal.call_of-call-requires
call_of-call-requires c = (search looking_tried, search looking_number, search looking_seen, search rules, search rules)

pub loop-i-smaller : goal.loop-i-smaller
loop-i-smaller c = search looking_less

pub loop-i-preserved : goal.loop-i-preserved
loop-i-preserved c = search looking_more

pub returns-then-is_some : goal.returns-then-is_some
returns-then-is_some c = search looking_found

pub returns : goal.returns
returns c = search looking_end
