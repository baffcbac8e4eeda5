use Rattle.safety.specs.Demand3.{judgement_told}
use Rattle.listing.proofs.Whole.{told_refused, told_safe, told_unsafe, safe_room, unsafe_fits, refused_put, safe_put, unsafe_is}
use Rattle.listing.proofs.print.Goals as goal

pub put_head-requires : goal.put_head-requires
put_head-requires c = safe_room c.args.out.now c.args.steps.now (judgement_told c.args.judgement) _ c.requires (told_safe _ _ _ c.in-Ok-Safe.is (rw c.in-Ok-Safe.is at c.in-Ok-Safe.field-0-is))

pub print_unsafe-requires : goal.print_unsafe-requires
print_unsafe-requires c = unsafe_fits c.args.out.now c.args.steps.now (judgement_told c.args.judgement) _ c.requires (told_unsafe _ _ _ c.in-Ok-Unsafe.is (rw c.in-Ok-Unsafe.is at c.in-Ok-Unsafe.field-0-is))

pub returns-in-Err : goal.returns-in-Err
returns-in-Err c = refused_put _ _ c.args.steps.now (judgement_told c.args.judgement) c.args.p.now _ _ (told_refused _ _ c.in-Err.is) c.put_refused.ensures

pub returns-in-Ok-Safe : goal.returns-in-Ok-Safe
returns-in-Ok-Safe c = safe_put _ _ c.args.steps.now (judgement_told c.args.judgement) c.args.p.now _ _ (told_safe _ _ _ c.in-Ok-Safe.is (rw c.in-Ok-Safe.is at c.in-Ok-Safe.field-0-is)) c.put_head.ensures

pub returns-in-Ok-Unsafe : goal.returns-in-Ok-Unsafe
returns-in-Ok-Unsafe c = unsafe_is _ _ c.args.steps.now (judgement_told c.args.judgement) c.args.p.now _ _ (told_unsafe _ _ _ c.in-Ok-Unsafe.is (rw c.in-Ok-Unsafe.is at c.in-Ok-Unsafe.field-0-is)) c.print_unsafe.ensures
