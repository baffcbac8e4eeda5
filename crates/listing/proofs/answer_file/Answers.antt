use Rattle.listing.proofs.Judging.{refused_put, judged_room, judged_put}
use Rattle.listing.proofs.answer_file.Goals as goal

pub returns-in-Err : goal.returns-in-Err
returns-in-Err c = refused_put _ _ _ c.in-Err.ensures.refused _ _ _ c.put_refused.ensures

pub print-requires : goal.print-requires
print-requires c = judged_room c.args.file.now _ _ _ _ _ (record { refused = c.in-Ok.ensures.refused; read = c.in-Ok.ensures.read }) c.judge_read-judgement.ensures c.step_buffer-steps.ensures _ c.requires

pub returns-in-Ok : goal.returns-in-Ok
returns-in-Ok c = judged_put c.args.file.now _ _ _ _ _ (record { refused = c.in-Ok.ensures.refused; read = c.in-Ok.ensures.read }) c.judge_read-judgement.ensures c.step_buffer-steps.ensures _ _ _ c.print.ensures
