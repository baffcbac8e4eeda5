use mathlib.Core.Path.{sym}
use Rattle.policy.proofs.ReadPolicy.{policy_fits_read}
use Rattle.parts.proofs.Judging.{part_file_refused, part_caller_refused, part_list_refused, part_asked, part_below, part_file_judged}
use Rattle.parts.proofs.judge_part.Goals as goal

pub returns-in_err-p : goal.returns-in_err-p
returns-in_err-p c = part_file_refused _ _ _ _ _ _ c.from_residual.ensures.1 c.in_err-p.ensures.refused

pub basis_of-basis-requires : goal.basis_of-basis-requires
basis_of-basis-requires c = policy_fits_read _ _ (sym c.in_ok-p.ensures.refused) c.in_ok-p.ensures.read

pub returns-in_err-check_caller : goal.returns-in_err-check_caller
returns-in_err-check_caller c = part_caller_refused _ _ _ _ _ c.in_ok-p.ensures.refused c.in_ok-p.ensures.read _ _ c.from_residual-in_err-check_caller.ensures.1 c.in_err-check_caller.ensures

pub returns-in_err-mask : goal.returns-in_err-mask
returns-in_err-mask c =
    part_list_refused _ _ _ _ _ c.in_ok-p.ensures.refused c.in_ok-p.ensures.read c.in_ok-check_caller.ensures _ _ c.from_residual-in_err-mask.ensures.1 c.in_err-mask.ensures.refused

pub judge_without-requires : goal.judge_without-requires
judge_without-requires c =
    let list = c.args.list.now in
    let read = c.in_ok-p.ensures in
    (part_asked _ _ list _ c.in_ok-p.p read.refused read.read c.in_ok-check_caller.ensures c.in_ok-mask.ensures.refused _ c.in_ok-mask.ensures.read, part_below _ _ list _ c.in_ok-p.p read.refused read.read c.in_ok-check_caller.ensures c.in_ok-mask.ensures.refused _ c.in_ok-mask.ensures.read)

pub returns : goal.returns
returns c =
    let read = c.in_ok-p.ensures in
    part_file_judged _ _ _ _ _ read.refused read.read c.in_ok-check_caller.ensures c.in_ok-mask.ensures.refused _ c.in_ok-mask.ensures.read _ _ c.judge_without.ensures
