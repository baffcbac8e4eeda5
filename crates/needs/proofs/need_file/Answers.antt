use mathlib.Core.Path.{sym}
use Rattle.policy.proofs.ReadPolicy.{policy_fits_read}
use Rattle.needs.proofs.Needing.{file_refused, size_refused, list_refused, file_asked, list_few, file_needed}
use Rattle.needs.proofs.need_file.Goals as goal

pub returns-in_err-p : goal.returns-in_err-p
returns-in_err-p c = file_refused _ _ _ _ _ c.from_residual.ensures.1 c.in_err-p.ensures.refused

pub basis_of-basis-requires : goal.basis_of-basis-requires
basis_of-basis-requires c = policy_fits_read _ _ (sym c.in_ok-p.ensures.refused) c.in_ok-p.ensures.read

pub returns-in_err-check_size : goal.returns-in_err-check_size
returns-in_err-check_size c = size_refused _ _ _ _ c.in_ok-p.ensures.refused c.in_ok-p.ensures.read _ _ c.from_residual-in_err-check_size.ensures.1 (c.in_err-check_size.ensures _ c.basis_of-basis.ensures)

pub check_list-requires : goal.check_list-requires
check_list-requires c = policy_fits_read _ _ (sym c.in_ok-p.ensures.refused) c.in_ok-p.ensures.read

pub returns-in_err-check_list : goal.returns-in_err-check_list
returns-in_err-check_list c =
    list_refused _ _ _ _ c.in_ok-p.ensures.refused c.in_ok-p.ensures.read (c.in_ok-check_size.ensures _ c.basis_of-basis.ensures) _ _ c.from_residual-in_err-check_list.ensures.1 c.in_err-check_list.ensures

pub needed-requires : goal.needed-requires
needed-requires c =
    let asked = file_asked _ c.args.list.now _ c.in_ok-p.p c.in_ok-p.ensures.refused c.in_ok-p.ensures.read (c.in_ok-check_size.ensures _ c.basis_of-basis.ensures) c.in_ok-check_list.ensures in
    (asked, list_few c.in_ok-p.p _ c.in_ok-check_list.ensures, c.basis_of-basis.ensures)

pub returns : goal.returns
returns c = file_needed _ _ _ _ c.in_ok-p.ensures.refused c.in_ok-p.ensures.read (c.in_ok-check_size.ensures _ c.basis_of-basis.ensures) c.in_ok-check_list.ensures _ _ c.needed.ensures
