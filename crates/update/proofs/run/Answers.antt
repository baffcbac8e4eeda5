use Rattle.policy.proofs.ReadPolicy.{policy_fits_read, matrix_canonical, matrix_inside}
use Rattle.update.proofs.Stored.{run_bad_file, run-refused, run-done}
use mathlib.Core.Path.{sym}
use Rattle.update.proofs.run.Goals as goal

pub returns-in_err-p : goal.returns-in_err-p
returns-in_err-p c = run_bad_file _ _ _ _ c.in_err-p.ensures.refused c.from_residual.ensures.1

pub call-requires : goal.call-requires
call-requires c = (policy_fits_read _ _ (sym c.in_ok-p.ensures.refused) c.in_ok-p.ensures.read, matrix_canonical _ _ (sym c.in_ok-p.ensures.refused) c.in_ok-p.ensures.read)

pub store-requires : goal.store-requires
store-requires c = (matrix_inside _ _ (sym c.in_ok-p.ensures.refused) c.in_ok-p.ensures.read, c.call.ensures.canonical)

pub returns-in_err-call : goal.returns-in_err-call
returns-in_err-call c = run-refused _ _ (sym c.in_ok-p.ensures.refused) c.in_ok-p.ensures.read _ _ _ _ c.in_err-call.ensures c.from_residual-in_err-call.ensures.1

pub returns : goal.returns
returns c = run-done _ _ (sym c.in_ok-p.ensures.refused) c.in_ok-p.ensures.read _ _ _ _ c.in_ok-call.ensures c.store.ensures
