use mathlib.Core.Path.{sym}
use Rattle.policy.proofs.ReadPolicy.{policy_fits_read}
use Rattle.trace.proofs.Replaying.{replay_bad_file, replay_21, replay_31, replay_whole}
use Rattle.trace.proofs.replay_file.Goals as goal

pub returns-in_err-p : goal.returns-in_err-p
returns-in_err-p c = replay_bad_file _ _ _ _ _ c.in_err-p.ensures.refused c.from_residual.ensures.1

pub returns-then-p-right : goal.returns-then-p-right
returns-then-p-right c = rw c.from.ensures (replay_21 _ _ _ _ c.in_ok-p.ensures.refused c.in_ok-p.ensures.read c.if-p-right.true)

pub returns-then-trace-ne0 : goal.returns-then-trace-ne0
returns-then-trace-ne0 c = rw c.from-then-trace-ne0.ensures (replay_31 _ _ _ _ c.in_ok-p.ensures.refused c.in_ok-p.ensures.read c.if-p-right.false c.if-trace-ne0.true)

pub replay_steps-requires : goal.replay_steps-requires
replay_steps-requires c = policy_fits_read _ _ (sym c.in_ok-p.ensures.refused) c.in_ok-p.ensures.read

pub returns : goal.returns
returns c = replay_whole _ _ _ _ c.in_ok-p.ensures.refused c.in_ok-p.ensures.read c.if-p-right.false _ c.if-trace-ne0.false c.replay_steps.ensures
