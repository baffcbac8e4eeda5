-- What each read brings stands behind what came before it.
use Rattle.std.proofs.Common.{rules, arith}
use Rattle.desk.proofs.Came.{came_behind}
use Rattle.desk.proofs.read_input.Goals as goal

pub returns-then-is_some-clause-bytes : goal.returns-then-is_some-clause-bytes
returns-then-is_some-clause-bytes g c = came_behind _ _ _ _ _ _ _ c.read_from-reading.ensures.front c.loop-n.invariant.bytes c.read_from-reading.ensures.bytes

pub loop-n-preserved : goal.loop-n-preserved
loop-n-preserved g c = record {
  room = omega arith;
  same_length = search rules;
  bytes = came_behind _ _ _ _ _ _ _ c.read_from-reading.ensures.front c.loop-n.invariant.bytes c.read_from-reading.ensures.bytes;
}
