use native.Mathlib.Nat.{sub-zero}
use Rattle.layout.proofs.Tests.{start_first, start_next, pair_stop, pair_more, misplaced, ends_early, ends_right}
use native.Mathlib.Omega.{arith}
use Rattle.layout.proofs.check_pairs.Goals as goal

pub loop-i-init : goal.loop-i-init
loop-i-init c = (omega arith, start_first c.args.file.now c.args.pairs c.requires.0, rw sub-zero)

pub returns-then-offset-at : goal.returns-then-offset-at
returns-then-offset-at c = search (misplaced, pair_stop)

pub loop-i-preserved : goal.loop-i-preserved
loop-i-preserved c = (omega arith, search start_next, search pair_more)

pub returns-then-at-file : goal.returns-then-at-file
returns-then-at-file c = search ends_early

pub returns : goal.returns
returns c = search ends_right
