use Rattle.matrix.proofs.KindBytes.{subject_byte}
use Rattle.matrix.proofs.is_subject.Goals as goal

pub returns : goal.returns
returns c = subject_byte c.args.kind
