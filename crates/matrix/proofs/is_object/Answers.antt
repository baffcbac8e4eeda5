use Rattle.matrix.proofs.KindBytes.{object_byte}
use Rattle.matrix.proofs.is_object.Goals as goal

pub returns : goal.returns
returns c = object_byte c.args.kind
