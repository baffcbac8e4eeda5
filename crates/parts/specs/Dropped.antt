-- The list as a mask, and the part of a policy: what the functions over them give.
use Rattle.std.specs.Prelude.{ℕ, zero, suc, List, get_or}
use Rattle.cases.specs.Cases.{pick, iterate}
use Rattle.rights.specs.Rights.{has, insert}
use Rattle.protection.specs.Limits.{names}
use Rattle.matrix.specs.Matrices.{renewed}
use Rattle.matrix.specs.declared.Matrix.{Matrix}
use Rattle.policy.specs.declared.Policy.{Policy}

-- the first n names of the list as digits of a mask
unfoldable pub mask_of : List ℕ → ℕ → ℕ
mask_of l zero = 0
mask_of l (suc n) = insert (mask_of l n) (get_or l n 0)

-- name x is destroyed if it is a digit of z
abbrev pub drop_at : ℕ → ℕ → Matrix → Matrix
drop_at z x m = pick (has z x) (renewed m x 0) m

unfoldable pub dropped : Matrix → ℕ → Matrix
dropped m z = iterate (drop_at z) names 0 m

unfoldable pub part_of : Policy → ℕ → Policy
part_of p z = record { rights = p.rights; commands = p.commands; matrix = dropped p.matrix z; carries = p.carries; carried = p.carried; carriers = p.carriers; command = p.command }
