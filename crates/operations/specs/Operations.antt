-- The enum `Operation` with actual parameters: what the functions over it ask, and what doing it leaves of a matrix.
use Rattle.std.specs.Prelude.{ℕ, ◌<◌, List, get_or}
use Rattle.protection.specs.Limits.{names, rights, parameters}
use Rattle.protection.specs.Command.{Actuals}
use Rattle.matrix.specs.Matrices.{entered, deleted, renewed}
use Rattle.matrix.specs.declared.Matrix.{Matrix}
use Rattle.commands.specs.declared.Operation.{Operation}
use Rattle.commands.specs.declared.Operation.TheVariants.{Enter, Delete, CreateSubject, CreateObject, DestroySubject, DestroyObject}

-- parameter b has a name
pub record HasName (a : List ℕ) (b : ℕ) : Type 0 where
  pub parameter : b < parameters
  pub name : get_or a b 0 < names

-- the operation's right is one that a cell can hold, and its parameters have names
abbrev pub Applies : List ℕ → Operation → Type 0
Applies a (Enter q s o) = (q < rights) × HasName a s × HasName a o
Applies a (Delete q s o) = (q < rights) × HasName a s × HasName a o
Applies a (CreateSubject s) = HasName a s
Applies a (CreateObject o) = HasName a o
Applies a (DestroySubject s) = HasName a s
Applies a (DestroyObject o) = HasName a o

abbrev pub performed : Matrix → Actuals → Operation → Matrix
performed m a (Enter q s o) = entered m q (a s) (a o)
performed m a (Delete q s o) = deleted m q (a s) (a o)
performed m a (CreateSubject s) = renewed m (a s) 2
performed m a (CreateObject o) = renewed m (a o) 1
performed m a (DestroySubject s) = renewed m (a s) 0
performed m a (DestroyObject o) = renewed m (a o) 0
