-- What an accepted file says: its header, its matrix and its commands, as the reader hands them out; and the machine's state and commands that they stand for.
use Rattle.std.specs.Prelude.{ℕ, ◌+◌, List, ◌++◌, length, get_or, take, drop, ltb}
use Rattle.cases.specs.Cases.{pick, tabulate}
use Rattle.rights.specs.Bytes.{bytes_of}
use Rattle.protection.specs.Limits.{commands}
use Rattle.protection.specs.State.{State}
use Rattle.protection.specs.Command.{System}
use Rattle.matrix.specs.Bytes.{view, kinds_of, cells_of}
use Rattle.matrix.specs.declared.Matrix.{Matrix}
use Rattle.layout.specs.File.{rights_of, offset_of, kinds_in, cells_in, carries_in, command_in, commands_of}
use Rattle.carries.specs.Bytes.{carried_in}
use Rattle.carries.specs.Closed.{carried_of, carriers_of}
use Rattle.commands.specs.Contents.{no_command, missing, command_of, meaning}
use Rattle.commands.specs.declared.Command.{Command}
use Rattle.policy.specs.declared.Policy.{Policy}

-- ---- the whole file
-- the first n commands, and none in the places behind them
unfoldable pub command_table : List ℕ → ℕ → List Command
command_table f n = tabulate (λ i. pick (ltb i n) (command_of (command_in f i)) no_command) commands 0

abbrev pub matrix_in : List ℕ → Matrix
matrix_in f = record { kinds = kinds_in f; cells = cells_in f }

unfoldable pub policy_of : List ℕ → Policy
policy_of f =
    record {
      rights = rights_of f;
      commands = commands_of f;
      matrix = matrix_in f;
      carries = carries_in f;
      carried = carried_of (rights_of f) (carries_in f);
      carriers = carriers_of (rights_of f) (carries_in f);
      command = command_table f (commands_of f);
    }

-- ---- what they stand for
abbrev pub system_of : Policy → System
system_of p = record { rights = p.rights; carried = carried_in p.carries; commands = tabulate (λ i. meaning (get_or p.command i missing)) p.commands 0 }

-- the machine's state and its commands, of a file
abbrev pub file_state : List ℕ → State
file_state f = view (kinds_in f) (cells_in f)

abbrev pub file_system : List ℕ → System
file_system f = system_of (policy_of f)

-- the bytes s in the place of those that stand from `at` on
abbrev pub over : List ℕ → ℕ → List ℕ → List ℕ
over f at s = take at f ++ s ++ drop (at + length s) f

-- the file with the state's kinds and cells: "writes only kinds and cells of the lent file"
unfoldable pub written : List ℕ → State → List ℕ
written f m = over (over f (offset_of f 0) (kinds_of m)) (offset_of f 1) (bytes_of (cells_of m))
