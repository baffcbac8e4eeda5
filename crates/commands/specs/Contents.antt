-- What a rule's section says: the command as the reader hands it out, and the machine's command that it stands for.
use Rattle.std.specs.Prelude.{ℕ, zero, suc, ◌+◌, ◌*◌, ◌-◌, List, [], ◌∷◌, ◌++◌, length, get_or, take, drop, replicate, Option, Some, None}
use Rattle.cases.specs.Cases.{tabulate}
use Rattle.protection.specs.Limits.{rights, conditions, operations}
use Rattle.protection.specs.Command.{Condition, Operation, enter, delete, create_subject, create_object, destroy_subject, destroy_object, Command as ModelCommand}
use Rattle.layout.specs.File.{byte}
use Rattle.commands.specs.Steps.{StepRead, step_read}
use Rattle.commands.specs.Steps as read
use Rattle.commands.specs.declared.Command.{Command}
use Rattle.commands.specs.declared.Operation.{Operation as CodeOperation}
use Rattle.commands.specs.declared.Operation.TheVariants.{Enter, Delete, CreateSubject, CreateObject, DestroySubject, DestroyObject}

-- the bytes, filled up with 0
abbrev pub padded : ℕ → List ℕ → List ℕ
padded n l = l ++ replicate (n - length l) 0

abbrev pub no_command : Command
no_command = record { parameters = 0; conditions = 0; operations = 0; condition = replicate (3 * conditions) 0; operation = replicate (4 * operations) 0 }

-- what stands past the end of a list of commands
abbrev pub missing : Command
missing = record { parameters = 0; conditions = 0; operations = 0; condition = []; operation = [] }

-- the command in its section p: "Then c conditions of 3 bytes .., then m steps of 4 bytes"
unfoldable pub command_of : List ℕ → Command
command_of p =
    record {
      parameters = byte p 0;
      conditions = byte p 1;
      operations = byte p 2;
      condition = padded (3 * conditions) (take (3 * byte p 1) (drop 3 p));
      operation = padded (4 * operations) (take (4 * byte p 2) (drop (3 + 3 * byte p 1) p));
    }

-- ---- what they stand for
-- "conditions of 3 bytes (right, subject blank, object blank)"
abbrev pub condition_of : Command → ℕ → Condition
condition_of c j = record { right = get_or c.condition (3 * j) 0; subject = get_or c.condition (3 * j + 1) 0; object = get_or c.condition (3 * j + 2) 0 }

-- "steps of 4 bytes (kind, right, first blank, second blank)": what the reader says of step j, in a file of g rights
abbrev pub step_in : ℕ → Command → ℕ → StepRead
step_in g c j = step_read c.parameters g (get_or c.operation (4 * j) 0) (get_or c.operation (4 * j + 1) 0) (get_or c.operation (4 * j + 2) 0) (get_or c.operation (4 * j + 3) 0)

-- of a command that was read, in any file: its rights are below g, and so below the limit
abbrev pub operation_at : Command → ℕ → StepRead
operation_at c j = step_in rights c j

-- the machine's operation that the reader says, if it refuses none
abbrev pub operations_of : StepRead → List Operation
operations_of (read.Enter q s o) = enter q s o ∷ []
operations_of (read.Delete q s o) = delete q s o ∷ []
operations_of (read.CreateSubject s) = create_subject s ∷ []
operations_of (read.CreateObject o) = create_object o ∷ []
operations_of (read.DestroySubject s) = destroy_subject s ∷ []
operations_of (read.DestroyObject o) = destroy_object o ∷ []
operations_of read.Refused = []

-- those of the n steps from number j on
abbrev pub operations_from : Command → ℕ → ℕ → List Operation
operations_from c zero j = []
operations_from c (suc n) j = operations_of (operation_at c j) ++ operations_from c n (suc j)

-- the enum `Operation`, case by case
abbrev pub model_of : CodeOperation → Operation
model_of (Enter q s o) = enter q s o
model_of (Delete q s o) = delete q s o
model_of (CreateSubject s) = create_subject s
model_of (CreateObject o) = create_object o
model_of (DestroySubject s) = destroy_subject s
model_of (DestroyObject o) = destroy_object o

-- what the reader says where it says this operation
abbrev pub step_of : CodeOperation → StepRead
step_of (Enter q s o) = read.Enter q s o
step_of (Delete q s o) = read.Delete q s o
step_of (CreateSubject s) = read.CreateSubject s
step_of (CreateObject o) = read.CreateObject o
step_of (DestroySubject s) = read.DestroySubject s
step_of (DestroyObject o) = read.DestroyObject o

-- what the reader of a step answers: the operation, or nothing where the step is refused
abbrev pub step_told : Option CodeOperation → StepRead
step_told (Some o) = step_of o
step_told None = read.Refused

abbrev pub meaning : Command → ModelCommand
meaning c = record { parameters = c.parameters; conditions = tabulate (condition_of c) c.conditions 0; operations = operations_from c c.operations 0 }
