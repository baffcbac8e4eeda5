-- The limits of document 01: "The limits 32, 8, 4, 6 and 30 belong to the matrix and to the rule and are stated there once."
-- Of rights there are 12 (document 02, C-21).
-- The code has them once more, as the associated constants of `Matrix` and of `Command`.
use Rattle.std.specs.Prelude.{ℕ}

-- names are the numbers below this
abbrev pub names : ℕ
names = 32

-- rights are the numbers below g, which is at most this
abbrev pub rights : ℕ
rights = 12

-- names that may exist where a verdict is asked for
abbrev pub start_names : ℕ
start_names = 30

-- of a command (document 01: a rule): its parameters (blanks), its conditions, its operations (steps)
abbrev pub parameters : ℕ
parameters = 4

abbrev pub conditions : ℕ
conditions = 4

abbrev pub operations : ℕ
operations = 6

-- an actual parameter in a position that the command does not use
abbrev pub unused : ℕ
unused = 255

-- commands in a file: "there are 0 to 32"
abbrev pub commands : ℕ
commands = 32

-- bytes of a file
abbrev pub file_bytes : ℕ
file_bytes = 4096
