-- The refusals of whoever wrote the file, 1 to 9 and 44, as one chain of tests (document 01, "Refused, by whom"):
-- "Order: 1 (2 and 4,096 bytes), 2, 3, 1 (pairs), 4, 5 for kinds and cells, 6, 7, then rule by rule 5 (under 3), 8, 5, 9."
-- 44 stands "between 7 and the rules" (document 02, C-19). 0 is no refusal.
use Rattle.std.specs.Prelude.{ℕ, zero, suc, List}
use Rattle.matrix.specs.Refusals.{matrix_refusal}
use Rattle.layout.specs.File.{rights_of, kinds_in, cells_in, carries_in, command_in, commands_of}
use Rattle.layout.specs.Refusals.{or_else, header_refusal, pairs_refusal, sizes_refusal}
use Rattle.carries.specs.Refusals.{carries_refusal}
use Rattle.commands.specs.Refusals.{command_refusal}

-- the first refusal of the n rules from number i on
unfoldable pub commands_refusal : List ℕ → ℕ → ℕ → ℕ
commands_refusal f zero i = 0
commands_refusal f (suc n) i = or_else (command_refusal (rights_of f) (command_in f i)) (commands_refusal f n (suc i))

-- ---- the file's refusal
unfoldable pub refusal : List ℕ → ℕ
refusal f =
    or_else (header_refusal f)
    (or_else (pairs_refusal f)
    (or_else (sizes_refusal f)
    (or_else (matrix_refusal (rights_of f) (kinds_in f) (cells_in f))
    (or_else (carries_refusal (rights_of f) (carries_in f))
    (commands_refusal f (commands_of f) 0)))))
