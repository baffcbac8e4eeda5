-- What is refused of every question that the rounds answer (document 01, "Refused, by whom": 22 to 24).
use Rattle.std.specs.Prelude.{ℕ, ◌+◌, ◌*◌, Bool, true, not, ◌&&◌, List, [], ◌∷◌, ltb, length}
use Rattle.cases.specs.Cases.{pick}
use Rattle.protection.specs.Limits.{rights, start_names}
use Rattle.protection.specs.State.{State}
use Rattle.protection.specs.Size.{names_of, step_bound}
use Rattle.protection.specs.Command.{Command, System}
use Rattle.layout.specs.Refusals.{or_else}

-- not 22, "a rule with more than one step"
abbrev pub single_operations : List Command → Bool
single_operations [] = true
single_operations (C ∷ Cs) = ltb (length C.operations) 2 && single_operations Cs

-- "in this order: 22 a rule with more than one step; 23 more than 30 names exist"; 0 is no refusal
abbrev pub start_refusal : System → State → ℕ
start_refusal S m =
    pick (not (single_operations S.commands)) 22
    (pick (ltb start_names (names_of m)) 23
    0)

-- "24 buffer shorter than 5 × .." n is the buffer's length
abbrev pub size_refusal : System → State → ℕ → ℕ
size_refusal S m n = or_else (start_refusal S m) (pick (ltb n (5 * step_bound S.rights m)) 24 0)

-- "g × (subjects + 1) × (names + 2) + 4" at its largest: all rights, and 30 names, all subjects
abbrev pub most_steps : ℕ
most_steps = rights * (start_names + 1) * (start_names + 2) + 4
