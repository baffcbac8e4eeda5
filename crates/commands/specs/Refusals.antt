-- The refusals of a rule's section (document 01, "Refused, by whom"). 0 is no refusal.
use Rattle.std.specs.Prelude.{ℕ, ◌+◌, ◌*◌, Bool, false, List, length, ltb, eqb}
use Rattle.cases.specs.Cases.{pick, all}
use Rattle.protection.specs.Limits.{parameters, conditions, operations}
use Rattle.layout.specs.File.{byte}
use Rattle.commands.specs.Steps.{step_read, is_read}

-- ---- a rule's section p, with g rights: "Byte 0: blanks k, 1 to 4. Byte 1: conditions c, 0 to 4. Byte 2: steps m, 1 to 6."
-- "9 a right from g on, a blank from k on": a condition at place i
unfoldable pub condition_fits : ℕ → List ℕ → ℕ → Bool
condition_fits g p i = pick (ltb (byte p i) g) (pick (ltb (byte p (i + 1)) (byte p 0)) (ltb (byte p (i + 2)) (byte p 0)) false) false

-- ".. a step kind not 1 to 6, or right or second blank not 0 in kinds 3 to 6": a step at place i
unfoldable pub operation_fits : ℕ → List ℕ → ℕ → Bool
operation_fits g p i = is_read (step_read (byte p 0) g (byte p i) (byte p (i + 1)) (byte p (i + 2)) (byte p (i + 3)))

-- "Then c conditions of 3 bytes .., then m steps of 4 bytes": condition number j, and step number j of those from a place on
abbrev pub condition_fits_at : ℕ → List ℕ → ℕ → Bool
condition_fits_at g p j = condition_fits g p (3 + 3 * j)

abbrev pub operation_fits_at : ℕ → List ℕ → ℕ → ℕ → Bool
operation_fits_at g p from j = operation_fits g p (from + 4 * j)

-- "rule by rule 5 (under 3), 8, 5, 9"
unfoldable pub command_refusal : ℕ → List ℕ → ℕ
command_refusal g p =
    pick (ltb (length p) 3) 5
    (pick (ltb (byte p 0) 1) 8
    (pick (ltb parameters (byte p 0)) 8
    (pick (ltb conditions (byte p 1)) 8
    (pick (ltb (byte p 2) 1) 8
    (pick (ltb operations (byte p 2)) 8
    (pick (eqb (length p) (3 + 3 * byte p 1 + 4 * byte p 2))
    (pick (all (condition_fits_at g p) (byte p 1) 0)
    (pick (all (operation_fits_at g p (3 + 3 * byte p 1)) (byte p 2) 0) 0
    9) 9) 5))))))
