-- A list of cells as a goal. Assumes nothing.
use Prim.Native.Nat.{ℕ, ◌+◌, ◌*◌, ◌-◌, ◌/◌, ◌≤◌, ◌<◌}
use mathlib.Core.Path.{◌≡◌, refl}
use mathlib.Core.List.{List, ◌++◌}
use native.Mathlib.Omega.{arith}
use lib.ListN.{length, get_or, replicate, drop, get_or-append}
use Rattle.cases.proofs.Lists.{tabulate_same}
use Rattle.commands.specs.Contents.{padded}
use Rattle.commands.proofs.Contents.{copied}
use Rattle.goals.specs.Goals.{cell_limit, needed_at, cells_in, needed_by, held_goal}
use Rattle.goals.specs.declared.End.TheVariants.{Held}
use Rattle.goals.specs.declared.Goal.{Goal}

pub held_copied : (l x : List ℕ) → length l ≤ 24 → x ≡ l
    → ◌≡◌ {A = Goal} (record { end = Held (record { count = length l / 3; cells = x ++ drop (length l) (replicate 24 0) }); reserved = 0 }) (held_goal l)
held_copied l x h e = rw (copied 24 (length l) l x h refl e)

pub held_cell : (l : List ℕ) (j : ℕ) → j < length l / 3 → needed_at (padded (3 * cell_limit) l) j ≡ needed_at l j
held_cell l j h = rw (at (3 * j) (omega arith), at (3 * j + 1) (omega arith), at (3 * j + 2) (omega arith))
  where
    at : (i : ℕ) → i < length l → get_or (padded (3 * cell_limit) l) i 0 ≡ get_or l i 0
    at i k = get_or-append l (replicate (3 * cell_limit - length l) 0) 0 i k

-- the goal needs the list's cells
pub held_needs : (l : List ℕ) → needed_by (held_goal l) ≡ cells_in l
held_needs l = tabulate_same (needed_at (padded (3 * cell_limit) l)) (needed_at l) (length l / 3) 0 (λ j _ k. held_cell l j (omega arith))
