-- Small states, systems and calls, on which readings are computed. Assumes nothing.
use Prim.Native.Nat.{ℕ}
use mathlib.Core.Bool.{Bool, true, false, ◌&&◌, ◌||◌}
use mathlib.Core.List.{List, [], ◌∷◌}
use lib.Dec.{eqb}
use lib.ListN.{get_or}
use Rattle.protection.specs.Limits.{unused}
use Rattle.protection.specs.State.{Kind, absent, State}
use Rattle.protection.specs.Command.{Condition, Operation, Command, System, Call}
use Rattle.protection.specs.Judge.{Verdict}

-- a right in a cell
pub record Mark : Type 0 where
  pub subject : ℕ
  pub object : ℕ
  pub right : ℕ

abbrev pub mark : ℕ → ℕ → ℕ → Mark
mark q s o = record { subject = s; object = o; right = q }

abbrev pub marked : List Mark → ℕ → ℕ → ℕ → Bool
marked [] s o q = false
marked (c ∷ cs) s o q = ((eqb c.subject s && eqb c.object o) && eqb c.right q) || marked cs s o q

-- the kinds of the names from 0 on, all others absent; and the rights that are in cells
abbrev pub state : List Kind → List Mark → State
state ks cs = record { kind = λ x. get_or ks x absent; cell = marked cs }

abbrev pub if_in : ℕ → ℕ → ℕ → Condition
if_in q s o = record { right = q; subject = s; object = o }

abbrev pub command : ℕ → List Condition → List Operation → Command
command k cs os = record { parameters = k; conditions = cs; operations = os }

abbrev pub system : ℕ → List Command → System
system g cs = record { rights = g; carried = λ i j. false; commands = cs }

-- with carries: byte i as the list of the rights that right i carries
abbrev pub listed : List ℕ → ℕ → Bool
listed [] q = false
listed (x ∷ xs) q = eqb x q || listed xs q

abbrev pub system_carrying : ℕ → List (List ℕ) → List Command → System
system_carrying g ls cs = record { rights = g; carried = λ i j. listed (get_or ls i []) j; commands = cs }

abbrev pub call : ℕ → List ℕ → Call
call i xs = record { command = i; a0 = get_or xs 0 unused; a1 = get_or xs 1 unused; a2 = get_or xs 2 unused; a3 = get_or xs 3 unused }

abbrev pub safe : List Call → Verdict
safe xs = record { unsafe = false; steps = xs }

abbrev pub unsafe : List Call → Verdict
unsafe xs = record { unsafe = true; steps = xs }
