-- Carrying through further rights, as sets: of each right those that it carries, and those that carry it, for a file of g rights with the entries l.
use Rattle.std.specs.Prelude.{Bool, List, ℕ}
use Rattle.cases.specs.Cases.{tabulate}
use Rattle.rights.specs.Rights.{number}
use Rattle.protection.specs.Limits.{rights}
use Rattle.protection.specs.Carrying.{chained}
use Rattle.carries.specs.Bytes.{carried_in}

-- right i carries right q: the machine's `carries`, of entries
abbrev pub reaches : ℕ → List ℕ → ℕ → ℕ → Bool
reaches g l i q = chained g (carried_in l) g i q

-- the ends of the chains of at most n links from each right: digit q of element i
unfoldable pub ends_of : ℕ → List ℕ → ℕ → List ℕ
ends_of g l n = tabulate (λ i. number (chained g (carried_in l) n i) rights) rights 0

-- digit q of element i
unfoldable pub carried_of : ℕ → List ℕ → List ℕ
carried_of g l = tabulate (λ i. number (reaches g l i) rights) rights 0

-- digit i of element q
unfoldable pub carriers_of : ℕ → List ℕ → List ℕ
carriers_of g l = tabulate (λ q. number (λ i. reaches g l i q) rights) rights 0
