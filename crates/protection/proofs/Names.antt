-- What the printer's machine takes for a name (document 01: "names are whole numbers from 0 up, without a bound"). Assumes nothing.
use Prim.Native.Nat.{ℕ}
use lib.Dec.{T}
use Rattle.protection.specs.Execution.{unbounded}

pub every_name : (x : ℕ) → T (unbounded x)
every_name x = tt
