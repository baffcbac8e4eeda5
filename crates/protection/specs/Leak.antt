-- Runs, leaks, and a leak at the last step (document 01, "Leak, replay and judge").
use Rattle.std.specs.Prelude.{Bool, true, false, ◌||◌, List, [], ◌∷◌, ℕ, T}
use Rattle.protection.specs.State.{State}
use Rattle.protection.specs.Command.{System, Call}
use Rattle.protection.specs.Execution.{Outcome, refused, done, execute}

-- "A rule run is refused, and the state stays"
abbrev pub after : Outcome → State → State
after (refused n) m = m
after (done m' new) m = m'

abbrev pub is_refused : Outcome → Bool
is_refused (refused n) = true
is_refused (done m' new) = false

-- "in a rule carried out whole, some step enters r into a cell that lacks r at that step"
abbrev pub is_leak : ℕ → Outcome → Bool
is_leak r (refused n) = false
is_leak r (done m' new) = new r

-- "A run of the rules is a finite list of rule runs, refused ones included; it may be empty. It leaks r if .."
unfoldable pub leaks : (ℕ → Bool) → System → ℕ → State → List Call → Bool
leaks nameable S r m [] = false
leaks nameable S r m (x ∷ xs) = is_leak r (execute nameable S m x) || leaks nameable S r (after (execute nameable S m x) m) xs

unfoldable pub any_refused : (ℕ → Bool) → System → State → List Call → Bool
any_refused nameable S m [] = false
any_refused nameable S m (x ∷ xs) = is_refused (execute nameable S m x) || any_refused nameable S (after (execute nameable S m x) m) xs

-- the run without its last rule run
abbrev pub init : List Call → List Call
init [] = []
init (x ∷ []) = []
init (x ∷ y ∷ xs) = x ∷ init (y ∷ xs)

-- "It leaks at its last step and nowhere sooner if none of its rule runs is refused, it leaks, and without its last rule run it does not."
pub record LeaksLast (nameable : ℕ → Bool) (S : System) (r : ℕ) (m : State) (xs : List Call) : Type 0 where
  pub carried : T (any_refused nameable S m xs) → ⊥
  pub leak : T (leaks nameable S r m xs)
  pub sooner : T (leaks nameable S r m (init xs)) → ⊥
