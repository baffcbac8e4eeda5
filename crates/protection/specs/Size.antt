-- How many names a state has, and how many steps there must be room for (document 01, refusals 23 and 24).
use Rattle.std.specs.Prelude.{ℕ, zero, suc, ◌+◌, ◌*◌, Bool, ◌||◌}
use Rattle.cases.specs.Cases.{pick}
use Rattle.protection.specs.Limits.{names}
use Rattle.protection.specs.State.{State, object_in, subject_in}

-- how many of the numbers below n pass the test
unfoldable pub count : (ℕ → Bool) → ℕ → ℕ
count p zero = 0
count p (suc n) = pick (p n) 1 0 + count p n

-- "names are all that exist at the start, subjects among them"
abbrev pub subjects_of : State → ℕ
subjects_of m = count (subject_in m) names

abbrev pub names_of : State → ℕ
names_of m = count (object_in m) names

-- with the names that a create may not take though they are absent (document 02, C-15)
abbrev pub taken_names : (ℕ → Bool) → State → ℕ
taken_names R m = count (λ x. R x || object_in m x) names

-- "g × (subjects + 1) × (names + 2) + 4"
abbrev pub step_bound : ℕ → State → ℕ
step_bound g m = g * (subjects_of m + 1) * (names_of m + 2) + 4
