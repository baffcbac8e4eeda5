-- The refusal of what rights carry (document 02, C-19). 0 is no refusal.
use Rattle.std.specs.Prelude.{Bool, List, ℕ, get_or}
use Rattle.cases.specs.Cases.{pick, all}
use Rattle.rights.specs.Rights.{within}

-- "44 .. a carried right from g on"
abbrev pub carry_fits : ℕ → List ℕ → ℕ → Bool
carry_fits g l i = within (get_or l i 0) g

unfoldable pub carries_refusal : ℕ → List ℕ → ℕ
carries_refusal g l = pick (all (carry_fits g l) g 0) 0 44
