-- Rights that carry others (document 02, C-19).
use Rattle.std.specs.Prelude.{Bool, ◌&&◌, ◌||◌, ℕ, zero, suc, T, eqb, ltb}
use Rattle.cases.specs.Cases.{any}
use Rattle.protection.specs.Command.{System}

-- by a file of g rights: "byte i the set of rights that right i carries"
abbrev pub links : ℕ → (ℕ → ℕ → Bool) → ℕ → ℕ → Bool
links g carried i j = (ltb i g && ltb j g) && carried i j

-- "Carrying goes on through further rights, and each right carries itself": a chain of links, of any length
pub data Carries (S : System) : ℕ → ℕ → Type 0 where
  itself : (q : ℕ) → Carries S q q
  through : (i j q : ℕ) → T (links S.rights S.carried i j) → Carries S j q → Carries S i q

-- a chain of at most n links
unfoldable pub chained : ℕ → (ℕ → ℕ → Bool) → ℕ → ℕ → ℕ → Bool
chained g carried zero i q = eqb i q
chained g carried (suc n) i q = eqb i q || any (λ j. links g carried i j && chained g carried n j q) g 0

-- right i carries right q, computed: g links are enough (`carries-exactly`)
abbrev pub carries : System → ℕ → ℕ → Bool
carries S i q = chained S.rights S.carried S.rights i q

-- "A condition holds if some right in the cell carries the one named": a set of rights meets a condition on right q
unfoldable pub meets : System → (ℕ → Bool) → ℕ → Bool
meets S set q = set q || any (λ i. set i && carries S i q) S.rights 0
