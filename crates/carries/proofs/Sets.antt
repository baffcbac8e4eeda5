-- Arrays and sets that a loop fills. Assumes nothing.
use Prim.Native.Nat.{ℕ, ◌^◌, ◌<◌}
use mathlib.Core.Path.{◌≡◌, refl, sym, ◌∙◌}
use mathlib.Core.Bool.{Bool}
use native.Mathlib.Decide.{ℕ_discrete}
use borrow.Author.Tests.{eq-eqb, ne_eqb}
use lib.Dec.{eqb}
use lib.ListN.{set}
use Rattle.rights.specs.Rights.{has, insert, number}
use Rattle.rights.proofs.Sets.{has_number, number_below, same_rights, has_none, has_insert_same, has_insert_other}
use Rattle.protection.specs.Limits.{rights}

-- ---- a set of rights by its digits
pub number_is : (p : ℕ → Bool) (set : ℕ) → set < 2 ^ rights → ((q : ℕ) → q < rights → has set q ≡ p q) → set ≡ number p rights
number_is p set l h = same_rights rights set (number p rights) l (number_below p rights) (λ q d. h q d ∙ sym (has_number p rights q d))

pub has_alone : (i q : ℕ) → has (insert 0 i) q ≡ eqb i q
has_alone i q = go (ℕ_discrete i q)
  where
    go : Dec (i ≡ q) → has (insert 0 i) q ≡ eqb i q
    go (yes e) = rw (← e, eq-eqb i i refl) (has_insert_same 0 i)
    go (no n) = has_insert_other 0 i q n ∙ has_none q ∙ sym (ne_eqb i q n)
