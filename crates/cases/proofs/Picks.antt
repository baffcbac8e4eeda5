-- What a definition by cases is, given how its test came out. `search cases depth n` takes a chain of n tests apart. Assumes nothing.
use Prim.Native.Nat.{ℕ, ◌<◌, ◌≤◌}
use mathlib.Core.Path.{◌≡◌, sym, ◌∙◌}
use mathlib.Core.Bool.{Bool, true, false, not}
use lib.Dec.{ltb, leb, eqb}
use borrow.Author.Tests.{lt-ltb, le-ltb, le-leb, lt-leb, eq-eqb, ne_eqb, not-true, not-false}
use Rattle.cases.specs.Cases.{pick}

pub on_lt : {A : Type 0} (a b : ℕ) (x y z : A) → a < b → x ≡ y → x ≡ pick (ltb a b) y z
on_lt a b x y z p e = simp (lt-ltb a b p) e

pub on_ge : {A : Type 0} (a b : ℕ) (x y z : A) → b ≤ a → x ≡ z → x ≡ pick (ltb a b) y z
on_ge a b x y z p e = simp (le-ltb a b p) e

pub on_le : {A : Type 0} (a b : ℕ) (x y z : A) → a ≤ b → x ≡ y → x ≡ pick (leb a b) y z
on_le a b x y z p e = simp (le-leb a b p) e

pub on_gt : {A : Type 0} (a b : ℕ) (x y z : A) → b < a → x ≡ z → x ≡ pick (leb a b) y z
on_gt a b x y z p e = simp (lt-leb a b p) e

pub on_eq : {A : Type 0} (a b : ℕ) (x y z : A) → a ≡ b → x ≡ y → x ≡ pick (eqb a b) y z
on_eq a b x y z p e = simp (eq-eqb a b p) e

pub on_ne : {A : Type 0} (a b : ℕ) (x y z : A) → (a ≡ b → ⊥) → x ≡ z → x ≡ pick (eqb a b) y z
on_ne a b x y z p e = simp (ne_eqb a b p) e

-- a `match` that came to the arm of another number
pub on_other : {A : Type 0} (a b k : ℕ) (x y z : A) → a ≡ k → eqb k b ≡ false → x ≡ z → x ≡ pick (eqb a b) y z
on_other a b k x y z p q e = simp (p, q) e

-- a test whose answer the code holds in a local
pub on_true : {A : Type 0} (b : Bool) (x y z : A) → b ≡ true → x ≡ y → x ≡ pick b y z
on_true b x y z p e = simp p e

pub on_false : {A : Type 0} (b : Bool) (x y z : A) → b ≡ false → x ≡ z → x ≡ pick b y z
on_false b x y z p e = simp p e

-- a test that a callee made, whose answer r the code branched on
pub on_yes : {A : Type 0} (r b : Bool) (x y z : A) → r ≡ b → r ≡ true → x ≡ y → x ≡ pick b y z
on_yes r b x y z d p e = simp (sym d ∙ p) e

pub on_no : {A : Type 0} (r b : Bool) (x y z : A) → r ≡ b → r ≡ false → x ≡ z → x ≡ pick b y z
on_no r b x y z d p e = simp (sym d ∙ p) e

-- a number that a callee answered, r, which the code compared
pub on_is : {A : Type 0} (r a b : ℕ) (x y z : A) → r ≡ a → r ≡ b → x ≡ y → x ≡ pick (eqb a b) y z
on_is r a b x y z d p e = on_eq a b x y z (sym d ∙ p) e

pub on_isnt : {A : Type 0} (r a b : ℕ) (x y z : A) → r ≡ a → (r ≡ b → ⊥) → x ≡ z → x ≡ pick (eqb a b) y z
on_isnt r a b x y z d p e = on_ne a b x y z (λ q. p (d ∙ q)) e

-- the same where the code branched on `!r`
pub on_not_no : {A : Type 0} (r b : Bool) (x y z : A) → r ≡ b → not r ≡ true → x ≡ z → x ≡ pick b y z
on_not_no r b x y z d p e = on_no r b x y z d (not-true r p) e

pub on_not_yes : {A : Type 0} (r b : Bool) (x y z : A) → r ≡ b → not r ≡ false → x ≡ y → x ≡ pick b y z
on_not_yes r b x y z d p e = on_yes r b x y z d (not-false r p) e

-- tests of numbers alone
pub ruleset tests = (on_lt, on_ge, on_le, on_gt, on_eq, on_ne)

pub ruleset arms = (on_eq, on_other, on_ne)

-- tests of numbers and a callee's tests
pub ruleset cases = (on_lt, on_ge, on_le, on_gt, on_eq, on_ne, on_yes, on_no, on_not_no, on_not_yes)
