-- Conjunctions and disjunctions of tests as types: `search both` takes a conjunction apart and builds one. Assumes nothing.
use mathlib.Core.Path.{◌≡◌, refl, sym, subst, ◌∙◌}
use mathlib.Core.Bool.{Bool, true, false, not, ◌&&◌, ◌||◌}
use mathlib.Core.Logic.{◌⊎◌, inl, inr}
use lib.Dec.{T}

pub and_left : (a b : Bool) → T (a && b) → T a
and_left true b t = tt
and_left false b t = t

pub and_right : (a b : Bool) → T (a && b) → T b
and_right true b t = t
and_right false b t = absurd t

pub and_intro : (a b : Bool) → T a → T b → T (a && b)
and_intro true b s t = t
and_intro false b s t = s

pub ruleset both = (and_left, and_right, and_intro)

pub or_cases : (a b : Bool) → T (a || b) → T a ⊎ T b
or_cases true b t = inl t
or_cases false b t = inr t

pub or_left : (a b : Bool) → T a → T (a || b)
or_left true b t = tt
or_left false b t = absurd t

pub or_right : (a b : Bool) → T b → T (a || b)
or_right true b t = tt
or_right false b t = t

pub or_map : (a b c : Bool) → (T b → T c) → T (a || b) → T (a || c)
or_map true b c h t = tt
or_map false b c h t = h t

-- a test and the truth value that it has
pub is_true : (b : Bool) → T b → b ≡ true
is_true true t = refl
is_true false t = absurd t

pub is_false : (b : Bool) → (T b → ⊥) → b ≡ false
is_false true f = absurd (f tt)
is_false false f = refl

pub holds : (b : Bool) → b ≡ true → T b
holds b e = subst T (sym e) tt

pub fails : (b : Bool) → b ≡ false → T b → ⊥
fails b e t = subst T e t

pub stable : (b : Bool) → (T (not b) → ⊥) → T b
stable true f = tt
stable false f = f tt

pub not_not : (b : Bool) → T (not (not b)) → T b
not_not true t = tt
not_not false t = t

-- two tests that imply each other are one truth value
pub same_truth : (a b : Bool) → (T a → T b) → (T b → T a) → a ≡ b
same_truth true true f g = refl
same_truth true false f g = absurd (f tt)
same_truth false true f g = absurd (g tt)
same_truth false false f g = refl

-- a conjunction whose parts are callees' answers r and s, the second asked only where the first holds
pub and_second : (r s b c : Bool) → r ≡ b → s ≡ c → r ≡ true → s ≡ b && c
and_second r s b c d e t = let z : b ≡ true = sym d ∙ t in rw z e

pub and_first : (r b c : Bool) → r ≡ b → r ≡ false → false ≡ b && c
and_first r b c d t = let z : b ≡ false = sym d ∙ t in rw z

-- the same of what the code answers as `a && b`, where the first part failed; and of `a || b`
pub and_fails : (r b c : Bool) → r ≡ b → r ≡ false → r ≡ b && c
and_fails r b c d t = t ∙ and_first r b c d t

pub or_first : (r b c : Bool) → r ≡ b → r ≡ true → r ≡ b || c
or_first r b c d t = let z : b ≡ true = sym d ∙ t in rw z t

pub or_second : (r s b c : Bool) → r ≡ b → s ≡ c → r ≡ false → s ≡ b || c
or_second r s b c d e t = let z : b ≡ false = sym d ∙ t in rw z e
