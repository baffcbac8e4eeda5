-- All cells of a goal, and what ends the rounds by a goal. Assumes nothing.
use Prim.Native.Nat.{ℕ, zero, suc}
use mathlib.Core.Path.{◌≡◌, refl, ap, ◌∙◌, subst}
use mathlib.Core.Bool.{Bool, true, false, ◌&&◌}
use mathlib.Core.List.{List}
use lib.Dec.{eqb}
use Rattle.cases.specs.Cases.{pick, all, tabulate}
use Rattle.protection.specs.State.{State}
use Rattle.protection.specs.Need.{Cell, holds_all}
use Rattle.goals.specs.Goals.{needed_at, needed_in, needed_of, question_of, ends_by, NeededFits, GoalFits}
use Rattle.goals.specs.declared.Needed.{Needed}
use Rattle.goals.specs.declared.End.{End}
use Rattle.goals.specs.declared.End.TheVariants.{Leak, Held}
use Rattle.goals.specs.declared.Goal.{Goal}

abbrev pub holds_one : State → Cell → Bool
holds_one m c = m.cell c.subject c.object c.right

-- a matrix holds the cells of a list where it holds each of them
pub held_all : (m : State) (l : List ℕ) (n j : ℕ) → all (λ (i : ℕ). holds_one m (needed_at l i)) n j ≡ holds_all (tabulate (needed_at l) n j) m
unfolding all
held_all m l zero j = refl
held_all m l (suc n) j = both (holds_one m (needed_at l j)) _ ∙ ap (λ (b : Bool). holds_one m (needed_at l j) && b) (held_all m l n (suc j))
  where
    both : (b c : Bool) → pick b c false ≡ b && c
    both true c = refl
    both false c = refl

-- ---- what ends the rounds
pub needed_fits : (G : Goal) (l : Needed) → G.end ≡ Held l → GoalFits G → NeededFits l
needed_fits G l e F = subst (λ (x : End). NeededFits (needed_of x)) e F.needed

pub end_leak : (G : Goal) (q r : ℕ) (m : State) (b : Bool) → G.end ≡ Leak r → b ≡ eqb q r → b ≡ ends_by G q m
end_leak G q r m b e d = d ∙ rw e

pub end_held : (G : Goal) (q : ℕ) (l : Needed) (m : State) (b : Bool) → G.end ≡ Held l → b ≡ holds_all (needed_in l) m → b ≡ ends_by G q m
end_held G q l m b e d = d ∙ rw e

pub start_leak : (G : Goal) (r : ℕ) (m : State) → G.end ≡ Leak r → false ≡ (question_of G).at_start m
start_leak G r m e = rw e

pub start_held : (G : Goal) (l : Needed) (m : State) (b : Bool) → G.end ≡ Held l → b ≡ holds_all (needed_in l) m → b ≡ (question_of G).at_start m
start_held G l m b e d = d ∙ rw e
