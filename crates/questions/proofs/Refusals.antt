-- Refusals 22 to 24: what the code tests, and what holds where none is given. Assumes nothing.
use Prim.Native.Nat.{ℕ, zero, suc, ◌+◌, ◌*◌, ◌-◌, ◌≤◌, ◌<◌}
use mathlib.Core.Path.{◌≡◌, refl, sym, ap, ap₂, ◌∙◌, subst}
use mathlib.Core.Bool.{Bool, true, false, not, ◌&&◌}
use native.Mathlib.Omega.{arith}
use native.Mathlib.Decide.{dec_lt}
use borrow.Author.Tests.{lt-ltb, le-ltb}
use lib.Dec.{ltb, ltb→lt}
use lib.ListN.{length, get_or, take}
use Rattle.cases.specs.Cases.{pick, all, tabulate}
use Rattle.cases.proofs.Bools.{holds as test-holds}
use Rattle.cases.proofs.Loops.{all_at}
use Rattle.protection.specs.Limits.{start_names}
use Rattle.protection.specs.State.{State}
use Rattle.protection.specs.Size.{names_of, taken_names, step_bound}
use Rattle.protection.specs.Command.{System}
use Rattle.matrix.specs.Matrices.{state_of}
use Rattle.commands.specs.Contents.{missing}
use Rattle.commands.proofs.Reading.{operations_length}
use Rattle.commands.specs.declared.Command.{Command}
use Rattle.policy.specs.Contents.{system_of}
use Rattle.policy.specs.Fits.{PolicyFits}
use Rattle.policy.specs.declared.Policy.{Policy}
use Rattle.goals.specs.Goals.{reserved_by, GoalFits}
use Rattle.goals.proofs.Ending.{none-reserved}
use Rattle.goals.specs.declared.Goal.{Goal}
use Rattle.visits.specs.Engine.{bound_of, command_number, Asked}
use Rattle.std.proofs.lemmas.List.{length-take-le, get_or-take, get_or_past}
use Rattle.layout.proofs.Accepted.{or-else}
use Rattle.questions.specs.Refusals.{single_operations, start_refusal, size_refusal}
use Rattle.questions.specs.Rounded.{BasisOf}
use Rattle.questions.specs.declared.Basis.{Basis}

-- ---- commands of one operation, by their numbers
abbrev pub one_operation : Policy → ℕ → Bool
one_operation p i = ltb (get_or p.command i missing).operations 2

single_all : (p : Policy) → PolicyFits p → (n j : ℕ) → j + n ≤ p.commands → single_operations (tabulate (command_number p) n j) ≡ all (one_operation p) n j
unfolding all
single_all p F zero j l = refl
single_all p F (suc n) j l =
    ap₂ ◌&&◌ (ap (λ (k : ℕ). ltb k 2) (operations_length p.rights (get_or p.command j missing) (F.commands_fit j (omega arith)) F.few_rights)) (single_all p F n (suc j) (omega arith))
    ∙ both (one_operation p j) (all (one_operation p) n (suc j))
  where
    both : (b c : Bool) → b && c ≡ pick b c false
    both true c = refl
    both false c = refl

-- the commands that count, as the code takes them
module _ (p : Policy) (F : PolicyFits p) where
  pub commands_taken : length (take p.commands p.command) ≡ p.commands
  commands_taken = length-take-le p.commands p.command (by (dec_lt (length p.command) p.commands))
    where
      by : Dec (length p.command < p.commands) → p.commands ≤ length p.command
      by (yes l) = absurd (let e : (get_or p.command (length p.command) missing).operations ≡ 0 = ap (λ (c : Command). c.operations) (get_or_past p.command (length p.command) missing (omega arith)) in omega (arith, (F.commands_fit (length p.command) l).some_operation))
      by (no l) = omega arith

  module _ (i : ℕ) (l : i < p.commands) where
    taken : get_or (take p.commands p.command) i missing ≡ get_or p.command i missing
    taken = get_or-take p.commands p.command i missing l

    pub single_yes : (get_or (take p.commands p.command) i missing).operations < 2 → one_operation p i ≡ true
    single_yes h = lt-ltb (get_or p.command i missing).operations 2 (subst (λ (c : Command). c.operations < 2) taken h)

    pub single_no : 2 ≤ (get_or (take p.commands p.command) i missing).operations → one_operation p i ≡ false
    single_no h = le-ltb (get_or p.command i missing).operations 2 (subst (λ (c : Command). 2 ≤ c.operations) taken h)

  pub single_is : (r : Bool) → r ≡ all (one_operation p) p.commands 0 → r ≡ single_operations (system_of p).commands
  single_is r e = e ∙ sym (single_all p F p.commands 0 (omega arith))

-- ---- the bytes of all steps fit a word
pub basis_fits : (x : Basis) → ((p : Policy) × BasisOf p x) → 5 * x.bound < 18446744073709551616
basis_fits x B = omega (arith, B.1.bound_few)

-- ---- a question that is not refused
not_less : (a b : ℕ) → ltb a b ≡ false → b ≤ a
not_less a b q = go (dec_lt a b)
  where
    go : Dec (a < b) → b ≤ a
    go (yes l) = absurd (let z : ◌≡◌ {A = Bool} true false = sym (lt-ltb a b l) ∙ q in let w : ◌≡◌ {A = ℕ} 0 1 = cc in omega arith)
    go (no f) = omega arith

pub record Sized (S : System) (m : State) (n : ℕ) : Type 0 where
  pub single : single_operations S.commands ≡ true
  pub few_names : names_of m ≤ start_names
  pub room : 5 * step_bound S.rights m ≤ n

pub sized : (S : System) (m : State) (n : ℕ) → size_refusal S m n ≡ 0 → Sized S m n
sized S m n e =
    let w = or-else (start_refusal S m) (pick (ltb n (5 * step_bound S.rights m)) 24 0) e in
    go (single_operations S.commands) (ltb start_names (names_of m)) (ltb n (5 * step_bound S.rights m)) refl refl refl w.0 w.1
  where
    nonzero : (k : ℕ) → suc k ≡ 0 → ⊥
    nonzero k q = omega arith

    go : (b c d : Bool) → single_operations S.commands ≡ b → ltb start_names (names_of m) ≡ c → ltb n (5 * step_bound S.rights m) ≡ d
        → ◌≡◌ {A = ℕ} (pick (not b) 22 (pick c 23 0)) 0 → ◌≡◌ {A = ℕ} (pick d 24 0) 0 → Sized S m n
    go false c d eb ec ed q w = absurd (nonzero 21 q)
    go true true d eb ec ed q w = absurd (nonzero 22 q)
    go true false true eb ec ed q w = absurd (nonzero 23 w)
    go true false false eb ec ed q w = record { single = eb; few_names = not_less start_names (names_of m) ec; room = not_less n (5 * step_bound S.rights m) ed }

-- the engine's question is asked where nothing is refused, of commands of one operation, few names that are taken, and room for the steps
pub goal_asked : (p : Policy) (G : Goal) (n : ℕ) → single_operations (system_of p).commands ≡ true → taken_names (reserved_by G) (state_of p.matrix) ≤ start_names → 5 * bound_of p ≤ n → PolicyFits p → GoalFits G → Asked p G n
goal_asked p G n one few room F H = record {
  fits = F;
  goal = H;
  single = record {
    one_step = λ i l.
        let whole : all (one_operation p) p.commands 0 ≡ true = sym (single_all p F p.commands 0 (omega arith)) ∙ one in
        let few : (get_or p.command i missing).operations < 2 = ltb→lt (get_or p.command i missing).operations 2 (test-holds (one_operation p i) (all_at (one_operation p) p.commands 0 whole i (omega arith) (omega arith))) in
        omega (arith, (F.commands_fit i l).some_operation);
  };
  few_names = few;
  room = room;
}

-- with no name reserved
pub open_asked : (p : Policy) (G : Goal) (n : ℕ) → G.reserved ≡ 0 → size_refusal (system_of p) (state_of p.matrix) n ≡ 0 → PolicyFits p → GoalFits G → Asked p G n
open_asked p G n z e F H =
    let P = sized (system_of p) (state_of p.matrix) n e in
    goal_asked p G n P.single (subst (λ (R : ℕ → Bool). taken_names R (state_of p.matrix) ≤ start_names) (sym (none-reserved G.reserved z)) P.few_names) P.room F H
