-- The closing search over the start cells. Assumes nothing.
use Prim.Native.Nat.{ℕ, ◌+◌, ◌*◌, ◌-◌, ◌/◌, ◌%◌, ◌≤◌, ◌<◌}
use mathlib.Core.Path.{◌≡◌, refl, sym, ap, ◌∙◌}
use mathlib.Core.Bool.{Bool, true, false, not}
use mathlib.Core.List.{List, []}
use mathlib.Core.Option.{Option}
use Rattle.std.specs.Prelude.{Option as Answered, None, is_some}
use native.Mathlib.Omega.{arith}
use borrow.Author.Tests.{lt-ltb, le-ltb}
use lib.Dec.{T, ltb}
use lib.ListN.{get_or}
use Rattle.rights.specs.Rights.{width, has}
use Rattle.rights.proofs.Sets.{has_none}
use Rattle.protection.specs.Limits.{names}
use Rattle.protection.specs.State.{State}
use Rattle.protection.specs.Command.{System, Call}
use Rattle.protection.specs.Execution.{take_out}
use Rattle.protection.specs.Judge.{first_in, lowest_free, takes, returns, first_call, both, is_empty, closing}
use Rattle.matrix.specs.Bytes.{view, inside, rights_in}
use Rattle.matrix.specs.Canonical.{Canonical}
use Rattle.matrix.specs.Matrices.{state_of}
use Rattle.matrix.specs.declared.Matrix.{Matrix}
use Rattle.masks.specs.declared.Tables.{Tables}
use Rattle.queries.specs.Sought.{Seen}
use Rattle.queries.specs.declared.Touch.{Touch}
use Rattle.queries.proofs.Picking.{none_from}
use Rattle.policy.specs.Contents.{system_of}
use Rattle.policy.specs.Fits.{PolicyFits}
use Rattle.policy.specs.declared.Policy.{Policy}
use Rattle.visits.specs.Engine.{SingleSteps}
use Rattle.visits.proofs.Firsts.{first_here, first_next, first_end}
use Rattle.visits.proofs.Coming.{lowest_small, lowest_kinds}
use Rattle.closing.specs.Asks.{AskedBy}
use Rattle.calls.specs.Calls.{first_touching}
use Rattle.closing.specs.Closing.{pair_of, ConcernedBy, both_at, FirstPair, SoughtIn}
use Rattle.closing.specs.declared.Pair.{Pair}
use Rattle.closing.specs.declared.Sought.{Sought}
use Rattle.calls.proofs.Looking.{none_covered}
use Rattle.closing.proofs.OneCell.{both_none, complete_is}
use Rattle.closing.proofs.PassedBy.{concerned_covers}

-- in cells as an accepted file has them, the set tells whether the right is there: a cell without row or column is 0
held_is : (g : ℕ) (ks cs : List ℕ) → Canonical g ks cs → (s o q : ℕ) → s < names → o < names → rights_in ks cs s o q ≡ has (get_or cs (names * s + o) 0) q
held_is g ks cs K s o q ls lo = go (inside ks s o) (λ h. K.outside s o ls lo h)
  where
    go : (b : Bool) → (T (not b) → get_or cs (names * s + o) 0 ≡ 0) → ◌≡◌ {A = Bool} (elim b [ true ↦ has (get_or cs (names * s + o) 0) q | false ↦ false ]) (has (get_or cs (names * s + o) 0) q)
    go true h = refl
    go false h = sym (ap (λ (x : ℕ). has x q) (h tt) ∙ has_none q)

-- the name that a create would get decides, not which names are reserved
module _ (p : Policy) (w : Sought) (m : Matrix) where
  abbrev S : System
  S = system_of p

  abbrev r : ℕ
  r = w.right

  abbrev m₀ : State
  m₀ = state_of p.matrix

  -- the two steps for cell number c, if the right is there at the start
  abbrev pub pair_for : ℕ → List Call
  pair_for c = elim (m₀.cell (c / names) (c % names) r) [ true ↦ both_at S w (state_of m) c | false ↦ [] ]

  abbrev pub has_pair : ℕ → Bool
  has_pair c = not (is_empty (pair_for c))

  abbrev pub first_pair : ℕ
  first_pair = first_in has_pair 1024 0

  abbrev chosen : ℕ → List Call
  chosen c = elim (ltb c 1024) [ true ↦ pair_for c | false ↦ [] ]

  closing_is : (R : ℕ → Bool) → w.name ≡ lowest_free R (state_of m) → chosen first_pair ≡ closing S R r m₀ (state_of m)
  unfolding both_at
  closing_is R e = ap (λ (n : ℕ). pairs n (first_in (λ c. not (is_empty (pair_by n c))) 1024 0)) e
    where
      pair_by : ℕ → ℕ → List Call
      pair_by n c = elim (m₀.cell (c / names) (c % names) r) [
        | true ↦ both (first_call (takes S (state_of m) r (c / names) (c % names)) n 0 S.commands) (first_call (returns S (state_of m) r (c / names) (c % names)) n 0 S.commands)
        | false ↦ []
      ]

      pairs : ℕ → ℕ → List Call
      pairs n c = elim (ltb c 1024) [ true ↦ pair_by n c | false ↦ [] ]

  -- what is the first pair is the closing search's
  first_found : (z : Answered Pair) → pair_of z ≡ chosen first_pair → FirstPair p w (state_of m) z
  first_found z e = record { of = λ R d. e ∙ closing_is R d }

  chosen_none : (c : ℕ) → 1024 ≤ c → c ≡ first_pair → [] ≡ chosen first_pair
  chosen_none c l e = ap (λ (b : Bool). elim b [ true ↦ pair_for c | false ↦ [] ]) (sym (le-ltb c 1024 l)) ∙ ap chosen e

  chosen_here : (c : ℕ) → c < 1024 → c ≡ first_pair → pair_for c ≡ chosen first_pair
  chosen_here c l e = ap (λ (b : Bool). elim b [ true ↦ pair_for c | false ↦ [] ]) (sym (lt-ltb c 1024 l)) ∙ ap chosen e

  -- a start cell by its set
  start_cell : PolicyFits p → (c : ℕ) → c < 1024 → (b : Bool) → b ≡ has (get_or p.matrix.cells c 0) r → m₀.cell (c / names) (c % names) r ≡ b
  start_cell F c l b e =
      let z : names * (c / names) + c % names ≡ c = omega arith in
      held_is p.rights p.matrix.kinds p.matrix.cells F.matrix_fits (c / names) (c % names) r (omega arith) (omega arith) ∙ ap (λ (k : ℕ). has (get_or p.matrix.cells k 0) r) z ∙ sym e

  pair-by : (c : ℕ) (b : Bool) → m₀.cell (c / names) (c % names) r ≡ b → pair_for c ≡ elim b [ true ↦ both_at S w (state_of m) c | false ↦ [] ]
  pair-by c b e = ap (λ (u : Bool). elim u [ true ↦ both_at S w (state_of m) c | false ↦ [] ]) e

  -- ---- the loop
  module _ (asks : List ℕ) (t : Tables) where
    -- what is left to look through, from cell c on, is all
    pub record Cells (c : ℕ) : Type 0 where
      pub sought : SoughtIn p w asks m t
      pub within : c ≤ 1024
      pub rest : first_in has_pair (1024 - c) c ≡ first_pair

    pub cells_start : SoughtIn p w asks m t → Cells 0
    cells_start K = record { sought = K; within = omega arith; rest = refl }

    module _ (c : ℕ) (K : Cells c) where
      pub cells_end : 1024 ≤ c → FirstPair p w (state_of m) None
      cells_end l = first_found None (chosen_none c l (first_end has_pair 1024 first_pair c l K.rest))

      pub cells_right : r < width
      cells_right = omega (arith, K.sought.closable.right, K.sought.closable.fits.few_rights)

      module _ (l : c < 1024) where
        onward : has_pair c ≡ false → Cells (c + 1)
        onward h = record { sought = K.sought; within = omega arith; rest = first_next has_pair 1024 first_pair c h l K.rest }

        module _ (b : Bool) (d : b ≡ has (get_or p.matrix.cells c 0) r) where
          pub cells_lacks : b ≡ false → Cells (c + 1)
          cells_lacks f = onward (ap (λ (x : List Call). not (is_empty x)) (pair-by c false (start_cell K.sought.closable.fits c l b d ∙ f)))

          module _ (f : b ≡ true) (z : Answered Pair) (e : pair_of z ≡ both_at S w (state_of m) c) (u : Bool) (g : u ≡ is_some z) where
            this : pair_of z ≡ pair_for c
            this = e ∙ sym (pair-by c true (start_cell K.sought.closable.fits c l b d ∙ f))

            has_is : has_pair c ≡ u
            has_is = ap (λ (x : List Call). not (is_empty x)) (sym this) ∙ complete_is z ∙ sym g

            pub cells_found : u ≡ true → FirstPair p w (state_of m) z
            cells_found h = first_found z (this ∙ chosen_here c l (first_here has_pair 1024 first_pair c (has_is ∙ h) l K.rest))

            pub cells_next : u ≡ false → Cells (c + 1)
            cells_next h = onward (has_is ∙ h)

-- ---- what is sought, and found
module _ (p : Policy) (F : PolicyFits p) (single : SingleSteps p) (reserved : ℕ) (m : Matrix) (t : Tables) (r : ℕ) where
  abbrev R : ℕ → Bool
  R = has reserved

  abbrev free : ℕ
  free = lowest_free R (state_of m)

  module _ (n taking returning : ℕ) (e : n ≡ lowest_free R (view m.kinds [])) where
    abbrev sought : Sought
    sought = record { right = r; name = n; taking = taking; returning = returning }

    name_is : n ≡ free
    name_is = e ∙ lowest_kinds R m.kinds m.cells

    pub sought_in : Seen (system_of p) m t → r < p.rights → ConcernedBy p false r taking → ConcernedBy p true r returning → (asks : List ℕ) → AskedBy p asks → SoughtIn p sought asks m t
    sought_in seen l x y asks A = record {
      closable = record { fits = F; single = single; seen = seen; right = l };
      name = rw name_is (lowest_small R (state_of m));
      taken_by = x;
      returned_by = y;
      asked_by = A;
    }

    pub sought_found : (z : Answered Pair) → FirstPair p sought (state_of m) z → pair_of z ≡ closing (system_of p) R r (state_of p.matrix) (state_of m)
    sought_found z d = d.of R name_is

  -- without a command that deletes the right, or one that enters it
  abbrev any : Sought
  any = record { right = r; name = free; taking = 0; returning = 0 }

  abbrev step_at : ℕ → Bool → Touch
  step_at c enters = record { right = r; subject = c / names; object = c % names; enters = enters }

  abbrev less : ℕ → State
  less c = take_out (state_of m) r (c / names) (c % names)

  no_pairs : ((c : ℕ) → both_at (system_of p) any (state_of m) c ≡ []) → [] ≡ closing (system_of p) R r (state_of p.matrix) (state_of m)
  no_pairs h = chosen_none p any m 1024 (omega arith) (none_from (has_pair p any m) (λ c. none c ((state_of p.matrix).cell (c / names) (c % names) r) refl) 1024 0 (omega arith)) ∙ closing_is p any m R refl
    where
      none : (c : ℕ) (b : Bool) → (state_of p.matrix).cell (c / names) (c % names) r ≡ b → has_pair p any m c ≡ false
      none c true e = ap (λ (x : List Call). not (is_empty x)) (pair-by p any m c true e ∙ h c)
      none c false e = ap (λ (x : List Call). not (is_empty x)) (pair-by p any m c false e)

  pub none_taken : (which : ℕ) → ConcernedBy p false r which → which ≡ 0 → [] ≡ closing (system_of p) R r (state_of p.matrix) (state_of m)
  unfolding both_at first_touching
  none_taken which W e = no_pairs (λ c. ap (λ (x : Option Call). both x (first_touching (system_of p) (less c) (step_at c true) free))
      (none_covered p (state_of m) free (step_at c false) which (concerned_covers p F single free (lowest_small R (state_of m)) (step_at c false) (state_of m) which W) e))

  pub none_returned : (which : ℕ) → ConcernedBy p true r which → which ≡ 0 → [] ≡ closing (system_of p) R r (state_of p.matrix) (state_of m)
  unfolding both_at first_touching
  none_returned which W e = no_pairs (λ c. ap (both (first_touching (system_of p) (state_of m) (step_at c false) free))
      (none_covered p (less c) free (step_at c true) which (concerned_covers p F single free (lowest_small R (state_of m)) (step_at c true) (less c) which W) e)
      ∙ both_none (first_touching (system_of p) (state_of m) (step_at c false) free))
