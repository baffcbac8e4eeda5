-- The list of cells: what the code tests of it, one after the other, and what holds where 41 is not given. Assumes nothing.
use Prim.Native.Nat.{ℕ, zero, suc, ◌+◌, ◌*◌, ◌/◌, ◌%◌, ◌≤◌, ◌<◌}
use mathlib.Core.Path.{◌≡◌, refl, sym, ap, ◌∙◌, subst}
use mathlib.Core.Bool.{Bool, true, false, not, ◌&&◌}
use mathlib.Core.List.{List, [], ◌∷◌}
use native.Mathlib.Omega.{arith}
use native.Mathlib.Decide.{ℕ_discrete, dec_lt}
use borrow.Author.Tests.{lt-ltb, le-ltb, eq-eqb, ne_eqb}
use lib.Dec.{T, eqb, ltb, ltb→lt, eqb→eq}
use lib.ListN.{length}
use Rattle.cases.specs.Cases.{pick, all, tabulate}
use Rattle.cases.proofs.Bools.{holds as test-holds, and_left, and_right}
use Rattle.protection.specs.Limits.{names, rights}
use Rattle.protection.specs.State.{State, object_in, subject_in}
use Rattle.protection.specs.Command.{System}
use Rattle.protection.specs.Need.{Cell, CellsThere}
use Rattle.protection.specs.Proper.{Proper}
use Rattle.protection.specs.Paper.{subject_is_object}
use Rattle.matrix.specs.Bytes.{view}
use Rattle.matrix.specs.Matrices.{state_of}
use Rattle.policy.specs.Contents.{system_of}
use Rattle.policy.specs.Fits.{PolicyFits}
use Rattle.policy.specs.declared.Policy.{Policy}
use Rattle.commands.specs.Contents.{padded}
use Rattle.goals.specs.Goals.{cell_limit, needed_at, cells_in, held_goal, CellFits, GoalFits}
use Rattle.goals.proofs.Lists.{held_cell}
use Rattle.needs.specs.Needed.{cell_taken, cells_taken, list_refusal}

-- what is asked of a cell is of kinds alone
kinds_alone : (g : ℕ) (ks cs : List ℕ) (xs : List Cell) → cells_taken g (view ks cs) xs ≡ cells_taken g (view ks []) xs
kinds_alone g ks cs [] = refl
kinds_alone g ks cs (c ∷ xs) = ap (λ (b : Bool). cell_taken g (view ks []) c && b) (kinds_alone g ks cs xs)

-- all cells of the list, by their numbers
pub taken_all : (g : ℕ) (ks l : List ℕ) (n j : ℕ) → all (λ i. cell_taken g (view ks []) (needed_at l i)) n j ≡ cells_taken g (view ks []) (tabulate (needed_at l) n j)
unfolding all
taken_all g ks l zero j = refl
taken_all g ks l (suc n) j = both (cell_taken g (view ks []) (needed_at l j)) _ ∙ ap (λ (b : Bool). cell_taken g (view ks []) (needed_at l j) && b) (taken_all g ks l n (suc j))
  where
    both : (b c : Bool) → pick b c false ≡ b && c
    both true c = refl
    both false c = refl

-- ---- what the code tests, one after the other
pub kinds_long : (p : Policy) → PolicyFits p → length p.matrix.kinds ≡ names
kinds_long p F = F.matrix_fits.kinds_length

module _ (p : Policy) (l : List ℕ) where
  abbrev answer : ℕ
  answer = list_refusal (system_of p) (state_of p.matrix) l

  pub list_part : (length l % 3 ≡ 0 → ⊥) → 41 ≡ answer
  unfolding list_refusal
  list_part f = rw (ne_eqb (length l % 3) 0 f)

  module _ (e : length l % 3 ≡ 0) where
    pub list_long : 8 < length l / 3 → 41 ≡ answer
    unfolding list_refusal
    list_long h = rw (eq-eqb (length l % 3) 0 e, lt-ltb 8 (length l / 3) h)

    module _ (h : length l / 3 ≤ 8) (b : Bool) (b-is : b ≡ cells_taken p.rights (view p.matrix.kinds []) (tabulate (needed_at l) (length l / 3) 0)) where
      same : cells_taken p.rights (state_of p.matrix) (cells_in l) ≡ b
      same = kinds_alone p.rights p.matrix.kinds p.matrix.cells (cells_in l) ∙ sym b-is

      pub list_taken : not b ≡ true → 41 ≡ answer
      unfolding list_refusal
      list_taken f = rw (eq-eqb (length l % 3) 0 e, le-ltb 8 (length l / 3) h, same, f)

      pub list_none : not b ≡ false → 0 ≡ answer
      unfolding list_refusal
      list_none f = rw (eq-eqb (length l % 3) 0 e, le-ltb 8 (length l / 3) h, same, f)

-- ---- a list that is not refused
pub record Listed (g : ℕ) (m : State) (l : List ℕ) : Type 0 where
  pub few : length l ≤ 24
  pub taken : T (cells_taken g m (cells_in l))

pub listed : (S : System) (m : State) (l : List ℕ) → list_refusal S m l ≡ 0 → Listed S.rights m l
unfolding list_refusal
listed S m l e = go (eqb (length l % 3) 0) (ltb cell_limit (length l / 3)) (cells_taken S.rights m (cells_in l)) refl refl refl e
  where
    nonzero : (k : ℕ) → suc k ≡ 0 → ⊥
    nonzero k q = omega arith

    go : (a b c : Bool) → eqb (length l % 3) 0 ≡ a → ltb cell_limit (length l / 3) ≡ b → cells_taken S.rights m (cells_in l) ≡ c
        → ◌≡◌ {A = ℕ} (pick (not a) 41 (pick b 41 (pick (not c) 41 0))) 0 → Listed S.rights m l
    go false b c ea eb ec q = absurd (nonzero 40 q)
    go true true c ea eb ec q = absurd (nonzero 40 q)
    go true false false ea eb ec q = absurd (nonzero 40 q)
    go true false true ea eb ec q =
        let whole : length l % 3 ≡ 0 = eqb→eq (length l % 3) 0 (test-holds (eqb (length l % 3) 0) ea) in
        let few : length l / 3 ≤ 8 = not_more (dec_lt 8 (length l / 3)) eb in
        record { few = omega arith; taken = test-holds (cells_taken S.rights m (cells_in l)) ec }
      where
        not_more : Dec (8 < length l / 3) → ltb 8 (length l / 3) ≡ false → length l / 3 ≤ 8
        not_more (yes h) z = absurd (let w : ◌≡◌ {A = Bool} true false = sym (lt-ltb 8 (length l / 3) h) ∙ z in let v : ◌≡◌ {A = ℕ} 0 1 = cc in omega arith)
        not_more (no f) z = omega arith

taken_each : (g : ℕ) (m : State) (f : ℕ → Cell) (n j : ℕ) → T (cells_taken g m (tabulate f n j)) → (i : ℕ) → j ≤ i → i < j + n → T (cell_taken g m (f i))
taken_each g m f zero j t i l h = absurd (let z : j ≤ i = l in omega arith)
taken_each g m f (suc n) j t i l h =
    go (λ a b. taken_each g m f n (suc j) (and_right (cell_taken g m (f j)) (cells_taken g m (tabulate f n (suc j))) t) i a b) (ℕ_discrete i j)
  where
    go : (suc j ≤ i → i < suc j + n → T (cell_taken g m (f i))) → Dec (i ≡ j) → T (cell_taken g m (f i))
    go later (yes e) = rw e (and_left (cell_taken g m (f j)) (cells_taken g m (tabulate f n (suc j))) t)
    go later (no e) = later (omega arith) (omega arith)

pub taken_there : (g : ℕ) (m : State) (cs : List Cell) → T (cells_taken g m cs) → CellsThere cs m
taken_there g m [] t = tt
taken_there g m (c ∷ cs) t =
    let here = and_left (cell_taken g m c) (cells_taken g m cs) t in
    let names = and_right (ltb c.right g) (subject_in m c.subject && object_in m c.object) here in
    (and_left (subject_in m c.subject) (object_in m c.object) names, and_right (subject_in m c.subject) (object_in m c.object) names, taken_there g m cs (and_right (cell_taken g m c) (cells_taken g m cs) t))

-- the goal lies within the limits
pub goal_fits : (g : ℕ) (m : State) (l : List ℕ) → g ≤ rights → Proper g m → Listed g m l → GoalFits (held_goal l)
goal_fits g m l few P L = record { needed = record { few = omega (arith, L.few); all = cell } }
  where
    cell : (j : ℕ) → j < length l / 3 → CellFits (padded (3 * cell_limit) l) j
    cell j h =
        let t = taken_each g m (needed_at l) (length l / 3) 0 L.taken j (omega arith) (omega arith) in
        let c = needed_at l j in
        let two = and_right (ltb c.right g) (subject_in m c.subject && object_in m c.object) t in
        let r : c.right < g = ltb→lt c.right g (and_left (ltb c.right g) (subject_in m c.subject && object_in m c.object) t) in
        let s : c.subject < names = P.named c.subject (subject_is_object (m.kind c.subject) (and_left (subject_in m c.subject) (object_in m c.object) two)) in
        let o : c.object < names = P.named c.object (and_right (subject_in m c.subject) (object_in m c.object) two) in
        record {
          number = omega (arith, L.few);
          right = subst (λ (w : Cell). w.right < rights) (sym (held_cell l j h)) (omega arith);
          subject = subst (λ (w : Cell). w.subject < names) (sym (held_cell l j h)) s;
          object = subst (λ (w : Cell). w.object < names) (sym (held_cell l j h)) o;
        }
