-- The judge's places reach every choice of actuals that a command can be carried out with, its created parameter taken as the lowest absent name.
-- Assumes nothing.
use mathlib.Core.Path.{◌≡◌, refl, sym, ap, ap₂, ◌∙◌, subst}
use mathlib.Core.Bool.{Bool, true, false, not, ◌&&◌, ◌||◌, or-false}
use mathlib.Core.List.{List, [], ◌∷◌}
use mathlib.Core.Logic.{⊎_elim}
use Prim.Native.Nat.{ℕ, zero, suc, ◌+◌, ◌*◌, ◌-◌, ◌/◌, ◌%◌, ◌≤◌, ◌<◌}
use native.Mathlib.Omega.{arith}
use native.Mathlib.Nat.{zero-add, mul-le-mul_right, mul-add-div_right, mul-add-mod_self_right, div-eq_of_lt, mod-eq_of_lt}
use borrow.Author.Tests.{lt-ltb}
use lib.Dec.{T, eqb, ltb, eqb→eq, eqb_refl, ltb→lt, T_not}
use Rattle.cases.specs.Cases.{pick, all, tabulate}
use Rattle.cases.proofs.Bools.{and_right, both, or_cases, or_left, or_right, is_false, not_not, holds as test-holds}
use Rattle.cases.proofs.Lists.{get_d_tabulate}
use Rattle.cases.proofs.Loops.{all_intro}
use Rattle.protection.specs.Limits.{names, parameters, unused}
use Rattle.protection.specs.State.{State, object_in, subject_in}
use Rattle.protection.specs.Command.{Condition, Operation, enter, delete, Command, System, Actuals, actuals, in_conditions, in_operation, in_operations, named, spare}
use Rattle.protection.specs.Execution.{bounded, hold_all, actual_fits, can_do}
use Rattle.protection.specs.Judge.{Choice, weight, names_at, creates, is_create, operation_in, choice, choices, places_of, four_of, call_at, allowed}
use Rattle.protection.specs.Paper.{subject_is_object}
use Rattle.protection.proofs.Spare.{condition_used, operation_used, hold_same, operation_alike}
use Rattle.protection.proofs.Calls.{Single, Singles, Has, ready, conditions_below, operation_below, one_named, carried_allowed}

-- ---- mixed radix: each list of names within the choices is at some place
abbrev pub Within : List Choice → List ℕ → Type 0
Within [] [] = Unit {0}
Within [] (x ∷ l) = ⊥
Within (c ∷ cs) [] = ⊥
Within (c ∷ cs) (x ∷ l) = (c.low ≤ x) × (x < c.low + c.radix) × Within cs l

pub reach : (cs : List Choice) (l : List ℕ) → Within cs l → (p : ℕ) × (p < weight cs) × (names_at cs p ≡ l)
reach [] [] h = (0, omega arith, refl)
reach [] (x ∷ l) h = absurd h
reach (c ∷ cs) [] h = absurd h
reach (c ∷ cs) (x ∷ l) h = go (reach cs l h.2)
  where
    go : (q : ℕ) × (q < weight cs) × (names_at cs q ≡ l) → (p : ℕ) × (p < weight (c ∷ cs)) × (names_at (c ∷ cs) p ≡ x ∷ l)
    go (q, lq, e) =
        let w = weight cs in
        let d = x - c.low in
        let quotient : (d * w + q) / w ≡ d = mul-add-div_right (omega arith) d q ∙ ap (λ (z : ℕ). d + z) (div-eq_of_lt lq) ∙ omega arith in
        let remainder : (d * w + q) % w ≡ q = mul-add-mod_self_right d w q ∙ mod-eq_of_lt lq in
        let digit : suc d ≤ c.radix = omega (arith, h.0, h.1) in
        let top = mul-le-mul_right w digit in
        let back : c.low + d ≡ x = omega (arith, h.0) in
        (d * w + q, omega arith, ap₂ ◌∷◌ (ap (λ (z : ℕ). c.low + z) quotient ∙ back) (ap (names_at cs) remainder ∙ e))

within_tabulate : (f : ℕ → Choice) (v : ℕ → ℕ) → ((b : ℕ) → ((f b).low ≤ v b) × (v b < (f b).low + (f b).radix)) → (n j : ℕ) → Within (tabulate f n j) (tabulate v n j)
within_tabulate f v h zero j = tt
within_tabulate f v h (suc n) j = ((h j).0, (h j).1, within_tabulate f v h n (suc j))

-- ---- the places of a command
-- the actuals as the judge's call has them: 0 for a spare parameter, 255 in the positions that the command does not use
padded : Command → Actuals → Actuals
padded C a b = pick (spare C b) 0 (pick (ltb b C.parameters) (a b) unused)

-- the place of a, but for spare parameters, of command number i with lowest absent name n
pub record Placed (i : ℕ) (C : Command) (n : ℕ) (a : Actuals) : Type 0 where
  pub place : ℕ
  pub inside : place < places_of C n
  pub agrees : (b : ℕ) → b < C.parameters → T (not (spare C b)) → actuals (call_at i C n place) b ≡ a b
  pub fits : T (all (actual_fits bounded C (actuals (call_at i C n place))) parameters 0)

module _ (g : ℕ) (C : Command) (F : Single g C) (n : ℕ) (a : Actuals) (small : (b : ℕ) → b < C.parameters → T (not (spare C b)) → a b < names)
    (new : (b : ℕ) → T (creates b (operation_in C)) → a b ≡ n) (room : T (is_create (operation_in C)) → n < names) where
  choice_within : (b : ℕ) → ((choice C n b).low ≤ padded C a b) × (padded C a b < (choice C n b).low + (choice C n b).radix)
  unfolding padded
  choice_within b = go (spare C b) (ltb b C.parameters) (creates b (operation_in C)) (λ t u. small b (ltb→lt b C.parameters t) u) (new b)
    where
      ch : Bool → Bool → Bool → Choice
      ch s u c =
          elim s [
            | true ↦ record { low = 0; radix = 1 }
            | false ↦ elim u [ true ↦ elim c [ true ↦ record { low = n; radix = 1 } | false ↦ record { low = 0; radix = names } ] | false ↦ record { low = unused; radix = 1 } ]
          ]

      go : (s u c : Bool) → (T u → T (not s) → a b < names) → (T c → a b ≡ n)
          → ((ch s u c).low ≤ pick s 0 (pick u (a b) unused)) × (pick s 0 (pick u (a b) unused) < (ch s u c).low + (ch s u c).radix)
      go true u c s e = (omega arith, omega arith)
      go false true true s e = let z = e tt in (omega arith, omega arith)
      go false true false s e = let l = s tt tt in (omega arith, omega arith)
      go false false c s e = (omega arith, omega arith)

  pub placed : (i : ℕ) → Placed i C n a
  unfolding padded
  placed i = go (reach (choices C n) (tabulate (padded C a) parameters 0) (within_tabulate (choice C n) (padded C a) choice_within parameters 0))
    where
      in_places : (p : ℕ) (b : Bool) → (T b → ⊥) → p < weight (choices C n) → p < elim b [ true ↦ 0 | false ↦ weight (choices C n) ]
      in_places p true f l = absurd (f tt)
      in_places p false f l = l

      full : T (is_create (operation_in C) && eqb n names) → ⊥
      full t =
          let l : n < names = room (search both) in
          let e : n ≡ names = eqb→eq n names (and_right (is_create (operation_in C)) (eqb n names) t) in
          omega arith

      fit : (s u : Bool) (b v : ℕ) → (T u → T (not s) → a b < names) → v ≡ pick s 0 (pick u (a b) unused) → s || pick u (bounded v) (eqb v unused) ≡ true
      fit true u b v l e = refl
      fit false true b v l e = rw e (lt-ltb (a b) names (l tt tt))
      fit false false b v l e = rw e

      go : (p : ℕ) × (p < weight (choices C n)) × (names_at (choices C n) p ≡ tabulate (padded C a) parameters 0) → Placed i C n a
      go (p, l, e) =
          let at : (b : ℕ) → b < parameters → actuals (call_at i C n p) b ≡ padded C a b =
          λ b h. ap (λ (z : List ℕ). actuals (four_of i z) b) e ∙ get_d_tabulate (padded C a) 0 parameters 0 b h ∙ ap (padded C a) (zero-add b) in
          record {
            place = p;
            inside = in_places p (is_create (operation_in C) && eqb n names) full l;
            agrees = λ b h u. at b (omega (arith, F.few)) ∙ rw (is_false (spare C b) (T_not (spare C b) u), lt-ltb b C.parameters h);
            fits = test-holds (all (actual_fits bounded C (actuals (call_at i C n p))) parameters 0)
                (all_intro (actual_fits bounded C (actuals (call_at i C n p))) parameters 0
                (λ b _ h. fit (spare C b) (ltb b C.parameters) b (actuals (call_at i C n p) b) (λ t u. small b (ltb→lt b C.parameters t) u) (at b (rw zero-add at h))));
          }

-- ---- which actuals matter: each parameter of a command that is ready has an existing name, or is a parameter of its operation, or is spare
conditions_exist : (S : System) (m : State) (a : Actuals) (b : ℕ) (cs : List Condition) → T (in_conditions b cs) → T (hold_all S m a cs) → T (object_in m (a b))
conditions_exist S m a b [] t h = absurd t
conditions_exist S m a b (c ∷ cs) t h =
    let hs : T (subject_in m (a c.subject)) = search both in
    let ho : T (object_in m (a c.object)) = search both in
    let rest : T (hold_all S m a cs) = search both in
    ⊎_elim
    (λ u. ⊎_elim (λ s. rw (eqb→eq b c.subject s) (subject_is_object (m.kind (a c.subject)) hs)) (λ o. rw (eqb→eq b c.object o) ho)
    (or_cases (eqb b c.subject) (eqb b c.object) u))
    (λ u. conditions_exist S m a b cs u rest) (or_cases (eqb b c.subject || eqb b c.object) (in_conditions b cs) t)

pub names_small : (S : System) (C : Command) → Single S.rights C → (m : State) → ((x : ℕ) → T (object_in m x) → x < names) → (a : Actuals) → T (ready S C m a)
    → ((b : ℕ) → T (in_operation b (operation_in C)) → a b < names) → (b : ℕ) → b < C.parameters → T (not (spare C b)) → a b < names
names_small S C F m below a hold in-op b l used =
    ⊎_elim (λ c. below (a b) (conditions_exist S m a b C.conditions c hold))
    (λ s. in-op b (rw (or-false (in_operation b (operation_in C))) at (rw F.one-operation at s)))
    (or_cases (in_conditions b C.conditions) (in_operations b C.operations) (not_not (named C b) (rw (lt-ltb b C.parameters l) at used)))

-- ---- a call at any actuals is at a place that the judge visits
-- the place where command C of S is tried with what a gives its parameters, but for spare ones
pub record Visited (S : System) (m : State) (n : ℕ) (C : Command) (c : Operation) (H : Has S C c) (a : Actuals) : Type 0 where
  pub place : ℕ
  pub inside : place < places_of C n
  pub agrees : (b : ℕ) → T (in_operation b c) → actuals (call_at H.place C n place) b ≡ a b
  pub allows : T (can_do m a c) → T (allowed S m (call_at H.place C n place))

module _ (S : System) (singles : Singles S) (m : State) (below : (x : ℕ) → T (object_in m x) → x < names) (n : ℕ) (C : Command) (c : Operation) (H : Has S C c) (a : Actuals) where
  pub visited : T (ready S C m a) → ((b : ℕ) → T (in_operation b c) → a b < names) → ((b : ℕ) → T (creates b c) → a b ≡ n) → (T (is_create c) → n < names) → Visited S m n C c H a
  visited able small new room =
      let F = singles H.place C H.found in
      let P = placed S.rights C F n a
      (names_small S C F m below a able (λ b t. small b (subst (λ (z : Operation). T (in_operation b z)) H.is t)))
      (λ b t. new b (subst (λ (z : Operation). T (creates b z)) H.is t)) (λ t. room (subst (λ (z : Operation). T (is_create z)) H.is t)) H.place in
      let x = call_at H.place C n P.place in
      let by-operation : (b : ℕ) → T (in_operation b (operation_in C)) → actuals x b ≡ a b =
      λ b t. P.agrees b (operation_below C.parameters S.rights b (operation_in C) F.operation-fits t) (operation_used C b (one_named S.rights C F b t)) in
      let by-conditions : (b : ℕ) → T (in_conditions b C.conditions) → actuals x b ≡ a b =
      λ b t. P.agrees b (conditions_below C.parameters b C.conditions F.conditions_fit t) (condition_used C b t) in
      record {
        place = P.place;
        inside = P.inside;
        agrees = λ b t. by-operation b (subst (λ (z : Operation). T (in_operation b z)) (sym H.is) t);
        allows = λ t. carried_allowed S singles m x C H.found (record {
          fits = P.fits;
          able = subst T (sym (hold_same a (actuals x) S m C.conditions by-conditions)) able;
          can = subst T (sym ((operation_alike a (actuals x) (operation_in C) by-operation).can m)) (subst (λ (z : Operation). T (can_do m a z)) (sym H.is) t);
        });
      }

-- an operation on the cell of its two parameters
pub record OnCell (c : ℕ → ℕ → Operation) : Type 0 where
  pub names_both : (s o b : ℕ) → in_operation b (c s o) ≡ eqb b s || eqb b o
  pub creates_none : (s o b : ℕ) → creates b (c s o) ≡ false
  pub no_create : (s o : ℕ) → is_create (c s o) ≡ false
  pub can_is : (m : State) (a : Actuals) (s o : ℕ) → can_do m a (c s o) ≡ subject_in m (a s) && object_in m (a o)

pub enter_on_cell : (q : ℕ) → OnCell (enter q)
enter_on_cell q = record { names_both = λ s o b. refl; creates_none = λ s o b. refl; no_create = λ s o. refl; can_is = λ m a s o. refl }

pub delete_on_cell : (q : ℕ) → OnCell (delete q)
delete_on_cell q = record { names_both = λ s o b. refl; creates_none = λ s o b. refl; no_create = λ s o. refl; can_is = λ m a s o. refl }

-- the place of an operation on a cell: its two names exist, and so it is allowed there
pub record CellVisited (S : System) (m : State) (n : ℕ) (C : Command) (c : Operation) (H : Has S C c) (s o : ℕ) (a : Actuals) : Type 0 where
  pub place : ℕ
  pub inside : place < places_of C n
  pub at_s : actuals (call_at H.place C n place) s ≡ a s
  pub at_o : actuals (call_at H.place C n place) o ≡ a o
  pub allows : T (allowed S m (call_at H.place C n place))

module _ (S : System) (singles : Singles S) (m : State) (below : (x : ℕ) → T (object_in m x) → x < names) (n : ℕ) (C : Command) (c : ℕ → ℕ → Operation) (cell : OnCell c) (s o : ℕ)
    (H : Has S C (c s o)) (a : Actuals) where
  pub visited_cell : T (ready S C m a) → T (subject_in m (a s) && object_in m (a o)) → CellVisited S m n C (c s o) H s o a
  visited_cell able exist =
      let W = visited S singles m below n C (c s o) H a able small (λ b t. absurd (subst T (cell.creates_none s o b) t)) (λ t. absurd (subst T (cell.no_create s o) t)) in
      record {
        place = W.place;
        inside = W.inside;
        at_s = W.agrees s (subst T (sym (cell.names_both s o s)) (or_left (eqb s s) (eqb s o) (eqb_refl s)));
        at_o = W.agrees o (subst T (sym (cell.names_both s o o)) (or_right (eqb o s) (eqb o o) (eqb_refl o)));
        allows = W.allows (rw (cell.can_is m a s o) exist);
      }
    where
      hs : T (subject_in m (a s))
      hs = search both

      ho : T (object_in m (a o))
      ho = search both

      small : (b : ℕ) → T (in_operation b (c s o)) → a b < names
      small b t = below (a b)
          (⊎_elim (λ z. rw (eqb→eq b s z) (subject_is_object (m.kind (a s)) hs)) (λ z. rw (eqb→eq b o z) ho) (or_cases (eqb b s) (eqb b o) (subst T (cell.names_both s o b) t)))
