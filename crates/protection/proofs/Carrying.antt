-- Rights that carry others: g links are enough, so what is computed is the chain of any length; what a set of rights meets. Assumes nothing.
use mathlib.Core.Path.{◌≡◌, refl, ap, ap₂, subst}
use mathlib.Core.Bool.{Bool, true, false, not, ◌&&◌, ◌||◌}
use mathlib.Core.List.{List, [], ◌∷◌}
use mathlib.Core.Logic.{◌⊎◌, inl, inr, ⊎_elim, ◌↔◌}
use Prim.Native.Nat.{ℕ, zero, suc, ◌≤◌, ◌<◌, ◌*◌}
use native.Mathlib.Omega.{arith}
use lib.Dec.{T, eqb, eqb→eq, eqb_refl, ltb, ltb→lt}
use Rattle.cases.specs.Cases.{any}
use Rattle.cases.proofs.Bools.{and_left, and_right, and_intro, or_cases, or_left, or_right, same_truth, holds as test-holds, fails}
use Rattle.cases.proofs.Loops.{any_below, below_any, any_same}
use Rattle.protection.specs.Size.{count}
use Rattle.protection.specs.Command.{Condition, Command, System, Actuals}
use Rattle.protection.specs.Carrying.{links, Carries, itself, through, chained, carries, meets}
use Rattle.protection.specs.Paper.{Configuration, SatisfiedAll, Executes, MetAll, ExecutesUnder}
use Rattle.protection.proofs.Sums.{one, count_is_sum, sum_strict, sum_const, one_mono, one_strict, one_few}

-- ---- chains of at most n links
module _ (g : ℕ) (carried : ℕ → ℕ → Bool) where
  pub link_below : (i j : ℕ) → T (links g carried i j) → (i < g) × (j < g)
  link_below i j l =
      let both = and_left (ltb i g && ltb j g) (carried i j) l in
      (ltb→lt i g (and_left (ltb i g) (ltb j g) both), ltb→lt j g (and_right (ltb i g) (ltb j g) both))

  module _ (q : ℕ) where
    abbrev next : ℕ → ℕ → ℕ → Bool
    next n i j = links g carried i j && chained g carried n j q

    pub chained_itself : (n : ℕ) → T (chained g carried n q q)
    unfolding chained
    chained_itself zero = eqb_refl q
    chained_itself (suc n) = or_left (eqb q q) (any (next n q) g 0) (eqb_refl q)

    -- a link before a chain
    pub chained_through : (n i j : ℕ) → T (links g carried i j) → T (chained g carried n j q) → T (chained g carried (suc n) i q)
    unfolding chained
    chained_through n i j l t =
        or_right (eqb i q) (any (next n i) g 0)
        (below_any (next n i) g j (link_below i j l).1 (and_intro (links g carried i j) (chained g carried n j q) l t))

    -- a chain is none, or has a first link
    pub chained_cases : (n i : ℕ) → T (chained g carried (suc n) i q) → (i ≡ q) ⊎ ((j : ℕ) × T (links g carried i j) × T (chained g carried n j q))
    unfolding chained
    chained_cases n i t =
        ⊎_elim (λ e. inl (eqb→eq i q e))
        (λ u. let r = any_below (next n i) g u in
        inr (r.0, and_left (links g carried i r.0) (chained g carried n r.0 q) r.2, and_right (links g carried i r.0) (chained g carried n r.0 q) r.2))
        (or_cases (eqb i q) (any (next n i) g 0) t)

    chained_start : (i : ℕ) → T (chained g carried 0 i q) → i ≡ q
    unfolding chained
    chained_start i t = eqb→eq i q t

    -- longer chains are as good
    pub chained_longer : (n i : ℕ) → T (chained g carried n i q) → T (chained g carried (suc n) i q)
    chained_longer zero i t = rw (chained_start i t) (chained_itself 1)
    chained_longer (suc n) i t =
        ⊎_elim (λ e. rw e (chained_itself (suc (suc n)))) (λ r. chained_through (suc n) i r.0 r.1 (chained_longer n r.0 r.2)) (chained_cases n i t)

    -- ---- the rights from which q is reached grow with the links, until they stay
    Stays : ℕ → Type 0
    Stays n = (i : ℕ) → T (chained g carried (suc n) i q) → T (chained g carried n i q)

    stays_on : (n : ℕ) → Stays n → Stays (suc n)
    unfolding Stays
    stays_on n h i t =
        ⊎_elim (λ e. rw e (chained_itself (suc n))) (λ r. chained_through n i r.0 r.1 (h r.0 r.2)) (chained_cases (suc n) i t)

    abbrev grown : ℕ → ℕ → Bool
    grown n i = chained g carried (suc n) i q && not (chained g carried n i q)

    stays_or_grows : (n : ℕ) → Stays n ⊎ (count (λ i. chained g carried n i q) g < count (λ i. chained g carried (suc n) i q) g)
    unfolding Stays
    stays_or_grows n = go (any (grown n) g 0) refl
      where
        go : (b : Bool) → any (grown n) g 0 ≡ b → Stays n ⊎ (count (λ i. chained g carried n i q) g < count (λ i. chained g carried (suc n) i q) g)
        go true e =
            let r = any_below (grown n) g (test-holds (any (grown n) g 0) e) in
            let i = r.0 in
            inr (rw (count_is_sum (λ i. chained g carried n i q) g, count_is_sum (λ i. chained g carried (suc n) i q) g)
            (sum_strict (λ i. one (chained g carried n i q)) (λ i. one (chained g carried (suc n) i q)) g
            (λ k _. one_mono (chained g carried n k q) (chained g carried (suc n) k q) (chained_longer n k)) i r.1
            (one_strict (chained g carried n i q) (chained g carried (suc n) i q)
            (and_right (chained g carried (suc n) i q) (not (chained g carried n i q)) r.2) (and_left (chained g carried (suc n) i q) (not (chained g carried n i q)) r.2))))
        go false e = inl (λ i t. by i t (chained g carried n i q) refl)
          where
            by : (i : ℕ) → T (chained g carried (suc n) i q) → (b : Bool) → chained g carried n i q ≡ b → T b
            by i t true d = tt
            by i t false d =
                ⊎_elim (λ z. fails (chained g carried n i q) d (rw z (chained_itself n)))
                (λ r. fails (any (grown n) g 0) e (below_any (grown n) g i (link_below i r.0 r.1).0
                (and_intro (chained g carried (suc n) i q) (not (chained g carried n i q)) t (rw d tt))))
                (chained_cases n i t)

    -- after g links they stay: they cannot grow g + 1 times
    stays_by : (n : ℕ) → Stays n ⊎ (n < count (λ i. chained g carried (suc n) i q) g)
    stays_by zero = ⊎_elim inl (λ l. inr (omega arith)) (stays_or_grows zero)
    stays_by (suc n) = ⊎_elim (λ h. inl (stays_on n h)) (λ k. ⊎_elim inl (λ l. inr (omega arith)) (stays_or_grows (suc n))) (stays_by n)

    stays_at_last : Stays g
    stays_at_last = ⊎_elim (λ h. h) (λ l. absurd (omega (arith, few))) (stays_by g)
      where
        few : count (λ i. chained g carried (suc g) i q) g ≤ g * 1
        few = rw (count_is_sum (λ i. chained g carried (suc g) i q) g) (sum_const (λ i. one (chained g carried (suc g) i q)) 1 g (λ i _. one_few (chained g carried (suc g) i q)))

    -- a link before a chain of at most g links: again at most g
    pub chained_enough : (i j : ℕ) → T (links g carried i j) → T (chained g carried g j q) → T (chained g carried g i q)
    unfolding Stays
    chained_enough i j l t = stays_at_last i (chained_through g i j l t)

-- ---- what is computed is the chain of any length
module _ (S : System) where
  pub carries_itself : (q : ℕ) → T (carries S q q)
  carries_itself q = chained_itself S.rights S.carried q S.rights

  -- what a right that i names carries, i carries
  pub carries_through : (i j q : ℕ) → T (links S.rights S.carried i j) → T (carries S j q) → T (carries S i q)
  carries_through i j q = chained_enough S.rights S.carried q i j

  pub carries_all : (i q : ℕ) → Carries S i q → T (carries S i q)
  carries_all i q (itself _) = carries_itself q
  carries_all i q (through _ j _ l c) = carries_through i j q l (carries_all j q c)

  chain : (n i q : ℕ) → T (chained S.rights S.carried n i q) → Carries S i q
  chain zero i q t = rw (chained_start S.rights S.carried q i t) (itself q)
  chain (suc n) i q t = ⊎_elim (λ e. rw e (itself q)) (λ r. through i r.0 q r.1 (chain n r.0 q r.2)) (chained_cases S.rights S.carried q n i t)

  pub carries_exactly : (i q : ℕ) → T (carries S i q) ↔ Carries S i q
  carries_exactly i q = (chain S.rights i q, carries_all i q)

  -- a right that carries another one is one of the file's, and so is the other
  pub carries_below : (i q : ℕ) → Carries S i q → (i ≡ q) ⊎ ((i < S.rights) × (q < S.rights))
  carries_below i q (itself _) = inl refl
  carries_below i q (through _ j _ l c) =
      let b = link_below S.rights S.carried i j l in
      ⊎_elim (λ e. inr (b.0, rw e at b.1)) (λ k. inr (b.0, k.1)) (carries_below j q c)

  -- ---- what a set of rights meets
  pub meets_exactly : (set : ℕ → Bool) (q : ℕ) → T (meets S set q) ↔ ((i : ℕ) × T (set i) × Carries S i q)
  unfolding meets
  meets_exactly set q = (
    λ t. ⊎_elim (λ u. (q, u, itself q))
        (λ u. let r = any_below (λ i. set i && carries S i q) S.rights u in
        (r.0, and_left (set r.0) (carries S r.0 q) r.2, (carries_exactly r.0 q).0 (and_right (set r.0) (carries S r.0 q) r.2)))
        (or_cases (set q) (any (λ i. set i && carries S i q) S.rights 0) t),
    λ r. ⊎_elim (λ e. or_left (set q) (any (λ i. set i && carries S i q) S.rights 0) (rw e at r.1))
        (λ l. or_right (set q) (any (λ i. set i && carries S i q) S.rights 0)
        (below_any (λ i. set i && carries S i q) S.rights r.0 l.0 (and_intro (set r.0) (carries S r.0 q) r.1 (carries_all r.0 q r.2))))
        (carries_below r.0 q r.2),
  )

  -- a set that holds q meets q
  pub holds_meets : (set : ℕ → Bool) (q : ℕ) → T (set q) → T (meets S set q)
  holds_meets set q t = (meets_exactly set q).1 (q, t, itself q)

  -- a right in the set, and one that it carries
  pub carried_meets : (set : ℕ → Bool) (i q : ℕ) → T (set i) → T (carries S i q) → T (meets S set q)
  carried_meets set i q t c = (meets_exactly set q).1 (i, t, (carries_exactly i q).0 c)

  -- more rights meet more
  pub meets_more : (set set' : ℕ → Bool) → ((i : ℕ) → T (set i) → T (set' i)) → (q : ℕ) → T (meets S set q) → T (meets S set' q)
  meets_more set set' h q t = let r = (meets_exactly set q).0 t in (meets_exactly set' q).1 (r.0, h r.0 r.1, r.2)

  pub meets_congruent : (set set' : ℕ → Bool) → ((i : ℕ) → set i ≡ set' i) → (q : ℕ) → meets S set q ≡ meets S set' q
  meets_congruent set set' h q =
      same_truth (meets S set q) (meets S set' q) (meets_more set set' (λ i t. rw (h i) at t) q) (meets_more set' set (λ i t. rw (h i) t) q)

  -- of a right below g, the set is seen below g alone
  pub meets_below : (set set' : ℕ → Bool) → ((i : ℕ) → i < S.rights → set i ≡ set' i) → (q : ℕ) → q < S.rights → meets S set q ≡ meets S set' q
  unfolding meets
  meets_below set set' h q l =
      ap₂ ◌||◌ (h q l)
      (any_same (λ i. set i && carries S i q) (λ i. set' i && carries S i q) S.rights 0 (λ i _ k. ap (λ (b : Bool). b && carries S i q) (h i (omega arith))))

  -- right i is added to the set
  pub meets_added : (set set' : ℕ → Bool) (i : ℕ) → ((x : ℕ) → set' x ≡ eqb x i || set x) → (q : ℕ) → meets S set' q ≡ meets S set q || carries S i q
  meets_added set set' i h q = same_truth (meets S set' q) (meets S set q || carries S i q) there back
    where
      there : T (meets S set' q) → T (meets S set q || carries S i q)
      there t =
          let r = (meets_exactly set' q).0 t in
          let x = r.0 in
          ⊎_elim (λ e. or_right (meets S set q) (carries S i q) (subst (λ (z : ℕ). T (carries S z q)) (eqb→eq x i e) (carries_all x q r.2)))
          (λ u. or_left (meets S set q) (carries S i q) ((meets_exactly set q).1 (x, u, r.2)))
          (or_cases (eqb x i) (set x) (rw (h x) at r.1))

      back : T (meets S set q || carries S i q) → T (meets S set' q)
      back t =
          ⊎_elim (λ u. meets_more set set' (λ x w. rw (h x) (or_right (eqb x i) (set x) w)) q u)
          (λ c. carried_meets set' i q (rw (h i) (or_left (eqb i i) (set i) (eqb_refl i))) c)
          (or_cases (meets S set q) (carries S i q) t)

  -- ---- without carries
  module _ (none : (i j : ℕ) → S.carried i j ≡ false) where
    pub carries_plain : (i q : ℕ) → Carries S i q → i ≡ q
    carries_plain i q (itself _) = refl
    carries_plain i q (through _ j _ l c) = absurd (rw (none i j) at (and_right (ltb i S.rights && ltb j S.rights) (S.carried i j) l))

    -- a set meets what it holds
    pub meets_plain : (set : ℕ → Bool) (q : ℕ) → meets S set q ≡ set q
    meets_plain set q = same_truth (meets S set q) (set q) (λ t. let r = (meets_exactly set q).0 t in rw (carries_plain r.0 q r.2) at r.1) (holds_meets set q)

    -- and a command is executed exactly where the paper's relation executes it
    met_plain : (cs : List Condition) (a : Actuals) (D : Configuration) → MetAll S cs a D ↔ SatisfiedAll cs a D
    met_plain [] a D = (λ h. h, λ h. h)
    met_plain (c ∷ cs) a D =
        let rest = met_plain cs a D in (
          λ h. (record { row = h.0.row; column = h.0.column; right = rw (carries_plain h.0.right.0 c.right h.0.right.2) at h.0.right.1 }, rest.0 h.1),
          λ h. (record { row = h.0.row; column = h.0.column; right = (c.right, h.0.right, itself c.right) }, rest.1 h.1),
        )

    pub executes_plain : (C : Command) (a : Actuals) (D E : Configuration) → ExecutesUnder S C a D E ↔ Executes C a D E
    executes_plain C a D E = (
      λ h. record { conditions = (met_plain C.conditions a D).0 h.conditions; operations = h.operations },
      λ h. record { conditions = (met_plain C.conditions a D).1 h.conditions; operations = h.operations },
    )

-- what a set meets depends on the number of rights and on what carries what
pub meets_system : (S S' : System) → S.rights ≡ S'.rights → S.carried ≡ S'.carried → (set : ℕ → Bool) (q : ℕ) → meets S set q ≡ meets S' set q
unfolding meets
meets_system S S' e c set q = ap₂ (λ (g : ℕ) (k : ℕ → ℕ → Bool). set q || any (λ i. set i && chained g k g i q) g 0) e c
