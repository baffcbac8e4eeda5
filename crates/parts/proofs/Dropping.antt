-- Names dropped from a matrix, one after the other: it is the state without them, and stays canonical. Assumes nothing.
use Prim.Native.Nat.{ℕ, suc, ◌+◌, ◌-◌, ◌/◌, ◌%◌, ◌^◌, ◌≤◌, ◌<◌}
use mathlib.Core.Path.{◌≡◌, refl, sym, ap, ◌∙◌, fun_ext}
use mathlib.Core.Bool.{Bool, true, false, not, ◌&&◌, ◌||◌}
use native.Mathlib.Omega.{arith}
use native.Mathlib.Decide.{dec_lt, ℕ_discrete}
use borrow.Author.Tests.{eq-eqb, ne_eqb, lt-ltb, le-ltb}
use lib.Dec.{T, eqb, ltb}
use Rattle.cases.specs.Cases.{pick, iterate}
use Rattle.cases.proofs.Bools.{holds as test-holds}
use Rattle.cases.proofs.Loops.{iterate_end, iterate_count}
use Rattle.rights.specs.Rights.{has}
use Rattle.protection.specs.Limits.{names}
use Rattle.protection.specs.State.{Kind, absent, State}
use Rattle.protection.specs.Execution.{renew}
use Rattle.protection.specs.Part.{without}
use Rattle.matrix.specs.Canonical.{Canonical}
use Rattle.matrix.specs.Matrices.{state_of, renewed}
use Rattle.matrix.specs.declared.Matrix.{Matrix}
use Rattle.matrix.proofs.Operations.{renewed_state, renewed_canonical}
use Rattle.policy.specs.declared.Policy.{Policy}
use Rattle.parts.specs.Dropped.{drop_at, dropped, part_of}

-- the digits of z below j
abbrev below : ℕ → ℕ → ℕ → Bool
below z j x = ltb x j && has z x

-- ---- one name more
without_one : (R : ℕ → Bool) (m : State) (j : ℕ) → renew (without R m) j absent ≡ without (λ x. eqb x j || R x) m
without_one R m j = λ i. record { kind = λ x. kind (eqb x j) (R x) (m.kind x) i; cell = λ s o q. cell (eqb s j) (eqb o j) (R s) (R o) (m.cell s o q) i }
  where
    kind : (a b : Bool) (k : Kind) → pick a absent (pick b absent k) ≡ pick (a || b) absent k
    kind true b k = refl
    kind false b k = refl

    cell : (a b c d v : Bool) → not (a || b) && (not (c || d) && v) ≡ not ((a || c) || (b || d)) && v
    cell true b c d v = refl
    cell false true true d v = refl
    cell false true false d v = refl
    cell false false c d v = refl

module _ (z j : ℕ) where
  below_next : (x : ℕ) → below z (suc j) x ≡ (eqb x j && has z j) || below z j x
  below_next x = go (ℕ_discrete x j)
    where
      less : Dec (x < j) → (x ≡ j → ⊥) → below z (suc j) x ≡ (false && has z j) || below z j x
      less (yes l) f = let a : ltb x (suc j) ≡ true = lt-ltb x (suc j) (omega arith) in let b : ltb x j ≡ true = lt-ltb x j l in rw (a, b)
      less (no l) f = let a : ltb x (suc j) ≡ false = le-ltb x (suc j) (omega arith) in let b : ltb x j ≡ false = le-ltb x j (omega arith) in rw (a, b)

      go : Dec (x ≡ j) → below z (suc j) x ≡ (eqb x j && has z j) || below z j x
      go (yes e) =
          let a : ltb x (suc j) ≡ true = lt-ltb x (suc j) (omega arith) in
          let b : ltb x j ≡ false = le-ltb x j (omega arith) in
          let c : eqb x j ≡ true = eq-eqb x j e in
          rw (a, b, c) (ap (has z) e ∙ sym (or_none (has z j)))
        where
          or_none : (u : Bool) → u || false ≡ u
          or_none true = refl
          or_none false = refl
      go (no f) = less (dec_lt x j) f ∙ sym (ap (λ (u : Bool). (u && has z j) || below z j x) (ne_eqb x j f))

module _ (g : ℕ) (z : ℕ) (m₀ : State) where
  -- the names below j are dropped
  record Dropping (j : ℕ) (m : Matrix) : Type 0 where
    canonical : Canonical g m.kinds m.cells
    state_is : state_of m ≡ without (below z j) m₀

  dropping_next : (j : ℕ) (m : Matrix) → j < names → Dropping j m → Dropping (suc j) (drop_at z j m)
  dropping_next j m l D = go (has z j) refl
    where
      next : (b : Bool) → has z j ≡ b → (R : ℕ → Bool) → ((x : ℕ) → (eqb x j && b) || below z j x ≡ R x) → without R m₀ ≡ without (below z (suc j)) m₀
      next b e R h = ap (λ (Q : ℕ → Bool). without Q m₀) (fun_ext (λ x. sym (h x) ∙ sym (below_next z j x ∙ ap (λ (u : Bool). (eqb x j && u) || below z j x) e)))

      yes_and : (a b : Bool) → (a && true) || b ≡ a || b
      yes_and true b = refl
      yes_and false b = refl

      no_and : (a b : Bool) → (a && false) || b ≡ b
      no_and true b = refl
      no_and false b = refl

      go : (b : Bool) → has z j ≡ b → Dropping (suc j) (pick b (renewed m j 0) m)
      go true e = record {
        canonical = renewed_canonical g m D.canonical j 0 l (omega arith);
        state_is =
            renewed_state g m D.canonical j 0 l ∙ ap (λ (w : State). renew w j absent) D.state_is ∙ without_one (below z j) m₀ j
            ∙ next true e (λ x. eqb x j || below z j x) (λ x. yes_and (eqb x j) (below z j x));
      }
      go false e = record { canonical = D.canonical; state_is = D.state_is ∙ next false e (below z j) (λ x. no_and (eqb x j) (below z j x)) }

-- ---- all of them
module _ (g : ℕ) (m : Matrix) (K : Canonical g m.kinds m.cells) (z : ℕ) where
  all_dropped : Dropping g z (state_of m) (0 + names) (dropped m z)
  unfolding dropped
  all_dropped = iterate_count (Dropping g z (state_of m)) (drop_at z) names 0 (λ j w _ l D. dropping_next g z (state_of m) j w (omega arith) D) m
      (record { canonical = K; state_is = ap (λ (Q : ℕ → Bool). without Q (state_of m)) (fun_ext (λ x. sym (none x))) })
    where
      none : (x : ℕ) → below z 0 x ≡ false
      none x = let a : ltb x 0 ≡ false = le-ltb x 0 (omega arith) in rw a

  pub dropped_canonical : Canonical g (dropped m z).kinds (dropped m z).cells
  dropped_canonical = all_dropped.canonical

  -- the matrix's part is the state's
  pub dropped_state : ((x : ℕ) → T (has z x) → x < names) → state_of (dropped m z) ≡ without (has z) (state_of m)
  dropped_state small = all_dropped.state_is ∙ ap (λ (Q : ℕ → Bool). without Q (state_of m)) (fun_ext (λ x. go x (has z x) refl))
    where
      go : (x : ℕ) (b : Bool) → has z x ≡ b → below z names x ≡ has z x
      go x true e = let a : ltb x names ≡ true = lt-ltb x names (small x (test-holds (has z x) e)) in rw a
      go x false e = rw e (and_none (ltb x names))
        where
          and_none : (u : Bool) → u && false ≡ false
          and_none true = refl
          and_none false = refl

-- ---- what the functions leave
pub drop_this : (z x : ℕ) (m w : Matrix) → z / 2 ^ x % 2 ≡ 1 → w ≡ renewed m x 0 → w ≡ drop_at z x m
drop_this z x m w e d = d ∙ rw (eq-eqb (z / 2 ^ x % 2) 1 e)

pub drop_other : (z x : ℕ) (m : Matrix) → (z / 2 ^ x % 2 ≡ 1 → ⊥) → m ≡ drop_at z x m
drop_other z x m f = rw (ne_eqb (z / 2 ^ x % 2) 1 f)

pub drop_end : (z x : ℕ) (m m₀ : Matrix) → 32 ≤ x → iterate (drop_at z) (32 - x) x m ≡ iterate (drop_at z) 32 0 m₀ → m ≡ dropped m₀ z
unfolding dropped
drop_end z x m m₀ h e = iterate_end (drop_at z) 32 (iterate (drop_at z) 32 0 m₀) x m h e

pub part_is : (p : Policy) (z : ℕ) (m : Matrix) → m ≡ dropped p.matrix z
    → ◌≡◌ {A = Policy} (record { rights = p.rights; commands = p.commands; matrix = m; carries = p.carries; carried = p.carried; carriers = p.carriers; command = p.command }) (part_of p z)
unfolding part_of
part_is p z m e = ap (λ (w : Matrix). record { rights = p.rights; commands = p.commands; matrix = w; carries = p.carries; carried = p.carried; carriers = p.carriers; command = p.command }) e
