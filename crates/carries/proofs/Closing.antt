-- Carrying through further rights, link by link: what the loops of the closure keep. Assumes nothing.
use Prim.Native.Nat.{ℕ, zero, suc, ◌+◌, ◌^◌, ◌≤◌, ◌<◌}
use mathlib.Core.Path.{◌≡◌, refl, sym, ap, ap₂, ◌∙◌, subst}
use mathlib.Core.Bool.{Bool, true, false, ◌&&◌, ◌||◌}
use mathlib.Core.List.{List}
use mathlib.Core.Logic.{⊎_elim}
use native.Mathlib.Decide.{dec_lt, ℕ_discrete}
use native.Mathlib.Numerals.{add-one}
use native.Mathlib.Omega.{arith}
use borrow.Author.Tests.{lt-ltb, le-ltb}
use lib.Bits.{bit_or, or_lt}
use lib.Dec.{T, eqb}
use lib.ListN.{length, get_or, set, get_or-eq_default}
use lib.Pow.{pow_pos}
use Rattle.cases.specs.Cases.{any, tabulate}
use Rattle.cases.proofs.Bools.{or_cases, or_left, or_right, same_truth}
use Rattle.cases.proofs.Loops.{any_one, any_intro, any_same, any_none}
use Rattle.cases.proofs.Lists.{length_tabulate, tabulate_same}
use Rattle.rights.specs.Rights.{has, insert, number}
use Rattle.rights.proofs.Sets.{has_or, has_number, number_below, number_same, insert_below, has_none, has_insert_same, has_insert_other}
use Rattle.protection.specs.Limits.{rights}
use Rattle.protection.specs.Carrying.{links, chained}
use Rattle.carries.specs.Bytes.{carried_in}
use Rattle.carries.specs.Closed.{ends_of, reaches, carried_of, carriers_of}
use Rattle.cases.proofs.Filling.{get_or_table, Filling, filling_start, filling_more, filling_end}
use Rattle.carries.proofs.Sets.{number_is, has_alone}

or_none : (a : Bool) → a || false ≡ a
or_none true = refl
or_none false = refl

or_assoc : (a b c : Bool) → (a || b) || c ≡ a || (b || c)
or_assoc true b c = refl
or_assoc false b c = refl

-- one number more
pub any_last : (p : ℕ → Bool) (n : ℕ) → any p (n + 1) 0 ≡ any p n 0 || p n
any_last p n = same_truth (any p (n + 1) 0) (any p n 0 || p n) there back
  where
    at : (i : ℕ) → i < n + 1 → T (p i) → Dec (i ≡ n) → T (any p n 0 || p n)
    at i h t (yes e) = or_right (any p n 0) (p n) (rw e at t)
    at i h t (no e) = or_left (any p n 0) (p n) (any_intro p n 0 i (omega arith) (omega arith) t)

    there : T (any p (n + 1) 0) → T (any p n 0 || p n)
    there t = let r = any_one p (n + 1) 0 t in at r.0 (omega (arith, r.2)) r.3 (ℕ_discrete r.0 n)

    back : T (any p n 0 || p n) → T (any p (n + 1) 0)
    back t =
        ⊎_elim (λ u. let r = any_one p n 0 u in any_intro p (n + 1) 0 r.0 (omega arith) (omega (arith, r.2)) r.3) (λ u. any_intro p (n + 1) 0 n (omega arith) (omega arith) u)
        (or_cases (any p n 0) (p n) t)

-- ---- the loop of `further`: right i, and the ends of the chains from those rights before j that it has a link to
abbrev pub gathered : ℕ → ℕ → List ℕ → ℕ → ℕ → Bool
gathered i ls ends j q = eqb i q || any (λ k. has ls k && has (get_or ends k 0) q) j 0

pub record Gathering (i ls : ℕ) (ends : List ℕ) (set j : ℕ) : Type 0 where
  pub few : ((k : ℕ) → get_or ends k 0 < 2 ^ rights) → set < 2 ^ rights
  pub says : (q : ℕ) → has set q ≡ gathered i ls ends j q

module _ (i ls : ℕ) (ends : List ℕ) where
  pub gathering_start : (set : ℕ) → i < rights → set ≡ insert 0 i → Gathering i ls ends set 0
  unfolding any
  gathering_start set l e =
      rw e (record { few = λ _. insert_below rights 0 i l (pow_pos rights); says = λ q. has_alone i q ∙ sym (or_none (eqb i q)) })

  module _ (set j : ℕ) (b : Bool) (K : Gathering i ls ends set j) (d : b ≡ has ls j) where
    pub gathering_yes : b ≡ true → (set' : ℕ) → set' ≡ bit_or set (get_or ends j 0) → Gathering i ls ends set' (j + 1)
    gathering_yes t set' e =
        let z : has ls j ≡ true = sym d ∙ t in
        rw e (record {
          few = λ h. or_lt rights set (get_or ends j 0) (K.few h) (h j);
          says = λ q. has_or set (get_or ends j 0) q ∙ ap (λ (x : Bool). x || has (get_or ends j 0) q) (K.says q)
              ∙ or_assoc (eqb i q) (any (λ k. has ls k && has (get_or ends k 0) q) j 0) (has (get_or ends j 0) q)
              ∙ ap (λ (x : Bool). eqb i q || x) (sym (any_last (λ k. has ls k && has (get_or ends k 0) q) j ∙ ap (λ (x : Bool). any (λ k. has ls k && has (get_or ends k 0) q) j 0 || (x && has (get_or ends j 0) q)) z));
        })

    pub gathering_no : b ≡ false → (set' : ℕ) → set' ≡ set → Gathering i ls ends set' (j + 1)
    gathering_no t set' e =
        let z : has ls j ≡ false = sym d ∙ t in
        rw e (record {
          few = K.few;
          says = λ q. K.says q
              ∙ ap (λ (x : Bool). eqb i q || x) (sym (any_last (λ k. has ls k && has (get_or ends k 0) q) j ∙ ap (λ (x : Bool). any (λ k. has ls k && has (get_or ends k 0) q) j 0 || (x && has (get_or ends j 0) q)) z ∙ or_none (any (λ k. has ls k && has (get_or ends k 0) q) j 0)));
        })

pub ends_at : (g : ℕ) (l : List ℕ) (n i : ℕ) → i < rights → get_or (ends_of g l n) i 0 ≡ number (chained g (carried_in l) n i) rights
unfolding ends_of
ends_at g l n i h = get_or_table rights (λ i. number (chained g (carried_in l) n i) rights) i h

pub length_ends : (g : ℕ) (l : List ℕ) (n : ℕ) → length (ends_of g l n) ≡ rights
unfolding ends_of
length_ends g l n = length_tabulate (λ i. number (chained g (carried_in l) n i) rights) rights 0

pub ends_tell : (g : ℕ) (l : List ℕ) (n i q : ℕ) → i < rights → q < rights → has (get_or (ends_of g l n) i 0) q ≡ chained g (carried_in l) n i q
ends_tell g l n i q h k = ap (λ (x : ℕ). has x q) (ends_at g l n i h) ∙ has_number (chained g (carried_in l) n i) rights q k

pub ends_few : (g : ℕ) (l : List ℕ) (n i : ℕ) → get_or (ends_of g l n) i 0 < 2 ^ rights
ends_few g l n i = at (dec_lt i rights)
  where
    at : Dec (i < rights) → get_or (ends_of g l n) i 0 < 2 ^ rights
    at (yes h) = rw (ends_at g l n i h) (number_below (chained g (carried_in l) n i) rights)
    at (no h) = rw (get_or-eq_default (ends_of g l n) 0 {n = i} (omega (arith, length_ends g l n))) (pow_pos rights)

module _ (g : ℕ) (l : List ℕ) (i : ℕ) (few : g ≤ rights) (below : i < g) where
  pub gathering_end : (ends : List ℕ) (ls set j : ℕ) → ls ≡ get_or l i 0 → j ≤ g → g ≤ j → Gathering i ls ends set j
      → (n : ℕ) → ends ≡ ends_of g l n → set ≡ number (chained g (carried_in l) (suc n) i) rights
  unfolding chained
  gathering_end ends ls set j e a b K n d = number_is (chained g (carried_in l) (suc n) i) set (K.few (λ k. subst (λ (x : List ℕ). get_or x k 0 < 2 ^ rights) (sym d) (ends_few g l n k))) (λ q h. K.says q ∙ at q h)
    where
      step : (q k : ℕ) → q < rights → k < g → has ls k && has (get_or ends k 0) q ≡ links g (carried_in l) i k && chained g (carried_in l) n k q
      step q k h m =
          let z : has ls k ≡ links g (carried_in l) i k = rw (e, lt-ltb i g below, lt-ltb k g m) in
          ap₂ (λ (x y : Bool). x && y) z (ap (λ (x : List ℕ). has (get_or x k 0) q) d ∙ ends_tell g l n k q (omega arith) h)

      at : (q : ℕ) → q < rights → gathered i ls ends j q ≡ chained g (carried_in l) (suc n) i q
      at q h =
          let z : j ≡ g = omega arith in
          rw z (ap (λ (x : Bool). eqb i q || x)
          (any_same (λ k. has ls k && has (get_or ends k 0) q) (λ k. links g (carried_in l) i k && chained g (carried_in l) n k q) g 0 (λ k _ m. step q k h (omega arith))))

-- a right from g on has no link
chained_alone : (g : ℕ) (l : List ℕ) (n i q : ℕ) → g ≤ i → chained g (carried_in l) n i q ≡ eqb i q
unfolding chained
chained_alone g l zero i q h = refl
chained_alone g l (suc n) i q h =
    ap (λ (x : Bool). eqb i q || x) (any_none (λ j. links g (carried_in l) i j && chained g (carried_in l) n j q) g 0 (λ j _ _ t. none j t)) ∙ or_none (eqb i q)
  where
    none : (j : ℕ) → T (links g (carried_in l) i j && chained g (carried_in l) n j q) → ⊥
    none j t = rw (le-ltb i g h) at t

-- ---- the loop of `one_more`
abbrev pub ends_from : ℕ → List ℕ → ℕ → ℕ → ℕ
ends_from g l n i = number (chained g (carried_in l) n i) rights

pub record Extending (g : ℕ) (l ends next : List ℕ) (i : ℕ) : Type 0 where
  pub fills : (n : ℕ) → ends ≡ ends_of g l n → Filling rights (ends_from g l (suc n)) ends next i

module _ (g : ℕ) (l ends : List ℕ) where
  pub extending_start : Extending g l ends ends 0
  extending_start = record { fills = λ n e. filling_start rights (ends_from g l (suc n)) ends (ap length e ∙ length_ends g l n) }

  pub extending_more : (next : List ℕ) (i v : ℕ) → g ≤ rights → i < g → ((n : ℕ) → ends ≡ ends_of g l n → v ≡ number (chained g (carried_in l) (suc n) i) rights)
      → Extending g l ends next i → (next' : List ℕ) → next' ≡ set next i v → Extending g l ends next' (i + 1)
  extending_more next i v few h e K next' d =
      rw d (record { fills = λ n z. filling_more rights (ends_from g l (suc n)) ends next i v (omega arith) (e n z) (K.fills n z) })

  pub extending_end : (next : List ℕ) (i : ℕ) → g ≤ i → Extending g l ends next i → (n : ℕ) → ends ≡ ends_of g l n → next ≡ ends_of g l (suc n)
  unfolding ends_of
  extending_end next i h K n e =
      filling_end rights (ends_from g l (suc n)) ends next i (K.fills n e)
      (λ k a b. ap (λ (x : List ℕ). get_or x k 0) e ∙ ends_at g l n k b
      ∙ number_same (chained g (carried_in l) n k) (chained g (carried_in l) (suc n) k) rights (λ q _. chained_alone g l n k q (omega arith) ∙ sym (chained_alone g l (suc n) k q (omega arith))))

-- ---- the table of `alone`
pub alone_is : (v i : ℕ) → i < rights → v ≡ insert 0 i → v ≡ number (eqb i) rights
alone_is v i l e = rw e (number_is (eqb i) (insert 0 i) (insert_below rights 0 i l (pow_pos rights)) (λ q _. has_alone i q))

pub alone_end : (all : List ℕ) → all ≡ tabulate (λ k. number (eqb k) rights) rights 0 → (g : ℕ) (l : List ℕ) → all ≡ ends_of g l 0
unfolding ends_of chained
alone_end all e g l = e

-- ---- the loop of `carried`
pub ends_more : (g : ℕ) (l next : List ℕ) (n : ℕ) → next ≡ ends_of g l (suc n) → next ≡ ends_of g l (n + 1)
ends_more g l next n e = rw (add-one n) e

pub closed : (g : ℕ) (l ends : List ℕ) (n : ℕ) → n ≤ g → g ≤ n → ends ≡ ends_of g l n → ends ≡ carried_of g l
unfolding ends_of carried_of
closed g l ends n a b e = let z : n ≡ g = omega arith in rw z at e

-- ---- the loop of `holders`
pub record Holding (sets : List ℕ) (q set i : ℕ) : Type 0 where
  pub few : set < 2 ^ rights
  pub done : (k : ℕ) → k < i → has set k ≡ has (get_or sets k 0) q
  pub rest : (k : ℕ) → i ≤ k → has set k ≡ false

module _ (sets : List ℕ) (q : ℕ) where
  pub holding_start : Holding sets q 0 0
  holding_start = record { few = pow_pos rights; done = λ k h. absurd (omega arith); rest = λ k _. has_none k }

  module _ (set i : ℕ) (b : Bool) (K : Holding sets q set i) (d : b ≡ has (get_or sets i 0) q) where
    pub holding_yes : b ≡ true → i < rights → (set' : ℕ) → set' ≡ insert set i → Holding sets q set' (i + 1)
    holding_yes t l set' e =
        rw e (record {
          few = insert_below rights set i l K.few;
          done = λ k h. at k h (ℕ_discrete i k);
          rest = λ k h. has_insert_other set i k (λ z. omega arith) ∙ K.rest k (omega arith);
        })
      where
        at : (k : ℕ) → k < i + 1 → Dec (i ≡ k) → has (insert set i) k ≡ has (get_or sets k 0) q
        at k h (yes z) = rw (← z) (has_insert_same set i ∙ sym t ∙ d)
        at k h (no z) = has_insert_other set i k z ∙ K.done k (omega arith)

    pub holding_no : b ≡ false → (set' : ℕ) → set' ≡ set → Holding sets q set' (i + 1)
    holding_no t set' e = rw e (record { few = K.few; done = λ k h. at k h (ℕ_discrete i k); rest = λ k h. K.rest k (omega arith) })
      where
        at : (k : ℕ) → k < i + 1 → Dec (i ≡ k) → has set k ≡ has (get_or sets k 0) q
        at k h (yes z) = rw (← z) (K.rest i (omega arith) ∙ sym t ∙ d)
        at k h (no z) = K.done k (omega arith)

  pub holding_end : (set i : ℕ) → rights ≤ i → Holding sets q set i → set ≡ number (λ k. has (get_or sets k 0) q) rights
  holding_end set i l K = number_is (λ k. has (get_or sets k 0) q) set K.few (λ k h. K.done k (omega arith))

-- ---- the table of `carriers`
pub turned : (carried all : List ℕ) → all ≡ tabulate (λ q. number (λ k. has (get_or carried k 0) q) rights) rights 0
    → (g : ℕ) (l : List ℕ) → carried ≡ carried_of g l → all ≡ carriers_of g l
unfolding carried_of carriers_of
turned carried all d g l e =
    d
    ∙ tabulate_same (λ q. number (λ k. has (get_or carried k 0) q) rights) (λ q. number (λ k. reaches g l k q) rights) rights 0
    (λ q _ m. number_same (λ k. has (get_or carried k 0) q) (λ k. reaches g l k q) rights
    (λ k n. ap (λ (x : List ℕ). has (get_or x k 0) q) e ∙ ap (λ (x : ℕ). has x q) (get_or_table rights (λ i. number (reaches g l i) rights) k n) ∙ has_number (reaches g l k) rights q (omega arith)))
