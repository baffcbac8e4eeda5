-- The loops that mark what commands ask of the cells of their own parameters. Assumes nothing.
use Prim.Native.Nat.{ℕ, ◌+◌, ◌*◌, ◌/◌, ◌%◌, ◌^◌, ◌≤◌, ◌<◌}
use mathlib.Core.Path.{◌≡◌, sym, ap, ap₂, ◌∙◌, subst}
use mathlib.Core.Bool.{Bool, true, false, ◌&&◌, ◌||◌}
use mathlib.Core.List.{List}
use mathlib.Core.Logic.{◌⊎◌, inl, inr, ⊎_elim}
use native.Mathlib.Decide.{dec_lt, ℕ_discrete}
use native.Mathlib.Omega.{arith}
use borrow.Author.Tests.{eq-eqb, ne_eqb, lt-ltb, le-ltb}
use lib.Bits.{bit_or}
use lib.Dec.{T, eqb, ltb, eqb→eq}
use lib.ListN.{length, get_or, set, replicate, get_or-replicate, length-replicate, length-set}
use Rattle.cases.specs.Cases.{pick}
use Rattle.cases.proofs.Bools.{and_left, and_right, or_cases, holds, is_true}
use Rattle.rights.specs.Rights.{has, insert}
use Rattle.rights.proofs.Sets.{has_none}
use Rattle.protection.specs.Limits.{rights, commands}
use Rattle.masks.specs.Told.{raised}
use Rattle.masks.proofs.Written.{has_raised, mark_is}
use Rattle.commands.specs.Contents.{missing}
use Rattle.commands.specs.Fits.{Fits}
use Rattle.commands.specs.declared.Command.{Command}
use Rattle.commands.proofs.Reading.{fits_wider}
use Rattle.policy.specs.Fits.{PolicyFits}
use Rattle.policy.specs.declared.Policy.{Policy}
use Rattle.closing.specs.Asks.{side_of, on_side, first_of, second_of, Asks, AsksMarked, AskedBy}

-- ---- the side that a parameter is on
pub side_first : (x y b : ℕ) → b ≡ x → 0 ≡ side_of x y b
side_first x y b e = rw (eq-eqb b x e)

pub side_second : (x y b : ℕ) → (b ≡ x → ⊥) → b ≡ y → 1 ≡ side_of x y b
side_second x y b n e = let u = ne_eqb b x n in let v = eq-eqb b y e in rw (u, v)

pub side_neither : (x y b : ℕ) → (b ≡ x → ⊥) → (b ≡ y → ⊥) → 2 ≡ side_of x y b
side_neither x y b n e = let u = ne_eqb b x n in let v = ne_eqb b y e in rw (u, v)

side_is : (x y b a : ℕ) → a ≡ side_of x y b → a < 2 → b ≡ on_side a x y
side_is x y b a e l = go (ℕ_discrete b x) (ℕ_discrete b y)
  where
    go : Dec (b ≡ x) → Dec (b ≡ y) → b ≡ on_side a x y
    go (yes f) g = f ∙ ap (λ (z : ℕ). on_side z x y) (side_first x y b f ∙ sym e)
    go (no f) (yes g) = g ∙ ap (λ (z : ℕ). on_side z x y) (side_second x y b f g ∙ sym e)
    go (no f) (no g) = absurd (let z : 2 ≡ a = side_neither x y b f g ∙ sym e in omega arith)

-- ---- for `mark`
module _ (l : List ℕ) (i q a b : ℕ) where
  abbrev on : Bool → Bool → List ℕ
  on u v = pick (u && v) (raised l (rights * (2 * a + b) + q) i) l

  pub mark_both : a < 2 → b < 2 → i < commands → set l (rights * (2 * a + b) + q) (bit_or (get_or l (rights * (2 * a + b) + q) 0) ((1 * 2 ^ i) % 2 ^ 32)) ≡ on (ltb a 2) (ltb b 2)
  mark_both la lb li = mark_is l (rights * (2 * a + b) + q) i li ∙ ap₂ on (sym (lt-ltb a 2 la)) (sym (lt-ltb b 2 lb))

  pub mark_first : a < 2 → 2 ≤ b → l ≡ on (ltb a 2) (ltb b 2)
  mark_first la lb = ap₂ on (sym (lt-ltb a 2 la)) (sym (le-ltb b 2 lb))

  pub mark_neither : 2 ≤ a → l ≡ on (ltb a 2) (ltb b 2)
  mark_neither la = ap (λ (u : Bool). on u (ltb b 2)) (sym (le-ltb a 2 la))

  pub mark_none : (a < 2 × 2 ≤ b) ⊎ (2 ≤ a) → l ≡ on (ltb a 2) (ltb b 2)
  mark_none = ⊎_elim (λ (h : a < 2 × 2 ≤ b). mark_first h.0 h.1) (λ (h : 2 ≤ a). mark_neither h)

-- ---- the conditions of one command
pub record Marking (c : Command) (i : ℕ) (before : List ℕ) (n x y j : ℕ) (now : List ℕ) : Type 0 where
  pub fits : Fits rights c
  pub number : n ≡ c.conditions
  pub first_is : x ≡ first_of c
  pub second_is : y ≡ second_of c
  pub few : i < commands
  pub within : j ≤ n
  pub marked : AsksMarked c i before now

pub marking_start : (c : Command) (i : ℕ) (l : List ℕ) (n x y : ℕ) → Fits rights c → n ≡ c.conditions → x ≡ first_of c → y ≡ second_of c → i < commands → length l ≡ 4 * rights → Marking c i l n x y 0 l
marking_start c i l n x y F e ex ey h k = record {
  fits = F;
  number = e;
  first_is = ex;
  second_is = ey;
  few = h;
  within = omega arith;
  marked = record { length_is = k; says = λ e j _ t. inl t };
}

module _ (c : Command) (i : ℕ) (before : List ℕ) (n x y j : ℕ) (now : List ℕ) (K : Marking c i before n x y j now) where
  pub marking_end : n ≤ j → AsksMarked c i before now
  marking_end l = K.marked

  pub marking_length : length now ≡ 4 * rights
  marking_length = K.marked.length_is

  pub marking_byte : j < n → 3 * j < 12
  marking_byte l = omega (arith, K.number, K.fits.few_conditions)

  pub marking_byte_1 : j < n → 3 * j + 1 < 12
  marking_byte_1 l = omega (arith, K.number, K.fits.few_conditions)

  pub marking_byte_2 : j < n → 3 * j + 2 < 12
  marking_byte_2 l = omega (arith, K.number, K.fits.few_conditions)

  module _ (l : j < n) (q : ℕ) (eq : q ≡ get_or c.condition (3 * j) 0) where
    pub marking_right : q < rights
    marking_right = subst (λ (z : ℕ). z < rights) (sym eq) (K.fits.condition_right j (omega (arith, K.number)))

    module _ (a : ℕ) (ea : a ≡ side_of x y (get_or c.condition (3 * j + 1) 0)) (b : ℕ) (eb : b ≡ side_of x y (get_or c.condition (3 * j + 2) 0)) (new : List ℕ)
        (e : new ≡ pick (ltb a 2 && ltb b 2) (raised now (rights * (2 * a + b) + q) i) now) where
      at : ℕ
      at = rights * (2 * a + b) + q

      onward : AsksMarked c i before new → Marking c i before n x y (j + 1) new
      onward M = record { fits = K.fits; number = K.number; first_is = K.first_is; second_is = K.second_is; few = K.few; within = omega arith; marked = M }

      same : new ≡ now → AsksMarked c i before new
      same z = subst (AsksMarked c i before) (sym z) K.marked

      asks : a < 2 → b < 2 → Asks c (at / rights) (at % rights)
      unfolding at
      asks la lb =
          let lq : q < rights = marking_right in
          let zk : (rights * (2 * a + b) + q) / rights / 2 ≡ a = omega arith in
          let zl : (rights * (2 * a + b) + q) / rights % 2 ≡ b = omega arith in
          let zq : q ≡ (rights * (2 * a + b) + q) % rights = omega arith in
          record {
            at = j;
            inside = omega (arith, K.number);
            right_is = sym eq ∙ zq;
            subject_is = side_is x y (get_or c.condition (3 * j + 1) 0) a ea la ∙ ap₂ (on_side a) K.first_is K.second_is ∙ ap (λ (z : ℕ). on_side z (first_of c) (second_of c)) (sym zk);
            object_is = side_is x y (get_or c.condition (3 * j + 2) 0) b eb lb ∙ ap₂ (on_side b) K.first_is K.second_is ∙ ap (λ (z : ℕ). on_side z (first_of c) (second_of c)) (sym zl);
          }

      raise : a < 2 → b < 2 → new ≡ raised now at i → AsksMarked c i before new
      unfolding at
      raise la lb z = subst (AsksMarked c i before) (sym z) record {
        length_is = length-set now (rights * (2 * a + b) + q) (insert (get_or now (rights * (2 * a + b) + q) 0) i) ∙ K.marked.length_is;
        says = λ (e k : ℕ) (le : e < 4 * rights) (t : has (get_or (raised now (rights * (2 * a + b) + q) i) e 0) k ≡ true).
            ⊎_elim
            (λ (u : T (eqb e (rights * (2 * a + b) + q) && eqb k i)).
            let f : e ≡ rights * (2 * a + b) + q = eqb→eq e (rights * (2 * a + b) + q) (and_left (eqb e (rights * (2 * a + b) + q)) (eqb k i) u) in
            inr (eqb→eq k i (and_right (eqb e (rights * (2 * a + b) + q)) (eqb k i) u), subst (λ (z : ℕ). Asks c (z / rights) (z % rights)) (sym f) (asks la lb)))
            (λ (u : T (has (get_or now e 0) k)). K.marked.says e k le (is_true (has (get_or now e 0) k) u))
            (or_cases (eqb e (rights * (2 * a + b) + q) && eqb k i) (has (get_or now e 0) k)
            (holds ((eqb e (rights * (2 * a + b) + q) && eqb k i) || has (get_or now e 0) k) (sym (has_raised now (rights * (2 * a + b) + q) i e k (let h : length now ≡ 4 * rights = K.marked.length_is in let lq : q < rights = marking_right in omega arith)) ∙ t)));
      }

      pub marking_more : Marking c i before n x y (j + 1) new
      unfolding at
      marking_more = onward (go (dec_lt a 2) (dec_lt b 2))
        where
          go : Dec (a < 2) → Dec (b < 2) → AsksMarked c i before new
          go (yes la) (yes lb) = raise la lb (e ∙ ap₂ (λ (u v : Bool). pick (u && v) (raised now (rights * (2 * a + b) + q) i) now) (lt-ltb a 2 la) (lt-ltb b 2 lb))
          go (yes la) (no lb) = same (e ∙ sym (mark_first now i q a b la (omega arith)))
          go (no la) g = same (e ∙ sym (mark_neither now i q a b (omega arith)))

-- ---- the commands
pub record Asking (p : Policy) (i : ℕ) (asks : List ℕ) : Type 0 where
  pub fits : PolicyFits p
  pub within : i ≤ p.commands
  pub asked : AskedBy p asks

pub asking_start : (p : Policy) → PolicyFits p → Asking p 0 (replicate (4 * rights) 0)
asking_start p F = record {
  fits = F;
  within = omega arith;
  asked = record { length_is = length-replicate {A = ℕ} (4 * rights) 0; says = λ e i l t. absurd (clash (has (get_or (replicate {A = ℕ} (4 * rights) 0) e 0) i) (zeros e i l) t) };
}
  where
    zeros : (e i : ℕ) → e < 4 * rights → has (get_or (replicate {A = ℕ} (4 * rights) 0) e 0) i ≡ false
    zeros e i h = rw (get_or-replicate {A = ℕ} (4 * rights) e 0 0 h) (has_none i)

    clash : (b : Bool) → b ≡ false → b ≡ true → ⊥
    clash b x y = let z : ◌≡◌ {A = Bool} true false = cc in let w : ◌≡◌ {A = ℕ} 0 1 = cc in omega arith

module _ (p : Policy) (i : ℕ) (asks : List ℕ) (K : Asking p i asks) where
  pub asking_end : AskedBy p asks
  asking_end = K.asked

  pub asking_length : length asks ≡ 4 * rights
  asking_length = K.asked.length_is

  module _ (l : i < p.commands) where
    pub asking_number : i < 32
    asking_number = omega (arith, K.fits.few_commands)

    module _ (c : Command) (e : c ≡ get_or p.command i missing) where
      pub asking_fits : Fits rights c
      asking_fits = subst (Fits rights) (sym e) (fits_wider p.rights rights (get_or p.command i missing) K.fits.few_rights (K.fits.commands_fit i l))

      pub asking_more : (new : List ℕ) → AsksMarked c i asks new → Asking p (i + 1) new
      asking_more new M = record {
        fits = K.fits;
        within = omega arith;
        asked = record {
          length_is = M.length_is;
          says = λ (d j : ℕ) (h : d < 4 * rights) (t : has (get_or new d 0) j ≡ true).
              ⊎_elim (λ (u : has (get_or asks d 0) j ≡ true). K.asked.says d j h u)
              (λ (u : (j ≡ i) × Asks c (d / rights) (d % rights)).
              subst (λ (w : Command). Asks w (d / rights) (d % rights)) (e ∙ ap (λ (k : ℕ). get_or p.command k missing) (sym u.0)) u.1)
              (M.says d j h t);
        };
      }
