-- A step that is looked for: the loop over the commands, on the matrix as it is and on the matrix without the right. Assumes nothing.
use Prim.Native.Nat.{ℕ, zero, suc, ◌+◌, ◌-◌, ◌≤◌, ◌<◌}
use mathlib.Core.Path.{◌≡◌, refl, sym, ap, ap₂, ◌∙◌, subst}
use mathlib.Core.Bool.{Bool, true, false}
use mathlib.Core.List.{List}
use mathlib.Core.Option.{Option, none, some}
use Rattle.std.specs.Prelude.{Option as Answered, Some, None, is_some}
use native.Mathlib.Omega.{arith}
use native.Mathlib.Decide.{dec_lt}
use native.Mathlib.Nat.{sub-zero}
use native.Mathlib.Numerals.{add-one}
use borrow.Author.Tests.{lt-ltb, le-ltb}
use lib.Dec.{ltb}
use lib.ListN.{get_or, get_elem?}
use Rattle.cases.specs.Cases.{pick, tabulate}
use Rattle.rights.specs.Rights.{has}
use Rattle.rights.proofs.Sets.{has_none}
use Rattle.protection.specs.Limits.{names, rights}
use Rattle.protection.specs.State.{State}
use Rattle.protection.specs.Command.{Command as ModelCommand, System, Call}
use Rattle.protection.specs.Judge.{first_in, names_at, choices, operation_in, places_of, four_of, call_at, allowed, first_call}
use Rattle.matrix.specs.Matrices.{state_of, deleted}
use Rattle.matrix.specs.declared.Matrix.{Matrix}
use Rattle.masks.specs.First.{first}
use Rattle.masks.specs.declared.Tables.{Tables}
use Rattle.masks.proofs.First.{Least, least}
use Rattle.commands.specs.Contents.{missing, meaning}
use Rattle.commands.specs.declared.Command.{Command}
use Rattle.queries.specs.Useful.{doable, names_of_place, touched_by, touches_at, Tried}
use Rattle.queries.specs.Sought.{Seen, SeenBySome, FirstTouching}
use Rattle.queries.specs.declared.Touch.{Touch}
use Rattle.queries.proofs.Picking.{first_same, gone_state, gone_seen}
use Rattle.policy.specs.Contents.{system_of}
use Rattle.policy.specs.declared.Policy.{Policy}
use Rattle.visits.specs.Engine.{command_number, SingleSteps}
use Rattle.visits.proofs.Asked.{policy_carried, command_found}
use Rattle.visits.proofs.Visits.{allowed_is}
use Rattle.calls.specs.Calls.{found_call, Covers, touching, gone_from, masks_without, first_touching, place_touching, touching_in, TouchingFound, Lookable}
use Rattle.calls.specs.declared.Call.{Call as CodeCall}
use Rattle.commands.specs.Fits.{Fits}
use Rattle.commands.proofs.Reading.{fits_wider}
use Rattle.policy.specs.Fits.{PolicyFits}

-- ---- a command of a policy
pub command_tried : (p : Policy) → PolicyFits p → SingleSteps p → (n : ℕ) → n ≤ names → (i : ℕ) → i < p.commands → (c : Command) → c ≡ get_or p.command i missing → Tried c n
command_tried p F single n h i l c e = record {
  fits = subst (Fits rights) (sym e) (fits_wider p.rights rights (get_or p.command i missing) F.few_rights (F.commands_fit i l));
  one_step = ap (λ (d : Command). d.operations) e ∙ single.one_step i l;
  name = h;
}

-- ---- for `call_of`
module _ (m : Matrix) (t : Tables) (w : Touch) (n i : ℕ) (C : ModelCommand) (at : ℕ) (found : FirstTouching C n m t w at) (size : ℕ) (size_is : size ≡ places_of C n) where
  here : (S : System) → Seen S m t → ◌≡◌ {A = Option Call} (pick (ltb at size) (some (call_at i C n at)) none) (touching_in S (state_of m) w n i C)
  unfolding touching_in place_touching
  here S z = ap₂ (λ (a k : ℕ). pick (ltb a k) (some (call_at i C n a)) none) (found.of S z) size_is

  pub call_found : at < size → (a : List ℕ) → a ≡ names_at (choices C n) at → TouchingFound i C n m t w (Some record { rule = i; actuals = a })
  call_found l a d = record {
    of = λ S z. ap (λ (l : List ℕ). some (four_of i l)) d ∙ ap (λ (b : Bool). pick b (some (call_at i C n at)) none) (sym (lt-ltb at size l)) ∙ here S z;
  }

  pub call_missing : size ≤ at → TouchingFound i C n m t w None
  call_missing l = record { of = λ S z. ap (λ (b : Bool). pick b (some (call_at i C n at)) none) (sym (le-ltb at size l)) ∙ here S z }

-- ---- the loop over the commands
-- the first of two that is there
or_else : Option Call → Option Call → Option Call
or_else none y = y
or_else (some x) y = some x

or_picked : (b : Bool) (x : Call) (y : Option Call) → ◌≡◌ {A = Option Call} (elim b [ true ↦ some x | false ↦ y ]) (or_else (pick b (some x) none) y)
unfolding or_else
or_picked true x y = refl
or_picked false x y = refl

or_none : (x y : Option Call) → x ≡ none → or_else x y ≡ y
unfolding or_else
or_none x y e = rw e

or_found : (x : Answered CodeCall) (y : Option Call) → is_some x ≡ true → found_call x ≡ or_else (found_call x) y
unfolding or_else
or_found (Some x) y e = refl
or_found None y e = cc

or_missed : (x : Answered CodeCall) (y : Option Call) → is_some x ≡ false → or_else (found_call x) y ≡ y
unfolding or_else
or_missed (Some x) y e = cc
or_missed None y e = refl

touching_is : (S : System) (m : State) (w : Touch) (i : ℕ) (C : ModelCommand) → get_elem? S.commands i ≡ some C → (n q : ℕ) → touches_at S m w C n q ≡ touching S m w C (call_at i C n q)
touching_is S m w i C found n q = go (touched_by w (names_of_place C n q) (operation_in C))
  where
    go : (b : Bool) → ◌≡◌ {A = Bool} (elim b [ true ↦ doable S C m (names_of_place C n q) | false ↦ false ]) (elim b [ true ↦ allowed S m (call_at i C n q) | false ↦ false ])
    go true = sym (allowed_is S i C found m n q)
    go false = refl

module _ (p : Policy) (m : State) (n : ℕ) (w : Touch) where
  abbrev S : System
  S = system_of p

  abbrev P : ModelCommand → Call → Bool
  P = touching S m w

  -- what is found from command i on
  pub from : ℕ → Option Call
  from i = first_call P n i (tabulate (command_number p) (p.commands - i) i)

  -- what is found in command i
  abbrev found : ℕ → Option Call
  found i = touching_in S m w n i (command_number p i)

  from_start : from 0 ≡ first_touching S m w n
  unfolding from first_touching
  from_start = ap (λ (k : ℕ). first_call P n 0 (tabulate (command_number p) k 0)) (sub-zero p.commands)

  from_end : (i : ℕ) → p.commands ≤ i → from i ≡ none
  unfolding from
  from_end i l = let z : p.commands - i ≡ 0 = omega arith in ap (λ (k : ℕ). first_call P n i (tabulate (command_number p) k i)) z

  from_more : (i : ℕ) → i < p.commands → from i ≡ or_else (found i) (from (i + 1))
  unfolding from touching_in place_touching
  from_more i l =
      let z : p.commands - i ≡ suc (p.commands - (i + 1)) = omega arith in
      ap (λ (k : ℕ). first_call P n i (tabulate (command_number p) k i)) z
      ∙ ap (λ (y : ℕ). elim (ltb at (places_of C n)) [ true ↦ some (call_at i C n at) | false ↦ first_call P n y (tabulate (command_number p) (p.commands - (i + 1)) y) ]) (sym (add-one i))
      ∙ ap (λ (a : ℕ). elim (ltb a (places_of C n)) [ true ↦ some (call_at i C n a) | false ↦ later ]) (sym at_is)
      ∙ or_picked (ltb place (places_of C n)) (call_at i C n place) later
    where
      C : ModelCommand
      C = command_number p i

      at : ℕ
      at = first_in (λ q. P C (call_at i C n q)) (places_of C n) 0

      place : ℕ
      place = first_in (touches_at S m w C n) (places_of C n) 0

      later : Option Call
      later = first_call P n (i + 1) (tabulate (command_number p) (p.commands - (i + 1)) (i + 1))

      at_is : place ≡ at
      at_is = first_same (touches_at S m w C n) (λ q. P C (call_at i C n q)) (touching_is S m w i C (command_found p i l) n) (places_of C n) 0

  from_next : (i : ℕ) → (i < p.commands → found i ≡ none) → from i ≡ from (i + 1)
  from_next i h = go (dec_lt i p.commands)
    where
      go : Dec (i < p.commands) → from i ≡ from (i + 1)
      go (yes l) = from_more i l ∙ or_none (found i) (from (i + 1)) (h l)
      go (no l) = from_end i (omega arith) ∙ sym (from_end (i + 1) (omega arith))

  skip : (d i : ℕ) → ((k : ℕ) → i ≤ k → k < i + d → k < p.commands → found k ≡ none) → from i ≡ from (i + d)
  skip zero i h = let z : i ≡ i + 0 = omega arith in ap from z
  skip (suc d) i h =
      let z : i + 1 + d ≡ i + suc d = omega arith in
      from_next i (h i (omega arith) (omega arith)) ∙ skip d (i + 1) (λ k a b. h k (omega arith) (omega arith)) ∙ ap from z

  module _ (which : ℕ) (W : Covers p n w m which) where
    -- to the next command of the mask
    jumped : (i j : ℕ) → i ≤ names → j ≡ first (has which) i names → (j ≤ names) × (i ≤ j) × (from i ≡ from j)
    jumped i j l e = (
      L.high,
      L.low,
      (let z : i + (j - i) ≡ j = omega (arith, L.low) in
          skip (j - i) i (λ k a b h. W.none_else k h (L.none k a (omega (arith, L.low)))) ∙ ap from z),
    )
      where
        L : Least (has which) i names j
        L = subst (Least (has which) i names) (sym e) (least (has which) i names l)

    -- no command at all
    pub none_covered : which ≡ 0 → first_touching S m w n ≡ none
    none_covered e = sym from_start ∙ skip p.commands 0 (λ k a b h. W.none_else k h (ap (λ (z : ℕ). has z k) e ∙ has_none k)) ∙ from_end (0 + p.commands) (omega arith)

module _ (p : Policy) (m : Matrix) (t : Tables) (n : ℕ) (w : Touch) where
  -- what is left to look through, from command i on, is all
  pub record Looking (which count i : ℕ) : Type 0 where
    pub asked : Lookable p n w m t
    pub by : Covers p n w (state_of m) which
    pub number : count ≡ p.commands
    pub most : i ≤ names
    pub rest : from p (state_of m) n w i ≡ first_touching (system_of p) (state_of m) w n

  pub looking_start : Lookable p n w m t → (which : ℕ) → Covers p n w (state_of m) which → (count : ℕ) → count ≡ p.commands → (i : ℕ) → i ≡ first (has which) 0 names → Looking which count i
  looking_start K which W count e i f =
      let j = jumped p (state_of m) n w which W 0 i (omega arith) f in
      record { asked = K; by = W; number = e; most = j.0; rest = sym j.2 ∙ from_start p (state_of m) n w }

  module _ (which count i : ℕ) (K : Looking which count i) where
    pub looking_seen : SeenBySome m t
    looking_seen = record { system = system_of p; seen = K.asked.closable.seen }

    pub looking_end : count ≤ i → none ≡ first_touching (system_of p) (state_of m) w n
    looking_end l = sym (from_end p (state_of m) n w i (omega (arith, K.number))) ∙ K.rest

    module _ (l : i < count) where
      pub looking_number : i < 32
      looking_number = omega (arith, K.number, K.asked.closable.fits.few_commands)

      pub looking_less : (i' : ℕ) → i' ≡ first (has which) (i + 1) names → count - i' < count - i
      looking_less i' g =
          let j = jumped p (state_of m) n w which K.by (i + 1) i' (omega (arith, looking_number)) g in
          omega (arith, j.1)

      module _ (c : Command) (e : c ≡ get_or p.command i missing) where
        pub looking_tried : Tried c n
        looking_tried = command_tried p K.asked.closable.fits K.asked.closable.single n K.asked.name i (rw K.number at l) c e

        module _ (x : Answered CodeCall) (d : TouchingFound i (meaning c) n m t w x) where
          this : found_call x ≡ found p (state_of m) n w i
          this = d.of (system_of p) K.asked.closable.seen ∙ ap (λ (d : Command). touching_in (system_of p) (state_of m) w n i (meaning d)) e

          onward : from p (state_of m) n w i ≡ or_else (found_call x) (from p (state_of m) n w (i + 1))
          onward = from_more p (state_of m) n w i (rw K.number at l) ∙ ap (λ (y : Option Call). or_else y (from p (state_of m) n w (i + 1))) (sym this)

          pub looking_found : (b : Bool) → b ≡ is_some x → b ≡ true → found_call x ≡ first_touching (system_of p) (state_of m) w n
          looking_found b u f = or_found x (from p (state_of m) n w (i + 1)) (sym u ∙ f) ∙ sym onward ∙ K.rest

          pub looking_more : (b : Bool) → b ≡ is_some x → b ≡ false → (i' : ℕ) → i' ≡ first (has which) (i + 1) names → Looking which count i'
          looking_more b u f i' g =
              let j = jumped p (state_of m) n w which K.by (i + 1) i' (omega (arith, looking_number)) g in
              record {
                asked = K.asked;
                by = K.by;
                number = K.number;
                most = j.0;
                rest = sym j.2 ∙ sym (or_missed x (from p (state_of m) n w (i + 1)) (sym u ∙ f)) ∙ sym onward ∙ K.rest;
              }

-- ---- on the matrix without the right
module _ (p : Policy) (m : Matrix) (t : Tables) (n : ℕ) (w : Touch) (K : Lookable p n w m t) where
  abbrev r : ℕ
  r = w.right

  abbrev s : ℕ
  s = w.subject

  abbrev o : ℕ
  o = w.object

  pub step_right : r < rights
  step_right = omega (arith, K.closable.right, K.closable.fits.few_rights)

  module _ (gone : Matrix) (g : gone ≡ deleted m r s o) where
    lost : state_of gone ≡ gone_from w (state_of m)
    lost = gone_state (system_of p) p.carried (policy_carried p K.closable.fits) m t K.closable.seen r s o step_right K.row K.column gone g

    pub lookable_gone : (without : Tables) → without ≡ masks_without p.carried w m.cells t → Lookable p n w gone without
    lookable_gone without e = record {
      closable = record {
        fits = K.closable.fits;
        single = K.closable.single;
        seen = gone_seen (system_of p) p.carried (policy_carried p K.closable.fits) m t K.closable.seen r s o step_right K.row K.column gone g without e;
        right = K.closable.right;
      };
      name = K.name;
      row = K.row;
      column = K.column;
    }

    pub covers_gone : (which : ℕ) → Covers p n w (gone_from w (state_of m)) which → Covers p n w (state_of gone) which
    covers_gone which W = subst (λ (z : State). Covers p n w z which) (sym lost) W

    pub returned_gone : (x : Answered CodeCall) → found_call x ≡ first_touching (system_of p) (state_of gone) w n → found_call x ≡ first_touching (system_of p) (gone_from w (state_of m)) w n
    returned_gone x d = d ∙ ap (λ (z : State). first_touching (system_of p) z w n) lost
