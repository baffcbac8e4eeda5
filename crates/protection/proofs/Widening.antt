-- A run on the names of a file and on names without number: what is carried out on the first is carried out on the second, and leaks where it does.
-- Assumes nothing.
use mathlib.Core.Path.{◌≡◌, refl, sym, ap, subst}
use mathlib.Core.Bool.{Bool, true, false, not, ◌||◌}
use mathlib.Core.List.{List, [], ◌∷◌}
use mathlib.Core.Logic.{⊎_elim}
use mathlib.Core.Option.{Option, none, some}
use Prim.Native.Nat.{ℕ, ◌<◌}
use native.Mathlib.Omega.{arith}
use borrow.Author.Tests.{ltb-true}
use lib.Dec.{T, eqb, ltb}
use lib.ListN.{get_elem?}
use Rattle.cases.specs.Cases.{pick, all}
use Rattle.cases.proofs.Bools.{is_true, fails, holds as test-holds, or_cases, or_left, or_right}
use Rattle.cases.proofs.Loops.{all_at, all_intro}
use Rattle.protection.specs.Limits.{parameters, unused}
use Rattle.protection.specs.State.{State}
use Rattle.protection.specs.Command.{Command, System, Call, actuals, spare}
use Rattle.protection.specs.Execution.{bounded, unbounded, hold_all, actual_fits, can_do_all, effect_all, enters_any_new, Outcome, refused, done, gate, execute_command, execute}
use Rattle.protection.specs.Leak.{after, is_refused, is_leak, leaks, any_refused, init, LeaksLast}

-- P and Q say which numbers a call may give as names
-- what a call does where P names are allowed, it does where Q names are
abbrev DoneToo : (ℕ → Bool) → (ℕ → Bool) → System → Call → Type 0
DoneToo P Q S x = (m m' : State) (new : ℕ → Bool) → execute P S m x ≡ done m' new → execute Q S m x ≡ done m' new

abbrev DoneTooAll : (ℕ → Bool) → (ℕ → Bool) → System → List Call → Type 0
DoneTooAll P Q S [] = Unit {0}
DoneTooAll P Q S (x ∷ xs) = DoneToo P Q S x × DoneTooAll P Q S xs

-- a call whose actuals, but for spare parameters, fit under P and under Q
done_too : (P Q : ℕ → Bool) (S : System) (x : Call)
    → ((C : Command) → get_elem? S.commands x.command ≡ some C → (b : ℕ) → b < C.parameters → T (not (spare C b)) → T (P (actuals x b)) → T (Q (actuals x b))) → DoneToo P Q S x
done_too P Q S x h m m' new e = go (get_elem? S.commands x.command) refl e
  where
    go : (w : Option Command) → get_elem? S.commands x.command ≡ w → execute_command P S m w (actuals x) ≡ done m' new → execute_command Q S m w (actuals x) ≡ done m' new
    go none d e = e
    go (some C) d e = gates (all (actual_fits P C (actuals x)) parameters 0) refl e
      where
        fits : (b : ℕ) → actual_fits P C (actuals x) b ≡ true → actual_fits Q C (actuals x) b ≡ true
        fits b = by (spare C b) (ltb b C.parameters) (λ t. t) refl
          where
            by : (s c : Bool) → (T (not s) → T (not (spare C b))) → ltb b C.parameters ≡ c
                → s || pick c (P (actuals x b)) (eqb (actuals x b) unused) ≡ true → s || pick c (Q (actuals x b)) (eqb (actuals x b) unused) ≡ true
            by true c u l e = refl
            by false true u l e = is_true (Q (actuals x b)) (h C d b (ltb-true b C.parameters l) (u tt) (test-holds (P (actuals x b)) e))
            by false false u l e = e

        gates : (c : Bool) → all (actual_fits P C (actuals x)) parameters 0 ≡ c
            → gate c 12 (gate (hold_all S m (actuals x) C.conditions) 14 (gate (can_do_all m (actuals x) C.operations) 15
            (done (effect_all m (actuals x) C.operations) (enters_any_new m (actuals x) C.operations)))) ≡ done m' new
            → execute_command Q S m (some C) (actuals x) ≡ done m' new
        gates true d e =
            let z : all (actual_fits Q C (actuals x)) parameters 0 ≡ true =
            all_intro (actual_fits Q C (actuals x)) parameters 0 (λ b l k. fits b (all_at (actual_fits P C (actuals x)) parameters 0 d b l k)) in
            rw z e
        gates false d e = absurd (let z : ◌≡◌ {A = ℕ} 0 1 = cc in omega arith)

module _ (P Q : ℕ → Bool) (S : System) (r : ℕ) where
  carried_same : (xs : List Call) (m : State) → DoneTooAll P Q S xs → (T (any_refused P S m xs) → ⊥) → (any_refused Q S m xs ≡ false) × (leaks Q S r m xs ≡ leaks P S r m xs)
  unfolding any_refused leaks
  carried_same [] m h f = (refl, refl)
  carried_same (x ∷ xs) m h f = go (execute P S m x) refl (λ m'. carried_same xs m' h.1) f
    where
      go : (o : Outcome) → execute P S m x ≡ o → ((m' : State) → (T (any_refused P S m' xs) → ⊥) → (any_refused Q S m' xs ≡ false) × (leaks Q S r m' xs ≡ leaks P S r m' xs))
          → (T (is_refused o || any_refused P S (after o m) xs) → ⊥)
          → (is_refused (execute Q S m x) || any_refused Q S (after (execute Q S m x) m) xs ≡ false)
          × (is_leak r (execute Q S m x) || leaks Q S r (after (execute Q S m x) m) xs ≡ is_leak r (execute P S m x) || leaks P S r (after (execute P S m x) m) xs)
      go (refused n) d ih f = absurd (f tt)
      go (done m' new) d ih f =
          let u : execute Q S m x ≡ done m' new = h.0 m m' new d in
          let k = ih m' f in
          (rw u k.0, rw (u, d) (ap (λ (b : Bool). new r || b) k.1))

  init_carried : (xs : List Call) (m : State) → T (any_refused P S m (init xs)) → T (any_refused P S m xs)
  unfolding any_refused
  init_carried [] m t = t
  init_carried (x ∷ []) m t = absurd t
  init_carried (x ∷ y ∷ xs) m t =
      ⊎_elim (λ a. or_left (is_refused (execute P S m x)) (any_refused P S (after (execute P S m x) m) (y ∷ xs)) a)
      (λ b. or_right (is_refused (execute P S m x)) (any_refused P S (after (execute P S m x) m) (y ∷ xs)) (init_carried (y ∷ xs) (after (execute P S m x) m) b))
      (or_cases (is_refused (execute P S m x)) (any_refused P S (after (execute P S m x) m) (init (y ∷ xs))) t)

  init_all : (xs : List Call) → DoneTooAll P Q S xs → DoneTooAll P Q S (init xs)
  init_all [] h = tt
  init_all (x ∷ []) h = tt
  init_all (x ∷ y ∷ xs) h = (h.0, init_all (y ∷ xs) h.1)

  last_done_too : (xs : List Call) (m : State) → DoneTooAll P Q S xs → LeaksLast P S r m xs → LeaksLast Q S r m xs
  last_done_too xs m h L =
      let whole = carried_same xs m h L.carried in
      let most = carried_same (init xs) m (init_all xs h) (λ t. L.carried (init_carried xs m t)) in
      record { carried = fails (any_refused Q S m xs) whole.0; leak = subst T (sym whole.1) L.leak; sooner = λ t. L.sooner (subst T most.1 t) }

-- the calls give names of a file, 0 to 31, to the parameters of their commands that are not spare
abbrev pub NamesOfFile : System → List Call → Type 0
NamesOfFile S [] = Unit {0}
NamesOfFile S (x ∷ xs) = ((C : Command) → get_elem? S.commands x.command ≡ some C → (b : ℕ) → b < C.parameters → T (not (spare C b)) → T (bounded (actuals x b))) × NamesOfFile S xs

-- what is carried out on the names of a file is carried out on names without number
pub call_unbounded : (S : System) (x : Call) (m m' : State) (new : ℕ → Bool) → execute bounded S m x ≡ done m' new → execute unbounded S m x ≡ done m' new
call_unbounded S x = done_too bounded unbounded S x (λ C _ b _ _ _. tt)

module _ (S : System) (r : ℕ) where
  widen : (xs : List Call) → DoneTooAll bounded unbounded S xs
  widen [] = tt
  widen (x ∷ xs) = (call_unbounded S x, widen xs)

  narrow : (xs : List Call) → NamesOfFile S xs → DoneTooAll unbounded bounded S xs
  narrow [] h = tt
  narrow (x ∷ xs) h = (done_too unbounded bounded S x (λ C d b l u _. h.0 C d b l u), narrow xs h.1)

  -- a leak at the last step on the names of a file is one on names without number, and the other way where the run gives names of a file
  pub last_unbounded : (xs : List Call) (m : State) → LeaksLast bounded S r m xs → LeaksLast unbounded S r m xs
  last_unbounded xs m = last_done_too bounded unbounded S r xs m (widen xs)

  pub last_bounded : (xs : List Call) (m : State) → NamesOfFile S xs → LeaksLast unbounded S r m xs → LeaksLast bounded S r m xs
  last_bounded xs m h = last_done_too unbounded bounded S r xs m (narrow xs h)
