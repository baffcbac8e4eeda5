-- A saturated state that holds the right only where the start did, and in which it can nowhere be deleted and entered again: no run from the start leaks r.
-- Assumes nothing.
use mathlib.Core.Path.{◌≡◌, refl, sym, ap}
use mathlib.Core.Bool.{Bool, true, false, not, ◌&&◌, ◌||◌}
use mathlib.Core.List.{List, [], ◌∷◌}
use mathlib.Core.Logic.{◌⊎◌, inl, inr, ⊎_elim}
use Prim.Native.Nat.{ℕ}
use lib.Dec.{T, eqb, eqb→eq, T_not, not_T}
use Rattle.cases.specs.Cases.{pick}
use Rattle.cases.proofs.Bools.{and_left, and_right, and_intro, both, or_cases, or_right}
use Rattle.protection.specs.State.{Kind, absent, object, subject, is_object, is_subject, State, object_in, subject_in}
use Rattle.protection.specs.Command.{Operation, enter, delete, create_subject, create_object, destroy_subject, destroy_object, Command, System, Call, Actuals, actuals}
use Rattle.protection.specs.Execution.{unbounded, can_do, same_cell, put, take_out, renew, effect, enters_new, Outcome, done, execute}
use Rattle.protection.specs.Leak.{after, is_leak, leaks}
use Rattle.protection.specs.Judge.{operation_in}
use Rattle.protection.specs.Paper.{subject_is_object}
use Rattle.protection.proofs.Calls.{Singles, Has, ready, call_cases}
use Rattle.protection.proofs.Saturated.{Maps, ready_to, Newcomer, Saturated, enter_seen, maps_enter, maps_delete, maps_renamed, newcomer_subject, newcomer_object}

-- ---- what a closed state is
-- a call of a command of S that can be carried out in m, and whose operation c is on the cell (u, v)
pub record Reaches (S : System) (m : State) (c : ℕ → ℕ → Operation) (u v : ℕ) : Type 0 where
  pub C : Command
  pub s : ℕ
  pub o : ℕ
  pub a : Actuals
  pub has : Has S C (c s o)
  pub able : T (ready S C m a)
  pub can : T (subject_in m (a s) && object_in m (a o))
  pub at_s : a s ≡ u
  pub at_o : a o ≡ v

pub record Closed (S : System) (r : ℕ) (m₀ M : State) (fresh : ℕ) : Type 0 where
  pub saturated : Saturated S m₀ M fresh
  pub clean : (x y : ℕ) → T (m₀.cell x y r) → T (object_in m₀ x) × T (object_in m₀ y)
  pub old : (x y : ℕ) → T (M.cell x y r) → T (m₀.cell x y r)
  -- nowhere can r be deleted and entered again
  pub closing : (x y : ℕ) → T (m₀.cell x y r) → Reaches S M (delete r) x y → Reaches S (take_out M r x y) (enter r) x y → ⊥

-- ---- a run from the start, seen in M through a map of names
module _ (S : System) (singles : Singles S) (r : ℕ) (m₀ M : State) (fresh : ℕ) (K : Closed S r m₀ M fresh) where
  -- what holds along a run that has not leaked
  record Sim (m : State) (f : ℕ → ℕ) : Type 0 where
    maps : Maps m M f
    -- a name that stands for a name of the start is that name
    orig : (x : ℕ) → T (object_in m x) → T (object_in m₀ (f x)) → f x ≡ x
    -- where the start has r, the run still has it, or it can be deleted in M
    kept : (x y : ℕ) → T (object_in m x) → T (object_in m y) → T (m₀.cell (f x) (f y) r) → T (m.cell x y r) ⊎ Reaches S M (delete r) (f x) (f y)

  start : Sim m₀ (λ x. x)
  start = record { maps = K.saturated.grows; orig = λ x _ _. refl; kept = λ x y _ _ t. inl t }

  module _ (m : State) (f : ℕ → ℕ) (σ : Sim m f) where
    -- ---- enter
    sim_enter : (C : Command) (q s o : ℕ) → Has S C (enter q s o) → (a : Actuals) → T (ready S C m a) → T (can_do m a (enter q s o)) → Sim (put m q (a s) (a o)) f
    sim_enter C q s o H a able can = record {
      maps = maps_enter S m₀ M fresh K.saturated m f σ.maps C q s o H a able can;
      orig = σ.orig;
      kept = λ x y hx hy t. ⊎_elim (λ u. inl (or_right (same_cell x y (a s) (a o) && eqb r q) (m.cell x y r) u)) inr (σ.kept x y hx hy t);
    }

    -- ---- delete
    sim_delete : (C : Command) (q s o : ℕ) → Has S C (delete q s o) → (a : Actuals) → T (ready S C m a) → T (can_do m a (delete q s o)) → Sim (take_out m q (a s) (a o)) f
    sim_delete C q s o H a able can = record {
      maps = maps_delete S m₀ M fresh K.saturated m f σ.maps q (a s) (a o);
      orig = σ.orig;
      kept = λ x y hx hy t. split x y (same_cell x y (a s) (a o) && eqb r q) (λ e. e) (σ.kept x y hx hy t);
    }
      where
        gone : (x y : ℕ) → T (same_cell x y (a s) (a o) && eqb r q) → Reaches S M (delete r) (f x) (f y)
        gone x y e =
            let eq : r ≡ q = eqb→eq _ _ (search both) in
            let ex : x ≡ a s = eqb→eq _ _ (search both) in
            let ey : y ≡ a o = eqb→eq _ _ (search both) in
            record {
              C = C;
              s = s;
              o = o;
              a = λ b. f (a b);
              has = rw eq H;
              able = ready_to S C m M f σ.maps a able;
              can = search (both, σ.maps.subject_to, σ.maps.object_to);
              at_s = ap f (sym ex);
              at_o = ap f (sym ey);
            }

        split : (x y : ℕ) (b : Bool) → (T b → T (same_cell x y (a s) (a o) && eqb r q)) → T (m.cell x y r) ⊎ Reaches S M (delete r) (f x) (f y)
            → T (not b && m.cell x y r) ⊎ Reaches S M (delete r) (f x) (f y)
        split x y true e d = inr (gone x y (e tt))
        split x y false e d = d

    -- ---- a name n is created or destroyed: from now on it stands for n', which is no name of the start
    sim_renew : (n n' : ℕ) (k : Kind) → (T (is_subject k) → T (subject_in M n')) → (T (is_object k) → T (object_in M n')) → (T (is_object k) → T (not (object_in m₀ n')))
        → Sim (renew m n k) (λ x. pick (eqb x n) n' (f x))
    sim_renew n n' k hs ho hn = record {
      maps = maps_renamed S m₀ M fresh K.saturated m f σ.maps n n' k hs ho;
      orig = λ x. orig' x (eqb x n);
      kept = λ x y. kept' x y (eqb x n) (eqb y n);
    }
      where
        orig' : (x : ℕ) (b : Bool) → T (is_object (pick b k (m.kind x))) → T (object_in m₀ (pick b n' (f x))) → pick b n' (f x) ≡ x
        orig' x true t u = absurd (T_not (object_in m₀ n') (hn t) u)
        orig' x false t u = σ.orig x t u

        kept' : (x y : ℕ) (b c : Bool) → T (is_object (pick b k (m.kind x))) → T (is_object (pick c k (m.kind y)))
            → T (m₀.cell (pick b n' (f x)) (pick c n' (f y)) r)
            → T (not (b || c) && m.cell x y r) ⊎ Reaches S M (delete r) (pick b n' (f x)) (pick c n' (f y))
        kept' x y true c hx hy t = absurd (T_not (object_in m₀ n') (hn hx) (K.clean n' (pick c n' (f y)) t).0)
        kept' x y false true hx hy t = absurd (T_not (object_in m₀ n') (hn hy) (K.clean (f x) n' t).1)
        kept' x y false false hx hy t = σ.kept x y hx hy t

    -- ---- a leak
    no_leak : (C : Command) (s o : ℕ) → Has S C (enter r s o) → (a : Actuals) → T (ready S C m a) → T (can_do m a (enter r s o)) → T (not (m.cell (a s) (a o) r)) → ⊥
    no_leak C s o H a able can lacks = ⊎_elim (T_not (m.cell (a s) (a o) r) lacks) again (σ.kept (a s) (a o) ts to was)
      where
        to : T (object_in m (a o))
        to = search both

        ts : T (object_in m (a s))
        ts = subject_is_object (m.kind (a s)) (search both)

        was : T (m₀.cell (f (a s)) (f (a o)) r)
        was = K.old (f (a s)) (f (a o)) (enter_seen S m₀ M fresh K.saturated m f σ.maps C r s o H a able can)

        in_start : T (object_in m₀ (f (a s))) × T (object_in m₀ (f (a o)))
        in_start = K.clean (f (a s)) (f (a o)) was

        es : f (a s) ≡ a s
        es = σ.orig (a s) ts in_start.0

        eo : f (a o) ≡ a o
        eo = σ.orig (a o) to in_start.1

        -- what a condition asks is not r in this very cell
        other : (x y q : ℕ) → T (subject_in m x) → T (object_in m y) → T (m.cell x y q) → T (same_cell (f x) (f y) (f (a s)) (f (a o)) && eqb q r) → ⊥
        other x y q hx hy t e =
            let eq : q ≡ r = eqb→eq _ _ (search both) in
            let ex : f x ≡ f (a s) = eqb→eq _ _ (search both) in
            let ey : f y ≡ f (a o) = eqb→eq _ _ (search both) in
            let fx : f x ≡ x = σ.orig x (subject_is_object (m.kind x) hx) (rw ex in_start.0) in
            let fy : f y ≡ y = σ.orig y hy (rw ey in_start.1) in
            let xs : x ≡ a s = cc es in
            let yo : y ≡ a o = cc eo in
            T_not (m.cell (a s) (a o) r) lacks (rw (eq, xs, yo) at t)

        maps' : Maps m (take_out M r (f (a s)) (f (a o))) f
        maps' = record {
          subject_to = σ.maps.subject_to;
          object_to = σ.maps.object_to;
          cell_to = λ x y q hx hy t.
              and_intro (not (same_cell (f x) (f y) (f (a s)) (f (a o)) && eqb q r)) (M.cell (f x) (f y) q)
              (not_T (same_cell (f x) (f y) (f (a s)) (f (a o)) && eqb q r) (other x y q hx hy t)) (σ.maps.cell_to x y q hx hy t);
        }

        again : Reaches S M (delete r) (f (a s)) (f (a o)) → ⊥
        again d = K.closing (f (a s)) (f (a o)) was d (record {
          C = C;
          s = s;
          o = o;
          a = λ b. f (a b);
          has = H;
          able = ready_to S C m (take_out M r (f (a s)) (f (a o))) f maps' a able;
          can = search (both, σ.maps.subject_to, σ.maps.object_to);
          at_s = refl;
          at_o = refl;
        })

    -- ---- one call: it does not leak, and the invariant holds after it
    record Good (o : Outcome) : Type 0 where
      quiet : T (is_leak r o) → ⊥
      map : ℕ → ℕ
      sim : Sim (after o m) map

    -- a created name stands for a newcomer, and a destroyed one for any
    create : (n : ℕ) (k : Kind) → Newcomer m₀ M k → Good (done (renew m n k) (λ q. false))
    create n k N = record { quiet = λ t. t; map = λ x. pick (eqb x n) N.name (f x); sim = sim_renew n N.name k N.subject_too (λ _. N.exists) (λ _. N.fresh) }

    destroy : (n : ℕ) → Good (done (renew m n absent) (λ q. false))
    destroy n = record { quiet = λ t. t; map = λ x. pick (eqb x n) 0 (f x); sim = sim_renew n 0 absent (λ t. absurd t) (λ t. absurd t) (λ t. absurd t) }

    step : (C : Command) (c : Operation) → Has S C c → (a : Actuals) → T (ready S C m a) → T (can_do m a c) → Good (done (effect m a c) (enters_new m a c))
    step C (enter q s o) H a able can = record {
      quiet = λ t.
          no_leak C s o (rw (eqb→eq q r (and_left (eqb q r) (not (m.cell (a s) (a o) r)) t)) at H) a able can (and_right (eqb q r) (not (m.cell (a s) (a o) r)) t);
      map = f;
      sim = sim_enter C q s o H a able can;
    }
    step C (delete q s o) H a able can = record { quiet = λ t. t; map = f; sim = sim_delete C q s o H a able can }
    step C (create_subject s) H a able can = create (a s) subject (newcomer_subject S m₀ M fresh K.saturated m f σ.maps C s H a able can)
    step C (create_object o) H a able can = create (a o) object (newcomer_object S m₀ M fresh K.saturated m f σ.maps C o H a able can)
    step C (destroy_subject s) H a able can = destroy (a s)
    step C (destroy_object o) H a able can = destroy (a o)

    one_call : (x : Call) → Good (execute unbounded S m x)
    one_call x = call_cases S singles unbounded m x Good (λ n. record { quiet = λ t. t; map = f; sim = σ })
        (λ C e G. step C (operation_in C) (record { place = x.command; found = e; is = refl }) (actuals x) G.able G.can)

  from : (xs : List Call) (m : State) (f : ℕ → ℕ) → Sim m f → T (leaks unbounded S r m xs) → ⊥
  unfolding leaks
  from [] m f σ t = t
  from (x ∷ xs) m f σ t =
      let out = execute unbounded S m x in
      let G = one_call m f σ x in
      ⊎_elim G.quiet (from xs (after out m) G.map G.sim) (or_cases (is_leak r out) (leaks unbounded S r (after out m) xs) t)

  pub closed_safe : (xs : List Call) → T (leaks unbounded S r m₀ xs) → ⊥
  closed_safe xs = from xs m₀ (λ x. x) start
