-- The closing search finds a delete and an enter of r where there are such, and what it finds is carried out and leaks at its second step. Assumes nothing.
use mathlib.Core.Path.{◌≡◌, refl, sym, ap, ◌∙◌, subst}
use mathlib.Core.Bool.{Bool, true, false, not, ◌&&◌}
use mathlib.Core.List.{List, [], ◌∷◌, ◌++◌, append_assoc}
use mathlib.Core.Option.{Option, none, some, none-ne-some}
use Prim.Native.Nat.{ℕ, zero, suc, ◌+◌, ◌*◌, ◌/◌, ◌%◌, ◌≤◌, ◌<◌}
use native.Mathlib.Omega.{arith}
use native.Mathlib.Nat.{add-zero, zero-add}
use lib.Dec.{T, eqb, ltb, eqb→eq, eqb_refl, ltb→lt, lt→ltb, T_not}
use lib.ListN.{length, get_elem?}
use Rattle.cases.proofs.Bools.{and_intro, both as conjuncts, is_true}
use Rattle.protection.specs.Limits.{names}
use Rattle.protection.specs.State.{State, object_in}
use Rattle.protection.specs.Command.{Operation, enter, delete, create_subject, create_object, destroy_subject, destroy_object, Command, System, Call, Actuals, actuals}
use Rattle.protection.specs.Execution.{bounded, take_out, effect, enters_new, done, execute}
use Rattle.protection.specs.Judge.{first_in, lowest_free, leak_beside, operation_in, places_of, call_at, allowed, deletes_at, enters_at, takes, returns, first_call, both, pair_at, is_empty, closing}
use Rattle.protection.proofs.Calls.{Singles, outcome, call_done, allowed_carried}
use Rattle.protection.proofs.Closed.{Reaches}
use Rattle.protection.proofs.First.{first_passes, first_found}
use Rattle.protection.proofs.Places.{OnCell, enter_on_cell, delete_on_cell, visited_cell}
use Rattle.protection.proofs.Invariant.{Goes, more}

-- ---- the first call with p
abbrev pub is_some : Option Call → Bool
is_some none = false
is_some (some x) = true

-- what first_call finds is a call of command number k of the list, and has p
pub record Hit (p : Command → Call → Bool) (Cs : List Command) (i : ℕ) (x : Call) : Type 0 where
  pub k : ℕ
  pub C : Command
  pub number : x.command ≡ i + k
  pub found : get_elem? Cs k ≡ some C
  pub passes : T (p C x)

module _ (p : Command → Call → Bool) (n : ℕ) where
  abbrev least : ℕ → Command → ℕ
  least i C = first_in (λ q. p C (call_at i C n q)) (places_of C n) 0

  call_found : (Cs : List Command) (i k : ℕ) (C : Command) → get_elem? Cs k ≡ some C → (t : ℕ) → t < places_of C n → T (p C (call_at (i + k) C n t)) → T (is_some (first_call p n i Cs))
  call_found [] i k C e t l u = absurd (none-ne-some C e)
  call_found (D ∷ Cs) i zero C e t l u =
      let same : C ≡ D = cc in
      let u' : T (p D (call_at i D n t)) = rw (add-zero, same) at u in
      go (ltb (least i D) (places_of D n)) (lt→ltb (least i D) (places_of D n) (first_found (λ q. p D (call_at i D n q)) (places_of D n) t (rw same at l) u').0)
    where
      go : (b : Bool) → T b → T (is_some (elim b [ true ↦ some (call_at i D n (least i D)) | false ↦ first_call p n (suc i) Cs ]))
      go true h = tt
      go false h = absurd h
  call_found (D ∷ Cs) i (suc k) C e t l u =
      let z : i + suc k ≡ suc i + k = omega arith in
      go (ltb (least i D) (places_of D n)) (call_found Cs (suc i) k C e t l (rw z at u))
    where
      go : (b : Bool) → T (is_some (first_call p n (suc i) Cs)) → T (is_some (elim b [ true ↦ some (call_at i D n (least i D)) | false ↦ first_call p n (suc i) Cs ]))
      go true h = tt
      go false h = h

  pub call_hit : (Cs : List Command) (i : ℕ) (x : Call) → first_call p n i Cs ≡ some x → Hit p Cs i x
  call_hit [] i x e = absurd (none-ne-some x e)
  call_hit (D ∷ Cs) i x e = go (ltb (least i D) (places_of D n)) (ltb→lt (least i D) (places_of D n)) (call_hit Cs (suc i) x) e
    where
      go : (b : Bool) → (T b → least i D < places_of D n) → (first_call p n (suc i) Cs ≡ some x → Hit p Cs (suc i) x)
          → elim b [ true ↦ some (call_at i D n (least i D)) | false ↦ first_call p n (suc i) Cs ] ≡ some x → Hit p (D ∷ Cs) i x
      go true h ih e =
          let is : call_at i D n (least i D) ≡ x = cc in
          let l = h tt in
          record {
            k = 0;
            C = D;
            number = ap (λ (z : Call). z.command) (sym is) ∙ sym (add-zero i);
            found = refl;
            passes = subst (λ (z : Call). T (p D z)) is (first_passes (λ q. p D (call_at i D n q)) (places_of D n) 0 (omega arith));
          }
      go false h ih e =
          let H = ih e in
          record { k = suc H.k; C = H.C; number = H.number ∙ omega arith; found = H.found; passes = H.passes }

-- ---- both searches are for a call that passes a test and is allowed in a state
module _ (S : System) (test : Actuals → Operation → Bool) (N : State) where
  abbrev sought : Command → Call → Bool
  sought C x = elim (test (actuals x) (operation_in C)) [ true ↦ allowed S N x | false ↦ false ]

  sought_intro : (C : Command) (x : Call) → T (test (actuals x) (operation_in C)) → T (allowed S N x) → T (sought C x)
  sought_intro C x = go (test (actuals x) (operation_in C))
    where
      go : (b : Bool) → T b → T (allowed S N x) → T (elim b [ true ↦ allowed S N x | false ↦ false ])
      go true t u = u
      go false t u = t

  pub sought_parts : (C : Command) (x : Call) → T (sought C x) → T (test (actuals x) (operation_in C)) × T (allowed S N x)
  sought_parts C x = go (test (actuals x) (operation_in C))
    where
      go : (b : Bool) → T (elim b [ true ↦ allowed S N x | false ↦ false ]) → T b × T (allowed S N x)
      go true t = (tt, t)
      go false t = absurd t

  module _ (singles : Singles S) where
    -- the search finds an operation on a cell, if one is allowed
    finds : ((x : ℕ) → T (object_in N x) → x < names) → (n : ℕ) (c : ℕ → ℕ → Operation) → OnCell c → (u v : ℕ) → ((a : Actuals) (s o : ℕ) → a s ≡ u → a o ≡ v → T (test a (c s o)))
        → Reaches S N c u v → T (is_some (first_call sought n 0 S.commands))
    finds below n c cell u v passes R =
        let H = R.has in
        let W = visited_cell S singles N below n R.C c cell R.s R.o H R.a R.able R.can in
        let x = call_at H.place R.C n W.place in
        let t : T (test (actuals x) (c R.s R.o)) = passes (actuals x) R.s R.o (W.at_s ∙ R.at_s) (W.at_o ∙ R.at_o) in
        call_found sought n S.commands 0 H.place R.C H.found W.place W.inside (rw zero-add (sought_intro R.C x (rw H.is t) W.allows))

    -- what it finds is carried out
    hit_done : (x : Call) (H : Hit sought S.commands 0 x) → execute bounded S N x ≡ outcome H.C N (actuals x)
    hit_done x H =
        let found : get_elem? S.commands x.command ≡ some H.C = rw (H.number, zero-add) H.found in
        call_done S singles bounded N x H.C found (allowed_carried S singles N x H.C found (sought_parts H.C x H.passes).1)

-- ---- the two tests
at_cell : (r u v q s o : ℕ) (a : Actuals) → T ((eqb q r && eqb (a s) u) && eqb (a o) v) → (q ≡ r) × (a s ≡ u) × (a o ≡ v)
at_cell r u v q s o a t = (eqb→eq q r (search conjuncts), eqb→eq (a s) u (search conjuncts), eqb→eq (a o) v (search conjuncts))

on-cell : (r u v s o : ℕ) (a : Actuals) → a s ≡ u → a o ≡ v → T ((eqb r r && eqb (a s) u) && eqb (a o) v)
on-cell r u v s o a es eo = rw (es, eo) (and_intro (eqb r r && eqb u u) (eqb v v) (and_intro (eqb r r) (eqb u u) (eqb_refl r) (eqb_refl u)) (eqb_refl v))

after_delete : (r u v : ℕ) (m : State) (a : Actuals) (c : Operation) → T (deletes_at r u v a c) → done (effect m a c) (enters_new m a c) ≡ done (take_out m r u v) (λ q. false)
after_delete r u v m a (enter q s o) t = absurd t
after_delete r u v m a (delete q s o) t = let (eq, es, eo) = at_cell r u v q s o a t in rw (eq, es, eo)
after_delete r u v m a (create_subject s) t = absurd t
after_delete r u v m a (create_object o) t = absurd t
after_delete r u v m a (destroy_subject s) t = absurd t
after_delete r u v m a (destroy_object o) t = absurd t

after_enter : (r u v : ℕ) (m : State) (a : Actuals) (c : Operation) → T (enters_at r u v a c) → enters_new (take_out m r u v) a c r ≡ true
after_enter r u v m a (enter q s o) t =
    let (eq, es, eo) = at_cell r u v q s o a t in
    rw (eq, es, eo, is_true (eqb r r) (eqb_refl r), is_true (eqb u u) (eqb_refl u), is_true (eqb v v) (eqb_refl v))
after_enter r u v m a (delete q s o) t = absurd t
after_enter r u v m a (create_subject s) t = absurd t
after_enter r u v m a (create_object o) t = absurd t
after_enter r u v m a (destroy_subject s) t = absurd t
after_enter r u v m a (destroy_object o) t = absurd t

-- ---- two calls or none
both_full : (x y : Option Call) → T (is_some x) → T (is_some y) → T (not (is_empty (both x y)))
both_full none y s t = s
both_full (some x) none s t = t
both_full (some x) (some y) s t = tt

both_is : (v w : Option Call) → T (not (is_empty (both v w))) → (x : Call) × (y : Call) × (v ≡ some x) × (w ≡ some y) × (both v w ≡ x ∷ y ∷ [])
both_is none w t = absurd t
both_is (some x) none t = absurd t
both_is (some x) (some y) t = (x, y, refl, refl, refl)

both_few : (x y : Option Call) → length (both x y) ≤ 2
both_few none y = omega arith
both_few (some x) none = omega arith
both_few (some x) (some y) = omega arith

module _ (S : System) (singles : Singles S) (R : ℕ → Bool) (r : ℕ) (m₀ M : State) where
  abbrev deleted : ℕ → ℕ → Option Call
  deleted u v = first_call (takes S M r u v) (lowest_free R M) 0 S.commands

  abbrev entered : ℕ → ℕ → Option Call
  entered u v = first_call (returns S M r u v) (lowest_free R M) 0 S.commands

  abbrev full : ℕ → Bool
  full c = not (is_empty (pair_at S R r m₀ M (c / names) (c % names)))

  abbrev cell : ℕ
  cell = first_in full (names * names) 0

  -- ---- where a cell of the start has both steps, the search finds some cell
  module _ (below : (x : ℕ) → T (object_in M x) → x < names) where
    pair_full : (u v : ℕ) → T (m₀.cell u v r) → Reaches S M (delete r) u v → Reaches S (take_out M r u v) (enter r) u v → T (not (is_empty (pair_at S R r m₀ M u v)))
    pair_full u v h D E = go (m₀.cell u v r) h
      where
        go : (b : Bool) → T b → T (not (is_empty (elim b [ true ↦ both (deleted u v) (entered u v) | false ↦ [] ])))
        go true t = both_full (deleted u v) (entered u v)
            (finds S (deletes_at r u v) M singles below (lowest_free R M) (delete r) (delete_on_cell r) u v (λ a s o. on-cell r u v s o a) D)
            (finds S (enters_at r u v) (take_out M r u v) singles below (lowest_free R M) (enter r) (enter_on_cell r) u v (λ a s o. on-cell r u v s o a) E)
        go false t = absurd t

    pub closing_none : T (is_empty (closing S R r m₀ M)) → (u v : ℕ) → u < names → v < names → T (m₀.cell u v r) → Reaches S M (delete r) u v
        → Reaches S (take_out M r u v) (enter r) u v → ⊥
    closing_none e u v lu lv h D E =
        let eu : (u * names + v) / names ≡ u = omega arith in
        let ev : (u * names + v) % names ≡ v = omega arith in
        let hit : T (full (u * names + v)) = rw (eu, ev) (pair_full u v h D E) in
        let at = first_found full (names * names) (u * names + v) (omega arith) hit in
        go (ltb cell (names * names)) (lt→ltb cell (names * names) at.0) at.1 e
      where
        go : (b : Bool) → T b → T (full cell) → T (is_empty (elim b [ true ↦ pair_at S R r m₀ M (cell / names) (cell % names) | false ↦ [] ])) → ⊥
        go true t f e = T_not (is_empty (pair_at S R r m₀ M (cell / names) (cell % names))) f e
        go false t f e = t

  -- ---- what the search hands over
  pub closing_few : length (closing S R r m₀ M) ≤ 2
  closing_few = at (ltb cell (names * names))
    where
      pair : (u v : ℕ) (b : Bool) → length {A = Call} (elim b [ true ↦ both (deleted u v) (entered u v) | false ↦ [] ]) ≤ 2
      pair u v true = both_few (deleted u v) (entered u v)
      pair u v false = omega arith

      at : (b : Bool) → length {A = Call} (elim b [ true ↦ pair_at S R r m₀ M (cell / names) (cell % names) | false ↦ [] ]) ≤ 2
      at true = pair (cell / names) (cell % names) (m₀.cell (cell / names) (cell % names) r)
      at false = omega arith

  module _ (xs : List Call) (G : Goes S (leak_beside R r) m₀ xs M false) where
    two_steps : (u v : ℕ) (x y : Call) → Hit (takes S M r u v) S.commands 0 x → Hit (returns S M r u v) S.commands 0 y → (m : State) × Goes S (leak_beside R r) m₀ (xs ++ (x ∷ y ∷ [])) m true
    two_steps u v x y H K =
        let N = take_out M r u v in
        let dx = (sought_parts S (deletes_at r u v) M H.C x H.passes).0 in
        let dy = (sought_parts S (enters_at r u v) N K.C y K.passes).0 in
        let ex = hit_done S (deletes_at r u v) M singles x H ∙ after_delete r u v M (actuals x) (operation_in H.C) dx in
        let ey = hit_done S (enters_at r u v) N singles y K in
        let G' = more y (more x G (λ q. false) ex refl) (enters_new N (actuals y) (operation_in K.C)) ey (after_enter r u v M (actuals y) (operation_in K.C) dy) in
        (effect N (actuals y) (operation_in K.C), rw append_assoc at G')

    pair_sound : (u v : ℕ) → T (not (is_empty (pair_at S R r m₀ M u v))) → (m : State) × Goes S (leak_beside R r) m₀ (xs ++ pair_at S R r m₀ M u v) m true
    pair_sound u v = go (m₀.cell u v r)
      where
        go : (b : Bool) → T (not (is_empty (elim b [ true ↦ both (deleted u v) (entered u v) | false ↦ [] ])))
            → (m : State) × Goes S (leak_beside R r) m₀ (xs ++ elim b [ true ↦ both (deleted u v) (entered u v) | false ↦ [] ]) m true
        go true t =
            let (x, y, ex, ey, e) = both_is (deleted u v) (entered u v) t in
            rw e (two_steps u v x y (call_hit (takes S M r u v) (lowest_free R M) S.commands 0 x ex) (call_hit (returns S M r u v) (lowest_free R M) S.commands 0 y ey))
        go false t = absurd t

    pub closing_sound : T (not (is_empty (closing S R r m₀ M))) → (m : State) × Goes S (leak_beside R r) m₀ (xs ++ closing S R r m₀ M) m true
    closing_sound = go (ltb cell (names * names))
      where
        go : (b : Bool) → T (not (is_empty (elim b [ true ↦ pair_at S R r m₀ M (cell / names) (cell % names) | false ↦ [] ])))
            → (m : State) × Goes S (leak_beside R r) m₀ (xs ++ elim b [ true ↦ pair_at S R r m₀ M (cell / names) (cell % names) | false ↦ [] ]) m true
        go true t = pair_sound (cell / names) (cell % names) t
        go false t = absurd t
