-- The judge of a part (document 02, C-15): its steps are a run on the whole as well, and leak there at the last step and nowhere sooner. Assumes nothing.
use mathlib.Core.Path.{◌≡◌, refl, sym, ap, ◌∙◌, subst, fun_ext}
use mathlib.Core.Bool.{Bool, true, false, not, ◌&&◌, ◌||◌}
use mathlib.Core.List.{List, [], ◌∷◌, ◌++◌}
use mathlib.Core.Option.{Option, none, some, none-ne-some}
use Prim.Native.Nat.{ℕ, zero, suc, ◌+◌, ◌*◌, ◌/◌, ◌%◌, ◌≤◌, ◌<◌}
use native.Mathlib.Omega.{arith}
use native.Mathlib.Nat.{div-lt_iff_lt-mul, mod-lt, zero-add, mul-zero}
use borrow.Author.Tests.{lt-ltb}
use lib.Dec.{T, eqb, ltb, eqb→eq, eqb_refl, T_not}
use lib.ListN.{get_or, get_elem?}
use Rattle.cases.specs.Cases.{pick, iterate}
use Rattle.cases.proofs.Bools.{and_left, and_right, and_intro, both, is_false, is_true}
use Rattle.cases.proofs.Lists.{found_tabulate}
use Rattle.protection.specs.Limits.{names, parameters, unused}
use Rattle.protection.specs.State.{Kind, absent, object, subject, is_object, is_subject, State, object_in, subject_in}
use Rattle.protection.specs.Command.{Condition, Operation, enter, delete, create_subject, create_object, destroy_subject, destroy_object, Command, System, Call, Actuals, actuals, in_operation, spare}
use Rattle.protection.specs.Carrying.{meets}
use Rattle.protection.specs.Execution.{bounded, holds, hold_all, can_do, same_cell, put, take_out, renew, effect, enters_new, refused, done, execute}
use Rattle.protection.specs.Size.{step_bound}
use Rattle.protection.specs.Judge.{Choice, weight, names_at, first_in, none_reserved, lowest_free, creates, is_create, operation_in, choice, choices, places_of, call_at, leak_of, leak_beside, Progress, opened, allowed, wanted, visit, try_command, all_rounds, deletes_at, enters_at, takes, returns, first_call, both as both-calls, pair_at, is_empty, closing, Verdict, judge_beside}
use Rattle.protection.specs.Part.{without}
use Rattle.protection.specs.Paper.{subject_is_object}
use Rattle.protection.proofs.Carrying.{meets_congruent}
use Rattle.protection.proofs.Calls.{Single, Singles, Carried, operation_below, one_named, carried_small, call_cases, call_done}
use Rattle.protection.proofs.Spare.{operation_used}
use Rattle.protection.proofs.First.{first_passes}
use Rattle.protection.proofs.Invariant.{Goes, stays, more}
use Rattle.protection.proofs.Rounds.{visit_cases, by_rounds}
use Rattle.protection.proofs.ClosingSearch.{Hit, call_hit, sought_parts}

-- ---- a part beside its whole: where names are not dropped they say the same, and a dropped name is absent in the part
pub record Stands (R : ℕ → Bool) (P W : State) : Type 0 where
  pub kinds : (x : ℕ) → T (not (R x)) → P.kind x ≡ W.kind x
  pub cells : (s o q : ℕ) → T (not (R s)) → T (not (R o)) → P.cell s o q ≡ W.cell s o q
  pub there : (x : ℕ) → T (object_in P x) → T (not (R x))

module _ (R : ℕ → Bool) where
  pub stands_start : (m : State) → Stands R (without R m) m
  stands_start m = record {
    kinds = λ x t. rw (is_false (R x) (T_not (R x) t));
    cells = λ s o q t u. rw (is_false (R s) (T_not (R s) t), is_false (R o) (T_not (R o) u));
    there = λ x t. here (R x) (m.kind x) t;
  }
    where
      here : (b : Bool) (k : Kind) → T (is_object (pick b absent k)) → T (not b)
      here true k t = absurd t
      here false k t = tt

  module _ (P W : State) (h : Stands R P W) where
    subject_whole : (x : ℕ) → T (subject_in P x) → T (subject_in W x)
    subject_whole x t = subst (λ (k : Kind). T (is_subject k)) (h.kinds x (h.there x (subject_is_object (P.kind x) t))) t

    object_whole : (x : ℕ) → T (object_in P x) → T (object_in W x)
    object_whole x t = subst (λ (k : Kind). T (is_object k)) (h.kinds x (h.there x t)) t

    cell_whole : (s o q : ℕ) → T (subject_in P s) → T (object_in P o) → P.cell s o q ≡ W.cell s o q
    cell_whole s o q t u = h.cells s o q (h.there s (subject_is_object (P.kind s) t)) (h.there o u)

    holds_whole : (S : System) (a : Actuals) (c : Condition) → T (holds S P a c) → T (holds S W a c)
    holds_whole S a c t =
        let s : T (subject_in P (a c.subject)) = search both in
        let o : T (object_in P (a c.object)) = search both in
        let here = P.cell (a c.subject) (a c.object) in
        let whole = W.cell (a c.subject) (a c.object) in
        let e : T (meets S here c.right) = and_right (subject_in P (a c.subject) && object_in P (a c.object)) (meets S here c.right) t in
        and_intro (subject_in W (a c.subject) && object_in W (a c.object)) (meets S whole c.right)
        (and_intro (subject_in W (a c.subject)) (object_in W (a c.object)) (subject_whole (a c.subject) s) (object_whole (a c.object) o))
        (subst T (meets_congruent S here whole (λ q. cell_whole (a c.subject) (a c.object) q s o) c.right) e)

    hold_all_whole : (S : System) (a : Actuals) (cs : List Condition) → T (hold_all S P a cs) → T (hold_all S W a cs)
    hold_all_whole S a [] t = tt
    hold_all_whole S a (c ∷ cs) t =
        and_intro (holds S W a c) (hold_all S W a cs) (holds_whole S a c (and_left (holds S P a c) (hold_all S P a cs) t)) (hold_all_whole S a cs (and_right (holds S P a c) (hold_all S P a cs) t))

    -- ---- the operations that the judge writes
    stands_put : (q s o : ℕ) → Stands R (put P q s o) (put W q s o)
    stands_put q s o = record { kinds = h.kinds; cells = λ u v q' t w. ap (λ (b : Bool). (same_cell u v s o && eqb q' q) || b) (h.cells u v q' t w); there = h.there }

    pub stands_out : (q s o : ℕ) → Stands R (take_out P q s o) (take_out W q s o)
    stands_out q s o = record { kinds = h.kinds; cells = λ u v q' t w. ap (λ (b : Bool). not (same_cell u v s o && eqb q' q) && b) (h.cells u v q' t w); there = h.there }

    stands_renew : (n : ℕ) (k : Kind) → T (not (R n)) → Stands R (renew P n k) (renew W n k)
    stands_renew n k f = record {
      kinds = λ x t. ap (pick (eqb x n) k) (h.kinds x t);
      cells = λ u v q t w. ap (λ (b : Bool). not (eqb u n || eqb v n) && b) (h.cells u v q t w);
      there = λ x t. there x (eqb x n) (eqb→eq x n) t;
    }
      where
        there : (x : ℕ) (b : Bool) → (T b → x ≡ n) → T (is_object (pick b k (P.kind x))) → T (not (R x))
        there x true e t = rw (e tt) f
        there x false e t = h.there x t

-- ---- a created parameter has the name that was tried
within_at : (cs : List Choice) (p : ℕ) → p < weight cs → (i : ℕ) (c : Choice) → get_elem? cs i ≡ some c → (c.low ≤ get_or (names_at cs p) i 0) × (get_or (names_at cs p) i 0 < c.low + c.radix)
within_at [] p l i c e = absurd (none-ne-some c e)
within_at (d ∷ cs) p l zero c e =
    let same : d ≡ c = cc in
    let pos : 0 < weight cs = positive (weight cs) l in
    let q : p / weight cs < d.radix = (div-lt_iff_lt-mul pos).1 l in
    rw (← same) (omega arith, omega arith)
  where
    positive : (w : ℕ) → p < d.radix * w → 0 < w
    positive zero h = absurd (let z : p < d.radix * 0 = h in let y : d.radix * 0 ≡ 0 = mul-zero d.radix in omega arith)
    positive (suc w) h = omega arith
within_at (d ∷ cs) p l (suc i) c e = within_at cs (p % weight cs) (mod-lt p (positive (weight cs) l)) i c e
  where
    positive : (w : ℕ) → p < d.radix * w → 0 < w
    positive zero h = absurd (let z : p < d.radix * 0 = h in let y : d.radix * 0 ≡ 0 = mul-zero d.radix in omega arith)
    positive (suc w) h = omega arith

module _ (g : ℕ) (C : Command) (F : Single g C) (n p i : ℕ) (inside : p < places_of C n) where
  in_weight : p < weight (choices C n)
  in_weight = go (is_create (operation_in C) && eqb n names) inside
    where
      go : (b : Bool) → p < elim b [ true ↦ 0 | false ↦ weight (choices C n) ] → p < weight (choices C n)
      go true h = absurd (omega (arith, h))
      go false h = h

  created_name : (s : ℕ) → T (in_operation s (operation_in C)) → T (creates s (operation_in C)) → actuals (call_at i C n p) s ≡ n
  created_name s op new =
      let k : s < C.parameters = operation_below C.parameters g s (operation_in C) F.operation-fits op in
      let l : s < parameters = omega (arith, F.few) in
      let used : spare C s ≡ false = is_false (spare C s) (T_not (spare C s) (operation_used C s (one_named g C F s op))) in
      let c : choice C n s ≡ record { low = n; radix = 1 } = tried (spare C s) (ltb s C.parameters) (creates s (operation_in C)) used (lt-ltb s C.parameters k) (is_true (creates s (operation_in C)) new) in
      let w = within_at (choices C n) p in_weight s (choice C n s) (found_tabulate (choice C n) parameters 0 s l ∙ ap (λ (z : ℕ). some (choice C n z)) (zero-add s)) in
      let v : (n ≤ get_or (names_at (choices C n) p) s 0) × (get_or (names_at (choices C n) p) s 0 < n + 1) = subst (λ (d : Choice). (d.low ≤ get_or (names_at (choices C n) p) s 0) × (get_or (names_at (choices C n) p) s 0 < d.low + d.radix)) c w in
      let e : get_or (names_at (choices C n) p) s 0 ≡ n = omega (arith, v.0, v.1) in
      e
    where
      tried : (a b c : Bool) → a ≡ false → b ≡ true → c ≡ true
          → ◌≡◌ {A = Choice} (elim a [
            | true ↦ record { low = 0; radix = 1 }
            | false ↦ elim b [ true ↦ elim c [ true ↦ record { low = n; radix = 1 } | false ↦ record { low = 0; radix = names } ] | false ↦ record { low = unused; radix = 1 } ]
          ]) (record { low = n; radix = 1 })
      tried a b c e f g = rw (e, f, g)

-- ---- the free name is not a dropped one
free_apart : (R : ℕ → Bool) (m : State) → lowest_free R m < names → T (not (R (lowest_free R m)))
unfolding lowest_free
free_apart R m l = part (R (first_in p names 0)) (object_in m (first_in p names 0)) (first_passes p names 0 l)
  where
    p : ℕ → Bool
    p x = not (R x || object_in m x)

    part : (a b : Bool) → T (not (a || b)) → T (not a)
    part true b t = absurd t
    part false b t = tt

-- "created names are the lowest absent in the whole matrix": as long as the dropped names exist there
pub name_whole : (R : ℕ → Bool) (P W : State) → Stands R P W → ((x : ℕ) → T (R x) → T (object_in W x)) → lowest_free R P ≡ lowest_free none_reserved W
unfolding lowest_free
name_whole R P W h there = ap (λ (p : ℕ → Bool). first_in p names 0) (fun_ext (λ x. go x (R x) refl))
  where
    go : (x : ℕ) (b : Bool) → R x ≡ b → not (R x || object_in P x) ≡ not (object_in W x)
    go x true e = let z : object_in W x ≡ true = is_true (object_in W x) (there x (rw e tt)) in rw (e, z)
    go x false e = let z : object_in P x ≡ object_in W x = ap is_object (h.kinds x (rw e tt)) in rw (e, z)

-- ---- calls that a part's run shares with the whole: none destroys, and none creates a dropped name
abbrev keeps_names : Operation → Bool
keeps_names (enter q s o) = true
keeps_names (delete q s o) = true
keeps_names (create_subject s) = true
keeps_names (create_object o) = true
keeps_names (destroy_subject s) = false
keeps_names (destroy_object o) = false

pub record Apart (S : System) (R : ℕ → Bool) (x : Call) : Type 0 where
  pub keeps : (C : Command) → get_elem? S.commands x.command ≡ some C → T (keeps_names (operation_in C))
  pub new : (C : Command) → get_elem? S.commands x.command ≡ some C → (s : ℕ) → T (creates s (operation_in C)) → T (not (R (actuals x s)))

abbrev pub AllApart : System → (ℕ → Bool) → List Call → Type 0
AllApart S R [] = Unit {0}
AllApart S R (x ∷ xs) = Apart S R x × AllApart S R xs

module _ (S : System) (R : ℕ → Bool) where
  pub apart_both : (xs ys : List Call) → AllApart S R xs → AllApart S R ys → AllApart S R (xs ++ ys)
  apart_both [] ys h k = k
  apart_both (x ∷ xs) ys h k = (h.0, apart_both xs ys h.1 k)

  apart_front : (xs ys : List Call) → AllApart S R (xs ++ ys) → AllApart S R xs
  apart_front [] ys h = tt
  apart_front (x ∷ xs) ys h = (h.0, apart_front xs ys h.1)

  apart_last : (xs : List Call) (x : Call) → AllApart S R (xs ++ (x ∷ [])) → Apart S R x
  apart_last [] x h = h.0
  apart_last (y ∷ xs) x h = apart_last xs x h.1

-- ---- one call, on the part and on the whole
module _ (R : ℕ → Bool) (P W : State) (h : Stands R P W) (a : Actuals) (r : ℕ) where
  record Same (c : Operation) : Type 0 where
    can : T (can_do W a c)
    stands : Stands R (effect P a c) (effect W a c)
    enters : enters_new W a c r ≡ enters_new P a c r

  on-cell : (s o : ℕ) → T (subject_in P (a s) && object_in P (a o)) → T (subject_in W (a s) && object_in W (a o))
  on-cell s o t = and_intro (subject_in W (a s)) (object_in W (a o)) (subject_whole R P W h (a s) (search both)) (object_whole R P W h (a o) (search both))

  absent_whole : (n : ℕ) → T (not (R n)) → T (not (object_in P n)) → T (not (object_in W n))
  absent_whole n f t = subst (λ (k : Kind). T (not (is_object k))) (h.kinds n f) t

  same_operation : (c : Operation) → T (keeps_names c) → ((s : ℕ) → T (creates s c) → T (not (R (a s)))) → T (can_do P a c) → Same c
  same_operation (enter q s o) k f t = record {
    can = on-cell s o t;
    stands = stands_put R P W h q (a s) (a o);
    enters = ap (λ (b : Bool). eqb q r && not b) (sym (cell_whole R P W h (a s) (a o) r (search both) (search both)));
  }
  same_operation (delete q s o) k f t = record { can = on-cell s o t; stands = stands_out R P W h q (a s) (a o); enters = refl }
  same_operation (create_subject s) k f t =
      let free = f s (eqb_refl s) in record { can = absent_whole (a s) free t; stands = stands_renew R P W h (a s) subject free; enters = refl }
  same_operation (create_object o) k f t =
      let free = f o (eqb_refl o) in record { can = absent_whole (a o) free t; stands = stands_renew R P W h (a o) object free; enters = refl }
  same_operation (destroy_subject s) k f t = absurd k
  same_operation (destroy_object o) k f t = absurd k

module _ (S : System) (singles : Singles S) (R : ℕ → Bool) (r : ℕ) where
  -- what a call that is done in the part comes to on the whole
  record Shared (x : Call) (P W : State) (P' : State) (new : ℕ → Bool) : Type 0 where
    whole : State
    entered : ℕ → Bool
    done_too : execute bounded S W x ≡ done whole entered
    stands : Stands R P' whole
    leak : entered r ≡ new r

  shared : (x : Call) → Apart S R x → (P W : State) → Stands R P W → (P' : State) (new : ℕ → Bool) → execute bounded S P x ≡ done P' new → Shared x P W P' new
  shared x A P W h P' new e = call_cases S singles bounded P x (λ o. o ≡ done P' new → Shared x P W P' new) (λ n q. absurd (not_done n q)) (λ C found K q. by C found K q) e
    where
      not_done : (n : ℕ) → refused n ≡ done P' new → ⊥
      not_done n q = let z : ◌≡◌ {A = ℕ} 0 1 = cc in omega arith

      by : (C : Command) → get_elem? S.commands x.command ≡ some C → Carried bounded S C P (actuals x) → done (effect P (actuals x) (operation_in C)) (enters_new P (actuals x) (operation_in C)) ≡ done P' new → Shared x P W P' new
      by C found K q =
          let D = same_operation R P W h (actuals x) r (operation_in C) (A.keeps C found) (A.new C found) K.can in
          let KW : Carried bounded S C W (actuals x) = record { fits = K.fits; able = hold_all_whole R P W h S (actuals x) C.conditions K.able; can = D.can } in
          let eP : effect P (actuals x) (operation_in C) ≡ P' = cc in
          let eN : enters_new P (actuals x) (operation_in C) ≡ new = cc in
          record {
            whole = effect W (actuals x) (operation_in C);
            entered = enters_new W (actuals x) (operation_in C);
            done_too = call_done S singles bounded W x C found KW;
            stands = subst (λ (z : State). Stands R z (effect W (actuals x) (operation_in C))) eP D.stands;
            leak = D.enters ∙ ap (λ (f : ℕ → Bool). f r) eN;
          }

  -- ---- a run of the part is one of the whole
  module _ (m : State) where
    pub record Whole (xs : List Call) (P : State) (l : Bool) : Type 0 where
      pub whole : State
      pub stands : Stands R P whole
      pub goes : Goes S (leak_of r) m xs whole l

    pub run_whole : (xs : List Call) (P : State) (l : Bool) → AllApart S R xs → Goes S (leak_beside R r) (without R m) xs P l → Whole xs P l
    run_whole xs P l A (stays e) = record { whole = m; stands = stands_start R m; goes = stays e }
    run_whole xs P l A (more {xs = ys} {m = N} x G new e k) =
        let B = run_whole ys N false (apart_front S R ys (x ∷ []) A) G in
        let D = shared x (apart_last S R ys x A) N B.whole B.stands P new e in
        record { whole = D.whole; stands = D.stands; goes = more x B.goes D.entered D.done_too (D.leak ∙ k) }

-- ---- the judge's steps are such calls
wanted_keeps : (j : Progress) (a : Actuals) (c : Operation) → T (wanted j a c) → T (keeps_names c)
wanted_keeps j a (enter q s o) t = tt
wanted_keeps j a (delete q s o) t = tt
wanted_keeps j a (create_subject s) t = tt
wanted_keeps j a (create_object o) t = tt
wanted_keeps j a (destroy_subject s) t = t
wanted_keeps j a (destroy_object o) t = t

creates_in : (s : ℕ) (c : Operation) → T (creates s c) → T (in_operation s c)
creates_in s (enter q x y) t = absurd t
creates_in s (delete q x y) t = absurd t
creates_in s (create_subject x) t = t
creates_in s (create_object y) t = t
creates_in s (destroy_subject x) t = absurd t
creates_in s (destroy_object y) t = absurd t

iterate_keep_in : (A : Progress → Type 0) (f : ℕ → Progress → Progress) (n i : ℕ) → ((t : ℕ) → i ≤ t → t < i + n → (j : Progress) → A j → A (f t j)) → (j : Progress) → A j → A (iterate f n i j)
unfolding iterate
iterate_keep_in A f zero i h j p = p
iterate_keep_in A f (suc n) i h j p = iterate_keep_in A f n (suc i) (λ t l k. h t (omega arith) (omega arith)) (f i j) (h i (omega arith) (omega arith) j p)

module _ (S : System) (singles : Singles S) (R : ℕ → Bool) (r : ℕ) where
  abbrev Steps : Progress → Type 0
  Steps j = AllApart S R j.steps

  visit_apart : (i : ℕ) (C : Command) → get_elem? S.commands i ≡ some C → (n : ℕ) → (n < names → T (not (R n))) → (p : ℕ) → p < places_of C n → (j : Progress) → Steps j → Steps (visit S (leak_beside R r) i C n p j)
  visit_apart i C found n free p inside j h = visit_cases S singles (leak_beside R r) i C found n p j Steps (λ going want K.
      let F = singles i C found in
      let x = call_at i C n p in
      let of : (D : Command) → get_elem? S.commands i ≡ some D → C ≡ D = λ D e. (let q : some C ≡ some D = sym found ∙ e in cc) in
      let apart : Apart S R x = record {
        keeps = λ D e. subst (λ (E : Command). T (keeps_names (operation_in E))) (of D e) (wanted_keeps j (actuals x) (operation_in C) want);
        new = λ D e s t.
            let u : T (creates s (operation_in C)) = subst (λ (E : Command). T (creates s (operation_in E))) (sym (of D e)) t in
            let op = creates_in s (operation_in C) u in
            let q : actuals x s ≡ n = created_name S.rights C F n p i inside s op u in
            let l : actuals x s < names = carried_small S C F j.state (actuals x) K s op in
            rw q (free (rw q at l));
      } in
      apart_both S R j.steps (x ∷ []) h (apart, tt)) h

  command_apart : (i : ℕ) (C : Command) → get_elem? S.commands i ≡ some C → (j : Progress) → Steps j → Steps (try_command S (leak_beside R r) i C j)
  command_apart i C found j h =
      iterate_keep_in Steps (visit S (leak_beside R r) i C (lowest_free R j.state)) (places_of C (lowest_free R j.state)) 0
      (λ t _ l k. visit_apart i C found (lowest_free R j.state) (free_apart R j.state) t (omega arith) k) j h

  rounds_apart : (m : State) → Steps (all_rounds S (leak_beside R r) m)
  rounds_apart m = by_rounds S (leak_beside R r) Steps command_apart (step_bound S.rights m) (opened (leak_beside R r) m) tt

  -- ---- and so are the two of the closing search
  delete_keeps : (u v : ℕ) (a : Actuals) (c : Operation) → T (deletes_at r u v a c) → T (keeps_names c) × ((s : ℕ) → T (creates s c) → ⊥)
  delete_keeps u v a (enter q x y) t = absurd t
  delete_keeps u v a (delete q x y) t = (tt, λ s z. z)
  delete_keeps u v a (create_subject x) t = absurd t
  delete_keeps u v a (create_object y) t = absurd t
  delete_keeps u v a (destroy_subject x) t = absurd t
  delete_keeps u v a (destroy_object y) t = absurd t

  enter_keeps : (u v : ℕ) (a : Actuals) (c : Operation) → T (enters_at r u v a c) → T (keeps_names c) × ((s : ℕ) → T (creates s c) → ⊥)
  enter_keeps u v a (enter q x y) t = (tt, λ s z. z)
  enter_keeps u v a (delete q x y) t = absurd t
  enter_keeps u v a (create_subject x) t = absurd t
  enter_keeps u v a (create_object y) t = absurd t
  enter_keeps u v a (destroy_subject x) t = absurd t
  enter_keeps u v a (destroy_object y) t = absurd t

  hit_apart : (test : Actuals → Operation → Bool) (N : State) → ((a : Actuals) (c : Operation) → T (test a c) → T (keeps_names c) × ((s : ℕ) → T (creates s c) → ⊥))
      → (x : Call) → Hit (λ C y. elim (test (actuals y) (operation_in C)) [ true ↦ allowed S N y | false ↦ false ]) S.commands 0 x → Apart S R x
  hit_apart test N keep x H =
      let t = keep (actuals x) (operation_in H.C) (sought_parts S test N H.C x H.passes).0 in
      let at : get_elem? S.commands x.command ≡ some H.C = rw (H.number, zero-add) H.found in
      let of : (D : Command) → get_elem? S.commands x.command ≡ some D → H.C ≡ D = λ D e. (let q : some H.C ≡ some D = sym at ∙ e in cc) in
      record {
        keeps = λ D e. subst (λ (E : Command). T (keeps_names (operation_in E))) (of D e) t.0;
        new = λ D e s u. absurd (t.1 s (subst (λ (E : Command). T (creates s (operation_in E))) (sym (of D e)) u));
      }

  both_apart : (x y : Option Call) → ((c : Call) → x ≡ some c → Apart S R c) → ((c : Call) → y ≡ some c → Apart S R c) → AllApart S R (both-calls x y)
  both_apart none y f g = tt
  both_apart (some x) none f g = tt
  both_apart (some x) (some y) f g = (f x refl, (g y refl, tt))

  closing_apart : (m₀ M : State) → AllApart S R (closing S R r m₀ M)
  closing_apart m₀ M = at (ltb cell (names * names))
    where
      cell : ℕ
      cell = first_in (λ c. not (is_empty (pair_at S R r m₀ M (c / names) (c % names)))) (names * names) 0

      pair : (u v : ℕ) (b : Bool) → AllApart S R (elim b [ true ↦ both-calls (first_call (takes S M r u v) (lowest_free R M) 0 S.commands) (first_call (returns S M r u v) (lowest_free R M) 0 S.commands) | false ↦ [] ])
      pair u v true = both_apart (first_call (takes S M r u v) (lowest_free R M) 0 S.commands) (first_call (returns S M r u v) (lowest_free R M) 0 S.commands)
          (λ c e. hit_apart (deletes_at r u v) M (delete_keeps u v) c (call_hit (takes S M r u v) (lowest_free R M) S.commands 0 c e))
          (λ c e. hit_apart (enters_at r u v) (take_out M r u v) (enter_keeps u v) c (call_hit (returns S M r u v) (lowest_free R M) S.commands 0 c e))
      pair u v false = tt

      at : (b : Bool) → AllApart S R (elim b [ true ↦ pair_at S R r m₀ M (cell / names) (cell % names) | false ↦ [] ])
      at true = pair (cell / names) (cell % names) (m₀.cell (cell / names) (cell % names) r)
      at false = tt

  -- all steps of a verdict, by how the rounds ended
  abbrev verdict_by : State → Bool → Verdict
  verdict_by m b =
      elim b [
        | true ↦ record { unsafe = true; steps = (all_rounds S (leak_beside R r) m).steps }
        | false ↦ let c = closing S R r m (all_rounds S (leak_beside R r) m).state in record { unsafe = not (is_empty c); steps = (all_rounds S (leak_beside R r) m).steps ++ c }
      ]

  verdict_apart : (m : State) (b : Bool) → AllApart S R (verdict_by m b).steps
  verdict_apart m true = rounds_apart m
  verdict_apart m false =
      apart_both S R (all_rounds S (leak_beside R r) m).steps (closing S R r m (all_rounds S (leak_beside R r) m).state) (rounds_apart m) (closing_apart m (all_rounds S (leak_beside R r) m).state)

  pub judge_apart : (m : State) → AllApart S R (judge_beside S R r m).steps
  unfolding judge_beside
  judge_apart m = verdict_apart m (all_rounds S (leak_beside R r) m).ended
