-- Trusted hands left out (document 02, C-15): an unsafe part is an unsafe whole, by the part's own steps. Assumes nothing.
use mathlib.Core.Path.{◌≡◌, refl}
use mathlib.Core.Bool.{Bool, true, false, not, ◌&&◌, ◌||◌}
use Prim.Native.Nat.{ℕ, ◌+◌, ◌≤◌}
use native.Mathlib.Omega.{arith}
use native.Mathlib.Nat.{le_trans, mul-le-mul_left, mul-le-mul}
use lib.Dec.{T}
use Rattle.cases.specs.Cases.{pick}
use Rattle.cases.proofs.Bools.{and_right}
use Rattle.protection.specs.Limits.{names}
use Rattle.protection.specs.State.{Kind, absent, is_object, is_subject, State, object_in, subject_in}
use Rattle.protection.specs.Proper.{Proper}
use Rattle.protection.specs.Size.{count, subjects_of, names_of, taken_names, step_bound}
use Rattle.protection.specs.Command.{System}
use Rattle.protection.specs.Execution.{bounded, unbounded}
use Rattle.protection.specs.Leak.{LeaksLast}
use Rattle.protection.specs.Judge.{none_reserved, judge}
use Rattle.protection.specs.Part.{without, judge_part}
use Rattle.protection.proofs.Sums.{one, count_is_sum, sum_mono, one_mono}
use Rattle.protection.proofs.Invariant.{goes_last}
use Rattle.protection.proofs.Widening.{last_unbounded}
use Rattle.protection.proofs.Saturation.{Taken}
use Rattle.protection.proofs.Safety.{unsafe_goes, decides}
use Rattle.protection.proofs.Parts.{run_whole, judge_apart}

count_mono : (p q : ℕ → Bool) (n : ℕ) → ((x : ℕ) → T (p x) → T (q x)) → count p n ≤ count q n
count_mono p q n h = rw (count_is_sum p n, count_is_sum q n) (sum_mono (λ i. one (p i)) (λ i. one (q i)) n (λ i _. one_mono (p i) (q i) (h i)))

-- ---- what is in the part is in the whole
module _ (R : ℕ → Bool) (m : State) where
  abbrev part : State
  part = without R m

  kept : (f : Kind → Bool) → f absent ≡ false → (b : Bool) (k : Kind) → T (f (pick b absent k)) → T (not b) × T (f k)
  kept f e true k t = absurd (rw e at t)
  kept f e false k t = (tt, t)

  part_object : (x : ℕ) → T (object_in part x) → T (object_in m x)
  part_object x t = (kept is_object refl (R x) (m.kind x) t).1

  part_subject : (x : ℕ) → T (subject_in part x) → T (subject_in m x)
  part_subject x t = (kept is_subject refl (R x) (m.kind x) t).1

  pub part_bound : (g : ℕ) → step_bound g part ≤ step_bound g m
  part_bound g =
      let s : subjects_of part + 1 ≤ subjects_of m + 1 = omega (arith, count_mono (subject_in part) (subject_in m) names part_subject) in
      let n : names_of part + 2 ≤ names_of m + 2 = omega (arith, count_mono (object_in part) (object_in m) names part_object) in
      let k = mul-le-mul (mul-le-mul_left g s) n in
      omega (arith, k)

  -- what is dropped exists, so the names that are taken are those of the whole
  pub part_names : ((x : ℕ) → T (R x) → T (object_in m x)) → taken_names R part ≤ names_of m
  part_names there = count_mono (λ x. R x || object_in part x) (object_in m) names (λ x t. go x (R x) (object_in part x) (there x) (part_object x) t)
    where
      go : (x : ℕ) (a b : Bool) → (T a → T (object_in m x)) → (T b → T (object_in m x)) → T (a || b) → T (object_in m x)
      go x true b f h t = f tt
      go x false b f h t = h t

  part_proper : (g : ℕ) → Proper g m → Proper g part
  part_proper g P = record {
    named = λ x t. P.named x (part_object x t);
    row = λ s o q t. stays is_subject (R s) (R o) (m.kind s) (m.cell s o q) (P.row s o q) t;
    column = λ s o q t. comes is_object (R s) (R o) (m.kind o) (m.cell s o q) (P.column s o q) t;
    right = λ s o q t. P.right s o q (and_right (not (R s || R o)) (m.cell s o q) t);
  }
    where
      stays : (f : Kind → Bool) (a b : Bool) (k : Kind) (c : Bool) → (T c → T (f k)) → T (not (a || b) && c) → T (f (pick a absent k))
      stays f true b k c h t = absurd t
      stays f false true k c h t = absurd t
      stays f false false k c h t = h t

      comes : (f : Kind → Bool) (a b : Bool) (k : Kind) (c : Bool) → (T c → T (f k)) → T (not (a || b) && c) → T (f (pick b absent k))
      comes f true b k c h t = absurd t
      comes f false true k c h t = absurd t
      comes f false false k c h t = h t

  -- the part can be judged where the whole can
  pub part_taken : (S : System) → ((x : ℕ) → T (R x) → T (object_in m x)) → Taken S none_reserved m → Taken S R part
  part_taken S there K = record {
    singles = K.singles;
    proper = part_proper S.rights K.proper;
    few_names = le_trans (part_names there) K.few_names;
  }

module _ (S : System) (R : ℕ → Bool) (r : ℕ) (m : State) (K : Taken S R (without R m)) where
  -- "the part's steps must leak at their last step on the whole too"
  pub part_leaks_bounded : T (judge_part S R r m).unsafe → LeaksLast bounded S r m (judge_part S R r m).steps
  part_leaks_bounded t =
      let w = unsafe_goes S R r (without R m) K t in
      let G = run_whole S K.singles R r m (judge_part S R r m).steps w.0 true (judge_apart S K.singles R r (without R m)) w.1 in
      goes_last S none_reserved r m (judge_part S R r m).steps G.whole G.goes

  pub part_leaks : T (judge_part S R r m).unsafe → LeaksLast unbounded S r m (judge_part S R r m).steps
  part_leaks t = last_unbounded S r (judge_part S R r m).steps m (part_leaks_bounded t)

  -- "An unsafe part must mean an unsafe whole"
  pub part_unsafe : Taken S none_reserved m → T (judge_part S R r m).unsafe → T (judge S r m).unsafe
  part_unsafe L t = (decides S none_reserved r m L).1 ((judge_part S R r m).steps, (part_leaks t).leak)
