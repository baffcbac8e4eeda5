-- What the judge leaves in the step buffer, and the listing that is printed from it. Assumes nothing.
use Prim.Native.Nat.{ℕ, suc, ◌+◌, ◌*◌, ◌-◌, ◌≤◌, ◌<◌}
use mathlib.Core.Path.{◌≡◌, refl, sym, ap, ap₂, ◌∙◌, subst}
use mathlib.Core.Bool.{Bool, true, false}
use mathlib.Core.List.{List, [], ◌∷◌}
use native.Mathlib.Decide.{ℕ_discrete}
use native.Mathlib.Omega.{arith}
use borrow.Author.Tests.{lt-ltb, le-ltb, ne_eqb}
use lib.Dec.{ltb}
use lib.ListN.{length, get_or, take, drop, length-append}
use lib.Seq.{take_all, length-take-le}
use Rattle.cases.specs.Cases.{pick}
use Rattle.protection.specs.Command.{Call}
use Rattle.std.specs.Prelude.{Ok}
use Rattle.refusals.specs.Numbers.{number_of}
use Rattle.refusals.specs.declared.Refusal.{Refusal}
use Rattle.refusals.proofs.Codes.{number_above}
use Rattle.policy.specs.Refusals.{refusal}
use Rattle.policy.specs.Contents.{policy_of, over}
use Rattle.policy.specs.declared.Policy.{Policy}
use Rattle.trace.specs.Traces.{calls}
use Rattle.safety.specs.Demand3.{Judgement, Refused, Safe, Unsafe, steps_written}
use Rattle.safety.specs.Conclusion.{ReadOf}
use Rattle.safety.specs.Judgement.{judge_refusal, file_verdict, file_judgement, bytes_of, filled, Judged}
use Rattle.safety.proofs.Refusals.{judges, refuses, fills}
use Rattle.safety.proofs.Buffers.{bytes_length, calls_back}
use Rattle.listing.specs.Listing.{head, refused_word, buffer_bytes, printed, listing}
use Rattle.questions.specs.Refusals.{most_steps}
use Rattle.listing.specs.Writing.{Put, Room, listing_bytes, Answered}

-- ---- a file that the reader refuses
refused_listing : (f : List ℕ) (r : ℕ) (by : Refusal) → number_of by ≡ refusal f → listing (r ∷ f) ≡ head refused_word (number_of by)
unfolding judge_refusal
refused_listing f r by d =
    let some : refusal f ≡ 0 → ⊥ = λ z. let a = number_above by in omega arith in
    let first : judge_refusal f r buffer_bytes ≡ number_of by = rw (ne_eqb (refusal f) 0 some) (sym d) in
    ap (λ (i : Judgement). printed (policy_of f) i (file_verdict f r).steps) (refuses f r buffer_bytes (λ z. some (d' z first)) ∙ ap Refused first)
  where
    d' : judge_refusal f r buffer_bytes ≡ 0 → judge_refusal f r buffer_bytes ≡ number_of by → refusal f ≡ 0
    d' z e = sym d ∙ sym e ∙ z

pub refused_put : (f : List ℕ) (r : ℕ) (by : Refusal) → number_of by ≡ refusal f → (o o' : List ℕ) (n : ℕ) → Put o 0 (head refused_word (number_of by)) n o' → Put o 0 (listing (r ∷ f)) n o'
refused_put f r by d o o' n q = subst (λ (l : List ℕ). Put o 0 l n o') (sym (refused_listing f r by d)) q

-- ---- the judgement, its count and its steps
count_of : (u : Bool) (n : ℕ) → steps_written (pick u (Unsafe n) (Safe n)) ≡ n
count_of true n = refl
count_of false n = refl

-- a verdict's answer needs its steps only, and a refusal nothing
module _ (f : List ℕ) (r : ℕ) (b : List ℕ) (j : Judgement) (b' : List ℕ) (p : Policy) (d : ReadOf f (Ok p)) (told : (g : List ℕ) → ReadOf g (Ok p) → Judged g r b j b') (e : length b ≡ buffer_bytes) where
  J : Judged f r b j b'
  J = told f d

  given : j ≡ file_judgement f r buffer_bytes
  given = J.answer_is ∙ ap (file_judgement f r) e

  module _ (z : judge_refusal f r buffer_bytes ≡ 0) where
    here : judge_refusal f r (length b) ≡ 0
    here = ap (judge_refusal f r) e ∙ z

    written : b' ≡ filled (file_verdict f r).steps b
    written = J.buffer_is ∙ fills f r b here

    count : steps_written j ≡ length (file_verdict f r).steps
    count = ap steps_written (given ∙ judges f r buffer_bytes z) ∙ count_of (file_verdict f r).unsafe (length (file_verdict f r).steps)

    few : steps_written j ≤ most_steps
    few = let k = (J.demand3 here).room in omega arith

    inside : 5 * steps_written j ≤ length b'
    inside =
        let k = count in
        let u = ap length written ∙ length-append (bytes_of (file_verdict f r).steps) (drop (5 * length (file_verdict f r).steps) b) in
        let v = bytes_length (file_verdict f r).steps in omega arith

    steps_are : calls b' (steps_written j) ≡ (file_verdict f r).steps
    steps_are = ap₂ calls written count ∙ calls_back (file_verdict f r).steps (drop (5 * length (file_verdict f r).steps) b)

  none_written : (judge_refusal f r buffer_bytes ≡ 0 → ⊥) → steps_written j ≡ 0
  none_written n = ap steps_written (given ∙ refuses f r buffer_bytes n)

  -- there is room for the lines
  pub judged_room : (o : List ℕ) → listing_bytes ≤ length o → Room o (steps_written j) b'
  judged_room o l = go (ℕ_discrete (judge_refusal f r buffer_bytes) 0)
    where
      go : Dec (judge_refusal f r buffer_bytes ≡ 0) → Room o (steps_written j) b'
      go (yes z) = record { few = few z; steps = inside z; lines = l }
      go (no n) = let k = none_written n in record { few = omega arith; steps = omega arith; lines = l }

  -- what is printed is the listing
  prints : printed p j (calls b' (steps_written j)) ≡ listing (r ∷ f)
  prints = go (ℕ_discrete (judge_refusal f r buffer_bytes) 0)
    where
      go : Dec (judge_refusal f r buffer_bytes ≡ 0) → printed p j (calls b' (steps_written j)) ≡ listing (r ∷ f)
      go (yes z) =
          ap₂ (λ (q : Policy) (l : List Call). printed q j l) d.read (steps_are z) ∙ ap (λ (i : Judgement). printed (policy_of f) i (file_verdict f r).steps) given
      go (no n) =
          ap (λ (i : Judgement). printed p i (calls b' (steps_written j))) (given ∙ refuses f r buffer_bytes n)
          ∙ sym (ap (λ (i : Judgement). printed (policy_of f) i (file_verdict f r).steps) (refuses f r buffer_bytes n))

  pub judged_put : (o o' : List ℕ) (n : ℕ) → Put o 0 (printed p j (calls b' (steps_written j))) n o' → Put o 0 (listing (r ∷ f)) n o'
  judged_put o o' n q = subst (λ (l : List ℕ). Put o 0 l n o') prints q

-- ---- the answer to any input
pub too_short : (input b : List ℕ) → length b < listing_bytes → Answered input b 0 b
too_short input b h = let z = lt-ltb (length b) listing_bytes h in record { count = rw z; bytes = rw z }

answered : (input b b' : List ℕ) (r : ℕ) → listing_bytes ≤ length b → Put b 0 (listing input) r b' → Answered input b r b'
answered input b b' r h p = let z = le-ltb (length b) listing_bytes h in record { count = rw z (let w = p.next in omega arith); bytes = rw z p.bytes }

pub nothing_read : (input b b' : List ℕ) (r : ℕ) → listing_bytes ≤ length b → length input ≡ 0 → Put b 0 (head refused_word 1) r b' → Answered input b r b'
nothing_read [] b b' r h e p = answered [] b b' r h p
nothing_read (x ∷ l) b b' r h e p = absurd (omega arith)

pub file_read : (input b b' : List ℕ) (r : ℕ) → listing_bytes ≤ length b → (length input ≡ 0 → ⊥) → Put b 0 (listing (get_or input 0 0 ∷ take (length input - 1) (drop 1 input))) r b' → Answered input b r b'
file_read [] b b' r h e p = absurd (e refl)
file_read (x ∷ l) b b' r h e p = answered (x ∷ l) b b' r h (subst (λ (k : List ℕ). Put b 0 (listing (x ∷ k)) r b') (take_all (suc (length l) - 1) l (omega arith)) p)

-- the answer's bytes are a front part of the buffer
module _ (input b b' : List ℕ) (r : ℕ) (A : Answered input b r b') where
  pub answer_within : r ≤ length b'
  answer_within = go (ltb (length b) listing_bytes) A.count A.bytes
    where
      go : (c : Bool) → r ≡ pick c 0 (length (listing input)) → b' ≡ pick c b (over b 0 (listing input)) → r ≤ length b'
      go true n e = omega arith
      go false n e = let z = ap length e ∙ length-append (listing input) (drop (0 + length (listing input)) b) in omega arith

  pub answer_front : r ≡ length (take r b')
  answer_front = sym (length-take-le r b' answer_within)
