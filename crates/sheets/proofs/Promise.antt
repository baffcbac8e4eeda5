-- What is promised of a sheet follows from its entries and the buffer after the call. Assumes nothing.
use Prim.Native.Nat.{ℕ, zero, suc, ◌+◌, ◌*◌, ◌≤◌, ◌<◌}
use mathlib.Core.Path.{◌≡◌, refl, sym, ap, ◌∙◌, subst}
use Rattle.std.specs.Prelude.{Ok, Err}
use mathlib.Core.Bool.{Bool, true, false}
use mathlib.Core.List.{List, [], ◌∷◌, ◌++◌}
use native.Mathlib.Decide.{ℕ_discrete}
use native.Mathlib.Nat.{zero-mul, suc-mul, mul-le-mul_right, mul-div-le}
use native.Mathlib.Omega.{arith}
use borrow.Author.Tests.{lt-ltb, le-ltb, ltb-true, ltb-false}
use lib.Dec.{ltb}
use lib.ListN.{length, take, drop, length-append, length-drop}
use lib.Seq.{length-take-le, take_at, drop_at, drop-drop}
use Rattle.cases.specs.Cases.{pick}
use Rattle.refusals.specs.declared.Refusal.TheVariants.{LongSheet}
use Rattle.safety.specs.Demand3.{Safe, Unsafe, steps_written}
use Rattle.safety.specs.Judgement.{judge_refusal, file_judgement, file_verdict, file_buffer, bytes_of}
use Rattle.safety.proofs.Buffers.{bytes_length}
use Rattle.safety.proofs.Refusals.{judges, fills, kept}
use Rattle.safety.proofs.Demand3.{judged, judge_demand3}
use Rattle.sheets.specs.declared.Entry.{Entry}
use Rattle.sheets.specs.Sheets.{sheet_limit, sheet_refusal, answers, part_length, parts_filled, sheet_after, buffer_after, right_at, part_at, Sheeted, FirstSheeted}

-- ---- a call leaves the buffer as long as it was
count_of : (u : Bool) (n : ℕ) → steps_written (pick u (Unsafe n) (Safe n)) ≡ n
count_of true n = refl
count_of false n = refl

buffer_length : (f : List ℕ) (r : ℕ) (b : List ℕ) → length (file_buffer f r b) ≡ length b
buffer_length f r b = go (ℕ_discrete (judge_refusal f r (length b)) 0)
  where
    go : Dec (judge_refusal f r (length b) ≡ 0) → length (file_buffer f r b) ≡ length b
    go (yes z) =
        let n = length (file_verdict f r).steps in
        let room = (judge_demand3 f r b z).room in
        let count = ap steps_written (judges f r (length b) z) ∙ count_of (file_verdict f r).unsafe n in
        let e = ap length (fills f r b z) ∙ length-append (bytes_of (file_verdict f r).steps) (drop (5 * n) b) in
        let u = bytes_length (file_verdict f r).steps in
        let v = length-drop (5 * n) b in
        omega arith
    go (no n) = ap length (kept f r b n)

-- ---- parts of k bytes, one for each entry of s
module _ (f : List ℕ) (k : ℕ) where
  part_first : (q : Entry) (s : List Entry) (b : List ℕ) → k ≤ length b → length (file_buffer f q.right (take k b)) ≡ k
  part_first q s b h = buffer_length f q.right (take k b) ∙ length-take-le k b h

  fits_first : (s : List Entry) (b : List ℕ) (q : Entry) → length (q ∷ s) * k ≤ length b → k ≤ length b
  fits_first s b q h = let e = suc-mul (length s) k in omega arith

  fits_later : (s : List Entry) (b : List ℕ) (q : Entry) → length (q ∷ s) * k ≤ length b → length s * k ≤ length (drop k b)
  fits_later s b q h = let e = suc-mul (length s) k in let d = length-drop k b in omega arith

  further : (i : ℕ) (b : List ℕ) → drop (suc i * k) b ≡ drop (i * k) (drop k b)
  further i b = let e : suc i * k ≡ k + i * k = let z = suc-mul i k in omega arith in ap (λ (n : ℕ). drop n b) e ∙ sym (drop-drop (i * k) k b)

  -- part i after the call is what a call of its own leaves of part i
  part_is : (s : List Entry) (b : List ℕ) (i : ℕ) → length s * k ≤ length b → i < length s → part_at (parts_filled f k s b) k i ≡ file_buffer f (right_at s i) (part_at b k i)
  part_is [] b i h l = absurd (omega arith)
  part_is (q ∷ s) b zero h l =
      ap (λ (n : ℕ). take k (drop n (parts_filled f k (q ∷ s) b))) (zero-mul k)
      ∙ take_at (file_buffer f q.right (take k b)) (parts_filled f k s (drop k b)) k (part_first q s b (fits_first s b q h))
      ∙ sym (ap (λ (n : ℕ). file_buffer f q.right (take k (drop n b))) (zero-mul k))
  part_is (q ∷ s) b (suc i) h l =
      ap (take k) (further i (parts_filled f k (q ∷ s) b) ∙ ap (drop (i * k)) (drop_at (file_buffer f q.right (take k b)) (parts_filled f k s (drop k b)) k (part_first q s b (fits_first s b q h))))
      ∙ part_is s (drop k b) i (fits_later s b q h) (omega arith)
      ∙ sym (ap (λ (x : List ℕ). file_buffer f (right_at s i) (take k x)) (further i b))

  -- behind the parts the bytes are as they were
  rest_is : (s : List Entry) (b : List ℕ) → length s * k ≤ length b → drop (length s * k) (parts_filled f k s b) ≡ drop (length s * k) b
  rest_is [] b h = refl
  rest_is (q ∷ s) b h =
      further (length s) (parts_filled f k (q ∷ s) b) ∙ ap (drop (length s * k)) (drop_at (file_buffer f q.right (take k b)) (parts_filled f k s (drop k b)) k (part_first q s b (fits_first s b q h)))
      ∙ rest_is s (drop k b) (fits_later s b q h) ∙ sym (further (length s) b)

-- ---- the parts fit
pub parts_fit : (s : List Entry) (b : List ℕ) → length s * part_length s b ≤ length b
parts_fit s b = mul-div-le (length b) (length s)

pub part_long : (s : List Entry) (b : List ℕ) (i : ℕ) → i < length s → length (part_at b (part_length s b) i) ≡ part_length s b
part_long s b i l = go (length s) (part_length s b) (parts_fit s b) l
  where
    go : (n k : ℕ) → n * k ≤ length b → i < n → length (part_at b k i) ≡ k
    go n k h m = length-take-le k (drop (i * k) b) (let d = length-drop (i * k) b in let e = suc-mul i k in let w : suc i * k ≤ n * k = mul-le-mul_right k m in omega arith)

module _ (f : List ℕ) (s : List Entry) (b : List ℕ) where
  pub sheet_refused : sheet_limit < length s → Sheeted f s b 43 s b
  unfolding sheet_refusal sheet_after buffer_after
  sheet_refused h = let z = lt-ltb sheet_limit (length s) h in record { code_is = rw z; sheet_is = rw z; buffer_is = rw z; judged = λ l. absurd (omega arith); left_over = refl }

  pub sheet_answered : length s ≤ sheet_limit → (s' : List Entry) (b' : List ℕ) → s' ≡ answers f (part_length s b) s → b' ≡ parts_filled f (part_length s b) s b → Sheeted f s b 0 s' b'
  unfolding sheet_refusal sheet_after buffer_after
  sheet_answered l s' b' es eb =
      let z = le-ltb sheet_limit (length s) l in
      record {
        code_is = rw z;
        sheet_is = rw z es;
        buffer_is = rw z eb;
        judged = λ _ i on. judged f (right_at s i) (part_at b (part_length s b) i) (file_judgement f (right_at s i) (part_length s b)) (part_at b' (part_length s b) i)
            (ap (file_judgement f (right_at s i)) (sym (part_long s b i on))) (ap (λ (x : List ℕ). part_at x (part_length s b) i) eb ∙ part_is f (part_length s b) s b i (parts_fit s b) on);
        left_over = ap (drop (length s * part_length s b)) eb ∙ rest_is f (part_length s b) s b (parts_fit s b);
      }

-- so the three equations are the whole promise
pub sheeted : (f : List ℕ) (s : List Entry) (b : List ℕ) (r : ℕ) (s' : List Entry) (b' : List ℕ) → r ≡ sheet_refusal s → s' ≡ sheet_after f s b → b' ≡ buffer_after f s b → Sheeted f s b r s' b'
unfolding sheet_refusal sheet_after buffer_after
sheeted f s b r s' b' er es eb = go (ltb sheet_limit (length s)) refl er es eb
  where
    go : (c : Bool) → ltb sheet_limit (length s) ≡ c → r ≡ pick c 43 0 → s' ≡ pick c s (answers f (part_length s b) s) → b' ≡ pick c b (parts_filled f (part_length s b) s b) → Sheeted f s b r s' b'
    go true many x y z = subst (λ (n : ℕ). Sheeted f s b n s' b') (sym x) (subst (λ (t : List Entry). Sheeted f s b 43 t b') (sym y) (subst (Sheeted f s b 43 s) (sym z) (sheet_refused f s b (ltb-true sheet_limit (length s) many))))
    go false few x y z = subst (λ (n : ℕ). Sheeted f s b n s' b') (sym x) (sheet_answered f s b (ltb-false sheet_limit (length s) few) s' b' y z)

-- the sheet has as many entries as before
answers_length : (f : List ℕ) (k : ℕ) (s : List Entry) → length (answers f k s) ≡ length s
answers_length f k [] = refl
answers_length f k (q ∷ s) = ap suc (answers_length f k s)

pub sheet_length : (f : List ℕ) (s : List Entry) (b : List ℕ) → length (sheet_after f s b) ≡ length s
unfolding sheet_after
sheet_length f s b = go (ltb sheet_limit (length s))
  where
    go : (c : Bool) → length (pick c s (answers f (part_length s b) s)) ≡ length s
    go true = refl
    go false = answers_length f (part_length s b) s

-- ---- a sheet by value
module _ (f : List ℕ) (e : List Entry) (n : ℕ) (b : List ℕ) where
  pub first_refused : sheet_limit < n → FirstSheeted f e n b (Err LongSheet) b
  first_refused h = let z = lt-ltb sheet_limit n h in record { refused_is = rw z; entries_are = tt; buffer_is = rw z }

  pub first_answered : n ≤ sheet_limit → (e' : List Entry) (b' : List ℕ) → (e' ≡ sheet_after f (take n e) b ++ drop n e) × (b' ≡ buffer_after f (take n e) b) → FirstSheeted f e n b (Ok e') b'
  first_answered l e' b' are = let z = le-ltb sheet_limit n l in record { refused_is = rw z; entries_are = are.0; buffer_is = rw z are.1 }
