-- The entries of a sheet as bytes, read and written. Assumes nothing.
use Prim.Native.Nat.{ℕ, suc, ◌+◌, ◌*◌, ◌/◌, ◌%◌, ◌^◌, ◌≤◌, ◌<◌}
use mathlib.Core.Path.{◌≡◌, refl, sym, ap, ap₂, ◌∙◌, subst}
use mathlib.Core.Bool.{Bool, true, false}
use mathlib.Core.List.{List, [], ◌∷◌, ◌++◌, append_assoc}
use native.Mathlib.Numerals.{add-one}
use native.Mathlib.Nat.{mul-div-le, mod-eq_of_lt}
use native.Mathlib.Omega.{arith}
use borrow.Author.Tests.{ltb-false}
use lib.Dec.{ltb}
use lib.ListN.{length, get_or, take, drop, set, length-append, length-drop}
use lib.Seq.{sets-eq, take_at, drop_at, drop-drop, take-suc, length-take-le}
use Rattle.cases.specs.Cases.{pick, tabulate}
use Rattle.cases.proofs.Lists.{length_tabulate, take_tabulate}
use Rattle.sheets.specs.Sheets.{sheet_limit, sheet_refusal, sheet_after, buffer_after, FirstSheeted}
use Rattle.sheets.specs.declared.Entry.{Entry}
use Rattle.std.specs.Prelude.{Ok, Err}
use Rattle.refusals.specs.Numbers.{number_of}
use Rattle.refusals.specs.declared.Refusal.{Refusal}
use Rattle.refusals.proofs.Codes.{number_above}
use Rattle.sheets.proofs.Promise.{sheeted, sheet_length}
use Rattle.exports.specs.Sheet.{entry_at, entries_in, entry_bytes, entries_written, entries_after, SheetAnswer}

-- ---- read
pub eight_of : (f : ℕ → Entry) (q₀ q₁ q₂ q₃ q₄ q₅ q₆ q₇ : Entry) → q₀ ≡ f 0 → q₁ ≡ f 1 → q₂ ≡ f 2 → q₃ ≡ f 3 → q₄ ≡ f 4 → q₅ ≡ f 5 → q₆ ≡ f 6 → q₇ ≡ f 7
    → q₀ ∷ q₁ ∷ q₂ ∷ q₃ ∷ q₄ ∷ q₅ ∷ q₆ ∷ q₇ ∷ [] ≡ tabulate f 8 0
eight_of f q₀ q₁ q₂ q₃ q₄ q₅ q₆ q₇ e₀ e₁ e₂ e₃ e₄ e₅ e₆ e₇ = λ i. e₀ i ∷ e₁ i ∷ e₂ i ∷ e₃ i ∷ e₄ i ∷ e₅ i ∷ e₆ i ∷ e₇ i ∷ []

-- ---- written
pub four_stored : (e : List ℕ) (o a b c d : ℕ) → o + 4 ≤ length e → set (set (set (set e o a) (o + 1) b) (o + 2) c) (o + 3) d ≡ take o e ++ ((a ∷ b ∷ c ∷ d ∷ []) ++ drop (o + 4) e)
four_stored e o a b c d h =
    let e₁ : o + 1 ≡ suc o = omega arith in
    let e₂ : o + 2 ≡ suc (suc o) = omega arith in
    let e₃ : o + 3 ≡ suc (suc (suc o)) = omega arith in
    rw (e₁, e₂, e₃) (sets-eq (a ∷ b ∷ c ∷ d ∷ []) e o h ∙ append_assoc (take o e) (a ∷ b ∷ c ∷ d ∷ []) (drop (o + 4) e))

-- an entry's bytes, of its count the low one first
pub entry_stored : (e : List ℕ) (o a b n : ℕ) (x : List ℕ) → n < 2 ^ 16 → x ≡ n % 256 ∷ (n / 256) % 256 ∷ [] → o + 4 ≤ length e
    → set (set (set (set e o a) (o + 1) b) (o + 2) (get_or x 0 0)) (o + 3) (get_or x 1 0) ≡ take o e ++ ((a ∷ b ∷ n % 256 ∷ n / 256 ∷ []) ++ drop (o + 4) e)
entry_stored e o a b n x s d h = let z : (n / 256) % 256 ≡ n / 256 = mod-eq_of_lt (omega arith) in rw d (rw z (four_stored e o a b (n % 256) (n / 256) h))

bytes_length : (s : List Entry) → length (entry_bytes s) ≡ 4 * length s
bytes_length [] = refl
bytes_length (q ∷ s) = let z = bytes_length s in omega arith

bytes_append : (s t : List Entry) → entry_bytes (s ++ t) ≡ entry_bytes s ++ entry_bytes t
bytes_append [] t = refl
bytes_append (q ∷ s) t = ap (λ (l : List ℕ). q.right ∷ q.verdict ∷ q.count % 256 ∷ q.count / 256 ∷ l) (bytes_append s t)

-- the first i entries of s are written over e
module _ (s : List Entry) (e : List ℕ) (i : ℕ) (e' : List ℕ) (is : e' ≡ entry_bytes (take i s) ++ drop (4 * i) e) where
  pub written_on : (q d : Entry) → q ≡ get_or s i d → i < length s → (e'' : List ℕ) → e'' ≡ take (4 * i) e' ++ (entry_bytes (q ∷ []) ++ drop (4 * i + 4) e') → e'' ≡ entry_bytes (take (i + 1) s) ++ drop (4 * (i + 1)) e
  written_on q d q-is l e'' next =
      next ∙ ap₂ (λ (x y : List ℕ). x ++ (entry_bytes (q ∷ []) ++ y)) front behind
      ∙ sym (append_assoc (entry_bytes (take i s)) (entry_bytes (q ∷ [])) (drop (4 * (i + 1)) e)) ∙ ap (λ (x : List ℕ). x ++ drop (4 * (i + 1)) e) (sym more)
    where
      long : length (entry_bytes (take i s)) ≡ 4 * i
      long = bytes_length (take i s) ∙ ap (λ (n : ℕ). 4 * n) (length-take-le i s (omega arith))

      front : take (4 * i) e' ≡ entry_bytes (take i s)
      front = ap (take (4 * i)) is ∙ take_at (entry_bytes (take i s)) (drop (4 * i) e) (4 * i) long

      behind : drop (4 * i + 4) e' ≡ drop (4 * (i + 1)) e
      behind =
          let k : 4 * (i + 1) ≡ 4 * i + 4 = omega arith in
          sym (drop-drop 4 (4 * i) e') ∙ ap (drop 4) (ap (drop (4 * i)) is ∙ drop_at (entry_bytes (take i s)) (drop (4 * i) e) (4 * i) long) ∙ drop-drop 4 (4 * i) e ∙ ap (λ (n : ℕ). drop n e) (sym k)

      more : entry_bytes (take (i + 1) s) ≡ entry_bytes (take i s) ++ entry_bytes (q ∷ [])
      more = ap entry_bytes (ap (λ (n : ℕ). take n s) (add-one i) ∙ take-suc s i d l ∙ ap (λ (x : Entry). take i s ++ (x ∷ [])) (sym q-is)) ∙ bytes_append (take i s) (q ∷ [])

  pub written_end : (n : ℕ) → n ≤ i → i ≤ n → n ≤ length s → e' ≡ entries_written (take n s) e
  written_end n l m k = let h : i ≡ n = omega arith in is ∙ ap (λ (j : ℕ). entry_bytes (take j s) ++ drop (4 * j) e) h ∙ ap (λ (j : ℕ). entry_bytes (take n s) ++ drop (4 * j) e) (sym (length-take-le n s k))

-- ---- a sheet of n entries, of which e has the first eight, asked and answered
module _ (f e b : List ℕ) (n : ℕ) (n-is : n ≡ length e / 4) (asked : List Entry) (Asked-is : asked ≡ tabulate (entry_at e) 8 0) (b' : List ℕ) where
  abbrev s : List Entry
  s = entries_in e

  many : length s ≡ n
  many = length_tabulate (entry_at e) (length e / 4) 0 ∙ sym n-is

  -- more than eight: 43
  pub entries_refused : (by : Refusal) → FirstSheeted f asked n b (Err by) b' → (r : ℕ) → r ≡ number_of by → SheetAnswer f e b r e b'
  unfolding sheet_refusal sheet_after buffer_after entries_after
  entries_refused by F r r-is = go (ltb sheet_limit n) refl (r-is ∙ F.refused_is) F.buffer_is
    where
      go : (c : Bool) → ltb sheet_limit n ≡ c → r ≡ pick c 43 0 → b' ≡ pick c b (buffer_after f (take n asked) b) → SheetAnswer f e b r e b'
      go true z q d =
          let w : ltb sheet_limit (length s) ≡ true = ap (ltb sheet_limit) many ∙ z in
          record { entries_are = rw (← n-is, z); sheeted = sheeted f s b r (sheet_after f s b) b' (rw w q) refl (rw w d) }
      go false z q d = absurd (let a = number_above by in omega arith)

  -- else every entry has its answer
  module _ (after : List Entry) (F : FirstSheeted f asked n b (Ok after) b') where
    within : ltb sheet_limit n ≡ false
    within = go (ltb sheet_limit n) F.refused_is
      where
        go : (c : Bool) → ◌≡◌ {A = ℕ} 0 (pick c 43 0) → c ≡ false
        go true r = absurd (omega arith)
        go false r = refl

    pub entries_few : n ≤ 8
    entries_few = ltb-false sheet_limit n within

    pub entries_inside : 4 * n ≤ length e
    entries_inside = subst (λ (k : ℕ). 4 * k ≤ length e) (sym n-is) (mul-div-le (length e) 4)

    first_is : take n asked ≡ s
    first_is = ap (take n) Asked-is ∙ take_tabulate (entry_at e) n 8 0 entries_few ∙ ap (λ (k : ℕ). tabulate (entry_at e) k 0) n-is

    after_is : after ≡ sheet_after f s b ++ drop n asked
    after_is = F.entries_are ∙ ap (λ (t : List Entry). sheet_after f t b ++ drop n asked) first_is

    after_long : length (sheet_after f s b) ≡ n
    after_long = sheet_length f s b ∙ many

    pub entries_eight : length after ≡ 8
    entries_eight =
        let a = ap length after_is ∙ length-append (sheet_after f s b) (drop n asked) in
        let c = length-drop n asked in
        let d = ap length Asked-is ∙ length_tabulate (entry_at e) 8 0 in
        let g = after_long in let h = entries_few in omega arith

    pub entries_answered : (e' : List ℕ) → e' ≡ entries_written (take n after) e → SheetAnswer f e b 0 e' b'
    unfolding sheet_refusal entries_after
    entries_answered e' is =
        let w : ltb sheet_limit (length s) ≡ false = ap (ltb sheet_limit) many ∙ within in
        let front : take n after ≡ sheet_after f s b = ap (take n) after_is ∙ take_at (sheet_after f s b) (drop n asked) n after_long in
        record {
          entries_are = is ∙ ap (λ (t : List Entry). entries_written t e) front ∙ rw (← n-is, within);
          sheeted = sheeted f s b 0 (sheet_after f s b) b' (rw w) refl (F.buffer_is ∙ ap (λ (c : Bool). pick c b (buffer_after f (take n asked) b)) within ∙ ap (λ (t : List Entry). buffer_after f t b) first_is);
        }
