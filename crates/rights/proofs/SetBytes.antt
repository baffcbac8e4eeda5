-- Bytes read as sets and sets written as bytes are inverse. Assumes nothing.
use Prim.Native.Nat.{ℕ, zero, suc, ◌+◌, ◌*◌, ◌/◌, ◌%◌, ◌≤◌, ◌<◌}
use mathlib.Core.Path.{◌≡◌, refl, sym, ap, ap₂, ◌∙◌}
use mathlib.Core.List.{List, [], ◌∷◌}
use native.Mathlib.Nat.{not-suc-le-zero, le_of_suc-le-suc}
use native.Mathlib.Decide.{ℕ_discrete}
use native.Mathlib.Omega.{arith}
use lib.ListN.{length, get_or, set, length-set, get_or-eq_default}
use lib.Seq.{ext_get_or, get_or-set_same, get_or-set_other}
use Rattle.cases.proofs.Lists.{length_tabulate}
use Rattle.cases.proofs.Filling.{Filling, filling_start, filling_more, filling_end, get_or_table}
use Rattle.rights.specs.Bytes.{set_bytes, byte_values, set_in, sets_in, bytes_of}

-- ---- the bytes of sets, one by one
pub length_bytes : (l : List ℕ) → length (bytes_of l) ≡ set_bytes * length l
unfolding bytes_of
length_bytes [] = refl
length_bytes (x ∷ l) = let z = length_bytes l in omega arith

pub low_byte : (l : List ℕ) (c : ℕ) → c < length l → get_or (bytes_of l) (set_bytes * c) 0 ≡ get_or l c 0 % byte_values
unfolding bytes_of
low_byte [] c h = absurd (not-suc-le-zero h)
low_byte (x ∷ l) zero h = refl
low_byte (x ∷ l) (suc c) h =
    let z : set_bytes * suc c ≡ suc (suc (set_bytes * c)) = omega arith in
    ap (λ (k : ℕ). get_or (bytes_of (x ∷ l)) k 0) z ∙ low_byte l c (le_of_suc-le-suc h)

pub high_byte : (l : List ℕ) (c : ℕ) → c < length l → get_or (bytes_of l) (set_bytes * c + 1) 0 ≡ get_or l c 0 / byte_values
unfolding bytes_of
high_byte [] c h = absurd (not-suc-le-zero h)
high_byte (x ∷ l) zero h = refl
high_byte (x ∷ l) (suc c) h =
    let z : set_bytes * suc c + 1 ≡ suc (suc (set_bytes * c + 1)) = omega arith in
    ap (λ (k : ℕ). get_or (bytes_of (x ∷ l)) k 0) z ∙ high_byte l c (le_of_suc-le-suc h)

-- ---- reading
pub length_sets : (n : ℕ) (l : List ℕ) → length (sets_in n l) ≡ n
unfolding sets_in
length_sets n l = length_tabulate (set_in l) n 0

pub set_read : (n : ℕ) (l : List ℕ) (c : ℕ) → c < n → get_or (sets_in n l) c 0 ≡ set_in l c
unfolding sets_in
set_read n l c h = get_or_table n (set_in l) c h

-- a set all of whose bytes lie past the end
pub set_past : (l : List ℕ) (c : ℕ) → length l ≤ set_bytes * c → 0 ≡ set_in l c
set_past l c h = rw (get_or-eq_default l 0 {n = set_bytes * c} h, get_or-eq_default l 0 {n = set_bytes * c + 1} (omega arith))

abbrev pub Reading : List ℕ → List ℕ → List ℕ → ℕ → Type 0
Reading bytes old l c = Filling (length old) (set_in bytes) old l c

pub reading_start : (bytes old : List ℕ) → Reading bytes old old 0
reading_start bytes old = filling_start (length old) (set_in bytes) old refl

pub reading_more : (bytes old l : List ℕ) (c v : ℕ) → c < length old → v ≡ set_in bytes c → Reading bytes old l c → Reading bytes old (set l c v) (c + 1)
reading_more bytes old l c v h e R = filling_more (length old) (set_in bytes) old l c v h e R

pub reading_end : (bytes old l : List ℕ) (c : ℕ) → length old ≤ c → Reading bytes old l c → l ≡ sets_in (length old) bytes
unfolding sets_in
reading_end bytes old l c h R = filling_end (length old) (set_in bytes) old l c R (λ k a b. absurd (omega arith))

-- ---- writing: the sets before number c have their bytes
pub record Writing (sets l : List ℕ) (c : ℕ) : Type 0 where
  pub long : length l ≡ set_bytes * length sets
  pub low : (k : ℕ) → k < c → get_or l (set_bytes * k) 0 ≡ get_or sets k 0 % byte_values
  pub high : (k : ℕ) → k < c → get_or l (set_bytes * k + 1) 0 ≡ get_or sets k 0 / byte_values

pub writing_start : (sets l : List ℕ) → length l ≡ set_bytes * length sets → Writing sets l 0
writing_start sets l e = record { long = e; low = λ k h. absurd (omega arith); high = λ k h. absurd (omega arith) }

module _ (sets l : List ℕ) (c : ℕ) (h : c < length sets) (W : Writing sets l c) where
  abbrev x : ℕ
  x = get_or sets c 0

  abbrev first : List ℕ
  first = set l (set_bytes * c) (x % byte_values)

  abbrev both : List ℕ
  both = set first (set_bytes * c + 1) (x / byte_values)

  first_long : length first ≡ set_bytes * length sets
  first_long = length-set l (set_bytes * c) (x % byte_values) ∙ W.long

  both_long : length both ≡ set_bytes * length sets
  both_long = length-set first (set_bytes * c + 1) (x / byte_values) ∙ first_long

  low_at : (k : ℕ) → k < c + 1 → Dec (k ≡ c) → get_or both (set_bytes * k) 0 ≡ get_or sets k 0 % byte_values
  low_at k d (yes z) =
      rw z
      (get_or-set_other first (set_bytes * c + 1) (set_bytes * c) (x / byte_values) 0 (λ q. omega arith)
      ∙ get_or-set_same l (set_bytes * c) (x % byte_values) 0 (omega (arith, W.long)))
  low_at k d (no z) =
      get_or-set_other first (set_bytes * c + 1) (set_bytes * k) (x / byte_values) 0 (λ q. omega arith)
      ∙ get_or-set_other l (set_bytes * c) (set_bytes * k) (x % byte_values) 0 (λ q. z (omega arith)) ∙ W.low k (omega arith)

  high_at : (k : ℕ) → k < c + 1 → Dec (k ≡ c) → get_or both (set_bytes * k + 1) 0 ≡ get_or sets k 0 / byte_values
  high_at k d (yes z) = rw z (get_or-set_same first (set_bytes * c + 1) (x / byte_values) 0 (omega (arith, first_long)))
  high_at k d (no z) =
      get_or-set_other first (set_bytes * c + 1) (set_bytes * k + 1) (x / byte_values) 0 (λ q. z (omega arith))
      ∙ get_or-set_other l (set_bytes * c) (set_bytes * k + 1) (x % byte_values) 0 (λ q. omega arith) ∙ W.high k (omega arith)

  pub writing_more : (l' : List ℕ) → l' ≡ both → Writing sets l' (c + 1)
  writing_more l' q = rw q (record { long = both_long; low = λ k d. low_at k d (ℕ_discrete k c); high = λ k d. high_at k d (ℕ_discrete k c) })

pub writing_end : (sets l : List ℕ) (c : ℕ) → length sets ≤ c → Writing sets l c → l ≡ bytes_of sets
writing_end sets l c h W =
    ext_get_or 0 l (bytes_of sets) (W.long ∙ sym (length_bytes sets)) (λ i d. at i (i / set_bytes) (i % set_bytes) (omega arith) (omega arith) (omega (arith, W.long)))
  where
    at : (i k j : ℕ) → i ≡ set_bytes * k + j → j < set_bytes → k < length sets → get_or l i 0 ≡ get_or (bytes_of sets) i 0
    at i k zero e q d =
        let z : i ≡ set_bytes * k = omega arith in rw z (W.low k (omega arith) ∙ sym (low_byte sets k d))
    at i k (suc zero) e q d =
        let z : i ≡ set_bytes * k + 1 = omega arith in rw z (W.high k (omega arith) ∙ sym (high_byte sets k d))
    at i k (suc (suc j)) e q d = absurd (omega arith)

-- ---- inverse
pub set_back : (l : List ℕ) (c : ℕ) → c < length l → set_in (bytes_of l) c ≡ get_or l c 0
set_back l c h = ap₂ (λ (a b : ℕ). a + byte_values * b) (low_byte l c h) (high_byte l c h) ∙ omega arith

-- sets written and read back are the same
pub sets_back : (l : List ℕ) → sets_in (length l) (bytes_of l) ≡ l
sets_back l = ext_get_or 0 (sets_in (length l) (bytes_of l)) l (length_sets (length l) (bytes_of l)) (λ c h. by c (omega (arith, length_sets (length l) (bytes_of l))))
  where
    by : (c : ℕ) → c < length l → get_or (sets_in (length l) (bytes_of l)) c 0 ≡ get_or l c 0
    by c h = set_read (length l) (bytes_of l) c h ∙ set_back l c h

-- bytes read and written back are the same
pub bytes_back : (n : ℕ) (l : List ℕ) → length l ≡ set_bytes * n → ((i : ℕ) → get_or l i 0 < byte_values) → bytes_of (sets_in n l) ≡ l
bytes_back n l e b = sym (writing_end (sets_in n l) l n (omega (arith, length_sets n l)) (record { long = e ∙ ap (λ (k : ℕ). set_bytes * k) (sym (length_sets n l)); low = low; high = high }))
  where
    low : (k : ℕ) → k < n → get_or l (set_bytes * k) 0 ≡ get_or (sets_in n l) k 0 % byte_values
    low k h = rw (set_read n l k h) (let z = b (set_bytes * k) in omega arith)

    high : (k : ℕ) → k < n → get_or l (set_bytes * k + 1) 0 ≡ get_or (sets_in n l) k 0 / byte_values
    high k h = rw (set_read n l k h) (let z = b (set_bytes * k) in omega arith)
