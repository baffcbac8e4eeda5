-- The sheet and the buffer while the entries are answered one after the other. Assumes nothing.
use Prim.Native.Nat.{ℕ, suc, ◌+◌, ◌*◌, ◌≤◌, ◌<◌}
use mathlib.Core.Path.{◌≡◌, refl, sym, ap, ap₂, ◌∙◌}
use mathlib.Core.List.{List, [], ◌∷◌, ◌++◌, append_assoc, append-nil}
use native.Mathlib.Numerals.{add-one}
use native.Mathlib.Nat.{zero-mul, suc-mul, mul-le-mul_right}
use native.Mathlib.Omega.{arith}
use lib.ListN.{length, get_or, take, drop, set, length-append, length-drop, length-set, take-append-drop}
use lib.Seq.{drop-cons, drop-length, take-length, drop-set-lt, take-suc-set, take_at, drop_at}
use Rattle.safety.specs.Judgement.{file_buffer}
use Rattle.sheets.specs.declared.Entry.{Entry}
use Rattle.sheets.specs.Sheets.{answered, answers, part_filled, parts_filled}

-- where the first i entries are answered, answering the others comes to the whole
pub record Filling (f : List ℕ) (k : ℕ) (s : List Entry) (b : List ℕ) (i : ℕ) (s' : List Entry) (b' : List ℕ) : Type 0 where
  pub sheet : take i s' ++ answers f k (drop i s') ≡ answers f k s
  pub buffer : take (i * k) b' ++ parts_filled f k (drop i s') (drop (i * k) b') ≡ parts_filled f k s b
  pub entries : length s' ≡ length s
  pub bytes : length b' ≡ length b

module _ (f : List ℕ) (k : ℕ) (s : List Entry) (b : List ℕ) where
  -- before the first entry
  pub filling_start : Filling f k s b 0 s b
  filling_start = record { sheet = refl; buffer = rw zero-mul; entries = refl; bytes = refl }

  module _ (i : ℕ) (s' : List Entry) (b' : List ℕ) (F : Filling f k s b i s' b') where
    pub filling_end : length s' ≤ i → i ≤ length s' → (s' ≡ answers f k s) × (b' ≡ parts_filled f k s b)
    filling_end h l = (sym (ap₂ ◌++◌ all (ap (answers f k) none) ∙ append-nil s') ∙ F.sheet, sym (ap (λ (t : List Entry). take (i * k) b' ++ parts_filled f k t (drop (i * k) b')) none ∙ take-append-drop (i * k) b') ∙ F.buffer)
      where
        here : i ≡ length s'
        here = omega arith

        all : take i s' ≡ s'
        all = ap (λ (n : ℕ). take n s') here ∙ take-length s'

        none : drop i s' ≡ []
        none = ap (λ (n : ℕ). drop n s') here ∙ drop-length s'

    module _ (d : Entry) (on : i < length s') (room : length s * k ≤ length b) where
      abbrev r : ℕ
      r = (get_or s' i d).right

      pub part_inside : i * k + k ≤ length b'
      part_inside =
          let z : (i + 1) * k ≤ length s * k = mul-le-mul_right k (let e = F.entries in omega arith) in
          let w : (i + 1) * k ≡ i * k + k = ap (λ (n : ℕ). n * k) (add-one i) ∙ suc-mul i k in
          let e = F.bytes in omega arith

      module _ (q : Entry) (b'' : List ℕ) (q-is : q ≡ answered f k r) (b-is : b'' ≡ part_filled f r (i * k) k b') (long : length b'' ≡ length b') where
        abbrev front : List ℕ
        front = take (i * k) b'

        abbrev part : List ℕ
        part = file_buffer f r (take k (drop (i * k) b'))

        abbrev rest : List ℕ
        rest = drop k (drop (i * k) b')

        next : (i + 1) * k ≡ i * k + k
        next = ap (λ (n : ℕ). n * k) (add-one i) ∙ suc-mul i k

        joined : b'' ≡ (front ++ part) ++ rest
        joined = b-is ∙ sym (append_assoc front part rest)

        width : length (front ++ part) ≡ i * k + k
        width =
            let a = part_inside in
            let c = ap length joined ∙ length-append (front ++ part) rest in
            let e = length-drop k (drop (i * k) b') in
            let g = length-drop (i * k) b' in omega arith

        later : drop (i + 1) (set s' i q) ≡ drop (suc i) s'
        later = ap (λ (n : ℕ). drop n (set s' i q)) (add-one i) ∙ drop-set-lt (suc i) s' i q (omega arith)

        -- this entry, and those behind it
        here : drop i s' ≡ get_or s' i d ∷ drop (suc i) s'
        here = drop-cons s' i d on

        sheet_on : take (i + 1) (set s' i q) ++ answers f k (drop (i + 1) (set s' i q)) ≡ answers f k s
        sheet_on =
            ap₂ (λ (x y : List Entry). x ++ answers f k y) (ap (λ (n : ℕ). take n (set s' i q)) (add-one i) ∙ take-suc-set s' i q on) later
            ∙ append_assoc (take i s') (q ∷ []) (answers f k (drop (suc i) s'))
            ∙ ap (λ (x : Entry). take i s' ++ x ∷ answers f k (drop (suc i) s')) q-is
            ∙ sym (ap (λ (x : List Entry). take i s' ++ answers f k x) here) ∙ F.sheet

        buffer_on : take ((i + 1) * k) b'' ++ parts_filled f k (drop (i + 1) (set s' i q)) (drop ((i + 1) * k) b'') ≡ parts_filled f k s b
        buffer_on =
            ap₂ (λ (x : ℕ) (y : List Entry). take x b'' ++ parts_filled f k y (drop x b'')) next later
            ∙ ap (λ (x : List ℕ). take (i * k + k) x ++ parts_filled f k (drop (suc i) s') (drop (i * k + k) x)) joined
            ∙ ap₂ (λ (x y : List ℕ). x ++ parts_filled f k (drop (suc i) s') y) (take_at (front ++ part) rest (i * k + k) width) (drop_at (front ++ part) rest (i * k + k) width)
            ∙ append_assoc front part (parts_filled f k (drop (suc i) s') rest)
            ∙ sym (ap (λ (x : List Entry). front ++ parts_filled f k x (drop (i * k) b')) here) ∙ F.buffer

        pub filling_on : Filling f k s b (i + 1) (set s' i q) b''
        filling_on = record { sheet = sheet_on; buffer = buffer_on; entries = length-set s' i q ∙ F.entries; bytes = long ∙ F.bytes }
