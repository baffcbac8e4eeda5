-- Writes one after the other, and the digits of a number. Assumes nothing.
use Prim.Native.Nat.{ℕ, zero, suc, ◌+◌, ◌-◌, ◌/◌, ◌%◌, ◌≤◌, ◌<◌}
use mathlib.Core.Path.{◌≡◌, refl, sym, ap, ap₂, ◌∙◌, subst}
use mathlib.Core.Bool.{Bool, true, false, not}
use mathlib.Core.List.{List, [], ◌∷◌, ◌++◌, append_assoc, append-nil}
use native.Mathlib.Decide.{dec_lt}
use native.Mathlib.Nat.{mod-eq_of_lt, not-suc-le-zero}
use native.Mathlib.Omega.{arith}
use borrow.Author.Tests.{lt-ltb, le-ltb}
use lib.Dec.{ltb}
use lib.ListN.{length, take, drop, set, length-append, take-append-drop}
use lib.Seq.{take-nil, drop-drop, take_at, drop_at, length-take-le, set_split}
use native.Mathlib.Numerals.{add-one}
use Rattle.cases.specs.Cases.{pick}
use Rattle.policy.specs.Contents.{over}
use Rattle.listing.specs.Listing.{digits, decimal, space, newline, spaced, line, head}
use Rattle.questions.specs.Refusals.{most_steps}
use Rattle.listing.specs.Writing.{Put, PutWithin, count_digits, shown_actual}

-- ---- writes
-- what stands before the bytes just written and those bytes, and what stands behind them
module _ (b : List ℕ) (at : ℕ) (s : List ℕ) (h : at ≤ length b) where
  front : length (take at b ++ s) ≡ at + length s
  front = length-append (take at b) s ∙ ap (λ (n : ℕ). n + length s) (length-take-le at b h)

  over_over : (t : List ℕ) → over (over b at s) (at + length s) t ≡ over b at (s ++ t)
  over_over t =
      let z : at + length s + length t ≡ at + length (s ++ t) = let w = length-append s t in omega arith in
      let behind : drop (at + length s + length t) (over b at s) ≡ drop (at + length (s ++ t)) b =
      sym (drop-drop (length t) (at + length s) (over b at s)) ∙ ap (drop (length t)) (drop_at (take at b ++ s) (drop (at + length s) b) (at + length s) front)
      ∙ drop-drop (length t) (at + length s) b ∙ ap (λ (n : ℕ). drop n b) z in
      ap₂ (λ (x y : List ℕ). (x ++ t) ++ y) (take_at (take at b ++ s) (drop (at + length s) b) (at + length s) front) behind
      ∙ ap (λ (x : List ℕ). x ++ drop (at + length (s ++ t)) b) (append_assoc (take at b) s t)

pub put_then : (b b' b'' s t : List ℕ) (at r r' : ℕ) → at ≤ length b → Put b at s r b' → Put b' r t r' b'' → Put b at (s ++ t) r' b''
put_then b b' b'' s t at r r' h p q = record {
  next = let z = length-append s t in let u = p.next in let v = q.next in omega arith;
  bytes = q.bytes ∙ ap₂ (λ (x : List ℕ) (n : ℕ). over x n t) p.bytes p.next ∙ over_over b at s h t;
}

pub put_one : (b : List ℕ) (at x : ℕ) → at < length b → Put b at (x ∷ []) (at + 1) (set b at x)
put_one b at x h = record {
  next = refl;
  bytes = set_split b at x h ∙ sym (append_assoc (take at b) (x ∷ []) (drop (suc at) b)) ∙ ap (λ (n : ℕ). (take at b ++ (x ∷ [])) ++ drop n b) (sym (add-one at));
}

-- a list in the place of as many from a place on
pub put_all : (b s p : List ℕ) (at : ℕ) → p ≡ s → Put b at s (at + length s) (take at b ++ (p ++ drop (at + length s - at) (drop at b)))
put_all b s p at e = record { next = refl; bytes = stored }
  where
    stored : take at b ++ (p ++ drop (at + length s - at) (drop at b)) ≡ over b at s
    stored =
        let w : at + length s - at ≡ length s = omega arith in
        ap₂ (λ (x : List ℕ) (k : ℕ). take at b ++ (x ++ drop k (drop at b))) e w ∙ ap (λ (x : List ℕ). take at b ++ (s ++ x)) (drop-drop (length s) at b)
        ∙ sym (append_assoc (take at b) s (drop (at + length s) b))

-- ---- digits
-- more turns than the number's own bring no more digits
enough : (k j n : ℕ) → n < k → n < j → digits k n ≡ digits j n
unfolding digits
enough zero j n h l = absurd (not-suc-le-zero h)
enough (suc k) zero n h l = absurd (not-suc-le-zero l)
enough (suc k) (suc j) n h l = go (λ a. enough k j (n / 10) (omega arith) (omega arith)) (dec_lt n 10)
  where
    go : (10 ≤ n → digits k (n / 10) ≡ digits j (n / 10)) → Dec (n < 10) → pick (ltb n 10) [] (digits k (n / 10)) ++ ((48 + n % 10) ∷ []) ≡ pick (ltb n 10) [] (digits j (n / 10)) ++ ((48 + n % 10) ∷ [])
    go more (yes a) = let z = lt-ltb n 10 a in rw z
    go more (no a) = let z = le-ltb n 10 (omega arith) in rw (z, more (omega arith))

pub decimal_small : (n : ℕ) → n < 10 → decimal n ≡ (48 + n) ∷ []
unfolding digits
decimal_small n h = let z = lt-ltb n 10 h in rw (z, mod-eq_of_lt h)

pub decimal_more : (n : ℕ) → 10 ≤ n → decimal n ≡ decimal (n / 10) ++ ((48 + n % 10) ∷ [])
unfolding digits
decimal_more n h = let z = le-ltb n 10 h in rw z (ap (λ (l : List ℕ). l ++ ((48 + n % 10) ∷ [])) (enough n (suc (n / 10)) (n / 10) (omega arith) (omega arith)))

length_more : (n : ℕ) → 10 ≤ n → length (decimal n) ≡ length (decimal (n / 10)) + 1
length_more n h = ap length (decimal_more n h) ∙ length-append (decimal (n / 10)) ((48 + n % 10) ∷ [])

-- the needs of `put_decimal`: n has one digit, or its last one stands behind those of n / 10
pub small_room : (n at l : ℕ) → n < 10 → at + length (decimal n) ≤ l → at < l
small_room n at l h k = let e = ap length (decimal_small n h) in omega arith

pub small_put : (b b' : List ℕ) (n at r : ℕ) → n < 10 → Put b at ((48 + n) ∷ []) r b' → Put b at (decimal n) r b'
small_put b b' n at r h p = subst (λ (l : List ℕ). Put b at l r b') (sym (decimal_small n h)) p

pub more_room : (n at l : ℕ) → 10 ≤ n → at + length (decimal n) ≤ l → at + length (decimal (n / 10)) ≤ l
more_room n at l h k = let e = length_more n h in omega arith

pub last_room : (b b' : List ℕ) (n at r : ℕ) → 10 ≤ n → at + length (decimal n) ≤ length b → Put b at (decimal (n / 10)) r b' → length b' ≡ length b → r < length b'
last_room b b' n at r h k p e = let z = length_more n h in let w = p.next in omega arith

pub more_put : (b b' b'' : List ℕ) (n at r r' : ℕ) → 10 ≤ n → at + length (decimal n) ≤ length b → Put b at (decimal (n / 10)) r b' → Put b' r ((48 + n % 10) ∷ []) r' b'' → Put b at (decimal n) r' b''
more_put b b' b'' n at r r' h k p q =
    subst (λ (l : List ℕ). Put b at l r' b'') (sym (decimal_more n h)) (put_then b b' b'' (decimal (n / 10)) ((48 + n % 10) ∷ []) at r r' (omega arith) p q)

-- ---- numbers of few digits
-- one digit more than a tenth of it
one_more : (k n : ℕ) → 1 ≤ k → (10 ≤ n → length (decimal (n / 10)) ≤ k) → length (decimal n) ≤ k + 1
one_more k n h f = go (dec_lt n 10)
  where
    go : Dec (n < 10) → length (decimal n) ≤ k + 1
    go (yes a) = let e : length (decimal n) ≡ 1 = ap length (decimal_small n a) in omega arith
    go (no a) = let e = length_more n (omega arith) in let z = f (omega arith) in omega arith

two_digits : (n : ℕ) → n < 100 → length (decimal n) ≤ 2
two_digits n h = one_more 1 n (omega arith) (λ l. let e : length (decimal (n / 10)) ≡ 1 = ap length (decimal_small (n / 10) (omega arith)) in omega arith)

pub byte_digits : (n : ℕ) → n < 256 → length (decimal n) ≤ 3
byte_digits n h = one_more 2 n (omega arith) (λ l. two_digits (n / 10) (omega arith))

pub count-digits : (n : ℕ) → n ≤ most_steps → length (decimal n) ≤ count_digits
count-digits n h = one_more 4 n (omega arith) (λ l. one_more 3 (n / 10) (omega arith) (λ k. byte_digits (n / 10 / 10) (omega arith)))

-- ---- a line
pub number_room : (b : List ℕ) (n at : ℕ) → n < 256 → at + 3 ≤ length b → at + length (decimal n) ≤ length b
number_room b n at h k = let z = byte_digits n h in omega arith

pub number_put : (b b' : List ℕ) (n at r : ℕ) → n < 256 → Put b at (decimal n) r b' → PutWithin 3 b at (decimal n) r b'
number_put b b' n at r h p = record { put = p; few = let z = byte_digits n h in let w = p.next in omega arith }

pub one_digit_put : (b b' : List ℕ) (n at r : ℕ) → n < 10 → Put b at ((48 + n) ∷ []) r b' → PutWithin 3 b at (decimal n) r b'
one_digit_put b b' n at r h p = number_put b b' n at r (omega arith) (small_put b b' n at r h p)

pub two_digits_put : (b b' b'' : List ℕ) (n at r r' : ℕ) → 10 ≤ n → n < 100 → at + 3 ≤ length b → Put b at ((48 + n / 10) ∷ []) r b' → Put b' r ((48 + n % 10) ∷ []) r' b'' → PutWithin 3 b at (decimal n) r' b''
two_digits_put b b' b'' n at r r' h l k p q =
    let s : n < 256 = omega arith in
    number_put b b'' n at r' s (more_put b b' b'' n at r r' h (number_room b n at s k) (small_put b b' (n / 10) at r (omega arith) p) q)

pub put_none : (b : List ℕ) (at : ℕ) → Put b at [] at b
put_none b at = record {
  next = let z : at + 0 ≡ at = omega arith in sym z;
  bytes = let z : at + 0 ≡ at = omega arith in sym (ap₂ (λ (x : List ℕ) (n : ℕ). x ++ drop n b) (append-nil (take at b)) z ∙ take-append-drop at b);
}

pub hidden_put : (b : List ℕ) (at a : ℕ) (s : Bool) → not s ≡ true → PutWithin 4 b at (shown_actual s a) at b
hidden_put b at a true e = absurd (let z : ◌≡◌ {A = ℕ} 0 1 = cc in omega arith)
hidden_put b at a false e = record { put = put_none b at; few = omega arith }

pub shown_put : (b b' b'' : List ℕ) (at a r r' : ℕ) (s : Bool) → not s ≡ false → at + 4 ≤ length b → Put b at (space ∷ []) r b' → PutWithin 3 b' r (decimal a) r' b'' → PutWithin 4 b at (shown_actual s a) r' b''
shown_put b b' b'' at a r r' false e h p q = absurd (let z : ◌≡◌ {A = ℕ} 0 1 = cc in omega arith)
shown_put b b' b'' at a r r' true e h p q = record { put = put_then b b' b'' (space ∷ []) (decimal a) at r r' (omega arith) p q.put; few = let w = p.next in let v = q.few in omega arith }

-- the first k of four actuals, one by one
shown_are : (k a0 a1 a2 a3 : ℕ) → shown_actual (ltb 0 k) a0 ++ (shown_actual (ltb 1 k) a1 ++ (shown_actual (ltb 2 k) a2 ++ shown_actual (ltb 3 k) a3)) ≡ spaced (take k (a0 ∷ a1 ∷ a2 ∷ a3 ∷ []))
shown_are zero a0 a1 a2 a3 = refl
shown_are (suc zero) a0 a1 a2 a3 = refl
shown_are (suc (suc zero)) a0 a1 a2 a3 = refl
shown_are (suc (suc (suc zero))) a0 a1 a2 a3 = refl
shown_are (suc (suc (suc (suc k)))) a0 a1 a2 a3 =
    rw (lt-ltb 0 (suc (suc (suc (suc k)))) (omega arith), lt-ltb 1 (suc (suc (suc (suc k)))) (omega arith), lt-ltb 2 (suc (suc (suc (suc k)))) (omega arith), lt-ltb 3 (suc (suc (suc (suc k)))) (omega arith))
    (ap (λ (x : List ℕ). (space ∷ decimal a0) ++ ((space ∷ decimal a1) ++ ((space ∷ decimal a2) ++ x))) (sym (append-nil (space ∷ decimal a3))
    ∙ ap (λ (l : List ℕ). (space ∷ decimal a3) ++ spaced l) (sym (take-nil k))))

pub actuals_put : (b b1 b2 b3 b4 : List ℕ) (at r1 r2 r3 r4 k a0 a1 a2 a3 : ℕ) → at + 16 ≤ length b
    → PutWithin 4 b at (shown_actual (ltb 0 k) a0) r1 b1 → PutWithin 4 b1 r1 (shown_actual (ltb 1 k) a1) r2 b2
    → PutWithin 4 b2 r2 (shown_actual (ltb 2 k) a2) r3 b3 → PutWithin 4 b3 r3 (shown_actual (ltb 3 k) a3) r4 b4
    → PutWithin 16 b at (spaced (take k (a0 ∷ a1 ∷ a2 ∷ a3 ∷ []))) r4 b4
actuals_put b b1 b2 b3 b4 at r1 r2 r3 r4 k a0 a1 a2 a3 h q0 q1 q2 q3 =
    let s0 = shown_actual (ltb 0 k) a0 in
    let s1 = shown_actual (ltb 1 k) a1 in
    let s2 = shown_actual (ltb 2 k) a2 in
    let s3 = shown_actual (ltb 3 k) a3 in
    let l : at ≤ length b = omega arith in
    let w1 = put_then b b1 b2 s0 s1 at r1 r2 l q0.put q1.put in
    let w2 = put_then b b2 b3 (s0 ++ s1) s2 at r2 r3 l w1 q2.put in
    let w3 = put_then b b3 b4 (s0 ++ s1 ++ s2) s3 at r3 r4 l w2 q3.put in
    let same : s0 ++ s1 ++ s2 ++ s3 ≡ spaced (take k (a0 ∷ a1 ∷ a2 ∷ a3 ∷ [])) = simp append_assoc (shown_are k a0 a1 a2 a3) in
    record {
      put = subst (λ (x : List ℕ). Put b at x r4 b4) same w3;
      few = let u1 = q0.few in let u2 = q1.few in let u3 = q2.few in let u4 = q3.few in omega arith;
    }

pub line_put : (b b1 b2 b3 : List ℕ) (at r1 r2 r3 k c a0 a1 a2 a3 : ℕ) → at + 20 ≤ length b
    → PutWithin 3 b at (decimal c) r1 b1 → PutWithin 16 b1 r1 (spaced (take k (a0 ∷ a1 ∷ a2 ∷ a3 ∷ []))) r2 b2 → Put b2 r2 (newline ∷ []) r3 b3
    → PutWithin 20 b at (line k (record { command = c; a0 = a0; a1 = a1; a2 = a2; a3 = a3 })) r3 b3
line_put b b1 b2 b3 at r1 r2 r3 k c a0 a1 a2 a3 h p q e =
    let s = spaced (take k (a0 ∷ a1 ∷ a2 ∷ a3 ∷ [])) in
    let l : at ≤ length b = omega arith in
    record {
      put = put_then b b2 b3 (decimal c ++ s) (newline ∷ []) at r2 r3 l (put_then b b1 b2 (decimal c) s at r1 r2 l p.put q.put) e;
      few = let v = e.next in let u = p.few in let w = q.few in omega arith;
    }

-- ---- the first line
pub head_put : (b b0 b1 b2 w : List ℕ) (n r0 r1 r2 : ℕ) → Put b 0 w r0 b0 → Put b0 r0 (decimal n) r1 b1 → Put b1 r1 (newline ∷ []) r2 b2 → Put b 0 (head w n) r2 b2
head_put b b0 b1 b2 w n r0 r1 r2 p q e =
    put_then b b1 b2 (w ++ decimal n) (newline ∷ []) 0 r1 r2 (omega arith) (put_then b b0 b1 w (decimal n) 0 r0 r1 (omega arith) p q) e
