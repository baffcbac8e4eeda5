-- What the reader of a command hands out. Assumes nothing.
use Prim.Native.Nat.{ℕ, zero, suc, ◌+◌, ◌*◌, ◌-◌, ◌≤◌}
use mathlib.Core.Path.{◌≡◌, refl, sym, ap, ap₂, ◌∙◌}
use mathlib.Core.List.{List, ◌++◌}
use native.Mathlib.Nat.{sub-zero, not-suc-le-zero}
use native.Mathlib.Omega.{arith}
use lib.ListN.{length, take, drop, replicate, length-drop}
use lib.Seq.{take_all, length-take-le, drop-drop}
use Rattle.layout.specs.File.{byte}
use Rattle.commands.specs.Refusals.{command_refusal}
use Rattle.commands.specs.Contents.{padded, command_of}
use Rattle.commands.specs.declared.Command.{Command}
use Rattle.commands.proofs.Accepted.{command_accepted}

drop_replicate : (n m : ℕ) → n ≤ m → drop {A = ℕ} n (replicate m 0) ≡ replicate (m - n) 0
drop_replicate zero m h = ap (λ (k : ℕ). replicate {A = ℕ} k 0) (sym (sub-zero m))
drop_replicate (suc n) zero h = absurd (not-suc-le-zero h)
drop_replicate (suc n) (suc m) h = let e : suc m - suc n ≡ m - n = omega arith in rw e (drop_replicate n m (omega arith))

-- a list in the place of the first n zeros
pub copied : (size n : ℕ) (l x : List ℕ) → n ≤ size → length l ≡ n → x ≡ l → x ++ drop n (replicate size 0) ≡ padded size l
copied size n l x h e d = ap₂ (λ (a b : List ℕ). a ++ b) d (drop_replicate n size h) ∙ ap (λ (k : ℕ). l ++ replicate (size - k) 0) (sym e)

-- the section behind its three counts, in two parts
module _ (p : List ℕ) where
  abbrev behind : List ℕ
  behind = take (length p - 3) (drop 3 p)

  behind_is : behind ≡ drop 3 p
  behind_is = take_all (length p - 3) (drop 3 p) (simp length-drop (omega arith))

  pub command_is : (a b x y : List ℕ) → byte p 1 ≤ 4 → byte p 2 ≤ 6 → length p ≡ 3 + 3 * byte p 1 + 4 * byte p 2
      → a ≡ take (3 * byte p 1) behind → b ≡ drop (3 * byte p 1) behind → x ≡ a → y ≡ b
      → ◌≡◌ {A = Command} (record { parameters = byte p 0; conditions = byte p 1; operations = byte p 2; condition = x ++ drop (length a) (replicate 12 0); operation = y ++ drop (length b) (replicate 24 0) }) (command_of p)
  unfolding command_of
  command_is a b x y hc hm e da db dx dy =
      let ea : a ≡ take (3 * byte p 1) (drop 3 p) = da ∙ ap (take (3 * byte p 1)) behind_is in
      let eb : b ≡ drop (3 + 3 * byte p 1) p = db ∙ ap (drop (3 * byte p 1)) behind_is ∙ drop-drop (3 * byte p 1) 3 p in
      let n : length a ≡ 3 * byte p 1 = ap length ea ∙ length-take-le (3 * byte p 1) (drop 3 p) (simp length-drop (omega arith)) in
      let m : length b ≡ 4 * byte p 2 = ap length eb ∙ length-drop (3 + 3 * byte p 1) p ∙ omega arith in
      let whole : take (4 * byte p 2) (drop (3 + 3 * byte p 1) p) ≡ drop (3 + 3 * byte p 1) p = take_all (4 * byte p 2) (drop (3 + 3 * byte p 1) p) (simp length-drop (omega arith)) in
      let ex : x ++ drop (length a) (replicate 12 0) ≡ padded 12 (take (3 * byte p 1) (drop 3 p)) = copied 12 (length a) a x (omega arith) refl dx ∙ ap (padded 12) ea in
      let ey : y ++ drop (length b) (replicate 24 0) ≡ padded 24 (take (4 * byte p 2) (drop (3 + 3 * byte p 1) p)) = copied 24 (length b) b y (omega arith) refl dy ∙ ap (padded 24) (eb ∙ sym whole) in
      rw (ex, ey)

-- where no test refused the section
pub command_sizes : (g : ℕ) (p : List ℕ) → 0 ≡ command_refusal g p → (byte p 1 ≤ 4) × (byte p 2 ≤ 6) × (length p ≡ 3 + 3 * byte p 1 + 4 * byte p 2)
command_sizes g p e = let h = command_accepted g p (sym e) in (h.few_conditions, h.few_operations, h.size)
