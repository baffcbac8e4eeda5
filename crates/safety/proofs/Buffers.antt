-- The buffer as the steps written in front of what it held before. Assumes nothing.
use Prim.Native.Nat.{ℕ, zero, suc, ◌+◌, ◌*◌, ◌≤◌}
use mathlib.Core.Path.{◌≡◌, refl, sym, ap, ap₂, ◌∙◌}
use mathlib.Core.List.{List, [], ◌∷◌, ◌++◌}
use native.Mathlib.Omega.{arith}
use lib.ListN.{length, get_or, take, drop}
use lib.Seq.{take_at}
use Rattle.cases.specs.Cases.{tabulate}
use Rattle.cases.proofs.Lists.{length_tabulate}
use Rattle.protection.specs.Command.{Call}
use Rattle.trace.specs.Traces.{step_call, calls}
use Rattle.safety.specs.Judgement.{bytes_of, filled}

tabulate_later : {A : Type 0} (f g : ℕ → A) → ((i : ℕ) → f (suc i) ≡ g i) → (n j : ℕ) → tabulate f n (suc j) ≡ tabulate g n j
tabulate_later f g h zero j = refl
tabulate_later f g h (suc n) j = ap₂ ◌∷◌ (h j) (tabulate_later f g h n (suc j))

five : (k : ℕ) → 5 * suc k ≡ suc (suc (suc (suc (suc (5 * k)))))
five k = omega arith

-- a step further on is a step of the rest
call_later : (x y z u v : ℕ) (b : List ℕ) (i : ℕ) → step_call (x ∷ y ∷ z ∷ u ∷ v ∷ b) (suc i) ≡ step_call b i
call_later x y z u v b i =
    let e₁ : 5 * suc i + 1 ≡ suc (suc (suc (suc (suc (5 * i + 1))))) = omega arith in
    let e₂ : 5 * suc i + 2 ≡ suc (suc (suc (suc (suc (5 * i + 2))))) = omega arith in
    let e₃ : 5 * suc i + 3 ≡ suc (suc (suc (suc (suc (5 * i + 3))))) = omega arith in
    let e₄ : 5 * suc i + 4 ≡ suc (suc (suc (suc (suc (5 * i + 4))))) = omega arith in
    rw (e₁, e₂, e₃, e₄, five i)

calls_later : (x y z u v : ℕ) (b : List ℕ) (n : ℕ) → tabulate (step_call (x ∷ y ∷ z ∷ u ∷ v ∷ b)) n 1 ≡ calls b n
calls_later x y z u v b n = tabulate_later (step_call (x ∷ y ∷ z ∷ u ∷ v ∷ b)) (step_call b) (call_later x y z u v b) n 0

-- the first n steps of a buffer, as bytes, and the rest of it
bytes_back : (n : ℕ) (b : List ℕ) → 5 * n ≤ length b → bytes_of (calls b n) ++ drop (5 * n) b ≡ b
bytes_back zero b h = refl
bytes_back (suc n) [] h = absurd (omega arith)
bytes_back (suc n) (x ∷ []) h = absurd (omega arith)
bytes_back (suc n) (x ∷ y ∷ []) h = absurd (omega arith)
bytes_back (suc n) (x ∷ y ∷ z ∷ []) h = absurd (omega arith)
bytes_back (suc n) (x ∷ y ∷ z ∷ u ∷ []) h = absurd (omega arith)
bytes_back (suc n) (x ∷ y ∷ z ∷ u ∷ v ∷ b) h =
    ap₂ (λ (l d : List ℕ). x ∷ y ∷ z ∷ u ∷ v ∷ (l ++ d)) (ap bytes_of (calls_later x y z u v b n)) (ap (λ (k : ℕ). drop k (x ∷ y ∷ z ∷ u ∷ v ∷ b)) (five n))
    ∙ ap (λ (l : List ℕ). x ∷ y ∷ z ∷ u ∷ v ∷ l) (bytes_back n b (omega arith))

-- five bytes a step
pub bytes_length : (xs : List Call) → length (bytes_of xs) ≡ 5 * length xs
bytes_length [] = refl
bytes_length (x ∷ xs) = let z = bytes_length xs in omega arith

-- so many bytes of the buffer are the steps'
pub front_bytes : (xs : List Call) (d : List ℕ) → take (5 * length xs) (bytes_of xs ++ d) ≡ bytes_of xs
front_bytes xs d = take_at (bytes_of xs) d (5 * length xs) (bytes_length xs)

-- steps written in front are read back
pub calls_back : (xs : List Call) (d : List ℕ) → calls (bytes_of xs ++ d) (length xs) ≡ xs
calls_back [] d = refl
calls_back (x ∷ xs) d = ap (λ (l : List Call). x ∷ l) (calls_later x.command x.a0 x.a1 x.a2 x.a3 (bytes_of xs ++ d) (length xs) ∙ calls_back xs d)

-- and the rest stands behind them
pub rest_behind : (xs : List Call) (d : List ℕ) → drop (5 * length xs) (bytes_of xs ++ d) ≡ d
rest_behind [] d = refl
rest_behind (x ∷ xs) d = ap (λ (k : ℕ). drop k (bytes_of (x ∷ xs) ++ d)) (five (length xs)) ∙ rest_behind xs d

drop_same : (n : ℕ) (b b' : List ℕ) → length b' ≡ length b → ((k : ℕ) → n ≤ k → get_or b' k 0 ≡ get_or b k 0) → drop n b' ≡ drop n b
drop_same n [] [] e h = refl
drop_same n [] (x ∷ b') e h = absurd (omega arith)
drop_same n (x ∷ b) [] e h = absurd (omega arith)
drop_same zero (x ∷ b) (y ∷ b') e h = ap₂ ◌∷◌ (h 0 (omega arith)) (drop_same zero b b' (omega arith) (λ k l. h (suc k) (omega arith)))
drop_same (suc n) (x ∷ b) (y ∷ b') e h = drop_same n b b' (omega arith) (λ k l. h (suc k) (omega arith))

-- a buffer that kept its bytes behind the first n steps
pub buffer_filled : (n : ℕ) (b b' : List ℕ) → length b' ≡ length b → 5 * n ≤ length b' → ((k : ℕ) → 5 * n ≤ k → get_or b' k 0 ≡ get_or b k 0) → b' ≡ filled (calls b' n) b
buffer_filled n b b' e l h =
    sym (bytes_back n b' l) ∙ ap (λ (d : List ℕ). bytes_of (calls b' n) ++ d)
    (drop_same (5 * n) b b' e h ∙ ap (λ (k : ℕ). drop (5 * k) b) (sym (length_tabulate (step_call b') n 0)))
