-- A need's answer as numbers at the C boundary.
use Rattle.std.specs.Prelude.{ℕ, ◌≡◌, List, length}
use Rattle.needs.specs.Needed.{file_need, need_code, steps_taken, Needed}

-- the answer, its count of steps, and its whole promise, `Needed`, with the buffer b' after it
pub record NeedAnswer (f l b : List ℕ) (r steps : ℕ) (b' : List ℕ) : Type 0 where
  pub code : r ≡ need_code (file_need f l (length b))
  pub written : steps ≡ steps_taken (file_need f l (length b))
  pub needed : Needed f l b (file_need f l (length b)) b'
