-- The judge's answer as numbers at the C boundary.
use Rattle.std.specs.Prelude.{ℕ, ◌≡◌, List, length}
use Rattle.safety.specs.Demand3.{steps_written}
use Rattle.safety.specs.Judgement.{file_judgement, judgement_code, Judged}

-- the judge's answer, its count of steps, and its whole promise, `Judged`, with the buffer b' after it
pub record JudgeAnswer (f : List ℕ) (right : ℕ) (b : List ℕ) (r steps : ℕ) (b' : List ℕ) : Type 0 where
  pub code : r ≡ judgement_code (file_judgement f right (length b))
  pub written : steps ≡ steps_written (file_judgement f right (length b))
  pub judged : Judged f right b (file_judgement f right (length b)) b'
