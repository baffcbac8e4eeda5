-- The answer for a part as numbers at the C boundary.
use Rattle.std.specs.Prelude.{ℕ, ◌≡◌, List, length}
use Rattle.safety.specs.Demand3.{steps_written}
use Rattle.safety.specs.Judgement.{judgement_code}
use Rattle.parts.specs.Parts.{part_judgement, PartJudged}

-- the answer, its count of steps, and its whole promise, `PartJudged`, with the buffer b' after it
pub record PartAnswer (f : List ℕ) (right : ℕ) (l b : List ℕ) (r steps : ℕ) (b' : List ℕ) : Type 0 where
  pub code : r ≡ judgement_code (part_judgement f right l (length b))
  pub written : steps ≡ steps_written (part_judgement f right l (length b))
  pub judged : PartJudged f right l b (part_judgement f right l (length b)) b'
