-- What the rounds of a need come to, on a policy.
use Rattle.std.specs.Prelude.{ℕ, ◌≡◌, List}
use Rattle.protection.specs.Judge.{Progress, all_rounds}
use Rattle.protection.specs.Need.{held_of}
use Rattle.matrix.specs.Matrices.{state_of}
use Rattle.policy.specs.Contents.{system_of}
use Rattle.policy.specs.declared.Policy.{Policy}
use Rattle.goals.specs.Goals.{cells_in}
use Rattle.safety.specs.Judgement.{filled}
use Rattle.needs.specs.Needed.{Need, need_of}

abbrev pub need_rounds : Policy → List ℕ → Progress
need_rounds p l = all_rounds (system_of p) (held_of (cells_in l)) (state_of p.matrix)

pub record NeedRounded (p : Policy) (l b : List ℕ) (answer : Need) (b' : List ℕ) : Type 0 where
  pub answer_is : answer ≡ need_of (need_rounds p l)
  pub buffer_is : b' ≡ filled (need_rounds p l).steps b
