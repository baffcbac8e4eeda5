-- Trusted hands left out (document 02, C-15): the part of a state that stays when names are dropped, and its judge.
use Rattle.std.specs.Prelude.{Bool, not, ◌&&◌, ◌||◌, ℕ}
use Rattle.cases.specs.Cases.{pick}
use Rattle.protection.specs.State.{absent, State}
use Rattle.protection.specs.Command.{System}
use Rattle.protection.specs.Judge.{Verdict, judge_beside}

-- "drop their rows and columns": R tells which names are dropped
abbrev pub without : (ℕ → Bool) → State → State
without R m = record { kind = λ x. pick (R x) absent (m.kind x); cell = λ s o q. not (R s || R o) && m.cell s o q }

-- "judge the part that stays; created names are the lowest absent in the whole matrix": absent in the part, and not dropped
abbrev pub judge_part : System → (ℕ → Bool) → ℕ → State → Verdict
judge_part S R r m = judge_beside S R r (without R m)
