-- What the number of an answer says of it.
use mathlib.Core.Path.{sym, ◌∙◌}
use Rattle.std.specs.Prelude.{ℕ, ◌≡◌, ◌<◌, Result, Ok, Err, IsErrAnd}
use Rattle.refusals.specs.declared.Refusal.{Refusal}
use Rattle.refusals.specs.declared.Refusal.TheVariants.{FileLength, RightCount, PairCount, SectionPlace, SectionLength, KindByte, CellRights, CommandCounts, CommandParts, CarriedRights, NoCommand, Actuals, Conditions, Operations, TraceLength, NoRight, SeveralOperations, TooManyNames, ShortBuffer, NeededCells, TrustedNames, LongSheet}
use Rattle.refusals.specs.Numbers.{number_of, code}
use native.Mathlib.Omega.{arith}

-- every refusal has a number
pub number_above : (r : Refusal) → 0 < number_of r
number_above FileLength = omega arith
number_above RightCount = omega arith
number_above PairCount = omega arith
number_above SectionPlace = omega arith
number_above SectionLength = omega arith
number_above KindByte = omega arith
number_above CellRights = omega arith
number_above CommandCounts = omega arith
number_above CommandParts = omega arith
number_above CarriedRights = omega arith
number_above NoCommand = omega arith
number_above Actuals = omega arith
number_above Conditions = omega arith
number_above Operations = omega arith
number_above TraceLength = omega arith
number_above NoRight = omega arith
number_above SeveralOperations = omega arith
number_above TooManyNames = omega arith
number_above ShortBuffer = omega arith
number_above NeededCells = omega arith
number_above TrustedNames = omega arith
number_above LongSheet = omega arith

-- an answer with a value has the number 0, and one that refuses has another
pub code_ok : {A : Type 0} (x : Result A Refusal) (a : A) → x ≡ Ok a → code x ≡ 0
code_ok x a e = rw e

pub code_err : {A : Type 0} (x : Result A Refusal) (r : Refusal) → x ≡ Err r → code x ≡ number_of r
code_err x r e = rw e

-- the number is handed on by a `?`: y has the error of x
pub code_on : {A B : Type 0} (x : Result A Refusal) (y : Result B Refusal) (r : Refusal) → x ≡ Err r → IsErrAnd y (λ e. e ≡ r) → code y ≡ code x
code_on x (Ok b) r e h = elim h [ ]
code_on x (Err d) r e h = rw (e, h)

-- an answer that has a value refuses nothing, and one that refuses has the number of its error
pub code_passed : {A : Type 0} (x : Result A Refusal) (a : A) (n : ℕ) → code x ≡ n → x ≡ Ok a → n ≡ 0
code_passed x a n d e = sym d ∙ code_ok x a e

pub code_refused : {A : Type 0} (x : Result A Refusal) (r : Refusal) (n : ℕ) → code x ≡ n → x ≡ Err r → n ≡ number_of r
code_refused x r n d e = sym d ∙ code_err x r e

-- what a `?` hands on: y has the error r, whose number a definition says
pub code_handed : {B : Type 0} (y : Result B Refusal) (r : Refusal) (n : ℕ) → IsErrAnd y (λ e. e ≡ r) → number_of r ≡ n → code y ≡ n
code_handed (Ok b) r n h d = elim h [ ]
code_handed (Err e) r n h d = rw h d
