-- What the desk program prints (document 01, "The desk program"): "Standard input: one byte, the right, then a file."
use Rattle.std.specs.Prelude.{ℕ, zero, suc, ◌+◌, ◌*◌, ◌/◌, ◌%◌, List, [], ◌∷◌, ◌++◌, ltb, get_or, take}
use Rattle.cases.specs.Cases.{pick}
use Rattle.protection.specs.Command.{Call}
use Rattle.commands.specs.Contents.{missing}
use Rattle.policy.specs.Contents.{policy_of}
use Rattle.policy.specs.declared.Policy.{Policy}
use Rattle.questions.specs.Refusals.{most_steps}
use Rattle.safety.specs.Judgement.{file_verdict, file_judgement}
use Rattle.safety.specs.Demand3.{Judgement, Refused, Safe, Unsafe}

-- ---- text, in ASCII
-- "SAFE ", "UNSAFE ", "REFUSED "
abbrev pub safe_word : List ℕ
safe_word = 83 ∷ 65 ∷ 70 ∷ 69 ∷ 32 ∷ []

abbrev pub unsafe_word : List ℕ
unsafe_word = 85 ∷ 78 ∷ 83 ∷ 65 ∷ 70 ∷ 69 ∷ 32 ∷ []

abbrev pub refused_word : List ℕ
refused_word = 82 ∷ 69 ∷ 70 ∷ 85 ∷ 83 ∷ 69 ∷ 68 ∷ 32 ∷ []

abbrev pub space : ℕ
space = 32

abbrev pub newline : ℕ
newline = 10

-- the digits of n, at most k of them: the last one behind those of n / 10, where there are any
unfoldable pub digits : ℕ → ℕ → List ℕ
digits zero n = []
digits (suc k) n = pick (ltb n 10) [] (digits k (n / 10)) ++ ((48 + n % 10) ∷ [])

-- n in decimal; no number has more digits than one more than itself
abbrev pub decimal : ℕ → List ℕ
decimal n = digits (suc n) n

-- each number with a space before it
abbrev pub spaced : List ℕ → List ℕ
spaced [] = []
spaced (a ∷ l) = (space ∷ decimal a) ++ spaced l

-- ---- the lines
-- "Every line ends in a newline."
abbrev pub head : List ℕ → ℕ → List ℕ
head word n = word ++ decimal n ++ (newline ∷ [])

-- "a line a step (rule number, then the k actuals, single spaces)"
abbrev pub line : ℕ → Call → List ℕ
line k x = decimal x.command ++ spaced (take k (x.a0 ∷ x.a1 ∷ x.a2 ∷ x.a3 ∷ [])) ++ (newline ∷ [])

-- the number k of command i's parameters. The judge's steps are of commands that the policy has; a number past the last would have none.
abbrev pub parameters_of : Policy → ℕ → ℕ
parameters_of p i = (get_or p.command i missing).parameters

abbrev pub step_line : Policy → Call → List ℕ
step_line p x = line (parameters_of p x.command) x

abbrev pub lines : Policy → List Call → List ℕ
lines p [] = []
lines p (x ∷ xs) = step_line p x ++ lines p xs

-- ---- the whole
-- "It prints `SAFE n`, or `UNSAFE n` followed by a line a step .., or `REFUSED n`." "Its n is the steps written, or the refusal."
abbrev pub printed : Policy → Judgement → List Call → List ℕ
printed p (Refused n) xs = head refused_word n
printed p (Safe n) xs = head safe_word n
printed p (Unsafe n) xs = head unsafe_word n ++ lines p xs

-- "Its buffer is long enough for every accepted file of at most 30 names." The proofs have it as `long-enough`.
abbrev pub buffer_bytes : ℕ
buffer_bytes = 5 * most_steps

-- "Empty input: `REFUSED 1`."
abbrev pub listing : List ℕ → List ℕ
listing [] = head refused_word 1
listing (r ∷ f) = printed (policy_of f) (file_judgement f r buffer_bytes) (file_verdict f r).steps
