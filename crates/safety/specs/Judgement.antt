-- The judge on a file (document 01, "Leak, replay and judge" and "Refused, by whom"): its refusals, its answer, what it leaves of the buffer, and what it
-- promises.
use Rattle.std.specs.Prelude.{ℕ, ◌*◌, ◌-◌, ◌≡◌, List, [], ◌∷◌, ◌++◌, eqb, leb, length, take, drop}
use Rattle.cases.specs.Cases.{pick}
use Rattle.protection.specs.State.{State}
use Rattle.protection.specs.Command.{System, Call}
use Rattle.protection.specs.Judge.{leak_of, Verdict, judge, Settled}
use Rattle.layout.specs.Refusals.{or_else}
use Rattle.policy.specs.Refusals.{refusal}
use Rattle.policy.specs.Contents.{file_state, file_system}
use Rattle.questions.specs.Refusals.{size_refusal}
use Rattle.trace.specs.Replays.{Leak, file_replay}
use Rattle.safety.specs.Demand3.{Judgement, Refused, Safe, Unsafe, Demand3}

-- ---- "Whoever calls for a verdict"
-- "21 right not below g. Judge only, in this order: 22 .. 23 .. 24 .." n is the buffer's length; 0 is no refusal
unfoldable pub caller_refusal : System → State → ℕ → ℕ → ℕ
caller_refusal S m r n = pick (leb S.rights r) 21 (size_refusal S m n)

-- the refusals of whoever wrote the file come first
unfoldable pub judge_refusal : List ℕ → ℕ → ℕ → ℕ
judge_refusal f r n = or_else (refusal f) (caller_refusal (file_system f) (file_state f) r n)

-- ---- the answer
-- what the rounds and the closing search come to on the file's matrix and rules
abbrev pub file_verdict : List ℕ → ℕ → Verdict
file_verdict f r = judge (file_system f) r (file_state f)

-- the enum `Judgement`: "The answer is the verdict and the number of steps written."
abbrev pub judgement_of : Verdict → Judgement
judgement_of v = pick v.unsafe (Unsafe (length v.steps)) (Safe (length v.steps))

-- the refusal, if it is not 0, comes before the verdict
abbrev pub judgement_by : ℕ → Verdict → Judgement
judgement_by refused v = pick (eqb refused 0) (judgement_of v) (Refused refused)

unfoldable pub file_judgement : List ℕ → ℕ → ℕ → Judgement
file_judgement f r n = judgement_by (judge_refusal f r n) (file_verdict f r)

-- at the C boundary: 0 safe, 255 unsafe, else the refusal; the steps written are `steps_written`, 0 where refused
abbrev pub judgement_code : Judgement → ℕ
judgement_code (Refused n) = n
judgement_code (Safe n) = 0
judgement_code (Unsafe n) = 255

-- ---- the buffer: "5 bytes a step: rule number and four actuals"
abbrev pub bytes_of : List Call → List ℕ
bytes_of [] = []
bytes_of (x ∷ xs) = x.command ∷ x.a0 ∷ x.a1 ∷ x.a2 ∷ x.a3 ∷ bytes_of xs

-- "They fill the front of the buffer, under safe too; the rest keeps its bytes."
abbrev pub filled : List Call → List ℕ → List ℕ
filled xs b = bytes_of xs ++ drop (5 * length xs) b

-- "A refusal .. changes no lent byte."
abbrev pub buffer_by : ℕ → Verdict → List ℕ → List ℕ
buffer_by refused v b = pick (eqb refused 0) (filled v.steps b) b

unfoldable pub file_buffer : List ℕ → ℕ → List ℕ → List ℕ
file_buffer f r b = buffer_by (judge_refusal f r (length b)) (file_verdict f r) b

-- ---- the promise
-- demand 3 on a file: where nothing is refused, of the answer and the buffer after it
abbrev pub FileDemand3 : List ℕ → ℕ → List ℕ → Judgement → List ℕ → Type 0
FileDemand3 f r b answer b' = judge_refusal f r (length b) ≡ 0 → Demand3 (file_system f) r (file_state f) b answer b'

-- for every input the answer and the buffer; and where it does not refuse, demand 3
pub record Judged (f : List ℕ) (r : ℕ) (b : List ℕ) (answer : Judgement) (b' : List ℕ) : Type 0 where
  pub answer_is : answer ≡ file_judgement f r (length b)
  pub buffer_is : b' ≡ file_buffer f r b
  pub demand3 : FileDemand3 f r b answer b'
  -- the rounds end with an enter of r or a round that does nothing, and not by the fuel
  pub settled : judge_refusal f r (length b) ≡ 0 → Settled (file_system f) (leak_of r) (file_state f)
  -- "the steps must replay": under unsafe the first 5 × n bytes are a trace whose leak is at step n − 1, the last
  pub replays : (n : ℕ) → answer ≡ Unsafe n → file_replay f (take (5 * n) b') r ≡ Leak (n - 1)
