-- Trusted hands left out (document 02, C-15), on a file: the list of names and its refusal, the answer, what is left of the buffer, and what is promised.
use Rattle.std.specs.Prelude.{ℕ, zero, suc, ◌*◌, ◌-◌, ◌≡◌, Bool, false, not, ◌&&◌, ◌||◌, List, [], T, eqb, ltb, length, get_or, take}
use Rattle.cases.specs.Cases.{pick, all}
use Rattle.protection.specs.Limits.{names}
use Rattle.protection.specs.State.{State, object_in}
use Rattle.protection.specs.Execution.{unbounded}
use Rattle.protection.specs.Leak.{LeaksLast}
use Rattle.protection.specs.Judge.{leak_beside, Verdict, Settled}
use Rattle.protection.specs.Part.{without, judge_part}
use Rattle.layout.specs.Refusals.{or_else}
use Rattle.policy.specs.Contents.{file_state, file_system}
use Rattle.trace.specs.Traces.{calls}
use Rattle.trace.specs.Replays.{file_replay, Leak}
use Rattle.safety.specs.Demand3.{is_unsafe, steps_written, Demand3}
use Rattle.safety.specs.Judgement.{judge_refusal, judgement_by, file_judgement, buffer_by, Judged}
use Rattle.safety.specs.Demand3.{Judgement, Unsafe}

-- ---- "Take a list of names", a byte each
-- name x is one of the first n on the list
unfoldable pub listed_in : List ℕ → ℕ → ℕ → Bool
listed_in l zero x = false
listed_in l (suc n) x = eqb (get_or l n 0) x || listed_in l n x

-- the names that are dropped
abbrev pub left_out : List ℕ → ℕ → Bool
left_out l x = listed_in l (length l) x

-- the name is neither "absent, above 31" nor one of R
abbrev pub can_leave : State → (ℕ → Bool) → ℕ → Bool
can_leave m R x = (ltb x names && not (R x)) && object_in m x

-- "It refuses with 42, after 24, a listed name that is absent, above 31 or listed before."
unfoldable pub trusted_refusal : State → List ℕ → ℕ
trusted_refusal m l = pick (all (λ i. can_leave m (listed_in l i) (get_or l i 0)) (length l) 0) 0 42

-- "23 and 24 count the whole": the refusals of the judge on the whole file come first; n is the buffer's length
unfoldable pub part_refusal : List ℕ → ℕ → List ℕ → ℕ → ℕ
part_refusal f r l n = or_else (judge_refusal f r n) (trusted_refusal (file_state f) l)

-- ---- the answer
-- "drop their rows and columns, and judge the part that stays"
abbrev pub file_part : List ℕ → List ℕ → State
file_part f l = without (left_out l) (file_state f)

abbrev pub part_verdict : List ℕ → ℕ → List ℕ → Verdict
part_verdict f r l = judge_part (file_system f) (left_out l) r (file_state f)

unfoldable pub part_judgement : List ℕ → ℕ → List ℕ → ℕ → Judgement
part_judgement f r l n = judgement_by (part_refusal f r l n) (part_verdict f r l)

-- ---- the buffer, as the judge leaves it
unfoldable pub part_buffer : List ℕ → ℕ → List ℕ → List ℕ → List ℕ
part_buffer f r l b = buffer_by (part_refusal f r l (length b)) (part_verdict f r l) b

-- ---- the promise
pub record PartJudged (f : List ℕ) (r : ℕ) (l b : List ℕ) (answer : Judgement) (b' : List ℕ) : Type 0 where
  pub answer_is : answer ≡ part_judgement f r l (length b)
  pub buffer_is : b' ≡ part_buffer f r l b
  -- "Demand 3 holds of the part as a start of its own, but for how created names are picked."
  pub demand3 : part_refusal f r l (length b) ≡ 0 → Demand3 (file_system f) r (file_part f l) b answer b'
  -- the rounds end with an enter of r or a round that does nothing, and not by the fuel
  pub settled : part_refusal f r l (length b) ≡ 0 → Settled (file_system f) (leak_beside (left_out l) r) (file_part f l)
  -- "the part's steps must leak at their last step on the whole too", and nowhere sooner
  pub whole_leaks : T (is_unsafe answer) → LeaksLast unbounded (file_system f) r (file_state f) (calls b' (steps_written answer))
  -- they replay on the file
  pub replays : (n : ℕ) → answer ≡ Unsafe n → file_replay f (take (5 * n) b') r ≡ Leak (n - 1)
  -- "An unsafe part must mean an unsafe whole": with that buffer the judge says so
  pub whole_unsafe : T (is_unsafe answer) → T (is_unsafe (file_judgement f r (length b)))
  -- an empty list gives what the judge gives, byte for byte
  pub none_listed : l ≡ [] → Judged f r b answer b'
