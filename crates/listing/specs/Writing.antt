-- Bytes written into a lent buffer one after the other.
use Rattle.std.specs.Prelude.{ℕ, ◌+◌, ◌*◌, ◌≤◌, ◌≡◌, Bool, List, [], ◌∷◌, ltb, length}
use Rattle.cases.specs.Cases.{pick}
use Rattle.policy.specs.Contents.{over}
use Rattle.questions.specs.Refusals.{most_steps}
use Rattle.listing.specs.Listing.{space, decimal, listing}

-- the bytes s, written into b from a place on; r is the place behind them
pub record Put (b : List ℕ) (at : ℕ) (s : List ℕ) (r : ℕ) (b' : List ℕ) : Type 0 where
  pub next : r ≡ at + length s
  pub bytes : b' ≡ over b at s

-- at most so many bytes
pub record PutWithin (most : ℕ) (b : List ℕ) (at : ℕ) (s : List ℕ) (r : ℕ) (b' : List ℕ) : Type 0 where
  pub put : Put b at s r b'
  pub few : r ≤ at + most

-- at most so many bytes: a number of a line, which is a byte; an actual behind its space; a line of a command's number, four actuals and a newline
abbrev pub number_bytes : ℕ
number_bytes = 3

abbrev pub actual_bytes : ℕ
actual_bytes = 1 + number_bytes

abbrev pub line_bytes : ℕ
line_bytes = number_bytes + 4 * actual_bytes + 1

-- the number of the first line has at most so many digits: it is at most `most_steps`
abbrev pub count_digits : ℕ
count_digits = 5

-- the first line: `UNSAFE`, a space, a number and a newline
abbrev pub head_bytes : ℕ
head_bytes = 6 + 1 + count_digits + 1

-- an actual of a line, where it is one of the k
abbrev pub shown_actual : Bool → ℕ → List ℕ
shown_actual b a = pick b (space ∷ decimal a) []

-- room for every listing: a first line, and a line a step
abbrev pub listing_bytes : ℕ
listing_bytes = head_bytes + line_bytes * most_steps

-- n steps are in the step buffer t, and their lines fit into b
pub record Room (b : List ℕ) (n : ℕ) (t : List ℕ) : Type 0 where
  pub few : n ≤ most_steps
  pub steps : 5 * n ≤ length t
  pub lines : listing_bytes ≤ length b

-- a buffer that is shorter is left as it was; else the listing stands at its front, and the rest keeps its bytes
pub record Answered (input b : List ℕ) (r : ℕ) (b' : List ℕ) : Type 0 where
  pub count : r ≡ pick (ltb (length b) listing_bytes) 0 (length (listing input))
  pub bytes : b' ≡ pick (ltb (length b) listing_bytes) b (over b 0 (listing input))
