-- A step that is looked for: the first call that makes it.
use Rattle.std.specs.Prelude.{ℕ, ◌+◌, ◌*◌, ◌≤◌, ◌<◌, ◌≡◌, Bool, true, false, List, ltb, get_or, Option as Answered, Some, None}
use Rattle.std.proofs.Math.Option.{Option, none, some}
use Rattle.cases.specs.Cases.{pick}
use Rattle.rights.specs.Rights.{has, delete}
use Rattle.protection.specs.Limits.{names}
use Rattle.protection.specs.State.{State}
use Rattle.protection.specs.Command.{Command, System, Call, actuals}
use Rattle.protection.specs.Execution.{take_out}
use Rattle.protection.specs.Judge.{first_in, places_of, operation_in, four_of, call_at, allowed, first_call}
use Rattle.matrix.specs.Matrices.{state_of}
use Rattle.matrix.specs.declared.Matrix.{Matrix}
use Rattle.masks.specs.Told.{replaced}
use Rattle.masks.specs.declared.Tables.{Tables}
use Rattle.commands.specs.Contents.{missing, meaning}
use Rattle.queries.specs.Useful.{touched_by, touches_at}
use Rattle.queries.specs.Sought.{Seen}
use Rattle.queries.specs.declared.Touch.{Touch}
use Rattle.policy.specs.Contents.{system_of}
use Rattle.policy.specs.Fits.{PolicyFits}
use Rattle.policy.specs.declared.Policy.{Policy}
use Rattle.visits.specs.Engine.{SingleSteps}
use Rattle.calls.specs.declared.Call.{Call as CodeCall}

-- ---- the struct `Call`: a call that was found, or nothing
abbrev pub call_of : CodeCall → Call
call_of x = four_of x.rule x.actuals

abbrev pub found_call : Answered CodeCall → Option Call
found_call (Some x) = some (call_of x)
found_call None = none

-- ---- a step that is looked for, in state m
-- the call makes it, and is allowed
abbrev pub touching : System → State → Touch → Command → Call → Bool
touching S m w C x = elim (touched_by w (actuals x) (operation_in C)) [ true ↦ allowed S m x | false ↦ false ]

-- the state once the right is gone from the cell: there an enter of the right returns it
abbrev pub gone_from : Touch → State → State
gone_from w m = take_out m w.right w.subject w.object

-- and the masks: the cell meets what the rights that stay carry
abbrev pub masks_without : List ℕ → Touch → List ℕ → Tables → Tables
masks_without carried w cells t = replaced carried t w.subject w.object (delete (get_or cells (names * w.subject + w.object) 0) w.right)

-- the first of these calls, commands in order
unfoldable pub first_touching : System → State → Touch → ℕ → Option Call
first_touching S m w n = first_call (touching S m w) n 0 S.commands

-- the first place of command C
unfoldable pub place_touching : System → State → Touch → ℕ → Command → ℕ
place_touching S m w n C = first_in (touches_at S m w C n) (places_of C n) 0

-- the first call of command C, number i
unfoldable pub touching_in : System → State → Touch → ℕ → ℕ → Command → Option Call
touching_in S m w n i C = pick (ltb (place_touching S m w n C) (places_of C n)) (some (call_at i C n (place_touching S m w n C))) none

-- it was found, in every system under which the masks are seen
pub record TouchingFound (i : ℕ) (C : Command) (n : ℕ) (m : Matrix) (t : Tables) (w : Touch) (x : Answered CodeCall) : Type 0 where
  pub of : (S : System) → Seen S m t → found_call x ≡ touching_in S (state_of m) w n i C

-- no command outside the mask has such a call
pub record Covers (p : Policy) (n : ℕ) (w : Touch) (m : State) (mask : ℕ) : Type 0 where
  pub none_else : (i : ℕ) → i < p.commands → has mask i ≡ false → touching_in (system_of p) m w n i (meaning (get_or p.command i missing)) ≡ none

-- ---- what is asked
pub record Closable (p : Policy) (r : ℕ) (m : Matrix) (t : Tables) : Type 0 where
  pub fits : PolicyFits p
  pub single : SingleSteps p
  pub seen : Seen (system_of p) m t
  pub right : r < p.rights

-- for a step
pub record Lookable (p : Policy) (n : ℕ) (w : Touch) (m : Matrix) (t : Tables) : Type 0 where
  pub closable : Closable p w.right m t
  pub name : n ≤ names
  pub row : w.subject < names
  pub column : w.object < names
