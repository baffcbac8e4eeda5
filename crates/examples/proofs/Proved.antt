-- The table has the rows that are named, every refusal is answered by one, and every row holds: its parts are joined. Assumes nothing.
use mathlib.Core.Path.{refl}
use Rattle.rows.proofs.Tests.{HoldEach, hold_joined}
use Rattle.filerows.proofs.Proved.{header_cases_hold, matrix_cases_hold, carry_cases_hold, rule_cases_hold}
use Rattle.runrows.proofs.Proved.{refused_cases_hold, done_cases_hold, replay_cases_hold}
use Rattle.sliprows.proofs.Proved.{slip_cases_hold}
use Rattle.askrows.proofs.Proved.{caller_cases_hold, round_cases_hold, create_cases_hold, closing_cases_hold, need_cases_hold, trusted_cases_hold, sheet_cases_hold}
use Rattle.carryrows.proofs.Proved.{met_cases_hold, carried_replay_cases_hold, carried_judge_cases_hold, carried_question_cases_hold}
use Rattle.widerows.proofs.Proved.{wide_run_cases_hold, wide_question_cases_hold, largest_cases_hold}
use Rattle.examples.specs.Table.{parts, table, AllCases}

-- a part before those behind it
infixr 40 ◌▸◌
abbrev ◌▸◌ : {A B : Type 0} → A → B → A × B
a ▸ b = (a, b)

each : HoldEach parts
each = slip_cases_hold ▸ header_cases_hold ▸ matrix_cases_hold ▸ carry_cases_hold ▸ rule_cases_hold ▸ refused_cases_hold ▸ done_cases_hold ▸ replay_cases_hold ▸ caller_cases_hold ▸ round_cases_hold ▸ create_cases_hold ▸ closing_cases_hold ▸ need_cases_hold ▸ trusted_cases_hold ▸ sheet_cases_hold ▸ met_cases_hold ▸ carried_replay_cases_hold ▸ carried_judge_cases_hold ▸ carried_question_cases_hold ▸ wide_run_cases_hold ▸ wide_question_cases_hold ▸ largest_cases_hold ▸ tt

pub all_cases : AllCases table
all_cases = record { named = refl; every_refusal = refl; hold = hold_joined parts each }
