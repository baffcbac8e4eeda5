-- What the cases are computed by: whoever unfolds `computed` unfolds all that its line names. Assumes nothing.
use Rattle.cases.specs.Cases.{iterate, all, any}
use Rattle.rights.specs.Rights.{number}
use Rattle.rights.specs.Bytes.{sets_in, bytes_of}
use Rattle.protection.specs.Size.{count}
use Rattle.protection.specs.Carrying.{chained, meets}
use Rattle.protection.specs.Judge.{lowest_free, rounds, judge_beside}
use Rattle.matrix.specs.Bytes.{kinds_of, cells_of}
use Rattle.matrix.specs.Refusals.{cell_fits, matrix_refusal}
use Rattle.carries.specs.Refusals.{carries_refusal}
use Rattle.layout.specs.File.{start_of}
use Rattle.layout.specs.Refusals.{header_refusal, pairs_refusal, sizes_refusal}
use Rattle.commands.specs.Steps.{step_read}
use Rattle.commands.specs.Refusals.{condition_fits, operation_fits, command_refusal}
use Rattle.commands.specs.Contents.{command_of}
use Rattle.policy.specs.Refusals.{commands_refusal}
use Rattle.policy.specs.Contents.{command_table, policy_of, written}
use Rattle.trace.specs.Replays.{replay_from}
use Rattle.safety.specs.Judgement.{caller_refusal}
use Rattle.needs.specs.Needed.{list_refusal}
use Rattle.parts.specs.Parts.{listed_in, trusted_refusal}
use Rattle.sheets.specs.Sheets.{sheet_refusal}
use Rattle.listing.specs.Listing.{digits}

unfoldable pub computed : Unit {0}
unfolding step_read iterate all any number sets_in bytes_of lowest_free rounds count chained meets judge_beside kinds_of cells_of cell_fits matrix_refusal carries_refusal start_of header_refusal pairs_refusal sizes_refusal condition_fits operation_fits command_refusal command_of commands_refusal command_table policy_of written replay_from caller_refusal list_refusal listed_in trusted_refusal sheet_refusal digits
computed = tt
