use mathlib.Core.Path.{refl}
use Rattle.refusals.proofs.Codes.{number_above, code_handed}
use Rattle.policy.specs.Refusals.{refusal}
use Rattle.policy.proofs.Policies.{or_stop, or_next, matrix_inside, carries_inside, commands_inside, matrix_refuses, carries_refuse, all_read}
use Rattle.policy.proofs.read_policy.Goals as goal

pub returns-in_err-check_header-clause-refused : goal.returns-in_err-check_header-clause-refused
unfolding refusal
returns-in_err-check_header-clause-refused c = code_handed _ _ _ c.from_residual.ensures.1 (search (or_stop, or_next, number_above, c.in_err-check_header.ensures))

pub returns-in_err-check_pairs-clause-refused : goal.returns-in_err-check_pairs-clause-refused
unfolding refusal
returns-in_err-check_pairs-clause-refused c = code_handed _ _ _ c.from_residual-in_err-check_pairs.ensures.1 (search (or_stop, or_next, number_above, c.in_ok-check_header.ensures, c.in_err-check_pairs.ensures))

pub returns-in_err-check_sizes-clause-refused : goal.returns-in_err-check_sizes-clause-refused
unfolding refusal
returns-in_err-check_sizes-clause-refused c = code_handed _ _ _ c.from_residual-in_err-check_sizes.ensures.1 (search (or_stop, or_next, number_above, c.in_ok-check_header.ensures, c.in_ok-check_pairs.ensures, c.in_err-check_sizes.ensures))

pub matrix_of-matrix-requires : goal.matrix_of-matrix-requires
matrix_of-matrix-requires c = matrix_inside _ c.in_ok-check_header.ensures c.in_ok-check_pairs.ensures c.in_ok-check_sizes.ensures

pub returns-in_err-check-clause-refused : goal.returns-in_err-check-clause-refused
unfolding refusal
returns-in_err-check-clause-refused c = code_handed _ _ _ c.from_residual-in_err-check.ensures.1 (search (or_stop, or_next, number_above, c.in_ok-check_header.ensures, c.in_ok-check_pairs.ensures, c.in_ok-check_sizes.ensures, matrix_refuses, c.matrix_of-matrix.ensures, c.in_err-check.ensures))

pub carries_of-carries-requires : goal.carries_of-carries-requires
carries_of-carries-requires c = carries_inside _ c.in_ok-check_header.ensures c.in_ok-check_pairs.ensures c.in_ok-check_sizes.ensures

pub returns-in_err-check-2-clause-refused : goal.returns-in_err-check-2-clause-refused
unfolding refusal
returns-in_err-check-2-clause-refused c = code_handed _ _ _ c.from_residual-in_err-check-2.ensures.1 (search (or_stop, or_next, number_above, c.in_ok-check_header.ensures, c.in_ok-check_pairs.ensures, c.in_ok-check_sizes.ensures, matrix_refuses, c.matrix_of-matrix.ensures, c.in_ok-check.ensures, carries_refuse, c.carries_of-carries.ensures, c.in_err-check-2.ensures) depth 12)

pub read_commands-requires : goal.read_commands-requires
read_commands-requires c = (refl, commands_inside _ c.in_ok-check_header.ensures c.in_ok-check_pairs.ensures c.in_ok-check_sizes.ensures)

pub returns-in_err-command-clause-refused : goal.returns-in_err-command-clause-refused
unfolding refusal
returns-in_err-command-clause-refused c = code_handed _ _ _ c.from_residual-in_err-command.ensures.1 (search (or_next, c.in_ok-check_header.ensures, c.in_ok-check_pairs.ensures, c.in_ok-check_sizes.ensures, matrix_refuses, c.matrix_of-matrix.ensures, c.in_ok-check.ensures, carries_refuse, c.carries_of-carries.ensures, c.in_ok-check-2.ensures, c.in_err-command.ensures.refused) depth 12)

pub returns-clause-refused : goal.returns-clause-refused
unfolding refusal
returns-clause-refused c = search (or_next, c.in_ok-check_header.ensures, c.in_ok-check_pairs.ensures, c.in_ok-check_sizes.ensures, matrix_refuses, c.matrix_of-matrix.ensures, c.in_ok-check.ensures, carries_refuse, c.carries_of-carries.ensures, c.in_ok-check-2.ensures, c.in_ok-command.ensures.refused) depth 12

pub returns-clause-read : goal.returns-clause-read
returns-clause-read c = all_read _ _ _ _ _ _ c.matrix_of-matrix.ensures c.carries_of-carries.ensures c.carried-carried.ensures c.carriers-carriers.ensures c.in_ok-command.ensures.read
