use Rattle.cases.proofs.Picks.{on_is, on_isnt}
use Rattle.layout.specs.Refusals.{sizes_refusal}
use Rattle.layout.proofs.Tests.{on_given, on_not_given}
use Rattle.layout.proofs.check_sizes.Goals as goal

pub returns-then-word_at-ne-NAMES : goal.returns-then-word_at-ne-NAMES
unfolding sizes_refusal
returns-then-word_at-ne-NAMES c = search (on_is, on_isnt) depth 8

pub returns-then-word_at : goal.returns-then-word_at
unfolding sizes_refusal
returns-then-word_at c = search (on_is, on_isnt) depth 8

pub returns-then-word_at-g : goal.returns-then-word_at-g
unfolding sizes_refusal
returns-then-word_at-g c = search (on_is, on_isnt, on_given, on_not_given) depth 8

pub returns : goal.returns
unfolding sizes_refusal
returns c = search (on_is, on_isnt, on_given, on_not_given) depth 8
