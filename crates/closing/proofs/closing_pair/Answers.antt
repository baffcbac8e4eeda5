use Rattle.closing.proofs.StartCells.{none_taken, none_returned, sought_in, sought_found}
use Rattle.closing.proofs.closing_pair.Goals as goal

pub returns-then-taking-eq0 : goal.returns-then-taking-eq0
returns-then-taking-eq0 c = search none_taken

pub returns-then-returning-eq0 : goal.returns-then-returning-eq0
returns-then-returning-eq0 c = search none_returned

pub first_pair-requires : goal.first_pair-requires
first_pair-requires c = search sought_in

pub returns : goal.returns
returns c = search sought_found
