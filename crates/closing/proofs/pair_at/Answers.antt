use Rattle.closing.proofs.OneCell.{cell_asked, cell_unreturned, covers_taken, cell_untaken, cell_not_back, covers_returned, cell_both}
use Rattle.closing.proofs.pair_at.Goals as goal

pub returns-then-returners-eq0 : goal.returns-then-returners-eq0
returns-then-returners-eq0 c = search cell_unreturned

pub first_call-requires : goal.first_call-requires
first_call-requires c = (search cell_asked, search covers_taken)

pub returns-in_err-taken : goal.returns-in_err-taken
returns-in_err-taken c = search (cell_untaken, c.in_err-taken.ensures)

pub first_return-requires : goal.first_return-requires
first_return-requires c = (search cell_asked, search covers_returned)

pub returns : goal.returns
returns c = search (cell_both, c.in_ok-taken.ensures, c.in_ok-returned.ensures)

pub returns-in_err-returned : goal.returns-in_err-returned
returns-in_err-returned c = search (cell_not_back, c.in_err-returned.ensures)
