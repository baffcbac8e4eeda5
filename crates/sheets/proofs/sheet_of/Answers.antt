use Rattle.sheets.proofs.Promise.{first_refused, first_answered}
use Rattle.sheets.proofs.sheet_of.Goals as goal

pub returns-then-n-gt-SHEET : goal.returns-then-n-gt-SHEET
returns-then-n-gt-SHEET c = search first_refused

pub returns : goal.returns
returns c = search first_answered
