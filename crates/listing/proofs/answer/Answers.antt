use Rattle.listing.proofs.Judging.{too_short, nothing_read, file_read}
use Rattle.listing.proofs.answer.Goals as goal

pub returns-then-out-lt-BYTES : goal.returns-then-out-lt-BYTES
returns-then-out-lt-BYTES c = search too_short

pub returns-then-input-eq0 : goal.returns-then-input-eq0
returns-then-input-eq0 c = search nothing_read

pub returns : goal.returns
returns c = search file_read
