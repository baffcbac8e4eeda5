use Rattle.cases.proofs.Picks.{tests}
use Rattle.layout.specs.Refusals.{header_refusal}
use Rattle.layout.proofs.check_header.Goals as goal

pub returns-then-file-lt2 : goal.returns-then-file-lt2
unfolding header_refusal
returns-then-file-lt2 c = search tests depth 12

pub returns-then-file-gt-BYTES : goal.returns-then-file-gt-BYTES
unfolding header_refusal
returns-then-file-gt-BYTES c = search tests depth 12

pub returns-then-g-lt1 : goal.returns-then-g-lt1
unfolding header_refusal
returns-then-g-lt1 c = search tests depth 12

pub returns-then-g-gt-RIGHTS : goal.returns-then-g-gt-RIGHTS
unfolding header_refusal
returns-then-g-gt-RIGHTS c = search tests depth 12

pub returns-then-n-lt-FEWEST : goal.returns-then-n-lt-FEWEST
unfolding header_refusal
returns-then-n-lt-FEWEST c = search tests depth 12

pub returns-then-n-gt-MOST : goal.returns-then-n-gt-MOST
unfolding header_refusal
returns-then-n-gt-MOST c = search tests depth 12

pub returns-then-file-n : goal.returns-then-file-n
unfolding header_refusal
returns-then-file-n c = search tests depth 12

pub returns : goal.returns
unfolding header_refusal
returns c = search tests depth 12
