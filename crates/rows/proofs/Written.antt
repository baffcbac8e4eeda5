-- Bytes that the definitions of Build make, written out. Assumes nothing.
use mathlib.Core.Path.{◌≡◌, refl}
use mathlib.Core.List.{[], ◌∷◌}
use lib.ListN.{replicate}
use Rattle.rows.specs.Build.{file_with, set_at, rule_bytes, if_in, enter, call, trace}

-- rights 8 and 11 are 256 and 2,048: "two bytes low byte first"
set_written : set_at 2 2304 (replicate 4 0) ≡ 0 ∷ 0 ∷ 0 ∷ 9 ∷ []
set_written = refl

-- g 2 and two sections, of one byte and of 258
file_written : file_with 2 ((7 ∷ []) ∷ replicate 258 3 ∷ []) ≡ 2 ∷ 2 ∷ 10 ∷ 0 ∷ 1 ∷ 0 ∷ 11 ∷ 0 ∷ 2 ∷ 1 ∷ 7 ∷ replicate 258 3
file_written = refl

-- (a,b): if 1 in (b,a) enter 0 into (a,b)
rule_written : rule_bytes 2 (if_in 1 1 0 ∷ []) (enter 0 0 1 ∷ []) ≡ 2 ∷ 1 ∷ 1 ∷ 1 ∷ 1 ∷ 0 ∷ 1 ∷ 0 ∷ 0 ∷ 1 ∷ []
rule_written = refl

step-written : trace (call 3 (0 ∷ 31 ∷ []) ∷ []) ≡ 3 ∷ 0 ∷ 31 ∷ 255 ∷ 255 ∷ []
step-written = refl
