-- What came in two reads, one behind the other. Assumes nothing.
use Rattle.std.proofs.Common.{◌≡◌, ℕ, ◌+◌, List, ◌++◌, take, drop, sym, ap, subst, ◌∙◌}
use Rattle.std.specs.declared.option.Option.{Option}
use Rattle.std.specs.Io.KnownBytes.{Consumes}
use Rattle.std.proofs.KnownBytes.{Consumes-trans}
use Rattle.std.proofs.Math.Seq.{take-add}

pub came_behind : (a b c : Option (List ℕ)) (n m : ℕ) (old new : List ℕ) → take n new ≡ take n old → Consumes a b (take n old) → Consumes b c (take m (drop n new)) → Consumes a c (take (n + m) new)
came_behind a b c n m old new front before read = subst (Consumes a c) (sym (take-add n m new ∙ ap (λ l. l ++ take m (drop n new)) front)) (Consumes-trans a b c (take n old) (take m (drop n new)) before read)
