-- What whoever reads a file may rest on, once it was not refused. Assumes nothing.
use Prim.Native.Nat.{ℕ}
use mathlib.Core.Path.{◌≡◌, sym, subst}
use mathlib.Core.List.{List}
use native.Mathlib.Omega.{arith}
use Rattle.protection.specs.Limits.{rights}
use Rattle.matrix.specs.Canonical.{Canonical}
use Rattle.matrix.proofs.Inverse.{canonical_wider}
use Rattle.layout.proofs.Accepted.{pairs_accepted, sizes_accepted}
use Rattle.policy.specs.Refusals.{refusal}
use Rattle.policy.specs.Layout.{MatrixInside}
use Rattle.policy.specs.Contents.{policy_of}
use Rattle.policy.specs.Fits.{PolicyFits}
use Rattle.policy.specs.declared.Policy.{Policy}
use Rattle.policy.proofs.Accepted.{Accepted, accepted}
use Rattle.policy.proofs.FileState.{policy_fits}

module _ (f : List ℕ) (p : Policy) (z : refusal f ≡ 0) (d : p ≡ policy_of f) where
  pub accepted_file : Accepted f
  accepted_file = accepted f z

  pub policy_fits_read : PolicyFits p
  policy_fits_read = subst PolicyFits (sym d) (policy_fits f accepted_file)

  pub matrix_canonical : Canonical rights p.matrix.kinds p.matrix.cells
  matrix_canonical = let F = policy_fits_read in canonical_wider p.rights rights p.matrix.kinds p.matrix.cells F.few_rights F.matrix_fits

  pub matrix_inside : MatrixInside f
  matrix_inside =
      let k = accepted_file.header.fixed-pairs in let l = accepted_file.header.table in
      let s = sizes_accepted f accepted_file.sizes in
      record {
        pairs = omega arith;
        kinds_size = s.0;
        cells_size = s.1;
        kinds_end = pairs_accepted f accepted_file.pairs 0 (omega arith);
        cells_end = pairs_accepted f accepted_file.pairs 1 (omega arith);
      }
