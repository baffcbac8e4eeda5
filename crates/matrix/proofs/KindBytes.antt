-- A kind's byte, tested. Assumes nothing.
use Prim.Native.Nat.{ℕ, zero, suc}
use mathlib.Core.Path.{◌≡◌, refl}
use native.Mathlib.Omega.{arith}
use borrow.Author.Tests.{lt-ltb}
use lib.Dec.{ltb}
use Rattle.protection.specs.State.{is_object, is_subject}
use Rattle.matrix.specs.Bytes.{kind_of}

pub subject_byte : (k : ℕ) → ltb 1 k ≡ is_subject (kind_of k)
subject_byte zero = refl
subject_byte (suc zero) = refl
subject_byte (suc (suc k)) = lt-ltb 1 (suc (suc k)) (omega arith)

pub object_byte : (k : ℕ) → ltb 0 k ≡ is_object (kind_of k)
object_byte zero = refl
object_byte (suc zero) = refl
object_byte (suc (suc k)) = lt-ltb 0 (suc (suc k)) (omega arith)
