-- A disk that may hold any bytes after a crash may hold those, whatever is written or cut.
use Rattle.std.proofs.Common.{ℕ, List, refl, inl, arith}
use Rattle.mdcc_disks.specs.Disks.{IsTorn, IsCut}
use Rattle.mdcc_disks_files.specs.Unspecified.{AnyByte}

pub cut_of_itself : (size : ℕ) (bytes : List ℕ) → IsCut size bytes bytes
cut_of_itself size bytes = record { front = refl; no_shorter = omega arith; no_longer = omega arith }

pub torn_of_itself : (offset : ℕ) (written bytes : List ℕ) → IsTorn AnyByte offset written bytes bytes
torn_of_itself offset written bytes = record {
  before = refl;
  after = refl;
  no_shorter = omega arith;
  no_longer = omega arith;
  each = λ i byte h. inl h;
}
