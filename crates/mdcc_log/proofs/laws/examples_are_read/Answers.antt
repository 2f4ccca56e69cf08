use Rattle.std.proofs.Common.{refl}
use Rattle.mdcc_log.proofs.laws.examples_are_read.Goals as goal

pub returns : goal.returns
returns c = record {
  alone = refl;
  copied = refl;
  both = refl;
  copy_alone = refl;
  closed = refl;
  closed_alone = refl;
  torn_alone = refl;
  same_generation = refl;
  no_count = refl;
  no_record = refl;
  no_gate = refl;
}
