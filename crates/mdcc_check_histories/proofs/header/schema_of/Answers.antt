use Rattle.std.proofs.Common.{rules}
use Rattle.mdcc_sched.proofs.MoreBounds.{schema_given}
use Rattle.mdcc_check_histories.proofs.header.schema_of.Goals as goal

pub unwrap-requires : goal.unwrap-requires
unwrap-requires c = search (rules, schema_given)
