-- What a join answers.
use Rattle.std.specs.Prelude.{Bool, true, false, Result, Ok, Err}
use Rattle.mdcc_base.specs.declared.identifiers.TxId.{TxId}
use Rattle.mdcc_struct.specs.Options.{Marks}
use Rattle.mdcc_struct.specs.declared.options.JoinFault.{JoinFault}
use Rattle.mdcc_struct.specs.declared.options.JoinFault.TheVariants.{Differ, Memory}

abbrev pub is_join_memory : JoinFault → Bool
is_join_memory (Differ tx) = false
is_join_memory Memory = true

-- the join, or the transaction at which the marks differ
abbrev pub joined_by : Result Marks TxId → Result Marks JoinFault
joined_by (Ok marks) = Ok marks
joined_by (Err tx) = Err (Differ tx)
