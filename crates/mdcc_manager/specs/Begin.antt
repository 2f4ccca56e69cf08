-- What a manager answers that is asked to begin a transaction.
use Rattle.std.specs.Prelude.{Bool, Err, Ok, Result, false, true}
use Rattle.mdcc_base.specs.declared.identifiers.TxId.{TxId}
use Rattle.mdcc_option.specs.declared.faults.BeginFault.{BeginFault}
use Rattle.mdcc_def_protocol.specs.Volatile.{Managing}

abbrev pub is_begin_memory : BeginFault → Bool
is_begin_memory BeginFault.Memory = true
is_begin_memory _ = false

-- the identifier that was given, without what the manager keeps
abbrev pub tx_begun : Result (TxId × Managing) BeginFault → Result TxId BeginFault
tx_begun (Ok next) = Ok next.0
tx_begun (Err fault) = Err fault
