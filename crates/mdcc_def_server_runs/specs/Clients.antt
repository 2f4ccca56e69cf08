-- What a node keeps, since its boot, of the transactions that its client began.
use Rattle.std.specs.Map.{lookup}
use Rattle.std.specs.Prelude.{Bool, List, None, Option, Some, [], nat_eq, ℕ}
use Rattle.indexmap.specs.IndexMap.{insert_entry}
use Rattle.mdcc_base.specs.TxId.{tx_eq}
use Rattle.mdcc_base.specs.declared.identifiers.TxId.{TxId}
use Rattle.mdcc_def_server_runs.specs.declared.clients.Begun.{Begun}

-- the transaction that was begun for each serial, and what is known of each of these
pub record Clients : Type 0 where
  pub begun : List (ℕ × TxId)
  pub known : List (TxId × Begun)

abbrev pub no_clients : Clients
no_clients = record { begun = []; known = [] }

-- the transaction that was begun for a serial
abbrev pub begun_for : Clients → ℕ → Option TxId
begun_for clients serial = lookup (nat_eq serial) clients.begun

abbrev pub known_of : Clients → TxId → Option Begun
known_of clients tx = lookup (tx_eq tx) clients.known

-- with one more
abbrev pub with_begun : Clients → ℕ → TxId → Clients
with_begun clients serial tx = record {
  begun = insert_entry nat_eq clients.begun serial tx;
  known = insert_entry tx_eq clients.known tx (record { serial = serial; ended = None });
}

-- one of them ended
abbrev pub ended_as : Clients → TxId → ℕ → Bool → Clients
ended_as clients tx serial is_commit = record clients {
  known = insert_entry tx_eq clients.known tx (record { serial = serial; ended = Some is_commit });
}

abbrev pub with_end_by : Clients → TxId → Bool → Option Begun → Clients
with_end_by clients tx is_commit None = clients
with_end_by clients tx is_commit (Some begun) = ended_as clients tx begun.serial is_commit

-- a transaction ended: it is noted where it was begun for the client
abbrev pub with_end : Clients → Option (TxId × Bool) → Clients
with_end clients None = clients
with_end clients (Some (tx, is_commit)) = with_end_by clients tx is_commit (known_of clients tx)
