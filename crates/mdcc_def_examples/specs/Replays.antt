-- What is asked of a replay, computed from one: what it writes, that the committed transactions are a run, and that the ledger is allowed.
use Rattle.std.specs.Prelude.{Bool, List, None, Option, Some, false, is_some, true, ℕ}
use Rattle.mdcc_option.specs.OneCopy.{empty_store, store_run}
use Rattle.mdcc_theorem_ledger.specs.LedgerTest.{is_ledger_allowed}
use Rattle.mdcc_def_ledger.specs.Ledger.{committed_of}
use Rattle.mdcc_def_simulation.specs.Replay.{Output, Replay, output_of, replay_of}
use Rattle.mdcc_def_simulation.specs.State.{World}

-- the transactions that committed are a run of the one-copy store
abbrev pub is_run_in : Option World → Bool
is_run_in None = false
is_run_in (Some world) = is_some (store_run world.cluster.schema empty_store (committed_of world.cluster.quorums world.ledger))

abbrev pub is_allowed_in : Option World → Bool
is_allowed_in None = false
is_allowed_in (Some world) = is_ledger_allowed world.cluster world.ledger

pub record Checked : Type 0 where
  pub output : Output
  pub is_run : Bool
  pub is_allowed : Bool

abbrev pub replay_checked : Replay → Checked
replay_checked replay = record { output = output_of replay; is_run = is_run_in replay.world; is_allowed = is_allowed_in replay.world }

-- of these bytes
abbrev pub checked_text : List ℕ → Checked
checked_text text = replay_checked (replay_of text)

-- this is written, and both tests hold
abbrev pub sound : Output → Checked
sound output = record { output = output; is_run = true; is_allowed = true }
