-- What the rules that make no structure ask of the ledgers of a trace.
use Rattle.std.specs.Prelude.{List, Some, [], ℕ, ◌∷◌, ◌≡◌}
use Rattle.mdcc_base.specs.AreQuorums.{AreQuorums}
use Rattle.mdcc_base.specs.declared.identifiers.TxId.{TxId}
use Rattle.mdcc_base.specs.declared.key.Key.{Key}
use Rattle.mdcc_option.specs.declared.choices.Choice.{Choice}
use Rattle.mdcc_option.specs.declared.cluster.Cluster.{Cluster}
use Rattle.mdcc_struct.specs.Maps.{value_of}
use Rattle.mdcc_def_ledger.specs.AllowedLedgers.{IsAllowed}
use Rattle.mdcc_def_protocol.specs.Facts.{write_sets_of}
use Rattle.mdcc_def_ledger.specs.Ledger.{Entry, choices_begun, facts_of}
use Rattle.mdcc_theorem_trace_states.specs.Invariant.{IsPlainEntry}
use Rattle.mdcc_theorem_trace_states.specs.Sound.{HasOneMark}
use Rattle.mdcc_theorem_trace_states.specs.Words.{In}

-- a write set is that of a begun choice
pub record HasSet (es : List Entry) (t : TxId) (ws : List (Key × ℕ)) : Type 0 where
  pub choice : Choice
  pub begun : In choice (choices_begun es t)
  pub same : ws ≡ choice.write_set

-- what the ledgers of a trace have besides: it stays where no entry is a classic vote, and gives one mark
pub record IsClosed (also : List Entry → Type 0) : Type 0 where
  pub none : also []
  pub more : (cluster : Cluster) (e : Entry) (es : List Entry) → IsAllowed cluster (e ∷ es) → IsPlainEntry e → also es → also (e ∷ es)
  pub sets : (cluster : Cluster) (es : List Entry) (a : ℕ) (t : TxId) (ws : List (Key × ℕ)) → IsAllowed cluster es → also es → value_of (write_sets_of (facts_of es a)) t ≡ Some ws → HasSet es t ws
  pub one : (cluster : Cluster) (es : List Entry) → AreQuorums cluster.quorums → IsAllowed cluster es → also es → HasOneMark cluster.quorums es
