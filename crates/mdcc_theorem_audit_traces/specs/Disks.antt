-- What an audit says of the logs on disks.
use Rattle.std.specs.Prelude.{Err, List, None, Ok, Option, Result, Some, [], true, ℕ, ◌+◌, ◌∷◌, ◌≡◌}
use Rattle.mdcc_base.specs.Quorums.{all_centres}
use Rattle.mdcc_option.specs.declared.cluster.Cluster.{Cluster}
use Rattle.mdcc_def_messages.specs.Spelling.{encodings_of}
use Rattle.mdcc_def_messages.specs.declared.facts.Fact.{Fact}
use Rattle.mdcc_def_protocol.specs.Belongs.{is_centre}
use Rattle.mdcc_def_ledger.specs.Ledger.{Entry, facts_of}
use Rattle.mdcc_theorem_agreement.specs.Laws.{IsLedger}
use Rattle.mdcc_def_simulation.specs.State.{World}
use Rattle.mdcc_disks.specs.Memory.{AllMemory, disk_of}
use Rattle.mdcc_log_file.specs.Area.{payloads}
use Rattle.mdcc_node_boot.specs.Loading.{fact_read}
use Rattle.mdcc_theorem_worlds.specs.WorldInvariant.{IsWorld}
use Rattle.mdcc_audit.specs.Logs.{audit_of}
use Rattle.mdcc_theorem_audit.specs.Ledgers.{outcomes_in}

-- ---- logs that are read from disks

-- one more, where there is one and the others are there
abbrev pub with_one : {X : Type 0} → Option X → Option (List X) → Option (List X)
with_one (Some x) (Some xs) = Some (x ∷ xs)
with_one _ _ = None

-- the facts that payloads spell; none where one of them spells no fact
abbrev pub facts_read : List (List ℕ) → Option (List Fact)
facts_read [] = Some []
facts_read (payload ∷ others) = with_one (fact_read payload) (facts_read others)

abbrev pub log_read : Result (List (List ℕ)) ℕ → Option (List Fact)
log_read (Ok all) = facts_read all
log_read (Err offset) = None

-- the log of a centre in its two areas, with the oldest fact first
abbrev pub log_in_memory : AllMemory → ℕ → Option (List Fact)
log_in_memory disks a = log_read (payloads (disk_of disks a).bytes (disk_of disks (a + 16)).bytes)

-- the logs of these centres
abbrev pub logs_in_memory : AllMemory → List ℕ → Option (List (List Fact))
logs_in_memory disks [] = Some []
logs_in_memory disks (a ∷ centres) = with_one (log_in_memory disks a) (logs_in_memory disks centres)

-- ---- their audit

-- there is a log of each centre, and the audit of the logs gives the outcomes
pub record AreAudited (cluster : Cluster) (ledger : List Entry) (disks : AllMemory) : Type 0 where
  pub logs : List (List Fact)
  pub read : logs_in_memory disks (all_centres cluster.quorums) ≡ Some logs
  pub answer : audit_of cluster.quorums logs ≡ Ok (outcomes_in cluster ledger)

-- for each centre the payloads of its two areas are the encodings of its facts in the ledger, in order: the disks of a simulated
-- cluster show them so at every moment between events (ShowsLog of mdcc_world)
abbrev pub HaveLogs : AllMemory → World → Type 0
HaveLogs disks w =
    (a : ℕ) → is_centre w.cluster a ≡ true →
    payloads (disk_of disks a).bytes (disk_of disks (a + 16)).bytes ≡ Ok (encodings_of (facts_of w.ledger a))

-- the logs on the disks of a world whose ledger is an allowed one are audited so
abbrev pub DisksAreAudited : Type 0
DisksAreAudited =
    (w : World) (disks : AllMemory) → IsWorld w → IsLedger w.cluster w.ledger → HaveLogs disks w →
    AreAudited w.cluster w.ledger disks
