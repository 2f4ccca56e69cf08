-- A ledger that passes the test is allowed.
use Rattle.std.proofs.Common.{◌≡◌, true, List, [], ◌∷◌}
use Rattle.std.proofs.lemmas.Bool.{and_parts}
use Rattle.mdcc_option.specs.declared.cluster.Cluster.{Cluster}
use Rattle.mdcc_def_ledger.specs.AllowedLedgers.{IsAllowed, IsAllowedEntry}
use Rattle.mdcc_def_ledger.specs.BootTest.{is_allowed_fact}
use Rattle.mdcc_theorem_ledger.specs.LedgerTest.{is_begun_allowed, is_entry_allowed, is_fact_backed, is_ledger_allowed, is_valued_allowed}
use Rattle.mdcc_def_protocol.specs.Belongs.{is_centre}
use Rattle.mdcc_def_ledger.specs.Ledger.{Added, Entry, Valued, facts_of}
use Rattle.mdcc_theorem_ledger.proofs.BackedShown.{backed_shown}
use Rattle.mdcc_theorem_ledger.proofs.BegunDecided.{Decides-begun}
use Rattle.mdcc_theorem_ledger.proofs.MayAddDecided.{Decides-fact}
use Rattle.mdcc_theorem_ledger.proofs.ValuedShown.{valued_shown}

entry_shown : (cluster : Cluster) (before : List Entry) (entry : Entry) → is_entry_allowed cluster before entry ≡ true → IsAllowedEntry cluster before entry
entry_shown cluster before (Added a fact) h =
    let last = and_parts _ (is_fact_backed cluster before a fact) h in
    let rest = and_parts (is_centre cluster a) (is_allowed_fact cluster (facts_of before a) fact) last.0 in
    (rest.0, (Decides-fact cluster (facts_of before a) fact).0 rest.1, backed_shown cluster before a fact last.1)
entry_shown cluster before (Entry.Begun a tx choices) h =
    let parts = and_parts (is_centre cluster a) (is_begun_allowed cluster before a tx choices) h in
    (parts.0, (Decides-begun cluster before a tx choices).0 parts.1)
entry_shown cluster before (Valued a key version ballot options) h =
    let parts = and_parts (is_centre cluster a) (is_valued_allowed cluster before a key version ballot options) h in
    (parts.0, valued_shown cluster before a key version ballot options parts.1)

pub ledger_shown : (cluster : Cluster) (ledger : List Entry) → is_ledger_allowed cluster ledger ≡ true → IsAllowed cluster ledger
ledger_shown cluster [] h = tt
ledger_shown cluster (entry ∷ before) h =
    let parts = and_parts (is_ledger_allowed cluster before) (is_entry_allowed cluster before entry) h in
    (ledger_shown cluster before parts.0, entry_shown cluster before entry parts.1)
