-- Why a log gives no node, and what stands then.
use Rattle.std.proofs.Common.{◌≡◌, ◌∙◌, [], Err, IsErrOf, List, Ok, Result, ap, map, refl, subst, ℕ}
use Rattle.std.specs.Bool.{OnFalse}
use Rattle.mdcc_node_boot.specs.Loading.{HoldsFacts, boot_by, fact_read, is_boot_memory}
use Rattle.mdcc_log_file.specs.Area.{payloads}
use Rattle.mdcc_log_file.specs.declared.fault.LogFault.{LogFault}
use Rattle.mdcc_node_log.specs.Opening.{IsOpeningFault, IsUnbooted, StandsUnlessDisk}
use Rattle.mdcc_node_log.specs.Nodes.{CentreStore, are_stored, facts_at_boot, store_cells}
use Rattle.mdcc_def_messages.specs.declared.facts.Fact.{Fact}
use Rattle.mdcc_option.specs.declared.cluster.Cluster.{Cluster}
use Rattle.mdcc_node_log.specs.Faults.{of_boot, of_log}
use Rattle.mdcc_node_log.specs.declared.fault.StartFault.{StartFault}
use Rattle.mdcc_def_rules.specs.declared.node.BootFault.{BootFault}

-- an empty store with the cells of the cluster
pub empty_store : (store : CentreStore) (cluster : Cluster) → are_stored store [] → store_cells store ≡ cluster.cells → HoldsFacts are_stored store_cells cluster.cells store []
empty_store store cluster empty cells = record { list = empty; total = cells; counted = refl }

-- ---- a boot over a copy of the cluster

-- the node has these facts
pub boots_by : (copy cluster : Cluster) (all : List (List ℕ)) (facts : List Fact) → copy ≡ cluster → boot_by cluster.cells copy (map fact_read all) ≡ Ok facts → facts_at_boot cluster all ≡ Ok facts
boots_by copy cluster all facts same e = subst (λ (of : Cluster). boot_by cluster.cells of (map fact_read all) ≡ Ok facts) same e

-- there is none for this reason
boot_refused : (cluster : Cluster) (all : List (List ℕ)) (fault : BootFault) → OnFalse (is_boot_memory fault) (facts_at_boot cluster all ≡ Err fault) → IsUnbooted cluster all (of_boot fault)
boot_refused cluster all BootFault.Epochs h = h
boot_refused cluster all (BootFault.NotARun n) h = h
boot_refused cluster all (BootFault.Room needed cells) h = h
boot_refused cluster all BootFault.Memory h = tt

pub boot_refused_by : (copy cluster : Cluster) (all : List (List ℕ)) (fault : BootFault) → copy ≡ cluster
    → OnFalse (is_boot_memory fault) (boot_by cluster.cells copy (map fact_read all) ≡ Err fault) → IsUnbooted cluster all (of_boot fault)
boot_refused_by copy cluster all fault same h =
    boot_refused cluster all fault (subst (λ (of : Cluster). OnFalse (is_boot_memory fault) (boot_by cluster.cells of (map fact_read all) ≡ Err fault)) same h)

pub boot_may : (fault : BootFault) → IsOpeningFault (of_boot fault)
boot_may BootFault.Epochs = tt
boot_may (BootFault.NotARun n) = tt
boot_may (BootFault.Room needed cells) = tt
boot_may BootFault.Memory = tt

-- ---- a log that is not opened

pub log_refused : {T : Type 0} (cluster : Cluster) (all : List (List ℕ)) (fault : LogFault) (first second : List ℕ) → payloads first second ≡ Ok all
    → ((n : ℕ) → IsErrOf {T = T} (Err fault) (LogFault.NotALog n) → payloads first second ≡ Err n)
    → (IsErrOf {T = T} (Err fault) LogFault.LogFull → ⊥)
    → IsUnbooted cluster all (of_log fault)
log_refused cluster all LogFault.DiskFault first second read not_a_log not_full = tt
log_refused cluster all (LogFault.NotALog n) first second read not_a_log not_full = let broken = not_a_log n refl in absurd (cc)
log_refused cluster all LogFault.LogFull first second read not_a_log not_full = absurd (not_full refl)
log_refused cluster all LogFault.Memory first second read not_a_log not_full = tt

pub log_may : {T : Type 0} (fault : LogFault) → (IsErrOf {T = T} (Err fault) LogFault.LogFull → ⊥) → IsOpeningFault (of_log fault)
log_may LogFault.DiskFault not_full = tt
log_may (LogFault.NotALog n) not_full = tt
log_may LogFault.LogFull not_full = absurd (not_full refl)
log_may LogFault.Memory not_full = tt

log_keeps_at : {T : Type 0} (U : Type 0) (all : List (List ℕ)) (fault : LogFault) (first second first_now second_now : List ℕ) → payloads first second ≡ Ok all
    → ((n : ℕ) → IsErrOf {T = T} (Err fault) (LogFault.NotALog n) → payloads first second ≡ Err n)
    → (IsErrOf {T = T} (Err fault) LogFault.LogFull → ⊥)
    → (IsErrOf {T = T} (Err fault) LogFault.Memory → (first_now ≡ first) × (second_now ≡ second))
    → StandsUnlessDisk {T = U} (Err (of_log fault)) (payloads first_now second_now ≡ Ok all)
log_keeps_at U all LogFault.DiskFault first second first_now second_now read not_a_log not_full memory = tt
log_keeps_at U all (LogFault.NotALog n) first second first_now second_now read not_a_log not_full memory = let broken = not_a_log n refl in absurd (cc)
log_keeps_at U all LogFault.LogFull first second first_now second_now read not_a_log not_full memory = absurd (not_full refl)
log_keeps_at U all LogFault.Memory first second first_now second_now read not_a_log not_full memory =
    let same = memory refl in
    ap (λ (l : List ℕ). payloads l second_now) same.0 ∙ ap (λ (l : List ℕ). payloads first l) same.1 ∙ read

-- it stays as it is
pub log_keeps : {T U : Type 0} (result : Result U StartFault) (all : List (List ℕ)) (fault : LogFault) → result ≡ Err (of_log fault) → (first second first_now second_now : List ℕ)
    → payloads first second ≡ Ok all
    → ((n : ℕ) → IsErrOf {T = T} (Err fault) (LogFault.NotALog n) → payloads first second ≡ Err n)
    → (IsErrOf {T = T} (Err fault) LogFault.LogFull → ⊥)
    → (IsErrOf {T = T} (Err fault) LogFault.Memory → (first_now ≡ first) × (second_now ≡ second))
    → StandsUnlessDisk result (payloads first_now second_now ≡ Ok all)
log_keeps {U = U} result all fault is first second first_now second_now read not_a_log not_full memory =
    rw is (log_keeps_at U all fault first second first_now second_now read not_a_log not_full memory)

-- ---- one that is

-- what is kept is kept after each fault
pub keeps_all : {T : Type 0} (result : Result T StartFault) (kept : Type 0) → kept → StandsUnlessDisk result kept
keeps_all (Ok x) kept h = h
keeps_all (Err (StartFault.Log LogFault.DiskFault)) kept h = tt
keeps_all (Err (StartFault.Log (LogFault.NotALog n))) kept h = h
keeps_all (Err (StartFault.Log LogFault.LogFull)) kept h = h
keeps_all (Err (StartFault.Log LogFault.Memory)) kept h = h
keeps_all (Err (StartFault.Boot fault)) kept h = h
keeps_all (Err StartFault.Memory) kept h = h

-- what is found is all
pub read_as : (first second : List ℕ) (found all : List (List ℕ)) → found ≡ all → payloads first second ≡ Ok found → payloads first second ≡ Ok all
read_as first second found all is read = subst (λ (l : List (List ℕ)). payloads first second ≡ Ok l) is read
