-- What it means that a fact is admitted.
use Rattle.std.specs.Prelude.{IsTrue, List, not, ◌&&◌, ◌∷◌, ◌≡◌, ◌≤◌}
use Rattle.mdcc_base.specs.Counts.{number_of}
use Rattle.mdcc_facts.specs.Adding.{MayBeAdded}
use Rattle.mdcc_node_boot.specs.Admission.{is_admitted}
use Rattle.mdcc_option.specs.declared.cluster.Cluster.{Cluster}
use Rattle.mdcc_def_ledger.specs.BootTest.{are_allowed_facts, is_allowed_fact}
use Rattle.mdcc_def_ledger.specs.AllowedFacts.{is_booted}
use Rattle.mdcc_def_protocol.specs.Facts.{epoch_of}
use Rattle.mdcc_def_protocol.specs.News.{is_crowding}
use Rattle.mdcc_def_messages.specs.Lengths.{fact_length}
use Rattle.mdcc_def_messages.specs.WellFormed.{IsWellFormedFact}
use Rattle.mdcc_def_messages.specs.declared.facts.Fact.{Fact}

-- the last epoch is the number of boots
abbrev pub AreCounted : List Fact → Type 0
AreCounted facts = epoch_of facts ≡ number_of is_booted facts

-- a fact is allowed exactly where it is admitted and leaves at most 64 deltas on each version
abbrev pub AdmissionIsExact : Type 0
AdmissionIsExact =
    (cluster : Cluster) (facts : List Fact) (fact : Fact) → AreCounted facts
    → is_allowed_fact cluster facts fact ≡ (is_admitted cluster facts fact && not (is_crowding facts fact))

-- the epochs of facts that were admitted are counted
abbrev pub EpochsStayCounted : Type 0
EpochsStayCounted =
    (cluster : Cluster) (facts : List Fact) (fact : Fact) → AreCounted facts → IsTrue (is_admitted cluster facts fact) → AreCounted (fact ∷ facts)

-- and so are those of facts that are allowed
abbrev pub AllowedEpochsAreCounted : Type 0
AllowedEpochsAreCounted = (cluster : Cluster) (facts : List Fact) → IsTrue (are_allowed_facts cluster facts) → AreCounted facts

-- where it is well-formed and short enough for a frame of a log, a store may be given it: it says nothing a second time
abbrev pub AdmittedMayBeAdded : Type 0
AdmittedMayBeAdded =
    (cluster : Cluster) (facts : List Fact) (fact : Fact)
    → IsTrue (is_admitted cluster facts fact) → IsWellFormedFact fact → fact_length fact ≤ 2097152
    → MayBeAdded facts fact
