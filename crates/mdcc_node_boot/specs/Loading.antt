-- What is read from the payloads of a log over a store with so many cells, and what a boot adds to it.
use Rattle.std.specs.Bool.{OnFalse}
use Rattle.std.specs.List.{AllByRecursion}
use Rattle.std.specs.Prelude.{Bool, Err, List, None, Ok, Option, Result, Some, [], false, if◌then◌else◌, length, min, nat_le, nat_lt, not, ℕ, ◌+◌, ◌-◌, ◌^◌, true, ◌∷◌, ◌≡◌, ◌≤◌}
use Rattle.mdcc_node_boot.specs.Laws.{AreCounted}
use Rattle.mdcc_option.specs.declared.cluster.Cluster.{Cluster}
use Rattle.mdcc_def_ledger.specs.BootTest.{is_allowed_fact}
use Rattle.mdcc_def_protocol.specs.Cells.{cells_held}
use Rattle.mdcc_def_protocol.specs.Facts.{epoch_of}
use Rattle.mdcc_def_protocol.specs.News.{is_crowding}
use Rattle.mdcc_def_messages.specs.Lengths.{cells_needed}
use Rattle.mdcc_def_messages.specs.Reading.{fact_of}
use Rattle.mdcc_def_messages.specs.declared.facts.Fact.{Fact}
use Rattle.mdcc_def_protocol.specs.declared.stores.StoreFault.{StoreFault}
use Rattle.mdcc_def_rules.specs.Boot.{next_boot}
use Rattle.mdcc_def_rules.specs.declared.node.BootFault.{BootFault}
use Rattle.mdcc_def_messages.specs.declared.wire.WireFault.{WireFault}

-- ---- payloads

abbrev pub fact_in : Result Fact WireFault → Option Fact
fact_in (Ok fact) = Some fact
fact_in (Err fault) = None

-- the fact that a payload spells
abbrev pub fact_read : List ℕ → Option Fact
fact_read payload = fact_in (fact_of payload)

-- no payload has more bytes than a frame of a log holds
abbrev pub AreWithinFrames : List (List ℕ) → Type 0
AreWithinFrames payloads = AllByRecursion (λ payload. length payload ≤ 2097152) payloads

-- ---- cells

-- whether the fact needs more of so many cells than the others leave
abbrev pub exceeds_cells : ℕ → List Fact → Fact → Bool
exceeds_cells cells facts fact = nat_lt cells (cells_held facts + cells_needed fact)

-- the number that is needed stops at 2^64 - 1
abbrev pub past_fault : ℕ → List Fact → Fact → BootFault
past_fault cells facts fact = BootFault.Room (min (cells_held facts + cells_needed fact) (2 ^ 64 - 1)) cells

-- ---- what is read, and what a boot adds

-- the payloads in turn, each as its fact where it is one, onto the facts so far, which are as many as the number says
abbrev pub loaded_by : ℕ → Cluster → List Fact → ℕ → List (Option Fact) → Result (List Fact) BootFault
loaded_by cells cluster facts n [] = Ok facts
loaded_by cells cluster facts n (None ∷ payloads) = Err (BootFault.NotARun (n + 1))
loaded_by cells cluster facts n (Some fact ∷ payloads) =
    if not (is_allowed_fact cluster facts fact) then Err (BootFault.NotARun (n + 1))
    else (if exceeds_cells cells facts fact then Err (past_fault cells facts fact)
    else loaded_by cells cluster (fact ∷ facts) (n + 1) payloads)

-- the next epoch begins
abbrev pub with_next_boot : ℕ → Result (List Fact) BootFault → Result (List Fact) BootFault
with_next_boot cells (Err fault) = Err fault
with_next_boot cells (Ok facts) =
    let fact = next_boot facts in
    if nat_le (2 ^ 32 - 1) (epoch_of facts) then Err BootFault.Epochs
    else (if exceeds_cells cells facts fact then Err (past_fault cells facts fact) else Ok (fact ∷ facts))

-- the facts of a node that is booted from these payloads, the newest first, or why there is none
abbrev pub boot_by : ℕ → Cluster → List (Option Fact) → Result (List Fact) BootFault
boot_by cells cluster payloads = with_next_boot cells (loaded_by cells cluster [] 0 payloads)

abbrev pub is_boot_memory : BootFault → Bool
is_boot_memory BootFault.Memory = true
is_boot_memory _ = false

-- ---- what the parts answer

-- by what a store answers to a fact behind so many others
abbrev pub store_fault : ℕ → ℕ → StoreFault → BootFault
store_fault cells n (StoreFault.NoRoom needed spare) = BootFault.Room (min (cells - spare + needed) (2 ^ 64 - 1)) cells
store_fault cells n StoreFault.Crowded = BootFault.NotARun (n + 1)
store_fault cells n StoreFault.Memory = BootFault.Memory

-- why an admitted fact is not taken: that it brings too many deltas comes first
abbrev pub refusal : ℕ → List Fact → ℕ → Fact → StoreFault → BootFault
refusal cells facts n fact fault = if is_crowding facts fact then BootFault.NotARun (n + 1) else store_fault cells n fault

-- by what is wrong with the payload behind so many others
abbrev pub read_fault : ℕ → WireFault → BootFault
read_fault n WireFault.Memory = BootFault.Memory
read_fault n fault = BootFault.NotARun (n + 1)

-- ---- stores

-- a store that has so many cells stands for the facts
pub record HoldsFacts {S : Type 0} (stands : S → List Fact → Type 0) (cells : S → ℕ) (all : ℕ) (store : S) (facts : List Fact) : Type 0 where
  pub list : stands store facts
  pub total : cells store ≡ all
  pub counted : AreCounted facts

-- the expected facts, of which something holds, or the expected fault, unless it is one that may come at any time
abbrev pub LoadsUnless : (BootFault → Bool) → Result (Unit {0}) BootFault → Result (List Fact) BootFault → (List Fact → Type 0) → Type 0
LoadsUnless free (Ok u) expected P = (facts : List Fact) × (expected ≡ Ok facts) × P facts
LoadsUnless free (Err e) expected P = OnFalse (free e) (expected ≡ Err e)

-- the same, of which the newest is the boot of an epoch
abbrev pub BootsUnless : (BootFault → Bool) → Result ℕ BootFault → Result (List Fact) BootFault → (List Fact → Type 0) → Type 0
BootsUnless free (Ok epoch) expected P = (facts : List Fact) × (expected ≡ Ok (Fact.Booted epoch ∷ facts)) × P (Fact.Booted epoch ∷ facts)
BootsUnless free (Err e) expected P = OnFalse (free e) (expected ≡ Err e)
