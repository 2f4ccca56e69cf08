-- The boot of a node from what its log holds.
use Rattle.std.specs.Prelude.{Bool, Err, List, None, Ok, Option, Result, Some, [], if◌then◌else◌, nat_le, nat_lt, not, ℕ, ◌+◌, ◌-◌, ◌^◌, ◌∷◌}
use Rattle.mdcc_option.specs.declared.cluster.Cluster.{Cluster}
use Rattle.mdcc_def_ledger.specs.BootTest.{is_allowed_fact}
use Rattle.mdcc_def_protocol.specs.Facts.{epoch_of}
use Rattle.mdcc_def_messages.specs.Lengths.{cells_needed}
use Rattle.mdcc_def_protocol.specs.Cells.{cells_held}
use Rattle.mdcc_def_messages.specs.declared.facts.Fact.{Fact}
use Rattle.mdcc_def_rules.specs.declared.node.BootFault.{BootFault}

-- whether the fact passes the room of a node that has these
abbrev pub is_past_cells : Cluster → List Fact → Fact → Bool
is_past_cells cluster facts fact = nat_lt cluster.cells (cells_held facts + cells_needed fact)

abbrev pub room_fault : Cluster → List Fact → Fact → BootFault
room_fault cluster facts fact = BootFault.Room (cells_held facts + cells_needed fact) cluster.cells

-- the payloads in turn, each as its fact where it is one, onto the facts so far, which are as many as the number says
abbrev pub loaded_from : Cluster → List Fact → ℕ → List (Option Fact) → Result (List Fact) BootFault
loaded_from cluster facts n [] = Ok facts
loaded_from cluster facts n (None ∷ payloads) = Err (BootFault.NotARun (n + 1))
loaded_from cluster facts n (Some fact ∷ payloads) =
    if not (is_allowed_fact cluster facts fact) then Err (BootFault.NotARun (n + 1))
    else (if is_past_cells cluster facts fact then Err (room_fault cluster facts fact)
    else loaded_from cluster (fact ∷ facts) (n + 1) payloads)

-- the boot of the next epoch
abbrev pub next_boot : List Fact → Fact
next_boot facts = Fact.Booted (epoch_of facts + 1)

-- the next epoch begins
abbrev pub booted_by : Cluster → Result (List Fact) BootFault → Result (List Fact) BootFault
booted_by cluster (Err fault) = Err fault
booted_by cluster (Ok facts) =
    let fact = next_boot facts in
    if nat_le (2 ^ 32 - 1) (epoch_of facts) then Err BootFault.Epochs
    else (if is_past_cells cluster facts fact then Err (room_fault cluster facts fact) else Ok (fact ∷ facts))

-- the facts of a node that is booted from these payloads, the newest first, or why there is none
abbrev pub boot_of : Cluster → List (Option Fact) → Result (List Fact) BootFault
boot_of cluster payloads = booted_by cluster (loaded_from cluster [] 0 payloads)
