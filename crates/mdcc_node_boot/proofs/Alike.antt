-- A boot over a store with the cells of the cluster.
use Rattle.std.proofs.Common.{◌≡◌, ℕ, ◌+◌, ◌-◌, ◌^◌, ◌<◌, ◌≤◌, Bool, true, false, not, nat_le, min, List, [], ◌∷◌, Option, Some, None, Ok, Err, Result, refl, ◌∙◌, ap, arith, if◌then◌else◌}
use Rattle.std.specs.List.{AllByRecursion}
use Rattle.mdcc_node_boot.specs.Boots.{BootsWithinCells}
use Rattle.mdcc_node_boot.specs.Loading.{boot_by, loaded_by, past_fault, with_next_boot}
use Rattle.mdcc_node_boot.proofs.Within.{AreWithin, loaded_within, none_within, stays_within}
use Rattle.mdcc_option.specs.declared.cluster.Cluster.{Cluster}
use Rattle.mdcc_def_ledger.specs.BootTest.{is_allowed_fact}
use Rattle.mdcc_def_rules.specs.Boot.{boot_of, booted_by, is_past_cells, loaded_from, next_boot, room_fault}
use Rattle.mdcc_def_protocol.specs.Cells.{cells_held}
use Rattle.mdcc_def_protocol.specs.Facts.{epoch_of}
use Rattle.mdcc_def_messages.specs.Lengths.{cells_needed}
use Rattle.mdcc_def_messages.specs.declared.facts.Fact.{Fact}
use Rattle.mdcc_def_rules.specs.declared.node.BootFault.{BootFault}

one-alike : (n : ℕ) (allowed past : Bool) (fault fault' : BootFault) (loaded loaded' : Result (List Fact) BootFault)
    → fault ≡ fault' → (allowed ≡ true → past ≡ false → loaded ≡ loaded')
    → (if not allowed then Err (BootFault.NotARun (n + 1)) else (if past then Err fault else loaded))
    ≡ (if not allowed then Err (BootFault.NotARun (n + 1)) else (if past then Err fault' else loaded'))
one-alike n false past fault fault' loaded loaded' f g = refl
one-alike n true true fault fault' loaded loaded' f g = ap (λ x. Err x) f
one-alike n true false fault fault' loaded loaded' f g = g refl refl

next-alike : (last past : Bool) (fault fault' : BootFault) (more : List Fact) → fault ≡ fault'
    → (if last then Err BootFault.Epochs else (if past then Err fault else Ok more))
    ≡ (if last then Err BootFault.Epochs else (if past then Err fault' else Ok more))
next-alike true past fault fault' more f = refl
next-alike false true fault fault' more f = ap (λ x. Err x) f
next-alike false false fault fault' more f = refl

stops : (held needed cells : ℕ) → held ≤ cells → cells < 2 ^ 63 → needed < 2 ^ 63 → min (held + needed) (2 ^ 64 - 1) ≡ held + needed
stops held needed cells h few small = omega arith

module _ (cluster : Cluster) (few : cluster.cells < 2 ^ 63) where
  -- the number that is told stops nowhere
  same-fault : (facts : List Fact) (fact : Fact) → AreWithin cluster.cells facts → cells_needed fact < 2 ^ 63 → past_fault cluster.cells facts fact ≡ room_fault cluster facts fact
  same-fault facts fact are small =
      ap (λ k. BootFault.Room k cluster.cells) (stops (cells_held facts) (cells_needed fact) cluster.cells are.within few small)

  loaded-alike : (facts : List Fact) (n : ℕ) (payloads : List (Option Fact)) → AreWithin cluster.cells facts
      → AllByRecursion (λ payload. (fact : Fact) → payload ≡ Some fact → cells_needed fact < 2 ^ 63) payloads
      → loaded_by cluster.cells cluster facts n payloads ≡ loaded_from cluster facts n payloads
  loaded-alike facts n [] are small = refl
  loaded-alike facts n (None ∷ payloads) are small = refl
  loaded-alike facts n (Some fact ∷ payloads) are small =
      one-alike n (is_allowed_fact cluster facts fact) (is_past_cells cluster facts fact) (past_fault cluster.cells facts fact) (room_fault cluster facts fact)
      (loaded_by cluster.cells cluster (fact ∷ facts) (n + 1) payloads) (loaded_from cluster (fact ∷ facts) (n + 1) payloads)
      (same-fault facts fact are (small.0 fact refl))
      (λ allowed fits. loaded-alike (fact ∷ facts) (n + 1) payloads (stays_within cluster.cells cluster facts fact are allowed fits) small.1)

  next-alike-of : (facts : List Fact) → AreWithin cluster.cells facts → with_next_boot cluster.cells (Ok facts) ≡ booted_by cluster (Ok facts)
  next-alike-of facts are =
      let fact = next_boot facts in
      let small : cells_needed fact < 2 ^ 63 = omega arith in
      next-alike (nat_le (2 ^ 32 - 1) (epoch_of facts)) (is_past_cells cluster facts fact) (past_fault cluster.cells facts fact) (room_fault cluster facts fact) (fact ∷ facts)
      (same-fault facts fact are small)

  next-by : (payloads : List (Option Fact)) (loaded : Result (List Fact) BootFault) → loaded_by cluster.cells cluster [] 0 payloads ≡ loaded
      → with_next_boot cluster.cells loaded ≡ booted_by cluster loaded
  next-by payloads (Err fault) e = refl
  next-by payloads (Ok facts) e = next-alike-of facts (loaded_within cluster.cells cluster [] facts 0 payloads (none_within cluster.cells) e)

  boot-alike : (payloads : List (Option Fact)) → AllByRecursion (λ payload. (fact : Fact) → payload ≡ Some fact → cells_needed fact < 2 ^ 63) payloads
      → boot_by cluster.cells cluster payloads ≡ boot_of cluster payloads
  boot-alike payloads small =
      next-by payloads (loaded_by cluster.cells cluster [] 0 payloads) refl ∙ ap (booted_by cluster) (loaded-alike [] 0 payloads (none_within cluster.cells) small)

pub boots_alike : BootsWithinCells
boots_alike cluster payloads few small = boot-alike cluster few payloads small
