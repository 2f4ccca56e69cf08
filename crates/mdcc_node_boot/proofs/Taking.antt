-- Facts that are loaded from payloads, one after the other.
use Rattle.std.proofs.Common.{◌≡◌, ℕ, ◌+◌, Bool, true, false, not, List, [], ◌∷◌, drop, map, slice_get, Option, Some, None, Ok, Err, ◌∙◌, ap, if◌then◌else◌}
use Rattle.std.specs.Bool.{OnFalse}
use Rattle.mdcc_node_boot.specs.Loading.{exceeds_cells, fact_read, loaded_by, past_fault}
use Rattle.mdcc_def_ledger.specs.BootTest.{is_allowed_fact}
use Rattle.mdcc_option.specs.declared.cluster.Cluster.{Cluster}
use Rattle.mdcc_def_messages.specs.declared.facts.Fact.{Fact}
use Rattle.mdcc_def_rules.specs.declared.node.BootFault.{BootFault}
use Rattle.mdcc_struct.proofs.Walks.{drop-get}

-- ---- the first payload

module _ (cells : ℕ) (cluster : Cluster) (facts : List Fact) (n : ℕ) (payloads : List (Option Fact)) where
  -- where it is taken the others come onto the facts with it
  first-on : (payload : Option Fact) (more : List Fact) → loaded_by cells cluster facts n (payload ∷ []) ≡ Ok more
      → loaded_by cells cluster facts n (payload ∷ payloads) ≡ loaded_by cells cluster more (n + 1) payloads
  first-on None more e = absurd (cc)
  first-on (Some fact) more e = by (is_allowed_fact cluster facts fact) (exceeds_cells cells facts fact) e
    where
      by : (allowed past : Bool)
          → (if not allowed then Err (BootFault.NotARun (n + 1)) else (if past then Err (past_fault cells facts fact) else Ok (fact ∷ facts))) ≡ Ok more
          → (if not allowed then Err (BootFault.NotARun (n + 1)) else (if past then Err (past_fault cells facts fact) else loaded_by cells cluster (fact ∷ facts) (n + 1) payloads))
          ≡ loaded_by cells cluster more (n + 1) payloads
      by false past e = absurd (cc)
      by true true e = absurd (cc)
      by true false e = let same : fact ∷ facts ≡ more = cc in ap (λ all. loaded_by cells cluster all (n + 1) payloads) same

  -- and where it is not nothing else counts
  first-ends : (payload : Option Fact) (fault : BootFault) → loaded_by cells cluster facts n (payload ∷ []) ≡ Err fault
      → loaded_by cells cluster facts n (payload ∷ payloads) ≡ Err fault
  first-ends None fault e = e
  first-ends (Some fact) fault e = by (is_allowed_fact cluster facts fact) (exceeds_cells cells facts fact) e
    where
      by : (allowed past : Bool)
          → (if not allowed then Err (BootFault.NotARun (n + 1)) else (if past then Err (past_fault cells facts fact) else Ok (fact ∷ facts))) ≡ Err fault
          → (if not allowed then Err (BootFault.NotARun (n + 1)) else (if past then Err (past_fault cells facts fact) else loaded_by cells cluster (fact ∷ facts) (n + 1) payloads))
          ≡ Err fault
      by false past e = e
      by true true e = e
      by true false e = absurd (cc)

-- ---- the payload at a place

module _ (cells : ℕ) (cluster : Cluster) (facts : List Fact) (payloads : List (List ℕ)) (place : ℕ) (payload : List ℕ)
    (at : slice_get payloads place ≡ Some payload) where
  next : loaded_by cells cluster facts place (map fact_read (drop place payloads))
      ≡ loaded_by cells cluster facts place (fact_read payload ∷ map fact_read (drop (place + 1) payloads))
  next = ap (λ rest. loaded_by cells cluster facts place (map fact_read rest)) (drop-get payloads place payload at)

  pub load_on : (more : List Fact) → loaded_by cells cluster facts place (fact_read payload ∷ []) ≡ Ok more
      → loaded_by cells cluster facts place (map fact_read (drop place payloads)) ≡ loaded_by cells cluster more (place + 1) (map fact_read (drop (place + 1) payloads))
  load_on more e = next ∙ first-on cells cluster facts place (map fact_read (drop (place + 1) payloads)) (fact_read payload) more e

  pub load_ends : (fault : BootFault) → loaded_by cells cluster facts place (fact_read payload ∷ []) ≡ Err fault
      → loaded_by cells cluster facts place (map fact_read (drop place payloads)) ≡ Err fault
  load_ends fault e = next ∙ first-ends cells cluster facts place (map fact_read (drop (place + 1) payloads)) (fact_read payload) fault e

pub on_false : (b : Bool) (P Q : Type 0) → (P → Q) → OnFalse b P → OnFalse b Q
on_false true P Q f h = tt
on_false false P Q f h = f h
