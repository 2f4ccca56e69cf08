-- What a boot makes of facts that were allowed in turn: they are read again, and then the next boot is added, unless the cells lack.
use Rattle.std.proofs.Common.{◌≡◌, ◌⊎◌, inl, inr, ℕ, ◌+◌, ◌-◌, ◌^◌, Bool, true, false, not, List, [], ◌∷◌, ◌++◌, Option, Some, None, min, Ok, Err, refl, ap, if◌then◌else◌}
use Rattle.std.specs.Prelude.{IsTrue}
use Rattle.std.proofs.lemmas.Bool.{and_parts, cases_Bool, not_from_true}
use Rattle.mdcc_node_boot.specs.Loading.{boot_by, exceeds_cells, loaded_by, past_fault, with_next_boot}
use Rattle.mdcc_def_ledger.specs.BootTest.{are_allowed_facts, is_allowed_fact}
use Rattle.mdcc_def_protocol.specs.Cells.{cells_held}
use Rattle.mdcc_def_messages.specs.Lengths.{cells_needed}
use Rattle.mdcc_def_messages.specs.declared.facts.Fact.{Fact}
use Rattle.mdcc_option.specs.declared.cluster.Cluster.{Cluster}
use Rattle.mdcc_def_rules.specs.declared.node.BootFault.{BootFault}
use Rattle.mdcc_theorem_node_steps.specs.NodeInvariant.{fact_payloads}

module _ (total : ℕ) (cluster : Cluster) where
  -- one payload more, behind others that were taken
  loaded-more : (start mid : List Fact) (n : ℕ) (payloads : List (Option Fact)) (fact : Fact) → loaded_by total cluster start n payloads ≡ Ok mid → is_allowed_fact cluster mid fact ≡ true
      → loaded_by total cluster start n (payloads ++ Some fact ∷ []) ≡ (if exceeds_cells total mid fact then Err (past_fault total mid fact) else Ok (fact ∷ mid))
  loaded-more start mid n [] fact e allowed = let same : start ≡ mid = cc in rw (same, not_from_true (is_allowed_fact cluster mid fact) allowed) refl
  loaded-more start mid n (None ∷ payloads) fact e allowed = absurd (cc)
  loaded-more start mid n (Some first ∷ payloads) fact e allowed =
      elim (cases_Bool (not (is_allowed_fact cluster start first))) [
        | inl a ↦ let bad : Err (BootFault.NotARun (n + 1)) ≡ Ok mid = rw a at e in absurd (cc)
        | inr a ↦ elim (cases_Bool (exceeds_cells total start first)) [
          | inl b ↦ let bad : Err (past_fault total start first) ≡ Ok mid = rw (a, b) at e in absurd (cc)
          | inr b ↦ let rest : loaded_by total cluster (first ∷ start) (n + 1) payloads ≡ Ok mid = rw (a, b) at e in
              rw (a, b) (loaded-more (first ∷ start) mid (n + 1) payloads fact rest allowed)
        ]
      ]

  -- behind others of which one was refused
  loaded-refused : (start : List Fact) (n : ℕ) (payloads : List (Option Fact)) (fact : Fact) (fault : BootFault) → loaded_by total cluster start n payloads ≡ Err fault
      → loaded_by total cluster start n (payloads ++ Some fact ∷ []) ≡ Err fault
  loaded-refused start n [] fact fault e = absurd (cc)
  loaded-refused start n (None ∷ payloads) fact fault e = e
  loaded-refused start n (Some first ∷ payloads) fact fault e =
      elim (cases_Bool (not (is_allowed_fact cluster start first))) [
        | inl a ↦ let same : Err (BootFault.NotARun (n + 1)) ≡ Err fault = rw a at e in rw a same
        | inr a ↦ elim (cases_Bool (exceeds_cells total start first)) [
          | inl b ↦ let same : Err (past_fault total start first) ≡ Err fault = rw (a, b) at e in rw (a, b) same
          | inr b ↦ let rest : loaded_by total cluster (first ∷ start) (n + 1) payloads ≡ Err fault = rw (a, b) at e in
              rw (a, b) (loaded-refused (first ∷ start) (n + 1) payloads fact fault rest)
        ]
      ]

  -- they are read again, or one lacks cells
  own-loads : (facts : List Fact) → IsTrue (are_allowed_facts cluster facts)
      → (loaded_by total cluster [] 0 (fact_payloads facts) ≡ Ok facts) ⊎ ((needed : ℕ) × (loaded_by total cluster [] 0 (fact_payloads facts) ≡ Err (BootFault.Room needed total)))
  own-loads [] h = inl refl
  own-loads (fact ∷ facts) h =
      let both = and_parts (are_allowed_facts cluster facts) (is_allowed_fact cluster facts fact) h in
      elim (own-loads facts both.0) [
        | inl read ↦ by_past (exceeds_cells total facts fact) (loaded-more [] facts 0 (fact_payloads facts) fact read both.1)
        | inr lacks ↦ inr (lacks.0, loaded-refused [] 0 (fact_payloads facts) fact (BootFault.Room lacks.0 total) lacks.1)
      ]
    where
      by_past : (past : Bool) → loaded_by total cluster [] 0 (fact_payloads (fact ∷ facts)) ≡ (if past then Err (past_fault total facts fact) else Ok (fact ∷ facts))
          → (loaded_by total cluster [] 0 (fact_payloads (fact ∷ facts)) ≡ Ok (fact ∷ facts)) ⊎ ((needed : ℕ) × (loaded_by total cluster [] 0 (fact_payloads (fact ∷ facts)) ≡ Err (BootFault.Room needed total)))
      by_past true e = inr (min (cells_held facts + cells_needed fact) (2 ^ 64 - 1), e)
      by_past false e = inl e

  -- then the next boot is added to them
  pub own-boots : (facts : List Fact) → IsTrue (are_allowed_facts cluster facts)
      → (boot_by total cluster (fact_payloads facts) ≡ with_next_boot total (Ok facts)) ⊎ ((needed : ℕ) × (boot_by total cluster (fact_payloads facts) ≡ Err (BootFault.Room needed total)))
  own-boots facts h = elim (own-loads facts h) [
    | inl read ↦ inl (ap (with_next_boot total) read)
    | inr lacks ↦ inr (lacks.0, ap (with_next_boot total) lacks.1)
  ]
