-- What a boot makes of the payloads of an open log.
use Rattle.std.proofs.Common.{◌≡◌, ℕ, ◌+◌, ◌-◌, ◌/◌, ◌%◌, min, ◌^◌, ◌<◌, ◌≤◌, true, not, List, [], ◌∷◌, ◌++◌, Some, Result, Ok, Err, refl, sym, ◌∙◌, ap, subst, inl, inr, arith, append-nil, append_assoc, map, length, nat_le}
use Rattle.std.specs.List.{AllByRecursion}
use Rattle.std.proofs.lemmas.Bool.{cases_Bool}
use Rattle.mdcc_node_boot.specs.Boots.{BootsWithinCells}
use Rattle.mdcc_node_boot.specs.Loading.{AreWithinFrames, boot_by, exceeds_cells, fact_in, fact_read, loaded_by, past_fault, with_next_boot}
use Rattle.mdcc_node_log.specs.Nodes.{CentreStore, IsNodeOf, are_stored, store_cells}
use Rattle.mdcc_def_ledger.specs.BootTest.{is_allowed_fact}
use Rattle.mdcc_def_messages.specs.Lengths.{cells_needed, fact_length}
use Rattle.mdcc_def_messages.specs.Reading.{fact_of}
use Rattle.mdcc_def_messages.specs.Spelling.{encodings_of, fact_bytes}
use Rattle.mdcc_def_messages.specs.WellFormed.{IsWellFormedFact}
use Rattle.mdcc_def_messages.specs.declared.facts.Fact.{Fact}
use Rattle.mdcc_def_messages.specs.declared.wire.WireFault.{WireFault}
use Rattle.mdcc_node.specs.BootEffects.{Boots}
use Rattle.mdcc_node.specs.declared.node.Node.{Node}
use Rattle.mdcc_option.specs.declared.cluster.Cluster.{Cluster}
use Rattle.mdcc_def_protocol.specs.Belongs.{is_centre}
use Rattle.mdcc_def_protocol.specs.Facts.{epoch_of}
use Rattle.mdcc_def_protocol.specs.IsCluster.{IsCluster}
use Rattle.mdcc_def_protocol.specs.Volatile.{initial_volatile}
use Rattle.mdcc_node_log.proofs.Logged.{payloads-read}
use Rattle.mdcc_node_log.proofs.Starts.{boot-ends, node-boots}
use Rattle.mdcc_node_log.specs.Logged.{AreLogged}
use Rattle.mdcc_def_rules.specs.Boot.{boot_of, next_boot}
use Rattle.mdcc_def_rules.specs.declared.node.BootFault.{BootFault}
use Rattle.mdcc_serve.specs.Starts.{GivesNoServer, GivesNode, boot_fault_of}
use Rattle.mdcc_theorem_encoding.proofs.Lengths.{length-fact}
use Rattle.mdcc_theorem_encoding.specs.Laws.{AreBytes, FactsHaveOneSpelling, FactsReadAreWellFormed}
use Rattle.mdcc_theorem_node_steps.proofs.Booting.{boot-room}
use Rattle.mdcc_theorem_node_steps.specs.NodeInvariant.{BootGivesNode, fact_payloads}

module _ (one : FactsHaveOneSpelling) (well : FactsReadAreWellFormed) where
  -- ---- what is read of payloads

  read_well : (p : List ℕ) → AreBytes p → (r : Result Fact WireFault) → fact_of p ≡ r → (fact : Fact) → fact_in r ≡ Some fact → IsWellFormedFact fact
  read_well p bytes (Ok other) is fact e = let same : other ≡ fact = cc in well p fact bytes (is ∙ ap (λ (f : Fact). let ok : Result Fact WireFault = Ok f in ok) same)
  read_well p bytes (Err fault) is fact e = absurd (cc)

  each_well : (ps : List (List ℕ)) → AllByRecursion AreBytes ps → AllByRecursion (λ payload. (fact : Fact) → payload ≡ Some fact → IsWellFormedFact fact) (map fact_read ps)
  each_well [] bytes = tt
  each_well (p ∷ ps) bytes = (λ fact e. read_well p bytes.0 (fact_of p) refl fact e, each_well ps bytes.1)

  read_small : (p : List ℕ) → AreBytes p → length p ≤ 2097152 → (r : Result Fact WireFault) → fact_of p ≡ r → (fact : Fact) → fact_in r ≡ Some fact → cells_needed fact < 2 ^ 63
  read_small p bytes short (Ok other) is fact e =
      let same : other ≡ fact = cc in
      let spelled = one p fact bytes (is ∙ ap (λ (f : Fact). let ok : Result Fact WireFault = Ok f in ok) same) in
      few (fact_length fact) (length p) (length-fact fact ∙ ap length (sym spelled)) short
    where
      few : (n m : ℕ) → n ≡ m → m ≤ 2097152 → n / 60 + min 1 (n % 60) < 2 ^ 63
      few n m same short = omega (same, short, arith)
  read_small p bytes short (Err fault) is fact e = absurd (cc)

  each_small : (ps : List (List ℕ)) → AllByRecursion AreBytes ps → AreWithinFrames ps → AllByRecursion (λ payload. (fact : Fact) → payload ≡ Some fact → cells_needed fact < 2 ^ 63) (map fact_read ps)
  each_small [] bytes short = tt
  each_small (p ∷ ps) bytes short = (λ fact e. read_small p bytes.0 short.0 (fact_of p) refl fact e, each_small ps bytes.1 short.1)

  -- what is loaded is what they spell
  loaded_spells : (cells : ℕ) (cluster : Cluster) (start all : List Fact) (n : ℕ) (ps : List (List ℕ)) → AllByRecursion AreBytes ps
      → loaded_by cells cluster start n (map fact_read ps) ≡ Ok all → encodings_of all ≡ encodings_of start ++ ps
  loaded_spells cells cluster start all n [] bytes e = let same : start ≡ all = cc in ap encodings_of (sym same) ∙ sym (append-nil (encodings_of start))
  loaded_spells cells cluster start all n (p ∷ ps) bytes e = by_read (λ fact rest. loaded_spells cells cluster (fact ∷ start) all (n + 1) ps bytes.1 rest) (fact_of p) refl e
    where
      by_read : ((fact : Fact) → loaded_by cells cluster (fact ∷ start) (n + 1) (map fact_read ps) ≡ Ok all → encodings_of all ≡ encodings_of (fact ∷ start) ++ ps)
          → (r : Result Fact WireFault) → fact_of p ≡ r → loaded_by cells cluster start n (fact_in r ∷ map fact_read ps) ≡ Ok all → encodings_of all ≡ encodings_of start ++ p ∷ ps
      by_read more (Err fault) is e = absurd (cc)
      by_read more (Ok fact) is e = elim (cases_Bool (not (is_allowed_fact cluster start fact))) [
        | inl a ↦ let bad : Err (BootFault.NotARun (n + 1)) ≡ Ok all = rw a at e in absurd (cc)
        | inr a ↦ elim (cases_Bool (exceeds_cells cells start fact)) [
          | inl b ↦ let bad : Err (past_fault cells start fact) ≡ Ok all = rw (a, b) at e in absurd (cc)
          | inr b ↦
              let rest : loaded_by cells cluster (fact ∷ start) (n + 1) (map fact_read ps) ≡ Ok all = rw (a, b) at e in
              more fact rest
              ∙ (append_assoc (encodings_of start) (fact_bytes fact ∷ []) ps ∙ ap (λ (q : List ℕ). encodings_of start ++ q ∷ ps) (sym (one p fact bytes.0 is)))
        ]
      ]

  -- so are the facts of a node
  booted_spells : (cells : ℕ) (cluster : Cluster) (ps : List (List ℕ)) → AllByRecursion AreBytes ps → (boot : Fact) (facts : List Fact)
      → boot_by cells cluster (map fact_read ps) ≡ Ok (boot ∷ facts) → (boot ≡ next_boot facts) × (ps ≡ encodings_of facts)
  booted_spells cells cluster ps bytes boot facts e = by_loaded (loaded_by cells cluster [] 0 (map fact_read ps)) refl e
    where
      by_loaded : (loaded : Result (List Fact) BootFault) → loaded_by cells cluster [] 0 (map fact_read ps) ≡ loaded → with_next_boot cells loaded ≡ Ok (boot ∷ facts) → (boot ≡ next_boot facts) × (ps ≡ encodings_of facts)
      by_loaded (Err fault) is e = absurd (cc)
      by_loaded (Ok all) is e = elim (cases_Bool (nat_le (2 ^ 32 - 1) (epoch_of all))) [
        | inl a ↦ let bad : Err BootFault.Epochs ≡ Ok (boot ∷ facts) = rw a at e in absurd (cc)
        | inr a ↦ elim (cases_Bool (exceeds_cells cells all (next_boot all))) [
          | inl b ↦ let bad : Err (past_fault cells all (next_boot all)) ≡ Ok (boot ∷ facts) = rw (a, b) at e in absurd (cc)
          | inr b ↦
              let both : Ok (next_boot all ∷ all) ≡ Ok (boot ∷ facts) = rw (a, b) at e in
              let same : all ≡ facts = cc in
              let first : next_boot all ≡ boot = cc in
              (sym first ∙ ap next_boot same, sym (loaded_spells cells cluster [] all 0 ps bytes is) ∙ ap encodings_of same)
        ]
      ]

  module _ (within : BootsWithinCells) (gives : BootGivesNode) (cluster : Cluster) (is_cluster : IsCluster cluster) (me : ℕ) (among : is_centre cluster me ≡ true)
      (ps : List (List ℕ)) (bytes : AllByRecursion AreBytes ps) (short : AreWithinFrames ps)
    where
      -- its cells are those of the cluster
      protocol : boot_by cluster.cells cluster (map fact_read ps) ≡ boot_of cluster (map fact_read ps)
      protocol = within cluster (map fact_read ps) (let most = is_cluster.cells in omega (most, arith)) (each_small ps bytes short)

      -- as it is of facts that the centre may have added
      by_facts : (before : List Fact) → AreLogged cluster before → ps ≡ encodings_of before → map fact_read ps ≡ fact_payloads before
      by_facts before are is = ap (λ (qs : List (List ℕ)). map fact_read qs) is ∙ payloads-read before are.well_formed

      pub gives_node : (r : Node CentreStore × Fact) → Boots are_stored store_cells cluster.cells (Ok r) cluster me (boot_by cluster.cells cluster (map fact_read ps))
          → GivesNode cluster me ps r.0 r.1
      gives_node r h =
          let spelled = booted_spells cluster.cells cluster ps bytes r.1 h.0 h.1 in
          let made = sym protocol ∙ h.1 in
          record {
            facts = h.0;
            itself = subst (λ (fact : Fact). IsNodeOf r.0 cluster me (fact ∷ h.0) initial_volatile) spelled.0
                (record { itself = h.2; cells = h.3.total; fits = boot-room cluster (map fact_read ps) (r.1 ∷ h.0) made });
            kept = gives cluster me (map fact_read ps) (next_boot h.0 ∷ h.0) is_cluster among (each_well ps bytes)
                (made ∙ ap (λ (fact : Fact). let ok : Result (List Fact) BootFault = Ok (fact ∷ h.0) in ok) spelled.0);
            boot_is = spelled.0;
            payloads_are = spelled.1;
            over = λ before are is.
                let booted = (node-boots are_stored store_cells cluster.cells cluster me before ps is are r h).3 in
                let read = ap (boot_by cluster.cells cluster) (by_facts before are is) in
                let both : Ok (r.1 ∷ h.0) ≡ Ok (next_boot before ∷ before) = sym h.1 ∙ (read ∙ booted) in
                cc;
          }

      pub gives_none : (fault : BootFault) → Boots {S = CentreStore} are_stored store_cells cluster.cells (Err fault) cluster me (boot_by cluster.cells cluster (map fact_read ps))
          → GivesNoServer cluster me ps (boot_fault_of me fault)
      gives_none BootFault.Memory h = inl refl
      gives_none BootFault.Epochs h = inr (BootFault.Epochs, refl, λ before are is. boot-ends are_stored store_cells cluster.cells cluster me before ps is are BootFault.Epochs h)
      gives_none (BootFault.NotARun n) h = inr (BootFault.NotARun n, refl, λ before are is. boot-ends are_stored store_cells cluster.cells cluster me before ps is are (BootFault.NotARun n) h)
      gives_none (BootFault.Room needed all) h =
          inr (BootFault.Room needed all, refl, λ before are is. ap (boot_of cluster) (sym (by_facts before are is)) ∙ (sym protocol ∙ h))
