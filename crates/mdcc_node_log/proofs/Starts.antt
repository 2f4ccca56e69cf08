-- What a centre starts with: the facts of its log, and the next boot.
use Rattle.std.proofs.Common.{◌≡◌, ◌⊎◌, inl, inr, ℕ, ◌+◌, ◌-◌, ◌^◌, ◌<◌, ◌≤◌, Bool, true, false, List, [], ◌∷◌, ◌++◌, append-nil, append_assoc, map, min, Result, Ok, Err, refl, sym, ◌∙◌, ap, subst, arith, nat_le, length, IsErrOf, IsTrue, if◌then◌else◌}
use Rattle.std.proofs.lemmas.Bool.{and_parts, leb-false, leb-true, ltb-false}
use Rattle.mdcc_node_boot.specs.Loading.{boot_by, exceeds_cells, fact_read, past_fault}
use Rattle.mdcc_disks.specs.Disks.{Disk}
use Rattle.mdcc_log_file.specs.Area.{payloads}
use Rattle.mdcc_log.specs.Crash.{ReadsAsEither}
use Rattle.mdcc_log.specs.Groups.{ReadsAsAllOrNone}
use Rattle.mdcc_log_file.specs.Log.{log_bytes, log_limit}
use Rattle.mdcc_log_file.specs.declared.fault.LogFault.{LogFault}
use Rattle.mdcc_node.specs.BootEffects.{Boots, IsBoot}
use Rattle.mdcc_node.specs.Represents.{RepresentsCentre}
use Rattle.mdcc_node.specs.declared.node.Node.{Node}
use Rattle.mdcc_option.specs.declared.cluster.Cluster.{Cluster}
use Rattle.mdcc_def_ledger.specs.BootTest.{are_allowed_facts, is_allowed_fact}
use Rattle.mdcc_def_protocol.specs.Cells.{cells_held}
use Rattle.mdcc_def_protocol.specs.Facts.{epoch_of}
use Rattle.mdcc_def_messages.specs.Lengths.{cells_needed}
use Rattle.mdcc_def_messages.specs.Spelling.{fact_bytes, encodings_of}
use Rattle.mdcc_def_protocol.specs.Volatile.{initial_volatile}
use Rattle.mdcc_def_messages.specs.declared.facts.Fact.{Fact}
use Rattle.mdcc_def_rules.specs.declared.node.BootFault.{BootFault}
use Rattle.mdcc_node_log.proofs.Loaded.{own-boots}
use Rattle.mdcc_node_log.proofs.Logged.{log-grows, payloads-read}
use Rattle.mdcc_node_log.specs.Faults.{of_boot, of_log}
use Rattle.mdcc_node_log.specs.Logged.{AreLogged, with_facts}
use Rattle.mdcc_node_log.specs.declared.fault.StartFault.{StartFault}
use Rattle.mdcc_node_log.specs.Starting.{BootsNode, IsLogOnDisks, IsRefused, booted_over, size_with_boot}
use Rattle.mdcc_def_rules.specs.Boot.{next_boot}

-- ---- the boot

module _ {S : Type 0} (stands : S → List Fact → Type 0) (cells : S → ℕ) (total : ℕ) (cluster : Cluster) (me : ℕ) (facts : List Fact) (payloads : List (List ℕ))
    (is : payloads ≡ encodings_of facts) (are : AreLogged cluster facts) where
  -- the payloads are read as the facts
  read-over : boot_by total cluster (map fact_read payloads) ≡ booted_over total cluster facts
  read-over = ap (λ read. boot_by total cluster (map fact_read read)) is ∙ ap (boot_by total cluster) (payloads-read facts are.well_formed)

  node-by : (ended past : Bool) (why : BootFault) (all : List Fact)
      → (if ended then Err BootFault.Epochs else (if past then Err why else Ok (next_boot facts ∷ facts))) ≡ Ok all
      → (ended ≡ false) × (all ≡ next_boot facts ∷ facts)
  node-by true past why all e = absurd (cc)
  node-by false true why all e = absurd (cc)
  node-by false false why all e = (refl, cc)

  node-of : (all : List Fact) → booted_over total cluster facts ≡ Ok all → (epoch_of facts < 2 ^ 32 - 1) × (all ≡ next_boot facts ∷ facts)
  node-of all e = elim (own-boots total cluster facts are.allowed) [
    | inl same ↦
        let found = node-by (nat_le (2 ^ 32 - 1) (epoch_of facts)) (exceeds_cells total facts (next_boot facts)) (past_fault total facts (next_boot facts)) all (sym same ∙ e) in
        (leb-false (2 ^ 32 - 1) (epoch_of facts) found.0, found.1)
    | inr lacks ↦ absurd (let bad : Err (BootFault.Room lacks.0 total) ≡ Ok all = sym lacks.1 ∙ e in cc)
  ]

  -- it gives a node
  pub node-boots : (r : Node S × Fact) → Boots stands cells total (Ok r) cluster me (boot_by total cluster (map fact_read payloads)) → BootsNode stands cells total (Ok r) cluster me facts
  node-boots r h =
      let over : booted_over total cluster facts ≡ Ok (r.1 ∷ h.0) = sym read-over ∙ h.1 in
      let found = node-of (r.1 ∷ h.0) over in
      let same : r.1 ∷ h.0 ≡ next_boot facts ∷ facts = found.1 in (
        found.0,
        subst (λ fs. RepresentsCentre stands r.0 cluster me fs initial_volatile) same h.2,
        cc,
        over ∙ ap (λ fs. Ok fs) same,
        h.3.total,
      )

  ends-by : (ended past : Bool) (needed : ℕ) (fault : BootFault) → (ended ≡ true → 2 ^ 32 - 1 ≤ epoch_of facts) → booted_over total cluster facts ≡ Err fault
      → (if ended then Err BootFault.Epochs else (if past then Err (BootFault.Room needed total) else Ok (next_boot facts ∷ facts))) ≡ Err fault
      → BootsNode {S = S} stands cells total (Err (of_boot fault)) cluster me facts
  ends-by ended past needed BootFault.Memory most over e = tt
  ends-by ended past needed (BootFault.Room more all) most over e = over
  ends-by true past needed BootFault.Epochs most over e = most refl
  ends-by false true needed BootFault.Epochs most over e = absurd (cc)
  ends-by false false needed BootFault.Epochs most over e = absurd (cc)
  ends-by true past needed (BootFault.NotARun n) most over e = absurd (cc)
  ends-by false true needed (BootFault.NotARun n) most over e = absurd (cc)
  ends-by false false needed (BootFault.NotARun n) most over e = absurd (cc)

  ends-over : (fault : BootFault) → booted_over total cluster facts ≡ Err fault → BootsNode {S = S} stands cells total (Err (of_boot fault)) cluster me facts
  ends-over fault e = elim (own-boots total cluster facts are.allowed) [
    | inl same ↦
        ends-by (nat_le (2 ^ 32 - 1) (epoch_of facts)) (exceeds_cells total facts (next_boot facts)) (min (cells_held facts + cells_needed (next_boot facts)) (2 ^ 64 - 1)) fault
        (leb-true (2 ^ 32 - 1) (epoch_of facts)) e (sym same ∙ e)
    | inr lacks ↦
        let room_fault : BootFault.Room lacks.0 total ≡ fault = (let both : Err (BootFault.Room lacks.0 total) ≡ Err fault = sym lacks.1 ∙ e in cc) in
        subst (λ (f : BootFault). BootsNode {S = S} stands cells total (Err (of_boot f)) cluster me facts) room_fault lacks.1
  ]

  -- or cells lack, or the epochs are used up
  pub boot-ends : (fault : BootFault) → Boots {S = S} stands cells total (Err fault) cluster me (boot_by total cluster (map fact_read payloads))
      → BootsNode {S = S} stands cells total (Err (of_boot fault)) cluster me facts
  boot-ends BootFault.Memory h = tt
  boot-ends BootFault.Epochs h = ends-over BootFault.Epochs (sym read-over ∙ h)
  boot-ends (BootFault.NotARun n) h = ends-over (BootFault.NotARun n) (sym read-over ∙ h)
  boot-ends (BootFault.Room needed all) h = ends-over (BootFault.Room needed all) (sym read-over ∙ h)

-- where a boot gives them they left room for it
fits-by : (cells : ℕ) (facts : List Fact) (ended past : Bool) (why : BootFault) (all : List Fact) → exceeds_cells cells facts (next_boot facts) ≡ past
    → (if ended then Err BootFault.Epochs else (if past then Err why else Ok (next_boot facts ∷ facts))) ≡ Ok all
    → cells_held facts + cells_needed (next_boot facts) ≤ cells
fits-by cells facts true past why all is e = absurd (cc)
fits-by cells facts false true why all is e = absurd (cc)
fits-by cells facts false false why all is e = ltb-false cells (cells_held facts + cells_needed (next_boot facts)) is

pub boot-fits : (cells : ℕ) (cluster : Cluster) (facts : List Fact) → AreLogged cluster facts → booted_over cells cluster facts ≡ Ok (next_boot facts ∷ facts)
    → cells_held facts + cells_needed (next_boot facts) ≤ cells
boot-fits cells cluster facts are e = elim (own-boots cells cluster facts are.allowed) [
  | inl same ↦
      fits-by cells facts (nat_le (2 ^ 32 - 1) (epoch_of facts)) (exceeds_cells cells facts (next_boot facts)) (past_fault cells facts (next_boot facts)) (next_boot facts ∷ facts) refl
      (sym same ∙ e)
  | inr lacks ↦ absurd (let bad : Err (BootFault.Room lacks.0 cells) ≡ Ok (next_boot facts ∷ facts) = sym lacks.1 ∙ e in cc)
]

-- a boot that is refused refuses the start
pub boot-refuses : {S : Type 0} (stands : S → List Fact → Type 0) (cells : S → ℕ) (total : ℕ) (cluster : Cluster) (me : ℕ) (facts : List Fact) (fault : StartFault)
    (roomy : Type 0) → BootsNode {S = S} stands cells total (Err fault) cluster me facts → IsRefused total cluster facts roomy fault
boot-refuses stands cells total cluster me facts (StartFault.Boot BootFault.Epochs) roomy h = h
boot-refuses stands cells total cluster me facts (StartFault.Boot (BootFault.Room needed all)) roomy h = h
boot-refuses stands cells total cluster me facts (StartFault.Boot (BootFault.NotARun n)) roomy h = h
boot-refuses stands cells total cluster me facts (StartFault.Boot BootFault.Memory) roomy h = h
boot-refuses stands cells total cluster me facts (StartFault.Log fault) roomy h = absurd h
boot-refuses stands cells total cluster me facts StartFault.Memory roomy h = tt

-- ---- the log

-- what was read is what stands there
pub same-payloads : (first second : List ℕ) (all more : List (List ℕ)) → payloads first second ≡ Ok all → payloads first second ≡ Ok more → all ≡ more
same-payloads first second all more e f = cc

-- the payload of a boot has five bytes
pub boot-length : (fact : Fact) (payload : List ℕ) → IsBoot fact → payload ≡ fact_bytes fact → length payload ≡ 5
boot-length (Fact.Booted epoch) payload boot e = rw e refl
boot-length (Fact.Floor origin era upto) payload boot e = absurd boot
boot-length (Fact.Promised key low high ballot) payload boot e = absurd boot
boot-length (Fact.Voted key version ballot options offered) payload boot e = absurd boot
boot-length (Fact.Heard tx outcome) payload boot e = absurd boot
boot-length (Fact.Adopted key version item adds) payload boot e = absurd boot

-- the boot takes ten bytes
boot-size : (facts : List Fact) → size_with_boot facts ≡ length (log_bytes (encodings_of facts)) + 10
boot-size facts = log-grows (encodings_of facts) (fact_bytes (next_boot facts))

-- why the log was not opened
pub open-refuses : {T : Type 0} (total : ℕ) (cluster : Cluster) (facts : List Fact) (roomy : Type 0) (fault : LogFault) (first second : List ℕ) → payloads first second ≡ Ok (encodings_of facts)
    → ((n : ℕ) → IsErrOf {T = T} (Err fault) (LogFault.NotALog n) → payloads first second ≡ Err n)
    → (IsErrOf {T = T} (Err fault) LogFault.LogFull → ⊥)
    → IsRefused total cluster facts roomy (of_log fault)
open-refuses total cluster facts roomy LogFault.DiskFault first second read not_a_log not_full = tt
open-refuses total cluster facts roomy (LogFault.NotALog n) first second read not_a_log not_full = let broken = not_a_log n refl in absurd (cc)
open-refuses total cluster facts roomy LogFault.LogFull first second read not_a_log not_full = absurd (not_full refl)
open-refuses total cluster facts roomy LogFault.Memory first second read not_a_log not_full = tt

-- why the new boot was not appended
pub refuses : (total : ℕ) (cluster : Cluster) (facts : List Fact) (roomy : Type 0) (fault : LogFault) → booted_over total cluster facts ≡ Ok (next_boot facts ∷ facts)
    → (IsErrOf {T = Unit {0}} (Err fault) LogFault.LogFull → roomy → log_limit < size_with_boot facts)
    → ((n : ℕ) → IsErrOf {T = Unit {0}} (Err fault) (LogFault.NotALog n) → ⊥)
    → IsRefused total cluster facts roomy (of_log fault)
refuses total cluster facts roomy LogFault.DiskFault boots full not_a_log = tt
refuses total cluster facts roomy (LogFault.NotALog n) boots full not_a_log = not_a_log n refl
refuses total cluster facts roomy LogFault.LogFull boots full not_a_log = (boots, full refl)
refuses total cluster facts roomy LogFault.Memory boots full not_a_log = tt

-- the new boot would not lie within the limit
pub lies-past : (facts : List Fact) (all : List (List ℕ)) (five : ℕ) → all ≡ encodings_of facts → five ≡ 5 → log_limit < length (log_bytes all) + (five + 5) → log_limit < size_with_boot facts
lies-past facts all five is five_is past =
    omega (arith, boot-size facts, five_is, past, ap (λ (ps : List (List ℕ)). length (log_bytes ps)) is)

-- it lies within the limit
pub lies-within : (facts : List Fact) (all : List (List ℕ)) (five : ℕ) → all ≡ encodings_of facts → five ≡ 5 → (log_limit < length (log_bytes all) + (five + 5) → ⊥) → size_with_boot facts ≤ log_limit
lies-within facts all five is five_is full =
    least (size_with_boot facts) log_limit (λ more. full (omega (arith, boot-size facts, five_is, more, ap (λ (ps : List (List ℕ)). length (log_bytes ps)) is)))
  where
    least : (a b : ℕ) → (b < a → ⊥) → a ≤ b
    least a b h = omega arith

-- ---- crashes

-- the facts without the newest
older : (cluster : Cluster) (facts : List Fact) (fact : Fact) → AreLogged cluster (fact ∷ facts) → AreLogged cluster facts
older cluster facts fact are = record { allowed = (and_parts (are_allowed_facts cluster facts) (is_allowed_fact cluster facts fact) are.allowed).0; well_formed = are.well_formed.1 }

-- what is read after a crash of an append is the facts with the new one or without
pub after-crash : (Q : List Fact → Type 0) (cluster : Cluster) (facts : List Fact) (fact : Fact) (first second : Disk)
    → ((fs : List Fact) → AreLogged cluster fs → IsLogOnDisks fs first second → Q fs)
    → AreLogged cluster (fact ∷ facts) → IsTrue first.told → IsTrue second.told → ReadsAsEither (encodings_of facts) (fact_bytes fact) (payloads first.bytes second.bytes)
    → Q facts ⊎ Q (fact ∷ facts)
after-crash Q cluster facts fact first second each are told_first told_second either =
    elim either [
      | inl read ↦ inl (each facts (older cluster facts fact are) (record { told_first = told_first; told_second = told_second; read = read }))
      | inr read ↦ inr (each (fact ∷ facts) are (record { told_first = told_first; told_second = told_second; read = read }))
    ]

-- facts behind others have their bytes behind those
pub group-encoded : (facts more : List Fact) → encodings_of facts ++ map fact_bytes more ≡ encodings_of (with_facts facts more)
group-encoded facts [] = append-nil (encodings_of facts)
group-encoded facts (fact ∷ more) = sym (append_assoc (encodings_of facts) (fact_bytes fact ∷ []) (map fact_bytes more)) ∙ group-encoded (fact ∷ facts) more

-- the facts without the newest so many
without : (cluster : Cluster) (facts more : List Fact) → AreLogged cluster (with_facts facts more) → AreLogged cluster facts
without cluster facts [] are = are
without cluster facts (fact ∷ more) are = older cluster facts fact (without cluster (fact ∷ facts) more are)

-- what is read after a crash of an append of several is the facts with all of them or without
pub after-group : (Q : List Fact → Type 0) (cluster : Cluster) (facts more : List Fact) (first second : Disk)
    → ((fs : List Fact) → AreLogged cluster fs → IsLogOnDisks fs first second → Q fs)
    → AreLogged cluster (with_facts facts more) → IsTrue first.told → IsTrue second.told → ReadsAsAllOrNone (encodings_of facts) (map fact_bytes more) (payloads first.bytes second.bytes)
    → Q facts ⊎ Q (with_facts facts more)
after-group Q cluster facts more first second each are told_first told_second either =
    elim either [
      | inl read ↦ inl (each facts (without cluster facts more are) (record { told_first = told_first; told_second = told_second; read = read }))
      | inr read ↦ inr (each (with_facts facts more) are (record { told_first = told_first; told_second = told_second; read = read ∙ ap (λ (ps : List (List ℕ)). let ok : Result (List (List ℕ)) ℕ = Ok ps in ok) (group-encoded facts more) }))
    ]
