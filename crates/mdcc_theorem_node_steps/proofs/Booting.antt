-- A boot gives a node, and reads facts that are allowed in turn.
use Rattle.std.proofs.Common.{◌≡◌, ℕ, ◌+◌, ◌-◌, ◌^◌, ◌&&◌, ◌==◌, ◌<◌, ◌≤◌, ◌++◌, Bool, true, false, cond, List, [], ◌∷◌, refl, ap, inl, inr, subst, Option, Some, None, Result, Ok, Err, not, nat_le, arith}
use Rattle.std.specs.List.{AllByRecursion}
use Rattle.std.proofs.lemmas.Bool.{and_from, and_parts, cases_Bool, eq-eqb, eqb-true, le-ltb, leb-false, lt-ltb, ltb-false, not-false, not_from_true}
use Rattle.mdcc_base.specs.Counts.{number_of}
use Rattle.mdcc_option.specs.declared.cluster.Cluster.{Cluster}
use Rattle.mdcc_def_ledger.specs.BootTest.{are_allowed_facts, is_allowed_fact}
use Rattle.mdcc_def_ledger.specs.AllowedFacts.{is_booted}
use Rattle.mdcc_def_protocol.specs.Belongs.{fact_belongs, is_centre}
use Rattle.mdcc_def_rules.specs.Boot.{boot_of, booted_by, is_past_cells, loaded_from, room_fault}
use Rattle.mdcc_def_protocol.specs.Facts.{epoch_of}
use Rattle.mdcc_def_protocol.specs.IsCluster.{IsCluster}
use Rattle.mdcc_def_messages.specs.Lengths.{cells_needed}
use Rattle.mdcc_def_protocol.specs.Volatile.{initial_volatile}
use Rattle.mdcc_def_messages.specs.WellFormed.{IsWellFormedFact}
use Rattle.mdcc_def_messages.specs.declared.facts.Fact.{Fact}
use Rattle.mdcc_def_rules.specs.declared.node.BootFault.{BootFault}
use Rattle.mdcc_theorem_node_steps.specs.NodeInvariant.{IsNode, fact_payloads, FitInTurn}
use Rattle.mdcc_theorem_node_steps.specs.WellFormedVolatile.{AreNodeFacts}
use Rattle.mdcc_def_protocol.specs.Cells.{cells_held}

-- a result behind two tests
two_tests : {X Y : Type 0} (a b : Bool) (x y : Y) (m : Result X Y) (r : X) → cond a (Err x) (cond b (Err y) m) ≡ Ok r → (a ≡ false) × (b ≡ false) × (m ≡ Ok r)
two_tests true b x y m r h = absurd (cc)
two_tests false true x y m r h = absurd (cc)
two_tests false false x y m r h = (refl, refl, h)

ok-same : {X Y : Type 0} (m : Result X Y) (a b : X) → m ≡ Ok a → m ≡ Ok b → a ≡ b
ok-same m a b h k = cc

abbrev IsPayload : Option Fact → Type 0
IsPayload payload = (fact : Fact) → payload ≡ Some fact → IsWellFormedFact fact

abbrev AreLoaded : Cluster → List Fact → Type 0
AreLoaded cluster facts = (are_allowed_facts cluster facts ≡ true) × AllByRecursion IsWellFormedFact facts

loaded-facts : (cluster : Cluster) (facts : List Fact) (n : ℕ) (payloads : List (Option Fact)) (result : List Fact) → AreLoaded cluster facts → AllByRecursion IsPayload payloads
    → loaded_from cluster facts n payloads ≡ Ok result → AreLoaded cluster result
loaded-facts cluster facts n [] result h w e = let same : facts ≡ result = cc in rw (← same) h
loaded-facts cluster facts n (None ∷ payloads) result h w e = absurd (cc)
loaded-facts cluster facts n (Some fact ∷ payloads) result h w e =
    let passed = two_tests (not (is_allowed_fact cluster facts fact)) (is_past_cells cluster facts fact) _ _ (loaded_from cluster (fact ∷ facts) (n + 1) payloads) result e in
    loaded-facts cluster (fact ∷ facts) (n + 1) payloads result
    (and_from _ _ h.0 (not-false (is_allowed_fact cluster facts fact) passed.0), (w.0 fact refl, h.1)) w.1 passed.2

-- ---- epochs are counted

kind-epoch : (cluster : Cluster) (facts : List Fact) (fact : Fact) → is_allowed_fact cluster facts fact ≡ true → epoch_of facts ≡ number_of is_booted facts
    → epoch_of (fact ∷ facts) ≡ number_of is_booted (fact ∷ facts)
kind-epoch cluster facts (Fact.Booted epoch) h ih =
    let same : epoch ≡ number_of is_booted facts + 1 = eqb-true epoch (number_of is_booted facts + 1)
    (and_parts (fact_belongs cluster (Fact.Booted epoch) && true) (epoch == number_of is_booted facts + 1) h).1 in
    omega arith
kind-epoch cluster facts (Fact.Promised key low high ballot) h ih = omega arith
kind-epoch cluster facts (Fact.Voted key version ballot options offered) h ih = omega arith
kind-epoch cluster facts (Fact.Heard tx outcome) h ih = omega arith
kind-epoch cluster facts (Fact.Floor origin era upto) h ih = omega arith
kind-epoch cluster facts (Fact.Adopted key version item adds) h ih = omega arith

epochs-counted : (cluster : Cluster) (facts : List Fact) → are_allowed_facts cluster facts ≡ true → epoch_of facts ≡ number_of is_booted facts
epochs-counted cluster [] h = refl
epochs-counted cluster (fact ∷ facts) h =
    let both = and_parts (are_allowed_facts cluster facts) (is_allowed_fact cluster facts fact) h in
    kind-epoch cluster facts fact both.1 (epochs-counted cluster facts both.0)

-- ---- a boot

booted-facts : (cluster : Cluster) (facts result : List Fact) → AreLoaded cluster facts → booted_by cluster (Ok facts) ≡ Ok result → AreNodeFacts cluster result
booted-facts cluster facts result h e =
    let fact : Fact = Fact.Booted (epoch_of facts + 1) in
    let passed = two_tests (nat_le (2 ^ 32 - 1) (epoch_of facts)) (is_past_cells cluster facts fact) BootFault.Epochs (room_fault cluster facts fact) (Ok (fact ∷ facts)) result e in
    let same : fact ∷ facts ≡ result = ok-same {Y = BootFault} (Ok (fact ∷ facts)) (fact ∷ facts) result refl passed.2 in
    let below : epoch_of facts < 2 ^ 32 - 1 = leb-false (2 ^ 32 - 1) (epoch_of facts) passed.0 in
    subst (AreNodeFacts cluster) same (record {
      booted = lt-ltb 0 (epoch_of facts + 1) (omega arith);
      allowed = and_from _ _ h.0 (eq-eqb (epoch_of facts + 1) (number_of is_booted facts + 1) (ap (λ n. n + 1) (epochs-counted cluster facts h.0)));
      well_formed = ((omega arith, omega arith), h.1);
    })

pub boot-node : (cluster : Cluster) (me : ℕ) (payloads : List (Option Fact)) (facts : List Fact) → IsCluster cluster → is_centre cluster me ≡ true
    → AllByRecursion IsPayload payloads → boot_of cluster payloads ≡ Ok facts → IsNode cluster me facts initial_volatile
boot-node cluster me payloads facts w of_me payloads_formed e = record {
  cluster_itself = w;
  centre = of_me;
  facts_themselves = by_loaded (loaded_from cluster [] 0 payloads) refl e;
  votes = record { manager = tt; recovery = tt };
  volatile_itself = record { opened = tt; votes = tt; watched = tt; leads = tt };
}
  where
    by_loaded : (r : Result (List Fact) BootFault) → loaded_from cluster [] 0 payloads ≡ r → booted_by cluster r ≡ Ok facts → AreNodeFacts cluster facts
    by_loaded (Err fault) f g = absurd (cc)
    by_loaded (Ok loaded) f g = booted-facts cluster loaded facts (loaded-facts cluster [] 0 payloads loaded (refl, tt) payloads_formed f) g

-- ---- what was allowed is read again

-- one payload more
loaded-more : (cluster : Cluster) (start mid : List Fact) (n : ℕ) (payloads : List (Option Fact)) (fact : Fact) → loaded_from cluster start n payloads ≡ Ok mid
    → is_allowed_fact cluster mid fact ≡ true → is_past_cells cluster mid fact ≡ false
    → loaded_from cluster start n (payloads ++ Some fact ∷ []) ≡ Ok (fact ∷ mid)
loaded-more cluster start mid n [] fact e allowed room =
    let same : start ≡ mid = cc in rw (same, not_from_true (is_allowed_fact cluster mid fact) allowed, room) refl
loaded-more cluster start mid n (None ∷ payloads) fact e allowed room = absurd (cc)
loaded-more cluster start mid n (Some first ∷ payloads) fact e allowed room =
    elim (cases_Bool (not (is_allowed_fact cluster start first))) [
      | inl a ↦ let bad : Err (BootFault.NotARun (n + 1)) ≡ Ok mid = rw a at e in absurd (cc)
      | inr a ↦ elim (cases_Bool (is_past_cells cluster start first)) [
        | inl b ↦ let bad : Err (room_fault cluster start first) ≡ Ok mid = rw (a, b) at e in absurd (cc)
        | inr b ↦ let rest : loaded_from cluster (first ∷ start) (n + 1) payloads ≡ Ok mid = rw (a, b) at e in
            rw (a, b) (loaded-more cluster (first ∷ start) mid (n + 1) payloads fact rest allowed room)
      ]
    ]

pub fits-cells : (cluster : Cluster) (facts : List Fact) (fact : Fact) → cells_held facts + cells_needed fact ≤ cluster.cells → is_past_cells cluster facts fact ≡ false
fits-cells cluster facts fact room = le-ltb cluster.cells (cells_held facts + cells_needed fact) room

loaded-again : (cluster : Cluster) (facts : List Fact) → are_allowed_facts cluster facts ≡ true → FitInTurn cluster facts
    → loaded_from cluster [] 0 (fact_payloads facts) ≡ Ok facts
loaded-again cluster [] h room = refl
loaded-again cluster (fact ∷ facts) h room =
    let both = and_parts (are_allowed_facts cluster facts) (is_allowed_fact cluster facts fact) h in
    loaded-more cluster [] facts 0 (fact_payloads facts) fact (loaded-again cluster facts both.0 room.0) both.1
    (fits-cells cluster facts fact room.1)

pub boot-reads : (cluster : Cluster) (facts : List Fact) → are_allowed_facts cluster facts ≡ true → FitInTurn cluster facts
    → boot_of cluster (fact_payloads facts) ≡ booted_by cluster (Ok facts)
boot-reads cluster facts h room = ap (booted_by cluster) (loaded-again cluster facts h room)

-- ---- a boot keeps within the cells

within-cells : (cluster : Cluster) (facts : List Fact) (fact : Fact) → is_past_cells cluster facts fact ≡ false → cells_held facts + cells_needed fact ≤ cluster.cells
within-cells cluster facts fact h = ltb-false cluster.cells (cells_held facts + cells_needed fact) h

loaded-room : (cluster : Cluster) (facts : List Fact) (n : ℕ) (payloads : List (Option Fact)) (result : List Fact) → FitInTurn cluster facts → loaded_from cluster facts n payloads ≡ Ok result → FitInTurn cluster result
loaded-room cluster facts n [] result h e = let same : facts ≡ result = cc in subst (FitInTurn cluster) same h
loaded-room cluster facts n (None ∷ payloads) result h e = absurd (cc)
loaded-room cluster facts n (Some fact ∷ payloads) result h e =
    let passed = two_tests (not (is_allowed_fact cluster facts fact)) (is_past_cells cluster facts fact) _ _ (loaded_from cluster (fact ∷ facts) (n + 1) payloads) result e in
    loaded-room cluster (fact ∷ facts) (n + 1) payloads result (h, within-cells cluster facts fact passed.1) passed.2

pub boot-room : (cluster : Cluster) (payloads : List (Option Fact)) (facts : List Fact) → boot_of cluster payloads ≡ Ok facts
    → FitInTurn cluster facts
boot-room cluster payloads facts e = by_loaded (loaded_from cluster [] 0 payloads) refl e
  where
    by_loaded : (r : Result (List Fact) BootFault) → loaded_from cluster [] 0 payloads ≡ r → booted_by cluster r ≡ Ok facts → FitInTurn cluster facts
    by_loaded (Err fault) f g = absurd (cc)
    by_loaded (Ok loaded) f g =
        let fact : Fact = Fact.Booted (epoch_of loaded + 1) in
        let passed = two_tests (nat_le (2 ^ 32 - 1) (epoch_of loaded)) (is_past_cells cluster loaded fact) BootFault.Epochs (room_fault cluster loaded fact) (Ok (fact ∷ loaded)) facts g in
        let same : fact ∷ loaded ≡ facts = ok-same {Y = BootFault} (Ok (fact ∷ loaded)) (fact ∷ loaded) facts refl passed.2 in
        subst (FitInTurn cluster) same (loaded-room cluster [] 0 payloads loaded tt f, within-cells cluster loaded fact passed.1)
