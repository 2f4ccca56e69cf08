-- A log from which a node boots has facts alone.
use Rattle.std.proofs.Common.{◌≡◌, ◌+◌, ◌∷◌, [], Bool, Err, List, None, Ok, Option, Result, Some, ap, cond, false, is_some, map, not, refl, true, ℕ}
use Rattle.mdcc_node_boot.specs.Loading.{exceeds_cells, fact_read, loaded_by, past_fault, with_next_boot}
use Rattle.mdcc_node_log.specs.Opening.{AreFacts}
use Rattle.mdcc_node_log.specs.Nodes.{facts_at_boot}
use Rattle.mdcc_def_ledger.specs.BootTest.{is_allowed_fact}
use Rattle.mdcc_def_messages.specs.declared.facts.Fact.{Fact}
use Rattle.mdcc_option.specs.declared.cluster.Cluster.{Cluster}
use Rattle.mdcc_def_rules.specs.declared.node.BootFault.{BootFault}

-- where neither test refuses
passes : {A : Type 0} (a b : Bool) (x y : BootFault) (z : Result A BootFault) (r : A) → cond (not a) (Err x) (cond b (Err y) z) ≡ Ok r → z ≡ Ok r
passes true true x y z r h = absurd (cc)
passes true false x y z r h = h
passes false b x y z r h = absurd (cc)

-- the first payload is a fact, and so are the others
one_loaded : (total : ℕ) (cluster : Cluster) (facts : List Fact) (n : ℕ) (payload : List ℕ) (payloads : List (List ℕ)) (more : List Fact) (o : Option Fact) → fact_read payload ≡ o
    → ((later : List Fact) → loaded_by total cluster later (n + 1) (map fact_read payloads) ≡ Ok more → AreFacts payloads)
    → loaded_by total cluster facts n (o ∷ map fact_read payloads) ≡ Ok more → AreFacts (payload ∷ payloads)
one_loaded total cluster facts n payload payloads more None is rest e = absurd (cc)
one_loaded total cluster facts n payload payloads more (Some fact) is rest e = (
  ap (λ (o : Option Fact). is_some o) is,
  rest (fact ∷ facts)
      (passes (is_allowed_fact cluster facts fact) (exceeds_cells total facts fact) (BootFault.NotARun (n + 1)) (past_fault total facts fact) (loaded_by total cluster (fact ∷ facts) (n + 1) (map fact_read payloads)) more e),
)

loaded_facts : (total : ℕ) (cluster : Cluster) (facts : List Fact) (n : ℕ) (payloads : List (List ℕ)) (more : List Fact)
    → loaded_by total cluster facts n (map fact_read payloads) ≡ Ok more → AreFacts payloads
loaded_facts total cluster facts n [] more e = tt
loaded_facts total cluster facts n (payload ∷ payloads) more e =
    one_loaded total cluster facts n payload payloads more (fact_read payload) refl (λ later h. loaded_facts total cluster later (n + 1) payloads more h) e

pub booted_facts : (cluster : Cluster) (payloads : List (List ℕ)) (facts : List Fact) → facts_at_boot cluster payloads ≡ Ok facts → AreFacts payloads
booted_facts cluster payloads facts e = by (loaded_by cluster.cells cluster [] 0 (map fact_read payloads)) refl e
  where
    by : (r : Result (List Fact) BootFault) → loaded_by cluster.cells cluster [] 0 (map fact_read payloads) ≡ r
        → with_next_boot cluster.cells r ≡ Ok facts → AreFacts payloads
    by (Ok more) is k = loaded_facts cluster.cells cluster [] 0 payloads more is
    by (Err fault) is k = absurd (cc)
