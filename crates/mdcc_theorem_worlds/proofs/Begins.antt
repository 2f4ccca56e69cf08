-- The first world.
use Rattle.std.proofs.Common.{◌≡◌, ℕ, zero, suc, ◌-◌, ◌≤◌, ◌<◌, ◌==◌, Bool, true, false, [], ◌∷◌, Ok, Err, if◌then◌else◌, refl, sym, ◌∙◌, inl, inr, arith, nat_le}
use Rattle.std.proofs.lemmas.Bool.{cases_Bool, eq-eqb, eqb-true, le-ltb, leb-false, leb-true}
use Rattle.std.proofs.lemmas.List.{get_or-replicate, length-replicate}
use Rattle.mdcc_option.specs.declared.cluster.Cluster.{Cluster}
use Rattle.mdcc_def_protocol.specs.Belongs.{is_centre}
use Rattle.mdcc_def_protocol.specs.IsCluster.{IsCluster}
use Rattle.mdcc_def_ledger.specs.Ledger.{facts_of}
use Rattle.mdcc_def_protocol.specs.Volatile.{initial_volatile}
use Rattle.mdcc_def_simulation.specs.State.{booted, booted_to, centre_at, first_world}
use Rattle.mdcc_def_messages.specs.declared.facts.Fact.{Fact}
use Rattle.mdcc_def_rules.specs.Boot.{is_past_cells, room_fault}
use Rattle.mdcc_theorem_node_steps.proofs.Booting.{boot-node}
use Rattle.mdcc_theorem_node_steps.specs.NodeInvariant.{IsNode}
use Rattle.mdcc_theorem_worlds.proofs.Stays.{some-centre}
use Rattle.mdcc_theorem_worlds.specs.WorldInvariant.{IsWorld}

first-none : (n a : ℕ) → n < a → facts_of (booted_to n) a ≡ []
first-none zero a above = refl
first-none (suc n) a above = elim (cases_Bool (suc n == a)) [
  | inl e ↦ let same : suc n ≡ a = eqb-true (suc n) a e in absurd (omega (same, above, arith))
  | inr e ↦ rw e (first-none n a (omega (above, arith)))
]

below : (n a : ℕ) → a ≤ suc n → (suc n == a) ≡ false → a ≤ n
below n a within other = elim (cases_Bool (nat_le a n)) [
  | inl e ↦ leb-true a n e
  | inr e ↦
      let past = leb-false a n e in
      let same : suc n ≡ a = omega (past, within, arith) in
      let clash : true ≡ false = sym (eq-eqb (suc n) a same) ∙ other in
      absurd (cc)
]

pub first-facts : (n a : ℕ) → 1 ≤ a → a ≤ n → facts_of (booted_to n) a ≡ Fact.Booted 1 ∷ []
first-facts zero a some within = absurd (omega (some, within, arith))
first-facts (suc n) a some within = elim (cases_Bool (suc n == a)) [
  | inl e ↦ let same : suc n ≡ a = eqb-true (suc n) a e in rw (e, first-none n a (omega (same, arith))) refl
  | inr e ↦ rw e (first-facts n a some (below n a within e))
]

pub first-site : (cluster : Cluster) (a : ℕ) → is_centre cluster a ≡ true → centre_at (first_world cluster) a ≡ booted
first-site cluster a h =
    let both = some-centre cluster a h in
    get_or-replicate cluster.quorums.centres (a - 1) booted booted (omega (both.0, both.1, arith))

pub first-node : (cluster : Cluster) (a : ℕ) → IsCluster cluster → is_centre cluster a ≡ true → IsNode cluster a (Fact.Booted 1 ∷ []) initial_volatile
first-node cluster a itself h = boot-node cluster a [] (Fact.Booted 1 ∷ []) itself h tt (by_room (is_past_cells cluster [] (Fact.Booted 1)) (le-ltb cluster.cells 1 itself.some_cells))
  where
    by_room : (b : Bool) → b ≡ false → (if b then Err (room_fault cluster [] (Fact.Booted 1)) else Ok (Fact.Booted 1 ∷ [])) ≡ Ok (Fact.Booted 1 ∷ [])
    by_room b e = rw e refl

pub first-stands : (cluster : Cluster) → IsCluster cluster → IsWorld (first_world cluster)
first-stands cluster itself = record {
  cluster_itself = itself;
  sites = length-replicate cluster.quorums.centres booted;
  nodes = λ a h.
      let both = some-centre cluster a h in
      rw (first-site cluster a h, first-facts cluster.quorums.centres a both.0 both.1) (first-node cluster a itself h);
  logs = λ a h. let both = some-centre cluster a h in rw (first-facts cluster.quorums.centres a both.0 both.1) (omega arith);
  cells = λ a h.
      let both = some-centre cluster a h in
      let some = itself.some_cells in
      rw (first-facts cluster.quorums.centres a both.0 both.1) (tt, some);
  epochs = λ a h. let both = some-centre cluster a h in rw (first-facts cluster.quorums.centres a both.0 both.1) (omega arith);
  sent = tt;
  reads = tt;
}
