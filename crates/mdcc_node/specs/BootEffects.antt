-- What a boot gives: a node that stands for the facts of its log and of the boot.
use Rattle.std.specs.Bool.{OnFalse}
use Rattle.std.specs.Prelude.{Err, List, Ok, Result, ℕ, ⊤, ◌∷◌, ◌≡◌}
use Rattle.mdcc_node_boot.specs.Loading.{HoldsFacts, is_boot_memory}
use Rattle.mdcc_node.specs.Represents.{RepresentsCentre}
use Rattle.mdcc_node.specs.declared.node.Node.{Node}
use Rattle.mdcc_option.specs.declared.cluster.Cluster.{Cluster}
use Rattle.mdcc_def_protocol.specs.Volatile.{initial_volatile}
use Rattle.mdcc_def_messages.specs.declared.facts.Fact.{Fact}
use Rattle.mdcc_def_rules.specs.declared.node.BootFault.{BootFault}

-- the fact of a boot
abbrev pub IsBoot : Fact → Type 0
IsBoot (Fact.Booted epoch) = ⊤
IsBoot fact = ⊥

-- the node stands for the expected facts with nothing kept, its store holds them and has so many cells, and the newest fact is given; or the
-- expected fault, where memory does not lack
abbrev pub Boots : {S : Type 0} → (S → List Fact → Type 0) → (S → ℕ) → ℕ → Result (Node S × Fact) BootFault → Cluster → ℕ → Result (List Fact) BootFault → Type 0
Boots stands cells total (Ok r) cluster me expected =
    (facts : List Fact) × (expected ≡ Ok (r.1 ∷ facts)) × RepresentsCentre stands r.0 cluster me (r.1 ∷ facts) initial_volatile × HoldsFacts stands cells total r.0.store (r.1 ∷ facts)
Boots stands cells total (Err fault) cluster me expected = OnFalse (is_boot_memory fault) (expected ≡ Err fault)
