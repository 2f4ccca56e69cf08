use Rattle.std.proofs.Common.{◌≡◌, [], List, drop, map, ℕ}
use Rattle.mdcc_node_boot.specs.Loading.{HoldsFacts, fact_read, loaded_by}
use Rattle.mdcc_node_boot.proofs.Within.{AreWithin}
use Rattle.mdcc_def_messages.specs.declared.facts.Fact.{Fact as AFact}
use Rattle.mdcc_node_boot.proofs.loading.load.Given as goal

abbrev pub invariant-loop-place : goal.invariant-loop-place
invariant-loop-place g l =
    (total : ℕ) → HoldsFacts g.S.FactStore.stands g.S.FactStore.cells total l.initial.store []
    → (facts : List AFact) × (loaded_by total l.cluster facts l.place (map fact_read (drop l.place l.payloads)) ≡ loaded_by total l.cluster [] 0 (map fact_read l.payloads))
    × HoldsFacts g.S.FactStore.stands g.S.FactStore.cells total l.store facts × AreWithin total facts
