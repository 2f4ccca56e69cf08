use Rattle.std.proofs.Common.{◌≡◌, List, drop, is_some, not}
use Rattle.std.specs.List.{list_any}
use Rattle.mdcc_def_messages.specs.declared.facts.Fact.{Fact as AFact}
use Rattle.mdcc_def_protocol.specs.Facts.{executed_of}
use Rattle.mdcc_struct.specs.Maps.{value_of}
use Rattle.mdcc_visible.proofs.sync.is_any_new.Given as goal

abbrev pub invariant-loop-delta : goal.invariant-loop-delta
invariant-loop-delta g l =
    (facts : List AFact) → g.S.FactStore.stands l.store facts
    → list_any (λ delta. not (is_some (value_of (executed_of facts l.key) delta.tx))) (drop l.delta-index l.deltas)
    ≡ list_any (λ delta. not (is_some (value_of (executed_of facts l.key) delta.tx))) l.deltas
