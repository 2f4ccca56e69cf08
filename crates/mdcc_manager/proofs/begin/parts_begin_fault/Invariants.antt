use Rattle.std.proofs.Common.{◌≡◌, List, drop}
use Rattle.mdcc_def_protocol.specs.Manager.{parts_begin_fault}
use Rattle.mdcc_def_messages.specs.declared.facts.Fact.{Fact}
use Rattle.mdcc_manager.proofs.begin.parts_begin_fault.Given as goal

abbrev pub invariant-loop-part : goal.invariant-loop-part
invariant-loop-part g l =
    (facts : List Fact) → g.S.FactStore.stands l.store facts
    → parts_begin_fault facts (drop l.part-index l.parts) ≡ parts_begin_fault facts l.parts
