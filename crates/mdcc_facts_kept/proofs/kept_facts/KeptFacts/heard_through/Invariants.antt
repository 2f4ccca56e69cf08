use Rattle.std.proofs.Common.{◌-◌, ◌^◌, List}
use Rattle.mdcc_def_messages.specs.declared.facts.Fact.{Fact}
use Rattle.mdcc_facts_kept.specs.Kept.{IsKept}
use Rattle.mdcc_facts_kept.proofs.Through.{AreSettled}
use Rattle.mdcc_facts_kept.proofs.kept_facts.KeptFacts.heard_through.Given as goal

abbrev pub invariant-loop-centre : goal.invariant-loop-centre
invariant-loop-centre l = (facts : List Fact) → IsKept l.self facts → AreSettled facts l.centre l.epoch l.seq

abbrev pub decreases-loop-centre : goal.decreases-loop-centre
decreases-loop-centre l = 2 ^ 32 - l.seq
