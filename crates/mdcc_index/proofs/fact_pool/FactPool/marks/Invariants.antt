use Rattle.std.proofs.Common.{◌≡◌, List}
use Rattle.mdcc_def_messages.specs.declared.facts.Fact.{Fact}
use Rattle.mdcc_def_protocol.specs.Plain.{plain_mark_after, plain_mark_below}
use Rattle.mdcc_theorem_fact_folds.specs.Votes.{marks_further}
use Rattle.mdcc_index.specs.Stores.{Represents}
use Rattle.mdcc_index.proofs.fact_pool.FactPool.marks.Given as goal

abbrev pub invariant-loop-left : goal.invariant-loop-left
invariant-loop-left l =
    (facts : List Fact) → Represents l.self facts
    → plain_mark_below facts l.key l.version l.below l.place ≡ marks_further (plain_mark_after facts l.key l.version l.below) l.last l.left

abbrev pub decreases-loop-left : goal.decreases-loop-left
decreases-loop-left l = l.left
