use Rattle.std.proofs.Common.{◌≡◌, ◌++◌, List, drop, filter}
use Rattle.mdcc_def_messages.specs.declared.facts.Fact.{Fact}
use Rattle.mdcc_node.specs.StepParts.{is_unknown}
use Rattle.mdcc_node.proofs.votes.unknown_marks.Given as goal

abbrev pub invariant-loop-place : goal.invariant-loop-place
invariant-loop-place g l =
    (facts : List Fact) → g.S.FactStore.stands l.store facts
    → l.marks ++ filter (λ e. is_unknown facts e.0) (drop l.place l.options) ≡ filter (λ e. is_unknown facts e.0) l.options
