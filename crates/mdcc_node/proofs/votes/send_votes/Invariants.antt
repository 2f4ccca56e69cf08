use Rattle.std.proofs.Common.{◌≡◌, ◌++◌, List, drop}
use Rattle.mdcc_def_messages.specs.declared.facts.Fact.{Fact}
use Rattle.mdcc_def_rules.specs.AcceptorRules.{all_votes_sent}
use Rattle.mdcc_node.proofs.votes.send_votes.Given as goal

abbrev pub invariant-loop-place : goal.invariant-loop-place
invariant-loop-place g l =
    (facts : List Fact) → g.S.FactStore.stands l.store facts
    → l.sends ++ all_votes_sent l.from facts l.key l.version l.ballot (drop l.place l.marks)
    ≡ l.initial.sends ++ all_votes_sent l.from facts l.key l.version l.ballot l.marks
