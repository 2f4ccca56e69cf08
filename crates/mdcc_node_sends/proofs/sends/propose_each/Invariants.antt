use Rattle.std.proofs.Common.{◌≡◌, ◌++◌, drop}
use Rattle.mdcc_def_rules.specs.ManagerRules.{proposals_sent}
use Rattle.mdcc_node_sends.proofs.sends.propose_each.Given as goal

abbrev pub invariant-loop-choice : goal.invariant-loop-choice
invariant-loop-choice l =
    l.sends ++ proposals_sent l.quorums l.from (drop l.choice-index l.choices) ≡ l.initial.sends ++ proposals_sent l.quorums l.from l.choices
