use Rattle.std.proofs.Common.{◌≡◌, ◌+◌, ◌-◌, ◌++◌, not, ◌==◌}
use Rattle.std.specs.List.{filter, range_with_len}
use Rattle.mdcc_def_rules.specs.Messages.{to_each, to_others}
use Rattle.mdcc_def_messages.specs.declared.messages.Message.{Message}
use Rattle.mdcc_node_sends.proofs.sends.ask_others.Given as goal

abbrev pub invariant-loop-to : goal.invariant-loop-to
invariant-loop-to l =
    l.sends ++ to_each (filter (λ to. not (to == l.from)) (range_with_len l.to (l.quorums.centres + 1 - l.to))) l.from (Message.SyncAsk l.key)
    ≡ l.initial.sends ++ to_others l.quorums l.from (Message.SyncAsk l.key)
