use Rattle.std.proofs.Common.{◌≡◌, ◌+◌, ◌-◌, ◌++◌}
use Rattle.std.specs.List.{range_with_len}
use Rattle.mdcc_def_rules.specs.Messages.{to_all, to_each}
use Rattle.mdcc_def_messages.specs.declared.messages.Message.{Message}
use Rattle.mdcc_node_sends.proofs.sends.accept.Given as goal

abbrev pub invariant-loop-to : goal.invariant-loop-to
invariant-loop-to l =
    l.sends ++ to_each (range_with_len l.to (l.quorums.centres + 1 - l.to)) l.from (Message.Accept l.key l.version l.ballot l.options)
    ≡ l.initial.sends ++ to_all l.quorums l.from (Message.Accept l.key l.version l.ballot l.options)
