use Rattle.std.proofs.Common.{take}
use Rattle.std.specs.List.{AllByRecursion}
use Rattle.mdcc_theorem_encoding.specs.Laws.{AreBytes}
use Rattle.mdcc_node_log.proofs.starting.are_all_bytes.Given as goal

abbrev pub invariant-loop-payload : goal.invariant-loop-payload
invariant-loop-payload l = AllByRecursion AreBytes (take l.payload-index l.payloads)
