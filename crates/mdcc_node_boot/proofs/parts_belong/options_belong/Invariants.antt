use Rattle.std.proofs.Common.{◌≡◌, drop}
use Rattle.mdcc_def_protocol.specs.Belongs.{options_belong}
use Rattle.mdcc_node_boot.proofs.parts_belong.options_belong.Given as goal

abbrev pub invariant-loop-i : goal.invariant-loop-i
invariant-loop-i l = options_belong l.cluster (drop l.i l.options) ≡ options_belong l.cluster l.options
