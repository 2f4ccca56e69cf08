use Rattle.std.proofs.Common.{◌≡◌, drop}
use Rattle.std.specs.List.{list_any}
use Rattle.mdcc_def_protocol.specs.Structures.{is_add_accepted}
use Rattle.mdcc_leader_structures.proofs.promises.has_add.Given as goal

abbrev pub invariant-loop-place : goal.invariant-loop-place
invariant-loop-place l = list_any is_add_accepted (drop l.place l.marks) ≡ list_any is_add_accepted l.marks
