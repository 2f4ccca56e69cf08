use Rattle.std.proofs.Common.{◌≡◌, drop}
use Rattle.mdcc_option.specs.Transaction.{parts_fault}
use Rattle.mdcc_option.proofs.transaction.parts_fault.Given as goal

abbrev pub invariant-loop-part : goal.invariant-loop-part
invariant-loop-part l = parts_fault l.schema (drop l.part-index l.parts) ≡ parts_fault l.schema l.parts
