use Rattle.std.proofs.Common.{◌≡◌, drop}
use Rattle.mdcc_option.specs.Parts.{is_key_repeated}
use Rattle.mdcc_option.proofs.transaction.is_key_repeated.Given as goal

abbrev pub invariant-loop-place : goal.invariant-loop-place
invariant-loop-place l = is_key_repeated (drop l.place l.parts) ≡ is_key_repeated l.parts
