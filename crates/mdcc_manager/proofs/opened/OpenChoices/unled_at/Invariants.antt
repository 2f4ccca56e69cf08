use Rattle.std.proofs.Common.{◌≡◌, drop}
use Rattle.mdcc_manager.specs.Opened.{unled_at}
use Rattle.mdcc_manager.proofs.opened.OpenChoices.unled_at.Given as goal

abbrev pub invariant-loop-open : goal.invariant-loop-open
invariant-loop-open l = unled_at (drop l.open-index l.open-items) l.key ≡ unled_at l.open-items l.key
