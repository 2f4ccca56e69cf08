use Rattle.std.proofs.Common.{◌≡◌, take}
use Rattle.std.specs.Prelude.{reverse}
use Rattle.mdcc_def_protocol.specs.Facts.{base_at}
use Rattle.mdcc_facts_held.proofs.held.base_at.Given as goal

abbrev pub invariant-loop-fact : goal.invariant-loop-fact
invariant-loop-fact l = l.base ≡ base_at (reverse (take l.fact-index l.facts)) l.key l.version
