use Rattle.std.proofs.Common.{◌≡◌, List, drop}
use Rattle.std.specs.Map.{keys_of}
use Rattle.mdcc_base.specs.Sizes.{Sizes}
use Rattle.mdcc_world_decisions.specs.Decided.{decided_of}
use Rattle.mdcc_world_decisions.specs.Represents.{RepresentsLedger}
use Rattle.mdcc_def_ledger.specs.Ledger.{Entry}
use Rattle.mdcc_world_decisions.proofs.Sums.{counted_on, none_ended}
use Rattle.mdcc_world_decisions.proofs.decisions.Decisions.totals.Given as goal

abbrev pub invariant-loop-i : goal.invariant-loop-i
invariant-loop-i l = (quorums : Sizes) (entries : List Entry) → RepresentsLedger l.self quorums entries →
    counted_on (decided_of quorums entries) l.totals (keys_of (drop l.i l.self.begun.entries))
    ≡ counted_on (decided_of quorums entries) none_ended (keys_of l.self.begun.entries)
