use Rattle.std.proofs.Common.{◌≡◌, ◌++◌, List, drop, map}
use Rattle.mdcc_base.specs.Sizes.{Sizes}
use Rattle.mdcc_world_decisions.specs.Decided.{with_decided_of}
use Rattle.mdcc_world_decisions.specs.Represents.{RepresentsLedger}
use Rattle.mdcc_def_ledger.specs.Ledger.{Entry}
use Rattle.mdcc_struct.specs.Maps.{txs_of}
use Rattle.mdcc_world_decisions.proofs.decisions.Decisions.all_decided.Given as goal

abbrev pub invariant-loop-i : goal.invariant-loop-i
invariant-loop-i l = (quorums : Sizes) (entries : List Entry) → RepresentsLedger l.self quorums entries →
    l.endings ++ map (with_decided_of quorums entries) (txs_of (drop l.i l.options)) ≡ map (with_decided_of quorums entries) (txs_of l.options)
