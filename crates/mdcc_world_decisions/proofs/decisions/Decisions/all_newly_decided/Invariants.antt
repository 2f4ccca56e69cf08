use Rattle.std.proofs.Common.{◌≡◌, ◌++◌, List, drop}
use Rattle.mdcc_base.specs.Sizes.{Sizes}
use Rattle.mdcc_world_decisions.specs.Decided.{all_newly_decided}
use Rattle.mdcc_world_decisions.specs.Represents.{RepresentsLedger}
use Rattle.mdcc_def_ledger.specs.Ledger.{Entry}
use Rattle.mdcc_world_decisions.proofs.decisions.Decisions.all_newly_decided.Given as goal

abbrev pub invariant-loop-was : goal.invariant-loop-was
invariant-loop-was l = (quorums : Sizes) (entries : List Entry) → RepresentsLedger l.self quorums entries →
    l.endings ++ all_newly_decided quorums entries (drop l.was-index l.before) ≡ all_newly_decided quorums entries l.before
