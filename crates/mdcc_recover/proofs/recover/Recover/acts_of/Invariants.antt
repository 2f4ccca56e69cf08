use Rattle.std.proofs.Common.{◌≡◌, ◌++◌, List, drop}
use Rattle.std.specs.Prelude.{flat_map}
use Rattle.mdcc_base.specs.Sizes.{Sizes}
use Rattle.mdcc_def_messages.specs.declared.facts.Fact.{Fact}
use Rattle.mdcc_def_protocol.specs.Recover.{acts_on}
use Rattle.mdcc_def_protocol.specs.Volatile.{Recovering}
use Rattle.mdcc_recover.specs.Represents.{RepresentsRecovering}
use Rattle.mdcc_recover.proofs.recover.Recover.acts_of.Given as goal

abbrev pub invariant-loop-entry : goal.invariant-loop-entry
invariant-loop-entry g l =
    (quorums : Sizes) (facts : List Fact) (recovering : Recovering) → g.S.FactStore.stands l.store facts → RepresentsRecovering l.self quorums recovering
    → l.acts.items ++ flat_map (acts_on quorums facts recovering) (drop l.entry-index l.txs) ≡ flat_map (acts_on quorums facts recovering) l.txs
