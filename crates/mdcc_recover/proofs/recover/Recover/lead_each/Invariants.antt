use Rattle.std.proofs.Common.{◌≡◌, ◌++◌, List, drop}
use Rattle.mdcc_base.specs.Sizes.{Sizes}
use Rattle.mdcc_def_messages.specs.declared.facts.Fact.{Fact}
use Rattle.mdcc_def_protocol.specs.Recover.{keys_led}
use Rattle.mdcc_def_protocol.specs.Volatile.{Recovering}
use Rattle.mdcc_recover.specs.Represents.{RepresentsRecovering}
use Rattle.mdcc_recover.proofs.recover.Recover.lead_each.Given as goal

abbrev pub invariant-loop-entry : goal.invariant-loop-entry
invariant-loop-entry g l =
    (quorums : Sizes) (facts : List Fact) (recovering : Recovering) → g.S.FactStore.stands l.store facts → RepresentsRecovering l.self quorums recovering
    → l.acts.items ++ keys_led quorums facts recovering l.tx (drop l.entry-index l.write_set)
    ≡ l.initial.acts.items ++ keys_led quorums facts recovering l.tx l.write_set
