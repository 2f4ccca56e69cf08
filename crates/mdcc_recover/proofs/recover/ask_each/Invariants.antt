use Rattle.std.proofs.Common.{◌≡◌, ◌++◌, drop, map}
use Rattle.mdcc_def_protocol.specs.Recover.{ask_of}
use Rattle.mdcc_recover.proofs.recover.ask_each.Given as goal

abbrev pub invariant-loop-entry : goal.invariant-loop-entry
invariant-loop-entry l =
    l.acts.items ++ map (ask_of l.tx) (drop l.entry-index l.write_set) ≡ l.initial.acts.items ++ map (ask_of l.tx) l.write_set
