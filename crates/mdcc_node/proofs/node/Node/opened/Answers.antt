use Rattle.std.proofs.Common.{sym}
use Rattle.mdcc_def_protocol.specs.Facts.{epoch_of}
use Rattle.mdcc_node.proofs.Ends.{no-end-is-none}
use Rattle.mdcc_node.proofs.node.Node.opened.Goals as goal

pub decided-requires-clause-ends : goal.decided-requires-clause-ends
decided-requires-clause-ends g c = λ cluster me facts volatile known.
    sym (rw known.of at (c.if-would_end.ensures me (epoch_of facts) volatile.manager (rw known.of known.manager)))

pub undecided-requires : goal.undecided-requires
undecided-requires g c = λ cluster me facts volatile known.
    no-end-is-none _ (rw known.of at (c.if-would_end.ensures me (epoch_of facts) volatile.manager (rw known.of known.manager)))
