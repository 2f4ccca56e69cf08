use Rattle.std.proofs.Common.{◌≡◌, ◌++◌, map, take}
use Rattle.mdcc_serve_outbox.specs.Outgoing.{outgoing}
use Rattle.mdcc_serve_site.proofs.pending.PendingBytes.push_messages.Given as goal

abbrev pub invariant-loop-envelope : goal.invariant-loop-envelope
invariant-loop-envelope l = l.self ≡ record l.initial.self { messages = l.initial.self.messages ++ map outgoing (take l.envelope-index l.envelopes) }
