use Rattle.std.proofs.Common.{[], take}
use Rattle.mdcc_serve_outbox.specs.Sends.{IsSenderOf, Sends}
use Rattle.mdcc_serve_outbox.specs.Outgoing.{all_sent}
use Rattle.mdcc_def_server_runs.specs.Sites.{Site}
use Rattle.mdcc_serve_outbox.proofs.sending.Sender.send_all.Given as goal

abbrev pub invariant-loop-message : goal.invariant-loop-message
invariant-loop-message g l = record {
  sent : (site : Site) → IsSenderOf l.initial.self site
      → Sends g.L.Link.calls g.L.Link.lost g.L.Link.faults (all_sent l.config site (take l.message-index l.messages)).acts [] l.initial.link l.link l.initial.self.lost l.self.lost;
  next : (site : Site) → IsSenderOf l.initial.self site → IsSenderOf l.self (all_sent l.config site (take l.message-index l.messages)).site;
}
