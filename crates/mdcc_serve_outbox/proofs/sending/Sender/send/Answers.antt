use Rattle.std.proofs.Common.{[], sym, ◌∙◌, ap, subst}
use Rattle.mdcc_serve_outbox.proofs.Messages.{without_address, without_bytes}
use Rattle.mdcc_serve_outbox.proofs.Sent.{one_unsent}
use Rattle.mdcc_serve_outbox.specs.Sends.{Sends}
use Rattle.mdcc_serve_outbox.specs.declared.sending.Sender.{Sender}
use Rattle.mdcc_def_server_runs.specs.Sites.{Doing}
use Rattle.mdcc_serve_outbox.proofs.sending.Sender.send.Goals as goal

pub returns-in_default-clause-sent : goal.returns-in_default-clause-sent
returns-in_default-clause-sent g c site is =
    let none = sym c.address_to.ensures ∙ c.in_default.is in
    subst (λ (d : Doing). Sends g.L.Link.calls g.L.Link.lost g.L.Link.faults d.acts [] c.args.link.now c.args.link.now c.args.self.now.lost c.lose.new.self.lost)
    (sym (without_address c.args.config.now site c.args.message.now none))
    (one_unsent g.L.Link.calls g.L.Link.lost g.L.Link.faults c.args.link.now c.args.self.now.lost c.lose.new.self.lost (ap (λ (s : Sender). s.lost) c.lose.ensures))

pub returns-in-None-clause-sent : goal.returns-in-None-clause-sent
returns-in-None-clause-sent g c site is =
    let there = sym c.address_to.ensures ∙ c.in-Some.is in
    subst (λ (d : Doing). Sends g.L.Link.calls g.L.Link.lost g.L.Link.faults d.acts [] c.args.link.now c.args.link.now c.args.self.now.lost c.lose-in-None.new.self.lost)
    (sym (without_bytes c.args.config.now site c.args.message.now c.in-Some.to there c.in-None.is))
    (one_unsent g.L.Link.calls g.L.Link.lost g.L.Link.faults c.args.link.now c.args.self.now.lost c.lose-in-None.new.self.lost (ap (λ (s : Sender). s.lost) c.lose-in-None.ensures))
