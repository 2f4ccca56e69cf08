use Rattle.std.proofs.Common.{◌≡◌, ◌+◌, ◌++◌, [], ◌∷◌, List, suc, sym, ◌∙◌, ap, subst, take, drop}
use Rattle.mdcc_serve_outbox.proofs.Messages.{all_around, all_next, next_taken, past_behind, sending_behind, split_at_item}
use Rattle.mdcc_serve_outbox.proofs.Sent.{more_left, on_err, sent_joined}
use Rattle.mdcc_serve_outbox.specs.Outgoing.{all_sent, outgoing_sent}
use Rattle.mdcc_serve_outbox.specs.Sends.{IsPast, IsSenderOf, Sends}
use Rattle.mdcc_serve_outbox.specs.declared.outgoing.Outgoing.{Outgoing}
use Rattle.mdcc_def_server_runs.specs.Acts.{Act}
use Rattle.mdcc_def_server_runs.specs.Sites.{Doing}
use Rattle.mdcc_serve_outbox.proofs.sending.Sender.send_all.Goals as goal

pub loop-message-preserved : goal.loop-message-preserved
loop-message-preserved g c =
    let config = c.args.config.now in
    let all = c.args.messages.now in
    let i = c.loop-message.message-index in
    let x = c.message-item.result in
    let front = take i all in
    let more : take (i + 1) all ≡ front ++ x ∷ [] = next_taken all i x c.loop-message-test.true c.message-item.is in
    record {
      sent = λ site is.
          let after = (all_sent config site front).site in
          let e = ap (λ (ms : List Outgoing). all_sent config site ms) more ∙ all_next config site front x in
          subst (λ (d : Doing). Sends g.L.Link.calls g.L.Link.lost g.L.Link.faults d.acts [] c.args.link.now c.send.new.link c.args.self.now.lost c.send.new.self.lost) (sym e)
          (sent_joined g.L.Link.calls g.L.Link.lost g.L.Link.faults (all_sent config site front).acts (outgoing_sent config after x).acts [] c.args.link.now c.loop-message.link c.send.new.link
          c.args.self.now.lost c.loop-message.self.lost c.send.new.self.lost (c.loop-message.invariant.sent site is) (c.in_ok-send.ensures.sent after (c.loop-message.invariant.next site is)));
      next = λ site is.
          let after = (all_sent config site front).site in
          let e = ap (λ (ms : List Outgoing). all_sent config site ms) more ∙ all_next config site front x in
          subst (λ (d : Doing). IsSenderOf c.send.new.self d.site) (sym e) (c.in_ok-send.ensures.next after (c.loop-message.invariant.next site is));
    }

pub returns-in_err-send-clause-serial : goal.returns-in_err-send-clause-serial
returns-in_err-send-clause-serial g c site is =
    let config = c.args.config.now in
    let all = c.args.messages.now in
    let i = c.loop-message.message-index in
    let front = take i all in
    let x = c.message-item.result in
    let after = (all_sent config site front).site in
    let more = (all_sent config (outgoing_sent config after x).site (drop (suc i) all)).acts in
    let rest = (outgoing_sent config after x).acts ++ more in
    let whole : (all_sent config site front).acts ++ rest ≡ (all_sent config site all).acts =
    sym (all_around config site front x (drop (suc i) all))
    ∙ ap (λ (ms : List Outgoing). (all_sent config site ms).acts) (split_at_item all i x c.loop-message-test.true c.message-item.is) in
    let sent = more_left g.L.Link.calls g.L.Link.lost g.L.Link.faults (all_sent config site front).acts [] rest c.args.link.now c.loop-message.link c.args.self.now.lost c.loop-message.self.lost
    (c.loop-message.invariant.sent site is) in
    let same_link = c.in_err-send.ensures.unsent in
    let same_self = c.in_err-send.ensures.same in
    on_err c.from_residual.result (
      rest,
      sending_behind (outgoing_sent config after x).acts more (c.in_err-send.ensures.first after (c.loop-message.invariant.next site is)),
      subst (λ (acts : List Act). Sends g.L.Link.calls g.L.Link.lost g.L.Link.faults acts rest c.args.link.now c.send.new.link c.args.self.now.lost c.send.new.self.lost) whole
          (rw (same_link, same_self) sent),
    )

pub returns-in_err-send-clause-past : goal.returns-in_err-send-clause-past
returns-in_err-send-clause-past g c site is =
    let config = c.args.config.now in
    let all = c.args.messages.now in
    let i = c.loop-message.message-index in
    let front = take i all in
    let x = c.message-item.result in
    let after = (all_sent config site front).site in
    on_err c.from_residual.result (subst (λ (ms : List Outgoing). IsPast (all_sent config site ms).site) (split_at_item all i x c.loop-message-test.true c.message-item.is)
    (past_behind config site front x (drop (suc i) all) (c.in_err-send.ensures.past after (c.loop-message.invariant.next site is))))
