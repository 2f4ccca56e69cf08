use Rattle.std.proofs.Common.{◌≡◌, ◌∙◌, ℕ, List, Result, Err, ap, subst, sym}
use Rattle.std.proofs.lemmas.Result.{err_from_is_err_and}
use Rattle.mdcc_def_server_runs.specs.Acts.{Act}
use Rattle.mdcc_def_server_runs.specs.Sending.{envelopes_sent, heard_printed, persist_then_send, persisted}
use Rattle.mdcc_serve_site.proofs.Parts.{heard_lines, heard_still, printed_goes, printed_stops}
use Rattle.mdcc_serve_site.proofs.Persisting.{log_broken, log_done, log_there, logged_either, part_sent, part_unsent, pending_go, persist_goes, persist_unlogged, persist_unsent, persist_untold}
use Rattle.mdcc_serve_site.proofs.Sent.{messages_only}
use Rattle.mdcc_serve_site.specs.Moments.{outside}
use Rattle.mdcc_serve_site.specs.Printing.{PrintsFront}
use Rattle.mdcc_serve_site.specs.SiteState.{Goes, PrintsAll, place}
use Rattle.mdcc_serve_site.specs.declared.fault.ServeFault.{ServeFault}
use Rattle.mdcc_serve_site.specs.PendingBytes.{PendingBytes}
use Rattle.mdcc_serve_site.proofs.site.Site.persist_then_send.Goals as goal

pub log_all-requires-clause-short : goal.log_all-requires-clause-short
log_all-requires-clause-short g c =
    let stands = c.requires.served.stands in
    let are = c.payloads.ensures ∙ (ap (λ (p : PendingBytes). p.payloads) c.take_pending-pending.ensures.taken ∙ ap (λ (p : PendingBytes). p.payloads) stands.itself.waits.pending) in
    (c.requires.served.site.pending.facts, are, stands.itself.waits.facts)

pub log_all-requires-clause-stands : goal.log_all-requires-clause-stands
log_all-requires-clause-stands g c =
    let w = (outside c.args.config.now.checkpoint g.D.Disks.disk g.D.Disks.may_leave g.L.Link.calls g.L.Link.lost g.L.Link.faults g.O.Sink.held g.O.Sink.faults) in
    let site = c.requires.served.site in
    (w.every, site.logged, log_there w c.args.config.now.cluster site c.args.disks.now c.args.self.now c.take_pending-pending.new.self c.requires.served.stands c.take_pending-pending.ensures.same)

pub send_all-requires-clause-few : goal.send_all-requires-clause-few
send_all-requires-clause-few g c =
    pending_go c.args.self.now c.requires.served.site c.messages.result.now c.requires.served.stands.itself.waits
    (c.messages.ensures ∙ ap (λ (p : PendingBytes). p.messages) c.take_pending-pending.ensures.taken)

pub returns-in_err-log_all-clause-goes : goal.returns-in_err-log_all-clause-goes
returns-in_err-log_all-clause-goes g c site stands =
    let w = (outside c.args.config.now.checkpoint g.D.Disks.disk g.D.Disks.may_leave g.L.Link.calls g.L.Link.lost g.L.Link.faults g.O.Sink.held g.O.Sink.faults) in
    let cluster = c.args.config.now.cluster in
    let config = c.args.config.now in
    let disks = c.args.disks.now in
    let held = c.args.self.now in
    let link = c.args.link.now in
    let out = c.args.out.now in
    let emptied = c.take_pending-pending.new.self in
    let empties = c.take_pending-pending.ensures.same in
    let facts_are = c.payloads.ensures ∙ (ap (λ (p : PendingBytes). p.payloads) c.take_pending-pending.ensures.taken ∙ ap (λ (p : PendingBytes). p.payloads) stands.itself.waits.pending) in
    let p = err_from_is_err_and c.from_residual.result c.from_residual.ensures.1 in
    let e : c.from_residual.result ≡ Err c.in_err-log_all.field-0.0 = cc (p.1, p.2) in
    subst (λ (r : Result (Unit {0}) ServeFault). Goes w cluster site (persist_then_send config site) r (place disks held link out) (place c.log_all.new.disks c.log_all.new.self link out)) (sym e)
    (persist_unlogged w cluster config site stands.itself.waits.all
    (log_broken w cluster site disks held emptied stands empties c.log_all.new.disks c.log_all.new.self link out c.log_all.ensures.same _
    (c.in_err-log_all.ensures.logs w.every site.logged site.pending.facts (log_there w cluster site disks held emptied stands empties) facts_are)))

pub returns-in_err-send_all-clause-goes : goal.returns-in_err-send_all-clause-goes
returns-in_err-send_all-clause-goes g c site stands =
    let w = (outside c.args.config.now.checkpoint g.D.Disks.disk g.D.Disks.may_leave g.L.Link.calls g.L.Link.lost g.L.Link.faults g.O.Sink.held g.O.Sink.faults) in
    let cluster = c.args.config.now.cluster in
    let config = c.args.config.now in
    let disks = c.args.disks.now in
    let held = c.args.self.now in
    let link = c.args.link.now in
    let out = c.args.out.now in
    let emptied = c.take_pending-pending.new.self in
    let empties = c.take_pending-pending.ensures.same in
    let facts_are = c.payloads.ensures ∙ (ap (λ (p : PendingBytes). p.payloads) c.take_pending-pending.ensures.taken ∙ ap (λ (p : PendingBytes). p.payloads) stands.itself.waits.pending) in
    let logged = log_done w cluster site disks held emptied stands empties c.log_all.new.disks c.log_all.new.self link out c.log_all.ensures.same
    (c.in_ok-log_all.ensures.logs w.every site.logged site.pending.facts (log_there w cluster site disks held emptied stands empties) facts_are) in
    let sends_are = c.messages.ensures ∙ (ap (λ (p : PendingBytes). p.messages) c.take_pending-pending.ensures.taken ∙ ap (λ (p : PendingBytes). p.messages) stands.itself.waits.pending) in
    let p = err_from_is_err_and c.from_residual-in_err-send_all.result c.from_residual-in_err-send_all.ensures.1 in
    let e : c.from_residual-in_err-send_all.result ≡ Err c.in_err-send_all.field-0.0 = cc (p.1, p.2) in
    subst (λ (r : Result (Unit {0}) ServeFault). Goes w cluster site (persist_then_send config site) r (place disks held link out) (place c.log_all.new.disks c.send_all.new.self c.send_all.new.link out)) (sym e)
    (persist_unsent w cluster config site stands.itself.waits.all logged
    (part_unsent w cluster config c.log_all.new.disks c.log_all.new.self c.send_all.new.self (persisted site) link c.send_all.new.link out site.pending.envelopes c.send_all.ensures.same
    _ logged.stands (c.in_err-send_all.ensures.sent _ site.pending.envelopes logged.stands.itself.sender sends_are)))

pub returns-in_err-print_heard-clause-goes : goal.returns-in_err-print_heard-clause-goes
returns-in_err-print_heard-clause-goes g c site stands =
    let w = (outside c.args.config.now.checkpoint g.D.Disks.disk g.D.Disks.may_leave g.L.Link.calls g.L.Link.lost g.L.Link.faults g.O.Sink.held g.O.Sink.faults) in
    let cluster = c.args.config.now.cluster in
    let config = c.args.config.now in
    let disks = c.args.disks.now in
    let held = c.args.self.now in
    let link = c.args.link.now in
    let out = c.args.out.now in
    let emptied = c.take_pending-pending.new.self in
    let empties = c.take_pending-pending.ensures.same in
    let facts_are = c.payloads.ensures ∙ (ap (λ (p : PendingBytes). p.payloads) c.take_pending-pending.ensures.taken ∙ ap (λ (p : PendingBytes). p.payloads) stands.itself.waits.pending) in
    let logged = log_done w cluster site disks held emptied stands empties c.log_all.new.disks c.log_all.new.self link out c.log_all.ensures.same
    (c.in_ok-log_all.ensures.logs w.every site.logged site.pending.facts (log_there w cluster site disks held emptied stands empties) facts_are) in
    let sends_are = c.messages.ensures ∙ (ap (λ (p : PendingBytes). p.messages) c.take_pending-pending.ensures.taken ∙ ap (λ (p : PendingBytes). p.messages) stands.itself.waits.pending) in
    let all_sent = part_sent w cluster config c.log_all.new.disks c.log_all.new.self c.send_all.new.self (persisted site) link c.send_all.new.link out site.pending.envelopes c.send_all.ensures.same
    logged.stands (c.in_ok-send_all.ensures.sent _ site.pending.envelopes logged.stands.itself.sender sends_are) in
    let last = (envelopes_sent config (persisted site) site.pending.envelopes).site in
    let centre : c.send_all.new.self.centre ≡ site.centre = all_sent.stands.itself.centre ∙ (messages_only config (persisted site) site.pending.envelopes).centre in
    let heard_are = c.heard.ensures ∙ (ap (λ (p : PendingBytes). p.heard) c.take_pending-pending.ensures.taken ∙ ap (λ (p : PendingBytes). p.heard) stands.itself.waits.pending) in
    let lines_are : heard_printed c.send_all.new.self.centre c.heard.result.now ≡ heard_printed site.centre site.pending.heard =
    ap (λ (n : ℕ). heard_printed n c.heard.result.now) centre ∙ ap (heard_printed site.centre) heard_are in
    let p = err_from_is_err_and c.from_residual-in_err-print_heard.result c.from_residual-in_err-print_heard.ensures.1 in
    let e : c.from_residual-in_err-print_heard.result ≡ Err c.in_err-print_heard.field-0.0 = cc (p.1, p.2) in
    subst (λ (r : Result (Unit {0}) ServeFault). Goes w cluster site (persist_then_send config site) r (place disks held link out) (place c.log_all.new.disks c.send_all.new.self c.send_all.new.link c.print_heard.new.out)) (sym e)
    (persist_untold w cluster config site stands.itself.waits.all logged all_sent
    (printed_stops w last c.log_all.new.disks c.send_all.new.self c.send_all.new.link out c.print_heard.new.out (heard_printed site.centre site.pending.heard) _
    (heard_lines site.centre site.pending.heard) all_sent.stands.log.open_log.left
    (subst (λ (acts : List Act). PrintsFront g.O.Sink.held g.O.Sink.faults acts c.in_err-print_heard.field-0.0 out c.print_heard.new.out) lines_are c.in_err-print_heard.ensures)))

pub returns-clause-goes : goal.returns-clause-goes
returns-clause-goes g c site stands =
    let w = (outside c.args.config.now.checkpoint g.D.Disks.disk g.D.Disks.may_leave g.L.Link.calls g.L.Link.lost g.L.Link.faults g.O.Sink.held g.O.Sink.faults) in
    let cluster = c.args.config.now.cluster in
    let config = c.args.config.now in
    let disks = c.args.disks.now in
    let held = c.args.self.now in
    let link = c.args.link.now in
    let out = c.args.out.now in
    let emptied = c.take_pending-pending.new.self in
    let empties = c.take_pending-pending.ensures.same in
    let facts_are = c.payloads.ensures ∙ (ap (λ (p : PendingBytes). p.payloads) c.take_pending-pending.ensures.taken ∙ ap (λ (p : PendingBytes). p.payloads) stands.itself.waits.pending) in
    let logged = log_done w cluster site disks held emptied stands empties c.log_all.new.disks c.log_all.new.self link out c.log_all.ensures.same
    (c.in_ok-log_all.ensures.logs w.every site.logged site.pending.facts (log_there w cluster site disks held emptied stands empties) facts_are) in
    let sends_are = c.messages.ensures ∙ (ap (λ (p : PendingBytes). p.messages) c.take_pending-pending.ensures.taken ∙ ap (λ (p : PendingBytes). p.messages) stands.itself.waits.pending) in
    let all_sent = part_sent w cluster config c.log_all.new.disks c.log_all.new.self c.send_all.new.self (persisted site) link c.send_all.new.link out site.pending.envelopes c.send_all.ensures.same
    logged.stands (c.in_ok-send_all.ensures.sent _ site.pending.envelopes logged.stands.itself.sender sends_are) in
    let last = (envelopes_sent config (persisted site) site.pending.envelopes).site in
    let centre : c.send_all.new.self.centre ≡ site.centre = all_sent.stands.itself.centre ∙ (messages_only config (persisted site) site.pending.envelopes).centre in
    let heard_are = c.heard.ensures ∙ (ap (λ (p : PendingBytes). p.heard) c.take_pending-pending.ensures.taken ∙ ap (λ (p : PendingBytes). p.heard) stands.itself.waits.pending) in
    let lines_are : heard_printed c.send_all.new.self.centre c.heard.result.now ≡ heard_printed site.centre site.pending.heard =
    ap (λ (n : ℕ). heard_printed n c.heard.result.now) centre ∙ ap (heard_printed site.centre) heard_are in
    persist_goes w cluster config site stands.itself.waits.all logged all_sent
    (printed_goes w cluster last c.log_all.new.disks c.send_all.new.self c.send_all.new.link out c.print_heard.new.out (heard_printed site.centre site.pending.heard)
    (heard_still site.centre site.pending.heard) all_sent.stands
    (subst (λ (acts : List Act). PrintsAll g.O.Sink.held g.O.Sink.faults acts out c.print_heard.new.out) lines_are c.in_ok-print_heard.ensures))

pub returns-in_err-log_all-clause-any_moment : goal.returns-in_err-log_all-clause-any_moment
returns-in_err-log_all-clause-any_moment g c site stands =
    let w = (outside c.args.config.now.checkpoint g.D.Disks.disk g.D.Disks.may_leave g.L.Link.calls g.L.Link.lost g.L.Link.faults g.O.Sink.held g.O.Sink.faults) in
    let cluster = c.args.config.now.cluster in
    let emptied = c.take_pending-pending.new.self in
    let empties = c.take_pending-pending.ensures.same in
    let facts_are = c.payloads.ensures ∙ (ap (λ (p : PendingBytes). p.payloads) c.take_pending-pending.ensures.taken ∙ ap (λ (p : PendingBytes). p.payloads) stands.itself.waits.pending) in
    logged_either w cluster site c.args.disks.now c.args.self.now emptied stands empties c.args.config.now g.D.Disks.moment g.D.Disks.left_since c.log_all.new.disks
    (c.log_all.ensures.any_moment w.every site.logged site.pending.facts (log_there w cluster site c.args.disks.now c.args.self.now emptied stands empties) facts_are)

pub returns-in_err-send_all-clause-any_moment : goal.returns-in_err-send_all-clause-any_moment
returns-in_err-send_all-clause-any_moment g c site stands =
    let w = (outside c.args.config.now.checkpoint g.D.Disks.disk g.D.Disks.may_leave g.L.Link.calls g.L.Link.lost g.L.Link.faults g.O.Sink.held g.O.Sink.faults) in
    let cluster = c.args.config.now.cluster in
    let emptied = c.take_pending-pending.new.self in
    let empties = c.take_pending-pending.ensures.same in
    let facts_are = c.payloads.ensures ∙ (ap (λ (p : PendingBytes). p.payloads) c.take_pending-pending.ensures.taken ∙ ap (λ (p : PendingBytes). p.payloads) stands.itself.waits.pending) in
    logged_either w cluster site c.args.disks.now c.args.self.now emptied stands empties c.args.config.now g.D.Disks.moment g.D.Disks.left_since c.log_all.new.disks
    (c.log_all.ensures.any_moment w.every site.logged site.pending.facts (log_there w cluster site c.args.disks.now c.args.self.now emptied stands empties) facts_are)

pub returns-in_err-print_heard-clause-any_moment : goal.returns-in_err-print_heard-clause-any_moment
returns-in_err-print_heard-clause-any_moment g c site stands =
    let w = (outside c.args.config.now.checkpoint g.D.Disks.disk g.D.Disks.may_leave g.L.Link.calls g.L.Link.lost g.L.Link.faults g.O.Sink.held g.O.Sink.faults) in
    let cluster = c.args.config.now.cluster in
    let emptied = c.take_pending-pending.new.self in
    let empties = c.take_pending-pending.ensures.same in
    let facts_are = c.payloads.ensures ∙ (ap (λ (p : PendingBytes). p.payloads) c.take_pending-pending.ensures.taken ∙ ap (λ (p : PendingBytes). p.payloads) stands.itself.waits.pending) in
    logged_either w cluster site c.args.disks.now c.args.self.now emptied stands empties c.args.config.now g.D.Disks.moment g.D.Disks.left_since c.log_all.new.disks
    (c.log_all.ensures.any_moment w.every site.logged site.pending.facts (log_there w cluster site c.args.disks.now c.args.self.now emptied stands empties) facts_are)

pub returns-clause-any_moment : goal.returns-clause-any_moment
returns-clause-any_moment g c site stands =
    let w = (outside c.args.config.now.checkpoint g.D.Disks.disk g.D.Disks.may_leave g.L.Link.calls g.L.Link.lost g.L.Link.faults g.O.Sink.held g.O.Sink.faults) in
    let cluster = c.args.config.now.cluster in
    let emptied = c.take_pending-pending.new.self in
    let empties = c.take_pending-pending.ensures.same in
    let facts_are = c.payloads.ensures ∙ (ap (λ (p : PendingBytes). p.payloads) c.take_pending-pending.ensures.taken ∙ ap (λ (p : PendingBytes). p.payloads) stands.itself.waits.pending) in
    logged_either w cluster site c.args.disks.now c.args.self.now emptied stands empties c.args.config.now g.D.Disks.moment g.D.Disks.left_since c.log_all.new.disks
    (c.log_all.ensures.any_moment w.every site.logged site.pending.facts (log_there w cluster site c.args.disks.now c.args.self.now emptied stands empties) facts_are)
