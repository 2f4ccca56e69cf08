use Rattle.std.proofs.Common.{◌≡◌, ◌∷◌, [], Err, inl, inr, rules, subst}
use Rattle.std.specs.Prelude.{fold}
use Rattle.mdcc_def_server_runs.specs.Acts.{Act}
use Rattle.mdcc_def_server_runs.specs.Servers.{after_turn}
use Rattle.mdcc_serve.proofs.Last.{last_made, last_stops}
use Rattle.mdcc_serve.proofs.Repeated.{ascend_on, begun, grew_on}
use Rattle.mdcc_serve.proofs.Rounds.{hold_whole}
use Rattle.mdcc_serve.specs.Centres.{places}
use Rattle.mdcc_serve.specs.Totals.{done_of}
use Rattle.mdcc_serve.specs.declared.served.Served.{Served}
use Rattle.mdcc_serve_site.specs.Moments.{outside}
use Rattle.mdcc_serve_site.specs.SiteState.{PrintsAll, PrintsSome}
use Rattle.mdcc_serve.proofs.serve.serve_sites.Goals as goal

pub persist_all_then_send-requires-clause-served : goal.persist_all_then_send-requires-clause-served
persist_all_then_send-requires-clause-served g c =
    let config = c.args.config.now in
    let all = c.requires.served in
    let turns = c.in_ok-make_turns.ensures all.sites all.stand all.ascend in
    record { sites = (fold (after_turn config) (begun all.sites) turns.given).sites; stand = turns.finish.stand; ascend = ascend_on config (begun all.sites) turns.given all.ascend }

pub returns-in_err-make_turns : goal.returns-in_err-make_turns
returns-in_err-make_turns g c served hold ascend =
    let fault = c.in_err-make_turns.field-0.0 in
    let e : c.from_residual.result ≡ Err fault = search rules in
    rw e (inl (c.in_err-make_turns.ensures served hold ascend))

pub returns-in_err-persist_all_then_send : goal.returns-in_err-persist_all_then_send
returns-in_err-persist_all_then_send g c served hold ascend =
    let w = outside c.args.config.now.checkpoint g.D.Disks.disk g.D.Disks.may_leave g.L.Link.calls g.L.Link.lost g.L.Link.faults g.O.Sink.held g.O.Sink.faults in
    let config = c.args.config.now in
    let start = places c.args.disks.now c.args.sites.now c.args.link.now c.args.out.now in
    let mid = places c.make_turns.new.disks c.make_turns.new.sites c.make_turns.new.link c.make_turns.new.out in
    let new = places c.persist_all_then_send.new.disks c.persist_all_then_send.new.sites c.persist_all_then_send.new.link c.persist_all_then_send.new.out in
    let turns = c.in_ok-make_turns.ensures served hold ascend in
    let server = fold (after_turn config) (begun served) turns.given in
    let fault = c.in_err-persist_all_then_send.field-0.0 in
    let e : c.from_residual-in_err-persist_all_then_send.result ≡ Err fault = search rules in
    let stop = c.in_err-persist_all_then_send.ensures server.sites turns.finish.stand (ascend_on config (begun served) turns.given ascend) in
    let grew = grew_on w config served turns.given ascend (hold_whole w config.cluster c.args.disks.now c.args.sites.now served hold) turns.each in
    rw e (inr (inl (record {
      given = turns.given;
      turns_made = turns.made;
      each = turns.each;
      at = stop.at;
      stop = last_stops w config.cluster config served server fault start mid new grew turns.finish stop;
    })))

pub returns-in_err-print_done : goal.returns-in_err-print_done
returns-in_err-print_done g c served hold ascend =
    let w = outside c.args.config.now.checkpoint g.D.Disks.disk g.D.Disks.may_leave g.L.Link.calls g.L.Link.lost g.L.Link.faults g.O.Sink.held g.O.Sink.faults in
    let config = c.args.config.now in
    let start = places c.args.disks.now c.args.sites.now c.args.link.now c.args.out.now in
    let mid = places c.make_turns.new.disks c.make_turns.new.sites c.make_turns.new.link c.make_turns.new.out in
    let new = places c.persist_all_then_send.new.disks c.persist_all_then_send.new.sites c.persist_all_then_send.new.link c.persist_all_then_send.new.out in
    let turns = c.in_ok-make_turns.ensures served hold ascend in
    let server = fold (after_turn config) (begun served) turns.given in
    let end = c.in_ok-persist_all_then_send.ensures server.sites turns.finish.stand (ascend_on config (begun served) turns.given ascend) in
    let grew = grew_on w config served turns.given ascend (hold_whole w config.cluster c.args.disks.now c.args.sites.now served hold) turns.each in
    let e : c.from_residual-in_err-print_done.result ≡ Err c.in_err-print_done.field-0.0 = search rules in
    let tells = subst (λ (s : Served). PrintsSome g.O.Sink.held g.O.Sink.faults (Act.Print (done_of s) ∷ []) c.in_err-print_done.field-0.0 c.persist_all_then_send.new.out c.print_done.new.out) c.counts_of-served.ensures c.in_err-print_done.ensures in
    rw e (inr (inr (record {
      out = c.persist_all_then_send.new.out;
      made = record { given = turns.given; turns_made = turns.made; each = turns.each; finish = last_made w config.cluster config served server start mid new grew turns.finish end; serials = c.serials_fit.ensures };
      tells = tells;
    })))

pub returns : goal.returns
returns g c served hold ascend =
    let w = outside c.args.config.now.checkpoint g.D.Disks.disk g.D.Disks.may_leave g.L.Link.calls g.L.Link.lost g.L.Link.faults g.O.Sink.held g.O.Sink.faults in
    let config = c.args.config.now in
    let start = places c.args.disks.now c.args.sites.now c.args.link.now c.args.out.now in
    let mid = places c.make_turns.new.disks c.make_turns.new.sites c.make_turns.new.link c.make_turns.new.out in
    let new = places c.persist_all_then_send.new.disks c.persist_all_then_send.new.sites c.persist_all_then_send.new.link c.persist_all_then_send.new.out in
    let turns = c.in_ok-make_turns.ensures served hold ascend in
    let server = fold (after_turn config) (begun served) turns.given in
    let end = c.in_ok-persist_all_then_send.ensures server.sites turns.finish.stand (ascend_on config (begun served) turns.given ascend) in
    let grew = grew_on w config served turns.given ascend (hold_whole w config.cluster c.args.disks.now c.args.sites.now served hold) turns.each in
    let tells = subst (λ (s : Served). PrintsAll g.O.Sink.held g.O.Sink.faults (Act.Print (done_of s) ∷ []) c.persist_all_then_send.new.out c.print_done.new.out) c.counts_of-served.ensures c.in_ok-print_done.ensures in
    record {
      out = c.persist_all_then_send.new.out;
      made = record { given = turns.given; turns_made = turns.made; each = turns.each; finish = last_made w config.cluster config served server start mid new grew turns.finish end; serials = c.serials_fit.ensures };
      counts = c.counts_of-served.ensures;
      tells = tells;
    }
