use Rattle.std.proofs.Common.{◌≡◌, ◌+◌, ◌++◌, [], ◌∷◌, List, Result, Err, suc, sym, ◌∙◌, ap, subst, take, drop}
use Rattle.std.proofs.lemmas.Result.{err_from_is_err_and}
use Rattle.mdcc_serve_outbox.proofs.Messages.{next_taken, split_at_item}
use Rattle.mdcc_def_server_runs.specs.Acts.{Act}
use Rattle.mdcc_def_server_runs.specs.Sending.{heard_printed}
use Rattle.mdcc_def_server_runs.specs.declared.lines.ServerLine.{ServerLine}
use Rattle.mdcc_serve_site.proofs.Outlets.{heard_append, prints_front, prints_then}
use Rattle.mdcc_serve_site.specs.Printing.{PrintsInOrder}
use Rattle.mdcc_serve_site.specs.SiteState.{PrintsAll}
use Rattle.mdcc_serve_site.specs.declared.fault.ServeFault.{ServeFault}
use Rattle.mdcc_serve_site.proofs.persist.print_heard.Goals as goal

pub loop-end-preserved : goal.loop-end-preserved
loop-end-preserved g c =
    let all = c.args.heard.now in
    let i = c.loop-end.end-index in
    let x = c.end-item.result in
    let centre = c.args.centre in
    let more : take (i + 1) all ≡ take i all ++ x ∷ [] = next_taken all i x c.loop-end-test.true c.end-item.is in
    record {
      told = subst (λ (acts : List Act). PrintsAll g.O.Sink.held g.O.Sink.faults acts c.args.out.now c.print_end.new.out) (sym (ap (heard_printed centre) more ∙ heard_append centre (take i all) (x ∷ [])))
          (prints_then g.O.Sink.held g.O.Sink.faults (heard_printed centre (take i all)) (heard_printed centre (x ∷ [])) c.args.out.now c.loop-end.out c.print_end.new.out c.loop-end.invariant.told c.in_ok-print_end.ensures);
    }

pub returns-in_err-print_end : goal.returns-in_err-print_end
returns-in_err-print_end g c =
    let all = c.args.heard.now in
    let i = c.loop-end.end-index in
    let x = c.end-item.result in
    let centre = c.args.centre in
    let p = err_from_is_err_and c.from_residual.result c.from_residual.ensures.1 in
    let e : c.from_residual.result ≡ Err c.in_err-print_end.field-0.0 = cc (p.1, p.2) in
    subst (λ (r : Result (Unit {0}) ServeFault). PrintsInOrder g.O.Sink.held g.O.Sink.faults (heard_printed centre all) r c.args.out.now c.print_end.new.out) (sym e)
    (prints_front g.O.Sink.held g.O.Sink.faults (heard_printed centre (take i all)) (heard_printed centre (drop (suc i) all)) (heard_printed centre all) (ServerLine.Heard centre x.0 x.1)
    c.in_err-print_end.field-0.0 c.args.out.now c.loop-end.out c.print_end.new.out
    (sym (heard_append centre (take i all) (x ∷ drop (suc i) all)) ∙ ap (heard_printed centre) (split_at_item all i x c.loop-end-test.true c.end-item.is))
    c.loop-end.invariant.told c.in_err-print_end.ensures)
