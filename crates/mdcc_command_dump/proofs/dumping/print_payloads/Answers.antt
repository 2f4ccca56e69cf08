use Rattle.std.proofs.Common.{◌≡◌, ◌∙◌, Err, arith, sym}
use Rattle.std.proofs.lemmas.Result.{err_from_is_err_and}
use Rattle.mdcc_command_dump.proofs.Facts.{fact_at}
use Rattle.mdcc_command_dump.proofs.Printed.{all_printed, none_printed, one_more, some_more}
use Rattle.mdcc_node_log.proofs.Named.{rose-later}
use Rattle.mdcc_command_dump.proofs.dumping.print_payloads.Goals as goal

pub print_payload-requires : goal.print_payload-requires
print_payload-requires g c = fact_at c.args.payloads.now c.loop-index.index c.payload_at.result.now c.payload_at.ensures c.requires

pub loop-index-init : goal.loop-index-init
loop-index-init g c = record { printed = none_printed (g.O.Sink.held c.args.out.now) c.args.payloads.now; later = omega arith }

pub loop-index-preserved : goal.loop-index-preserved
loop-index-preserved g c = record {
  printed = one_more (g.O.Sink.held c.args.out.now) (g.O.Sink.held c.loop-index.out) (g.O.Sink.held c.print_payload.new.out) c.args.payloads.now c.loop-index.index c.payload_at.result.now
      c.payload_at.ensures c.loop-index.invariant.printed c.in_ok-print_payload.ensures.all;
  later = omega (c.loop-index.invariant.later, c.print_payload.ensures.later, arith);
}

pub returns-in_err-print_payload-clause-front : goal.returns-in_err-print_payload-clause-front
returns-in_err-print_payload-clause-front g c =
    let p = err_from_is_err_and c.from_residual.result c.from_residual.ensures.1 in
    rw p.1
    (some_more (g.O.Sink.held c.args.out.now) (g.O.Sink.held c.loop-index.out) (g.O.Sink.held c.print_payload.new.out) c.args.payloads.now c.loop-index.index c.payload_at.result.now
    c.payload_at.ensures c.loop-index.invariant.printed c.in_err-print_payload.ensures.front)

pub returns-in_err-print_payload-clause-fault : goal.returns-in_err-print_payload-clause-fault
returns-in_err-print_payload-clause-fault g c =
    let p = err_from_is_err_and c.from_residual.result c.from_residual.ensures.1 in
    rw (p.1, p.2) c.in_err-print_payload.ensures.fault

pub returns-in_err-print_payload-clause-output : goal.returns-in_err-print_payload-clause-output
returns-in_err-print_payload-clause-output g c = λ h.
    let p = err_from_is_err_and c.from_residual.result c.from_residual.ensures.1 in
    let e : c.from_residual.result ≡ Err c.in_err-print_payload.field-0.0 = cc (p.1, p.2) in
    rose-later (g.O.Sink.faults c.args.out.now) (g.O.Sink.faults c.loop-index.out) (g.O.Sink.faults c.print_payload.new.out) c.loop-index.invariant.later (c.in_err-print_payload.ensures.output (sym e ∙ h))

pub returns-clause-all : goal.returns-clause-all
returns-clause-all g c = all_printed (g.O.Sink.held c.args.out.now) (g.O.Sink.held c.loop-index.out) c.args.payloads.now c.loop-index.index (omega arith) c.loop-index.invariant.printed
