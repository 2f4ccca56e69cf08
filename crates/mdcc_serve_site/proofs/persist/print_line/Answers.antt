use Rattle.mdcc_serve_site.proofs.Outlets.{prints_all, prints_some}
use Rattle.mdcc_serve_site.proofs.persist.print_line.Goals as goal

pub returns-in-Ok : goal.returns-in-Ok
returns-in-Ok g c = prints_all g.O.Sink.held g.O.Sink.faults c.args.line.now c.args.out.now c.print.new.out c.in-Ok.ensures.printed c.print.ensures.later

pub returns-in-Err : goal.returns-in-Err
returns-in-Err g c =
    prints_some g.O.Sink.held g.O.Sink.faults c.args.line.now c.in-Err.fault c.print_fault.result c.args.out.now c.print.new.out c.print_fault.ensures
    c.in-Err.ensures.front c.in-Err.ensures.cause c.in-Err.ensures.memory c.print.ensures.later
