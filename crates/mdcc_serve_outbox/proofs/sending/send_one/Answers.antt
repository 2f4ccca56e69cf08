use Rattle.std.proofs.Common.{Ok, Err}
use Rattle.mdcc_serve_outbox.proofs.Handed.{one_handed}
use Rattle.mdcc_serve_outbox.proofs.sending.send_one.Goals as goal

pub returns-in-Ok-clause-handed : goal.returns-in-Ok-clause-handed
returns-in-Ok-clause-handed g c =
    let e = c.in-Ok.ensures in
    one_handed g.L.Link.calls g.L.Link.lost g.L.Link.faults c.args.from c.args.to c.args.bytes.now c.args.link.now c.send.new.self (Ok c.in-Ok.field-0) e.call e.cause e.receives

pub returns-in-Err-clause-handed : goal.returns-in-Err-clause-handed
returns-in-Err-clause-handed g c =
    let e = c.in-Err.ensures in
    one_handed g.L.Link.calls g.L.Link.lost g.L.Link.faults c.args.from c.args.to c.args.bytes.now c.args.link.now c.send.new.self (Err c.in-Err.field-0) e.call e.cause e.receives
