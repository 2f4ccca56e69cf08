use Rattle.mdcc_wire.proofs.Shown.{passed_ok, passed_viewed, fault_viewed}
use Rattle.mdcc_wire.proofs.viewing.view.Goals as goal

pub invariant_of-result : goal.invariant_of-result
invariant_of-result c = passed_ok c.args.bytes.now c.in-Ok.ensures

pub returns-in-Ok : goal.returns-in-Ok
returns-in-Ok c = passed_viewed c.args.bytes.now c.in-Ok.ensures

pub returns-in-Err : goal.returns-in-Err
returns-in-Err c = fault_viewed c.args.bytes.now c.in-Err.fault c.in-Err.ensures
