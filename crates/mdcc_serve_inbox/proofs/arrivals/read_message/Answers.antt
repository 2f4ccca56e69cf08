use Rattle.std.proofs.Common.{IfOk, Result, arith, subst, sym}
use Rattle.mdcc_base.specs.declared.faults.Memory.{Memory}
use Rattle.mdcc_serve_inbox.proofs.Read.{sound_found}
use Rattle.mdcc_serve_inbox.specs.Finds.{IsSoundFound}
use Rattle.mdcc_serve_inbox.specs.declared.arrivals.Found.{Found}
use Rattle.mdcc_serve_inbox.proofs.arrivals.read_message.Goals as goal

pub returns-clause-sound : goal.returns-clause-sound
returns-clause-sound c =
    subst (λ (r : Result Found Memory). IfOk r (λ found. IsSoundFound found c.read_envelope-read.new.into)) (sym c.found_by.ensures)
    (sound_found c.args.bytes.now c.read_envelope-read.result c.read_envelope-read.new.into (λ i. omega (arith, c.type_inv.bytes i)) c.requires
    c.read_envelope-read.ensures)
