use Rattle.std.proofs.Common.{◌≡◌, Option, Some, Ok, refl, sym, ◌∙◌}
use Rattle.mdcc_leader.proofs.Keeping.{Keeps-replaced}
use Rattle.mdcc_leader.proofs.led.Led.replace.Goals as goal

pub returns-clause-ok : goal.returns-clause-ok
returns-clause-ok g c facts leading holds kept =
    Keeps-replaced c.args.cluster.now c.args.centre c.args.epoch facts leading c.args.claim.now (Some c.args.self.now) c.in_ok-self.field-0 kept (rw (← c.round.ensures) (c.in_ok-self.ensures facts holds))
