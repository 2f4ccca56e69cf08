use Rattle.std.proofs.Common.{◌≡◌, arith, refl}
use Rattle.mdcc_world.proofs.Crashed.{has-armed}
use Rattle.mdcc_world.proofs.world.World.arm.Goals as goal

pub returns-clause-happened : goal.returns-clause-happened
returns-clause-happened c w like =
    let place : c.from.result ≡ c.args.centre = cc in
    rw place
    (has-armed c.args.self.now _ w c.args.centre c.args.call c.args.image c.args.lines.now c.push.new.self like (c.requires.up w like) (omega arith) (omega arith) refl c.in_ok-push.ensures.ok)
