use Rattle.std.proofs.Common.{◌≡◌, ◌-◌, ℕ, arith, subst}
use Rattle.mdcc_world.proofs.Named.{AreAskedTo, all-asked}
use Rattle.mdcc_world.proofs.world.World.asked.Goals as goal

pub returns : goal.returns
returns c w like =
    let nine : c.loop-number.number - 1 ≡ 9 = omega arith in
    all-asked c.args.self.now w c.args.listed.now c.loop-number.centres like
    (subst (λ (n : ℕ). AreAskedTo c.args.self.now.up n c.args.listed.now c.loop-number.centres) nine c.loop-number.invariant)
