use Rattle.std.proofs.Common.{◌≡◌, ◌≤◌, arith, false, nat_le, subst, sym, true}
use Rattle.std.proofs.lemmas.Bool.{and_from, le-leb}
use Rattle.mdcc_option.specs.declared.cluster.Cluster.{Cluster}
use Rattle.mdcc_def_protocol.specs.Belongs.{is_centre}
use Rattle.mdcc_def_simulation.specs.State.{is_up_at}
use Rattle.mdcc_world.proofs.world.World.at_restart.Goals as goal

pub returns-clause-centre : goal.returns-clause-centre
returns-clause-centre c w like =
    let a = c.args.centre in
    let most = c.args.self.now.cluster.quorums.centres in
    let some : 1 ≤ a = omega arith in
    let few : a ≤ most = omega (c.if-number-centres.false, c.number.ensures.value, c.centres.ensures.value, arith) in
    let down : is_up_at w a ≡ false = sym (c.if-is_up.ensures.up w like) in
    let among : is_centre w.cluster a ≡ true = subst (λ (of : Cluster). is_centre of a ≡ true) like.records.cluster (and_from (nat_le 1 a) (nat_le a most) (le-leb 1 a some) (le-leb a most few)) in
    rw (down, among) (c.at_limit.ensures.limit w like)
