use Rattle.std.proofs.Common.{arith}
use Rattle.mdcc_world_mail.proofs.Firsts.{first_left, first_within}
use Rattle.mdcc_world_mail.specs.Waiting.{waits_for}
use Rattle.mdcc_world_mail.proofs.stored.next_place.Goals as goal

pub split_at-requires : goal.split_at-requires
split_at-requires c = omega (arith, c.requires, first_within (waits_for c.args.centre) c.args.messages.now)

pub returns : goal.returns
returns c =
    rw (c.before_first.ensures.value, c.split_at.ensures.back)
    (first_left (waits_for c.args.centre) c.args.messages.now c.args.cursor c.requires)
