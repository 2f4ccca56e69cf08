use Rattle.mdcc_sample.proofs.Sound.{orders_are_sound}
use Rattle.mdcc_sample.proofs.laws.every_order_is.Goals as goal

pub returns : goal.returns
returns c = orders_are_sound
