use Rattle.std.proofs.Common.{arith}
use Rattle.mdcc_config.proofs.Pairs.{not_two}
use Rattle.mdcc_config.proofs.values.pair_in.Goals as goal

pub returns-in_default : goal.returns-in_default
returns-in_default c = not_two c.args.values.now (λ two. omega (arith, two, c.in_default.len_below))

pub returns-in_default-2 : goal.returns-in_default-2
returns-in_default-2 c = not_two c.args.values.now (λ two. omega (arith, two, c.in_default.len_at_least))
