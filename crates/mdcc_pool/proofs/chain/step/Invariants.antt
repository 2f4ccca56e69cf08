use Rattle.std.proofs.Common.{◌≡◌}
use Rattle.mdcc_pool.specs.Chains.{step}
use Rattle.mdcc_pool.proofs.chain.step.Given as goal

abbrev pub invariant-loop-i : goal.invariant-loop-i
invariant-loop-i l = l.at ≡ step l.cells l._i l.first
