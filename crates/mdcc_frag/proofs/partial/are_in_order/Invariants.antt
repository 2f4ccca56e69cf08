use Rattle.std.proofs.Common.{◌≡◌, drop}
use Rattle.mdcc_frag.specs.Arrivals.{are_contiguous}
use Rattle.mdcc_frag.proofs.partial.are_in_order.Given as goal

abbrev pub invariant-loop-arrival : goal.invariant-loop-arrival
invariant-loop-arrival l = are_contiguous l.offset (drop l.arrival-index l.arrivals) ≡ are_contiguous 0 l.arrivals
