use Rattle.std.proofs.Common.{◌≡◌, ◌≤◌, ◌+◌, drop, nat_le}
use Rattle.mdcc_base.specs.Counts.{number_of}
use Rattle.mdcc_leader.proofs.lead.number_through.Given as goal

abbrev pub invariant-loop-through : goal.invariant-loop-through
invariant-loop-through l = record {
  value : l.count + number_of (λ through. nat_le l.version through) (drop l.through-index l.throughs) ≡ number_of (λ through. nat_le l.version through) l.throughs;
  bound : l.count ≤ l.through-index;
}
