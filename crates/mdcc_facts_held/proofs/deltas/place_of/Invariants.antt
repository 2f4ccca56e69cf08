use Rattle.std.proofs.Common.{◌≡◌, ◌≤◌, ◌+◌, drop}
use Rattle.mdcc_struct.specs.Places.{place_of}
use Rattle.mdcc_facts_held.proofs.deltas.place_of.Given as goal

abbrev pub invariant-loop-delta : goal.invariant-loop-delta
invariant-loop-delta l = record {
  value : l.place + place_of (drop l.delta-index l.deltas) l.tx ≡ place_of l.deltas l.tx;
  bound : l.place ≤ l.delta-index;
}
