use Rattle.std.proofs.Common.{◌≡◌, ◌≤◌, drop, length, true, vec_len, vec_capacity}
use Rattle.mdcc_frag.specs.Arrivals.{pieces_placed, are_laid}
use Rattle.mdcc_frag.proofs.partial.place.Given as goal

-- the pieces that are left, over what was written, give what all give
abbrev pub invariant-loop-arrival : goal.invariant-loop-arrival
invariant-loop-arrival l = record {
  laid : are_laid (vec_len l.bytes) (drop l.arrival-index l.arrivals) (length l.rest) ≡ true;
  same : pieces_placed (drop l.arrival-index l.arrivals) l.rest l.bytes.items ≡ pieces_placed l.arrivals l.pieces l.initial.bytes.items;
  room : vec_capacity l.initial.bytes ≤ vec_capacity l.bytes;
}
